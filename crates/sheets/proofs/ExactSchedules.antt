-- A schedule sheet: what it gives may stand, a reduced one is the sheet of what it gives, and the sheet of what stands gives it.
use Rattle.std.proofs.Common.{◌≡◌, ℕ, ◌+◌, ◌*◌, ◌^◌, ◌<◌, ◌≤◌, Bool, true, false, cond, eqb, ltb, leb, List, [], ◌∷◌, ◌++◌, length, take, drop, IfOk, Some, None, Ok, Err, codes, decimal, Option, Result, sym, refl, ap, ◌∙◌, subst, ⊎_elim, le-mul_of_pos_right, arith}
use Rattle.std.specs.List.{AllByRecursion}
use Rattle.std.proofs.lemmas.Fmt.{length-decimal-le}
use Rattle.std.proofs.ByRecursion.{All-append, All-push}
use Rattle.std.proofs.lemmas.List.{length-append, length_push, take_at}
use Rattle.std.proofs.lemmas.Bool.{and_parts, lt-ltb, eqb-true, ltb-true, cond-true, cond-false, cases_Bool}
use Rattle.scale_space.specs.declared.passes.Pass.{Pass}
use Rattle.scale_space.specs.declared.passes.Pass.TheVariants.{Pair, Triple}
use Rattle.scale_space.specs.Taps.{scale}
use Rattle.scale_space.specs.Passes.{weights, admitted, lowest, product, Proper}
use Rattle.scale_space.proofs.Divisors.{lowest_is, lowest_proper}
use Rattle.scale_space.proofs.Piles.{product_some}
use Rattle.samples.specs.declared.refusals.Refusal.{Refusal}
use Rattle.samples.specs.declared.refusals.Refusal.TheVariants.{OutOfRange, AllZero, NotAdmitted}
use Rattle.schedule.specs.Tests.{in_range, proper}
use Rattle.schedule.specs.Making.{made}
use Rattle.schedule.specs.Calls.{added, replaced}
use Rattle.schedule.specs.Standing.{Standing}
use Rattle.schedule.proofs.Lists.{product_of_append}
use Rattle.schedule.proofs.Meaning.{range_means, proper_test}
use Rattle.schedule.proofs.Standing.{ends_standing}
use Rattle.sheets.specs.declared.faults.SheetFault.{SheetFault}
use Rattle.sheets.specs.declared.faults.SheetFault.TheVariants.{BufferTooShort}
use Rattle.sheets.specs.declared.schedule_sheets.TapCount.{TapCount}
use Rattle.sheets.specs.declared.schedule_sheets.TapCount.TheVariants.{Two, Three}
use Rattle.sheets.specs.Numbers.{natural}
use Rattle.sheets.specs.Lines.{cut, lines_of, answer}
use Rattle.sheets.specs.ScheduleSheets.{two, three, counts, weighed, pass_of, told, joining, with_pass, schedule_of, pass_line, schedule_sheet, ReducedLine, ExactSchedule}
use Rattle.sheets.proofs.Numerals.{natural_decimal, natural_is, Free, free_decimal, cut_free, cut_last, glue, glue_cut}
use Rattle.sheets.proofs.PassLines.{replaced_is}
use Rattle.sheets.proofs.Exactness.{Reads, sheet_same, sheet_lawful, sheet_back}
use Rattle.sheets.proofs.Basics.{clash, all_front, all_back, all_last}

-- ---- from a pass to its line

abbrev Small : Pass → Type 0
Small (Pair a b) = (a ≤ 1000) × (b ≤ 1000)
Small (Triple a b c) = (a ≤ 1000) × (b ≤ 1000) × (c ≤ 1000)

small : (p : Pass) → AllByRecursion (λ w. w ≤ 1000) (weights p) → Small p
small (Pair a b) h = (h.0, h.1.0)
small (Triple a b c) h = (h.0, h.1.0, h.1.1.0)

free_body : (w : Pass) → Small w → Free 10 (pass_line 0 w)
free_body (Pair a b) s =
    let x = s.0 in
    let y = s.1 in
    (omega arith, (omega arith, All-append _ (decimal a) _ (free_decimal 10 a (omega arith) (omega arith)) (omega arith, All-append _ (decimal b) _ (free_decimal 10 b (omega arith) (omega arith)) (omega arith, tt))))
free_body (Triple a b c) s =
    let x = s.0 in
    let y = s.1 in
    let z = s.2 in
    (omega arith, (omega arith, All-append _ (decimal a) _ (free_decimal 10 a (omega arith) (omega arith)) (omega arith, All-append _ (decimal b) _ (free_decimal 10 b (omega arith) (omega arith)) (omega arith, free_decimal 10 c (omega arith) (omega arith)))))

pass_body : (w : Pass) → Small w → pass_of (cut 44 (pass_line 0 w)) ≡ Some w
pass_body (Pair a b) s =
    let x = s.0 in
    let y = s.1 in
    let e : cut 44 (decimal a ++ (44 ∷ (decimal b ++ (44 ∷ [])))) ≡ decimal a ∷ decimal b ∷ [] ∷ [] =
    cut_free 44 (decimal a) (decimal b ++ (44 ∷ [])) (free_decimal 44 a (omega arith) (omega arith)) ∙ ap (λ l. decimal a ∷ l) (cut_free 44 (decimal b) [] (free_decimal 44 b (omega arith) (omega arith))) in
    ap pass_of (cut_free 44 (50 ∷ []) (decimal a ++ (44 ∷ (decimal b ++ (44 ∷ [])))) (omega arith, tt) ∙ ap (λ l. (50 ∷ []) ∷ l) e)
    ∙ (λ i. two (natural_decimal a (omega arith) i) (natural_decimal b (omega arith) i))
pass_body (Triple a b c) s =
    let x = s.0 in
    let y = s.1 in
    let z = s.2 in
    let e : cut 44 (decimal a ++ (44 ∷ (decimal b ++ (44 ∷ decimal c)))) ≡ decimal a ∷ decimal b ∷ decimal c ∷ [] =
    cut_free 44 (decimal a) (decimal b ++ (44 ∷ decimal c)) (free_decimal 44 a (omega arith) (omega arith)) ∙ ap (λ l. decimal a ∷ l) (cut_free 44 (decimal b) (decimal c) (free_decimal 44 b (omega arith) (omega arith)) ∙ ap (λ l. decimal b ∷ l) (cut_last 44 (decimal c) (free_decimal 44 c (omega arith) (omega arith)))) in
    ap pass_of (cut_free 44 (51 ∷ []) (decimal a ++ (44 ∷ (decimal b ++ (44 ∷ decimal c)))) (omega arith, tt) ∙ ap (λ l. (51 ∷ []) ∷ l) e)
    ∙ (λ i. three (natural_decimal a (omega arith) i) (natural_decimal b (omega arith) i) (natural_decimal c (omega arith) i))

same_line : (k : ℕ) (w : Pass) → pass_line k w ≡ pass_line 0 w
same_line k (Pair a b) = refl
same_line k (Triple a b c) = refl

-- ---- what a line came to

-- a pass that was made passed each test
made_ok : (p q : Pass) → made p ≡ Ok q → (q ≡ lowest p) × AllByRecursion (λ w. w ≤ 1000) (weights p) × (0 < scale (weights p)) × (admitted p ≡ true)
made_ok p q e = go (in_range (weights p)) (ltb 0 (scale (weights p))) (admitted p) (range_means (weights p)) (ltb-true 0 (scale (weights p))) e
  where
    go : (s t u : Bool) → (s ≡ true → AllByRecursion (λ w. w ≤ 1000) (weights p)) → (t ≡ true → 0 < scale (weights p)) → cond s (cond t (cond u (Ok (lowest p)) (Err NotAdmitted)) (Err AllZero)) (Err OutOfRange) ≡ Ok q → (q ≡ lowest p) × AllByRecursion (λ w. w ≤ 1000) (weights p) × (0 < scale (weights p)) × (u ≡ true)
    go true true true h k f = let x : lowest p ≡ q = cc in (sym x, h refl, k refl, refl)
    go true true false h k f = clash cc
    go true false u h k f = clash cc
    go false t u h k f = clash cc

-- a line that was read, its pass, and what then stands
pub record Joined (ps qs : List Pass) (o : Option Pass) : Type 0 where
  pub given : Pass
  pub is : o ≡ Some given
  pub light : AllByRecursion (λ w. w ≤ 1000) (weights given)
  pub proper : Proper (lowest given)
  pub stands : qs ≡ ps ++ lowest given ∷ []
  pub short : length qs ≤ 24
  pub bounded : product qs ≤ 2 ^ 40

joined_is : (k : ℕ) (ps qs : List Pass) (o : Option Pass) → joining k ps o ≡ Ok qs → Joined ps qs o
joined_is k ps qs None e = clash cc
joined_is k ps qs (Some p) e = go (made p) refl e
  where
    told_is : (r : Result ℕ Refusal) (ws : List Pass) → told k r ws ≡ Ok qs → (n : ℕ) × (r ≡ Ok n) × (ws ≡ qs)
    told_is (Ok n) ws f = (n, refl, cc)
    told_is (Err why) ws f = clash cc

    go : (m : Result Pass Refusal) → made p ≡ m → told k (added ps m).answer (added ps m).after ≡ Ok qs → Joined ps qs (Some p)
    go (Err why) h f = clash cc
    go (Ok q) h f =
        let t = told_is (replaced ps (ps ++ q ∷ [])).answer (replaced ps (ps ++ q ∷ [])).after f in
        let r = replaced_is ps (ps ++ q ∷ []) t.0 t.1 in
        let x = made_ok p q h in
        let is : ps ++ q ∷ [] ≡ qs = sym r.3 ∙ t.2 in
        record {
          given = p;
          is = refl;
          light = x.1;
          proper = lowest_proper p x.1 x.2 x.3;
          stands = sym is ∙ ap (λ z. ps ++ z ∷ []) x.0;
          short = subst (λ z. length z ≤ 24) is r.1;
          bounded = subst (λ z. product z ≤ 2 ^ 40) is r.2;
        }

made_same : (p : Pass) → Proper p → made p ≡ Ok p
unfolding proper
made_same p h = rw ((and_parts (in_range (weights p)) _ (proper_test p h)).0, lt-ltb 0 (scale (weights p)) h.some, h.admissible) (ap Ok (lowest_is p h.reduced))

line_back : (k : ℕ) (ps : List Pass) (p : Pass) → Standing (ps ++ p ∷ []) → with_pass k ps (cut 44 (pass_line k p)) ≡ Ok (ps ++ p ∷ [])
line_back k ps p h =
    let proper = all_last Proper ps p h.each in
    let ws = ps ++ p ∷ [] in
    let s = ends_standing ps ws (length ws) ws h refl refl in
    ap (λ t. with_pass k ps (cut 44 t)) (same_line k p)
    ∙ ap (joining k ps) (pass_body p (small p proper.small))
    ∙ ap (λ m. told k (added ps m).answer (added ps m).after) (made_same p proper)
    ∙ (λ i. told k (sym s.answer i) (sym s.after i))

-- ---- from a line to its pass

-- what a count field holds
count_is : (n : List ℕ) (o : Option TapCount) → counts n ≡ o → (o ≡ Some Two → n ≡ 50 ∷ []) × (o ≡ Some Three → n ≡ 51 ∷ [])
count_is [] o e = (λ f. clash cc, λ f. clash cc)
count_is (b ∷ c ∷ bs) o e = (λ f. clash cc, λ f. clash cc)
count_is (b ∷ []) o e = ⊎_elim two' other (cases_Bool (eqb b 50))
  where
    three' : eqb b 50 ≡ false → eqb b 51 ≡ true → (o ≡ Some Two → b ∷ [] ≡ 50 ∷ []) × (o ≡ Some Three → b ∷ [] ≡ 51 ∷ [])
    three' s t =
        let g : counts (b ∷ []) ≡ Some Three = cond-false _ _ _ s ∙ cond-true _ _ _ t in
        (λ f. clash cc, λ f. ap (λ x. x ∷ []) (eqb-true b 51 t))

    none' : eqb b 50 ≡ false → eqb b 51 ≡ false → (o ≡ Some Two → b ∷ [] ≡ 50 ∷ []) × (o ≡ Some Three → b ∷ [] ≡ 51 ∷ [])
    none' s t =
        let g : counts (b ∷ []) ≡ None = cond-false _ _ _ s ∙ cond-false _ _ _ t in
        (λ f. clash cc, λ f. clash cc)

    two' : eqb b 50 ≡ true → (o ≡ Some Two → b ∷ [] ≡ 50 ∷ []) × (o ≡ Some Three → b ∷ [] ≡ 51 ∷ [])
    two' t =
        let g : counts (b ∷ []) ≡ Some Two = cond-true _ _ _ t in
        (λ f. ap (λ x. x ∷ []) (eqb-true b 50 t), λ f. clash cc)

    other : eqb b 50 ≡ false → (o ≡ Some Two → b ∷ [] ≡ 50 ∷ []) × (o ≡ Some Three → b ∷ [] ≡ 51 ∷ [])
    other s = ⊎_elim (three' s) (none' s) (cases_Bool (eqb b 51))

two_is : (o p : Option ℕ) (w : Pass) → two o p ≡ Some w → (a : ℕ) × (b : ℕ) × (o ≡ Some a) × (p ≡ Some b) × (Pair a b ≡ w)
two_is None p w e = clash cc
two_is (Some a) None w e = clash cc
two_is (Some a) (Some b) w e = (a, b, refl, refl, cc)

three_is : (o p q : Option ℕ) (w : Pass) → three o p q ≡ Some w → (a : ℕ) × (b : ℕ) × (c : ℕ) × (o ≡ Some a) × (p ≡ Some b) × (q ≡ Some c) × (Triple a b c ≡ w)
three_is None p q w e = clash cc
three_is (Some a) None q w e = clash cc
three_is (Some a) (Some b) None w e = clash cc
three_is (Some a) (Some b) (Some c) w e = (a, b, c, refl, refl, refl, cc)

weighed_is : (n a b c : List ℕ) (o : Option TapCount) (w : Pass) → counts n ≡ o → Small w → weighed o a b c ≡ Some w → n ++ (44 ∷ (a ++ (44 ∷ (b ++ (44 ∷ c))))) ≡ pass_line 0 w
weighed_is n a b c None w e l h = clash cc
weighed_is n a b (x ∷ c) (Some Two) w e l h = clash cc
weighed_is n a b [] (Some Two) w e l h =
    let p = two_is (natural a) (natural b) w h in
    let s = subst Small (sym p.4) l in
    let u = s.0 in
    let v = s.1 in
    (λ i. (count_is n (Some Two) e).0 refl i ++ (44 ∷ (natural_is a p.0 (omega arith) p.2 i ++ (44 ∷ (natural_is b p.1 (omega arith) p.3 i ++ (44 ∷ []))))))
    ∙ ap (pass_line 0) p.4
weighed_is n a b c (Some Three) w e l h =
    let p = three_is (natural a) (natural b) (natural c) w h in
    let s = subst Small (sym p.6) l in
    let u = s.0 in
    let v = s.1 in
    let t = s.2 in
    (λ i. (count_is n (Some Three) e).1 refl i ++ (44 ∷ (natural_is a p.0 (omega arith) p.3 i ++ (44 ∷ (natural_is b p.1 (omega arith) p.4 i ++ (44 ∷ natural_is c p.2 (omega arith) p.5 i))))))
    ∙ ap (pass_line 0) p.6

pass_is : (l : List ℕ) (fs : List (List ℕ)) (w : Pass) → glue 44 fs ≡ l → Small w → pass_of fs ≡ Some w → l ≡ pass_line 0 w
pass_is l [] w g h e = clash cc
pass_is l (n ∷ []) w g h e = clash cc
pass_is l (n ∷ a ∷ []) w g h e = clash cc
pass_is l (n ∷ a ∷ b ∷ []) w g h e = clash cc
pass_is l (n ∷ a ∷ b ∷ c ∷ []) w g h e = sym g ∙ weighed_is n a b c (counts n) w refl h e
pass_is l (n ∷ a ∷ b ∷ c ∷ x ∷ xs) w g h e = clash cc

standing_front : (ps qs : List Pass) → Standing (ps ++ qs) → Standing ps
standing_front ps qs h =
    let back = all_back Proper ps qs h.each in
    let m = le-mul_of_pos_right (product ps) (product_some qs back) in
    record {
      short = omega (arith, length-append ps qs, h.short);
      each = all_front Proper ps qs h.each;
      bounded = omega (arith, m, product_of_append ps qs refl refl, h.bounded);
    }

lines : Reads with_pass pass_line ReducedLine Standing
lines = record {
  to = λ k ps l qs e plain.
      let j = joined_is k ps qs (pass_of (cut 44 l)) e in
      let p = j.given in (
        p,
        pass_is l (cut 44 l) p (glue_cut 44 l) (small p j.light) j.is ∙ sym (same_line k p),
        j.stands ∙ ap (λ q. ps ++ q ∷ []) (lowest_is p (plain p j.is)),
      );
  keeps = λ k ps fs qs n h e.
      let j = joined_is k ps qs (pass_of fs) e in
      let q = lowest j.given in (
        record { short = j.short; each = subst (AllByRecursion Proper) (sym j.stands) (All-push Proper ps q h.each j.proper); bounded = j.bounded },
        omega (arith, length_push ps q, ap length j.stands),
      );
  from = λ k ps p n h. line_back k ps p h;
  ended = λ k ps p n h. subst (Free 10) (sym (same_line k p)) (free_body p (small p (all_last Proper ps p h.each).small));
  front = standing_front;
}

line_short : (w : Pass) → Small w → length (pass_line 0 w) ≤ 35
line_short (Pair a b) s =
    let x = s.0 in
    let y = s.1 in
    let p = length-decimal-le 4 a (omega arith) (omega arith) (omega arith) in
    let q = length-decimal-le 4 b (omega arith) (omega arith) (omega arith) in
    simp length-append (omega arith)
line_short (Triple a b c) s =
    let x = s.0 in
    let y = s.1 in
    let z = s.2 in
    let p = length-decimal-le 4 a (omega arith) (omega arith) (omega arith) in
    let q = length-decimal-le 4 b (omega arith) (omega arith) (omega arith) in
    let r = length-decimal-le 4 c (omega arith) (omega arith) (omega arith) in
    simp length-append (omega arith)

lines_short : (ps : List Pass) (k : ℕ) → AllByRecursion Proper ps → length (lines_of pass_line k ps) ≤ 36 * length ps
lines_short [] k h = omega arith
lines_short (p ∷ ps) k h = omega (arith, length-append (pass_line k p) (10 ∷ lines_of pass_line (k + 1) ps), ap length (same_line k p), line_short p (small p h.0.small), lines_short ps (k + 1) h.1)

pub exact_schedule : ExactSchedule
exact_schedule = record {
  stands = λ bytes ps e. sheet_lawful lines (codes "taps,a,b,c") bytes ps (record { short = omega arith; each = tt; bounded = omega arith }) e;
  same = λ bytes ps e plain. sheet_same lines (codes "taps,a,b,c") bytes ps e plain;
  back = λ ps h. sheet_back lines (codes "taps,a,b,c") [] ps (omega arith) (omega (arith, lines_short ps 0 h.each, h.short)) h;
}

-- what was put in front of `out` is read back
pub read_back : (ps : List Pass) (out exit : List ℕ) (r : Result ℕ SheetFault) → Standing ps → r ≡ (answer (Ok (schedule_sheet ps)) out).0 → exit ≡ (answer (Ok (schedule_sheet ps)) out).1 → IfOk r (λ n. schedule_of (take n exit) ≡ Ok ps)
read_back ps out exit r h e f = ⊎_elim fits short (cases_Bool (leb (length (schedule_sheet ps)) (length out)))
  where
    fits : leb (length (schedule_sheet ps)) (length out) ≡ true → IfOk r (λ n. schedule_of (take n exit) ≡ Ok ps)
    fits t =
        let a : answer (Ok (schedule_sheet ps)) out ≡ (Ok (length (schedule_sheet ps)), schedule_sheet ps ++ drop (length (schedule_sheet ps)) out) = cond-true _ _ _ t in
        let is : exit ≡ schedule_sheet ps ++ drop (length (schedule_sheet ps)) out = f ∙ ap (λ x. x.1) a in
        let put : take (length (schedule_sheet ps)) exit ≡ schedule_sheet ps = ap (take (length (schedule_sheet ps))) is ∙ take_at (schedule_sheet ps) (drop (length (schedule_sheet ps)) out) (length (schedule_sheet ps)) refl in
        subst (λ x. IfOk x (λ n. schedule_of (take n exit) ≡ Ok ps)) (sym (e ∙ ap (λ x. x.0) a)) (ap schedule_of put ∙ exact_schedule.back ps h)

    short : leb (length (schedule_sheet ps)) (length out) ≡ false → IfOk r (λ n. schedule_of (take n exit) ≡ Ok ps)
    short t =
        let a : answer (Ok (schedule_sheet ps)) out ≡ (Err BufferTooShort, out) = cond-false _ _ _ t in
        subst (λ x. IfOk x (λ n. schedule_of (take n exit) ≡ Ok ps)) (sym (e ∙ ap (λ x. x.0) a)) tt
