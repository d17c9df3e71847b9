-- A profile sheet gives heights just where it is their sheet.
use Rattle.std.proofs.Common.{◌≡◌, ℕ, zero, suc, ◌+◌, ◌*◌, ◌^◌, ◌<◌, ◌≤◌, true, false, eqb, ltb, List, [], ◌∷◌, ◌++◌, length, ℤ, pos, negsuc, Some, None, Ok, Err, codes, decimal, Option, Result, sym, refl, ap, ◌∙◌, subst, ⊎_elim, arith}
use Rattle.std.specs.Option.{option_map}
use Rattle.std.specs.Fmt.{signed_decimal}
use Rattle.std.specs.List.{AllByRecursion}
use Rattle.std.proofs.lemmas.Fmt.{decimal_nonempty, digits_decimal, length-decimal-le}
use Rattle.std.proofs.ByRecursion.{All-append, All-push}
use Rattle.std.proofs.lemmas.List.{length-append, length_push}
use Rattle.std.proofs.lemmas.Bool.{and_parts, and_from, eqb-true, eq-eqb, ne_eqb, ltb-true, leb-true, lt-ltb, cond-true, cond-false, cases_Bool}
use Rattle.std.proofs.lemmas.Bool.Decides.{nat_tests}
use Rattle.sheets.specs.declared.faults.SheetFault.{SheetFault}
use Rattle.sheets.specs.declared.faults.SheetFault.TheVariants.{Refused}
use Rattle.sheets.specs.Numbers.{digit, digits, natural, negative, integer}
use Rattle.sheets.specs.Lines.{cut, lines_of}
use Rattle.sheets.specs.Profiles.{both, station_height, accepted, judged, height_at, pushed, with_height, height_line, Fair, ExactProfile}
use Rattle.samples.specs.Answers.{height_lawful}
use Rattle.sheets.proofs.Numerals.{own, natural_decimal, natural_is, Free, free_decimal, cut_free, cut_last, glue, glue_cut}
use Rattle.sheets.proofs.Exactness.{Reads, sheet_same, sheet_lawful, sheet_back}
use Rattle.sheets.proofs.Basics.{clash, all_front, all_last}

-- ---- from a line to its height

integer_is : (s : List ℕ) (h : ℤ) → height_lawful h ≡ true → integer s ≡ Some h → s ≡ signed_decimal h
integer_is [] h r e = clash cc
integer_is (b ∷ bs) h r e = ⊎_elim (λ t. minus h r t e) (λ t. plain h r t e) (cases_Bool (eqb b 45))
  where
    low : (o : Option ℕ) (n : ℕ) → negative o ≡ Some (negsuc n) → o ≡ Some (suc n)
    low None n e = clash cc
    low (Some zero) n e = clash cc
    low (Some (suc m)) n e = let x : m ≡ n = cc in ap (λ k. Some (suc k)) x

    no_low : (o : Option ℕ) (n : ℕ) → negative o ≡ Some (pos n) → ⊥
    no_low None n e = clash cc
    no_low (Some zero) n e = clash cc
    no_low (Some (suc m)) n e = clash cc

    high : (o : Option ℕ) (n : ℕ) → option_map pos o ≡ Some (pos n) → o ≡ Some n
    high None n e = clash cc
    high (Some m) n e = let x : m ≡ n = cc in ap Some x

    no_high : (o : Option ℕ) (n : ℕ) → option_map pos o ≡ Some (negsuc n) → ⊥
    no_high None n e = clash cc
    no_high (Some m) n e = clash cc

    minus : (h : ℤ) → height_lawful h ≡ true → eqb b 45 ≡ true → integer (b ∷ bs) ≡ Some h → b ∷ bs ≡ signed_decimal h
    minus (pos n) r t e = absurd (no_low (natural bs) n (sym (cond-true _ _ _ t) ∙ e))
    minus (negsuc n) r t e =
        let few : n ≤ 99999 = grind (arith, nat_tests) in
        (λ i. eqb-true b 45 t i ∷ natural_is bs (suc n) (omega arith) (low (natural bs) n (sym (cond-true _ _ _ t) ∙ e)) i)

    plain : (h : ℤ) → height_lawful h ≡ true → eqb b 45 ≡ false → integer (b ∷ bs) ≡ Some h → b ∷ bs ≡ signed_decimal h
    plain (pos n) r t e =
        let few : n ≤ 100000 = grind (arith, nat_tests) in
        natural_is (b ∷ bs) n (omega arith) (high (natural (b ∷ bs)) n (sym (cond-false _ _ _ t) ∙ e))
    plain (negsuc n) r t e = absurd (no_high (natural (b ∷ bs)) n (sym (cond-false _ _ _ t) ∙ e))

pair_is : (l : List ℕ) (fs : List (List ℕ)) (k : ℕ) (h : ℤ) → glue 44 fs ≡ l → k < 2 ^ 64 → height_lawful h ≡ true → station_height fs ≡ Some (k, h) → l ≡ decimal k ++ (44 ∷ signed_decimal h)
pair_is l [] k h g small r e = clash cc
pair_is l (s ∷ []) k h g small r e = clash cc
pair_is l (s ∷ t ∷ x ∷ xs) k h g small r e = clash cc
pair_is l (s ∷ t ∷ []) k h g small r e =
    let p = go (natural s) (integer t) e in
    sym g ∙ (λ i. natural_is s k small p.0 i ++ (44 ∷ integer_is t h r p.1 i))
  where
    go : (o : Option ℕ) (p : Option ℤ) → both o p ≡ Some (k, h) → (o ≡ Some k) × (p ≡ Some h)
    go None p e = clash cc
    go (Some a) None e = clash cc
    go (Some a) (Some b) e =
        let q : ◌≡◌ {A = ℕ × ℤ} (a, b) (k, h) = cc in
        (ap (λ z. Some z.0) q, ap (λ z. Some z.1) q)

judged_is : (k : ℕ) (o : Option (ℕ × ℤ)) (h : ℤ) → judged k o ≡ Ok h → (o ≡ Some (k, h)) × (height_lawful h ≡ true) × (k < 2048)
judged_is k None h e = clash cc
judged_is k (Some p) h e = ⊎_elim yes' no' (cases_Bool (accepted k p))
  where
    yes' : accepted k p ≡ true → (Some p ≡ Some (k, h)) × (height_lawful h ≡ true) × (k < 2048)
    yes' t =
        let f : ◌≡◌ {A = Result ℤ SheetFault} (Ok p.1) (Ok h) = sym (cond-true _ _ _ t) ∙ e in
        let x : p.1 ≡ h = cc in
        let a = and_parts (ltb k 2048) _ t in
        let b = and_parts (eqb p.0 k) _ a.1 in
        ((λ i. Some (eqb-true p.0 k b.0 i, x i)), ap height_lawful (sym x) ∙ b.1, ltb-true k 2048 a.0)

    no' : accepted k p ≡ false → (Some p ≡ Some (k, h)) × (height_lawful h ≡ true) × (k < 2048)
    no' t = let f : ◌≡◌ {A = Result ℤ SheetFault} (Err (Refused (k + 2))) (Ok h) = sym (cond-false _ _ _ t) ∙ e in clash cc

-- ---- from a height to its line

integer_plain : (ds : List ℕ) → digits ds ≡ true → 0 < length ds → integer ds ≡ option_map pos (natural ds)
integer_plain [] d s = absurd (omega arith)
integer_plain (b ∷ bs) d s =
    let low = leb-true 48 b (and_parts _ _ (and_parts (digit b) _ d).0).0 in
    cond-false _ _ _ (ne_eqb b 45 (λ e. omega arith))

-- what the writing of a height is
pub record Height (h : ℤ) : Type 0 where
  ended : Free 10 (signed_decimal h)
  single : Free 44 (signed_decimal h)
  reads : integer (signed_decimal h) ≡ Some h
  short : length (signed_decimal h) ≤ 7

height_is : (h : ℤ) → height_lawful h ≡ true → Height h
height_is (pos n) r =
    let few : n ≤ 100000 = grind (arith, nat_tests) in
    record {
      ended = free_decimal 10 n (omega arith) (omega arith);
      single = free_decimal 44 n (omega arith) (omega arith);
      reads = integer_plain (decimal n) (digits_decimal own n (omega arith)) (decimal_nonempty n (omega arith)) ∙ ap (option_map pos) (natural_decimal n (omega arith));
      short = omega (arith, length-decimal-le 6 n (omega arith) (omega arith) (omega arith));
    }
height_is (negsuc n) r =
    let few : n ≤ 99999 = grind (arith, nat_tests) in
    record {
      ended = (omega arith, free_decimal 10 (suc n) (omega arith) (omega arith));
      single = (omega arith, free_decimal 44 (suc n) (omega arith) (omega arith));
      reads = ap negative (natural_decimal (suc n) (omega arith));
      short = omega (arith, length-decimal-le 6 (suc n) (omega arith) (omega arith) (omega arith));
    }

height_back : (k : ℕ) (h : ℤ) → k < 2048 → height_lawful h ≡ true → height_at k (cut 44 (height_line k h)) ≡ Ok h
height_back k h l r =
    let w = height_is h r in
    let fields : cut 44 (height_line k h) ≡ decimal k ∷ signed_decimal h ∷ [] = cut_free 44 (decimal k) (signed_decimal h) (free_decimal 44 k (omega arith) (omega arith)) ∙ ap (λ q. decimal k ∷ q) (cut_last 44 (signed_decimal h) w.single) in
    let p : station_height (cut 44 (height_line k h)) ≡ Some (k, h) = ap station_height fields ∙ (λ i. both (natural_decimal k (omega arith) i) (w.reads i)) in
    ap (judged k) p ∙ cond-true (accepted k (k, h)) _ _ (and_from _ _ (lt-ltb k 2048 l) (and_from _ _ (eq-eqb k k refl) r))

pushed_is : (hs : List ℤ) (r : Result ℤ SheetFault) (ys : List ℤ) → pushed hs r ≡ Ok ys → (h : ℤ) × (r ≡ Ok h) × (ys ≡ hs ++ h ∷ [])
pushed_is hs (Err e) ys f = clash cc
pushed_is hs (Ok h) ys f = let x : hs ++ h ∷ [] ≡ ys = cc in (h, refl, sym x)

-- the parts of a fair list are fair
fair_front : (hs gs : List ℤ) → Fair (hs ++ gs) → Fair hs
fair_front hs gs f = record { short = omega (arith, length-append hs gs, f.short); each = all_front (λ h. height_lawful h ≡ true) hs gs f.each }

fair_last : (hs : List ℤ) (h : ℤ) → Fair (hs ++ h ∷ []) → (length hs < 2048) × (height_lawful h ≡ true)
fair_last hs h f = (omega (arith, length_push hs h, f.short), all_last (λ h. height_lawful h ≡ true) hs h f.each)

heights : Reads with_height height_line (λ _. Unit {0}) Fair
heights = record {
  to = λ k hs l ys e p.
      let g = pushed_is hs (height_at k (cut 44 l)) ys e in
      let j = judged_is k (station_height (cut 44 l)) g.0 g.1 in
      let below = j.2 in
      (g.0, pair_is l (cut 44 l) k g.0 (glue_cut 44 l) (omega arith) j.1 j.0, g.2);
  keeps = λ k hs fs ys n f e.
      let g = pushed_is hs (height_at k fs) ys e in
      let j = judged_is k (station_height fs) g.0 g.1 in
      let long = length_push hs g.0 in (
        subst Fair (sym g.2) (record { short = omega (arith, j.2); each = All-push (λ h. height_lawful h ≡ true) hs g.0 f.each j.1 }),
        omega (arith, ap length g.2),
      );
  from = λ k hs h n f.
      let t = fair_last hs h f in
      ap (pushed hs) (height_back k h (omega (arith, t.0)) t.1);
  ended = λ k hs h n f.
      let t = fair_last hs h f in
      let below = t.0 in
      All-append _ (decimal k) (44 ∷ signed_decimal h) (free_decimal 10 k (omega arith) (omega arith)) (omega arith, (height_is h t.1).ended);
  front = fair_front;
}

lines_short : (hs : List ℤ) (k : ℕ) → k + length hs ≤ 2048 → AllByRecursion (λ h. height_lawful h ≡ true) hs → length (lines_of height_line k hs) ≤ 13 * length hs
lines_short [] k l a = omega arith
lines_short (h ∷ hs) k l a =
    let s = (height_is h a.0).short in
    let d = length-decimal-le 4 k (omega arith) (omega arith) (omega arith) in
    let r = lines_short hs (k + 1) (omega arith) a.1 in
    simp length-append (omega arith)

plain : (ls : List (List ℕ)) → AllByRecursion (λ _. Unit {0}) ls
plain [] = tt
plain (l ∷ ls) = (tt, plain ls)

pub exact_profile : ExactProfile
exact_profile = record {
  same = λ bytes hs e. sheet_same heights (codes "station,height") bytes hs e (plain (cut 10 bytes));
  fair = λ bytes hs e. sheet_lawful heights (codes "station,height") bytes hs (record { short = omega arith; each = tt }) e;
  back = λ hs f. sheet_back heights (codes "station,height") [] hs (omega arith) (omega (arith, lines_short hs 0 (omega (arith, f.short)) f.each, f.short)) f;
}
