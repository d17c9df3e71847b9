-- Runs of calls.
use Rattle.std.proofs.Common.{◌≡◌, ℕ, ◌+◌, ◌^◌, ◌<◌, ◌≤◌, cond, ◌&&◌, ltb, leb, List, [], ◌∷◌, ◌++◌, length, get_or, take, IfOk, Ok, Err, Result, sym, refl, ap, ◌∙◌, arith}
use Rattle.std.specs.List.{remove, AllByRecursion}
use Rattle.std.proofs.ByRecursion.{All-append}
use Rattle.std.proofs.lemmas.List.{take_all}
use Rattle.std.proofs.lemmas.List.Sums.{fold_more}
use Rattle.std.proofs.lemmas.Bool.{cond_both, leb-true, ltb-true}
use Rattle.scale_space.specs.declared.passes.Pass.{Pass}
use Rattle.scale_space.specs.declared.passes.Pass.TheVariants.{Pair, Triple}
use Rattle.scale_space.specs.Taps.{scale}
use Rattle.scale_space.specs.Passes.{weights, admitted, lowest, product, Proper}
use Rattle.scale_space.proofs.Divisors.{lowest_proper}
use Rattle.samples.specs.declared.refusals.Refusal.{Refusal}
use Rattle.samples.specs.declared.refusals.Refusal.TheVariants.{OutOfRange, AllZero, NotAdmitted, NoSuchPlace, TooManyPasses, ScaleTooLarge}
use Rattle.schedule.specs.declared.history.Call.{Call}
use Rattle.schedule.specs.declared.history.Call.TheVariants.{AddPair, AddTriple, AddStep, Withdraw, Join}
use Rattle.schedule.specs.Tests.{in_range}
use Rattle.schedule.specs.Standing.{Standing}
use Rattle.schedule.specs.Making.{made, step_pass, step_made}
use Rattle.schedule.specs.Calls.{Outcome, passes, Ends, refused, stands, replaced, added}
use Rattle.schedule.specs.History.{outcome, run, replayed, Told, Lawful}
use Rattle.schedule.proofs.Meaning.{range_means}
use Rattle.schedule.proofs.Standing.{standing, standing_removed}

-- ---- the loop over a history
pub replayed_more : (calls : List Call) (i : ℕ) (call : Call) (ps qs : List Pass) → i < length calls → call ≡ get_or calls i call → ps ≡ replayed (take i calls) → qs ≡ (outcome ps call).after → qs ≡ replayed (take (i + 1) calls)
replayed_more calls i call ps qs l is e f =
    f ∙ ap (λ t. (outcome t call).after) e ∙ ap (λ k. (outcome (replayed (take i calls)) k).after) is ∙ sym (fold_more (λ ps call. (outcome ps call).after) [] calls i call l)

pub replayed_all : (calls : List Call) (i : ℕ) (ps : List Pass) → length calls ≤ i → ps ≡ replayed (take i calls) → ps ≡ replayed calls
replayed_all calls i ps l e = e ∙ ap replayed (take_all i calls l)

-- ---- one call
-- what an outcome does to the passes before it
abbrev Fair : List Pass → Outcome → Type 0
Fair ps o = Told ps o.answer o.after

fair_replaced : (ps ws : List Pass) → Fair ps (replaced ps ws)
fair_replaced ps ws =
    cond_both (leb (length ws) 24) (cond (leb (product ws) (2 ^ 40)) (stands ws) (refused ScaleTooLarge ps)) (refused TooManyPasses ps) (Fair ps)
    (λ _. cond_both (leb (product ws) (2 ^ 40)) (stands ws) (refused ScaleTooLarge ps) (Fair ps) (λ _. refl) (λ _. refl))
    (λ _. refl)

fair_added : (ps : List Pass) (r : Result Pass Refusal) → Fair ps (added ps r)
fair_added ps (Ok p) = fair_replaced ps (ps ++ p ∷ [])
fair_added ps (Err why) = refl

fair : (ps : List Pass) (call : Call) → Fair ps (outcome ps call)
fair ps (AddPair a b) = fair_added ps (made (Pair a b))
fair ps (AddTriple a b c) = fair_added ps (made (Triple a b c))
fair ps (AddStep p q) = fair_added ps (step_made p q)
fair ps (Withdraw place) = cond_both (ltb place (length ps)) (stands (remove ps place)) (refused NoSuchPlace ps) (Fair ps) (λ _. refl) (λ _. refl)
fair ps (Join second) = fair_replaced ps (ps ++ passes second)

pub told : (ps : List Pass) (call : Call) (r : Result ℕ Refusal) (qs : List Pass) → Ends (outcome ps call) r qs → Told ps r qs
told ps call r qs e = rw (e.answer, e.after) (fair ps call)

-- ---- what stands after one call
standing_replaced : (ps ws : List Pass) → Standing ps → AllByRecursion Proper ws → Standing (replaced ps ws).after
standing_replaced ps ws s h =
    cond_both (leb (length ws) 24) (cond (leb (product ws) (2 ^ 40)) (stands ws) (refused ScaleTooLarge ps)) (refused TooManyPasses ps) (λ o. Standing o.after)
    (λ l. cond_both (leb (product ws) (2 ^ 40)) (stands ws) (refused ScaleTooLarge ps) (λ o. Standing o.after)
    (λ m. record { short = leb-true (length ws) 24 l; each = h; bounded = leb-true (product ws) (2 ^ 40) m })
    (λ _. s))
    (λ _. s)

-- what was made is proper
abbrev Sound : Result Pass Refusal → Type 0
Sound r = IfOk r Proper

made_sound : (p : Pass) → Sound (made p)
made_sound p =
    let last = cond (admitted p) (Ok (lowest p)) (Err NotAdmitted) in
    let next = cond (ltb 0 (scale (weights p))) last (Err AllZero) in
    cond_both (in_range (weights p)) next (Err OutOfRange) Sound
    (λ range. cond_both (ltb 0 (scale (weights p))) last (Err AllZero) Sound
    (λ some. cond_both (admitted p) (Ok (lowest p)) (Err NotAdmitted) Sound
    (λ adm. lowest_proper p (range_means (weights p) range) (ltb-true 0 (scale (weights p)) some) adm)
    (λ _. tt))
    (λ _. tt))
    (λ _. tt)

step_sound : (p q : ℕ) → Sound (step_made p q)
step_sound p q = cond_both (leb 1 q && (leb q 500 && leb p q)) (made (step_pass p q)) (Err OutOfRange) Sound (λ _. made_sound (step_pass p q)) (λ _. tt)

standing_added : (ps : List Pass) (r : Result Pass Refusal) → Standing ps → Sound r → Standing (added ps r).after
standing_added ps (Ok p) s h = standing_replaced ps (ps ++ p ∷ []) s (All-append Proper ps (p ∷ []) s.each (h, tt))
standing_added ps (Err why) s h = s

standing_after : (ps : List Pass) (call : Call) → Standing ps → Standing (outcome ps call).after
standing_after ps (AddPair a b) s = standing_added ps (made (Pair a b)) s (made_sound (Pair a b))
standing_after ps (AddTriple a b c) s = standing_added ps (made (Triple a b c)) s (made_sound (Triple a b c))
standing_after ps (AddStep p q) s = standing_added ps (step_made p q) s (step_sound p q)
standing_after ps (Withdraw place) s =
    cond_both (ltb place (length ps)) (stands (remove ps place)) (refused NoSuchPlace ps) (λ o. Standing o.after)
    (λ l. standing_removed ps place (ltb-true place (length ps) l) s)
    (λ _. s)
standing_after ps (Join second) s = standing_replaced ps (ps ++ passes second) s (All-append Proper ps (passes second) s.each (standing second).each)

-- ---- runs
run_append : (ps : List Pass) (xs ys : List Call) → run ps (xs ++ ys) ≡ run (run ps xs) ys
run_append ps [] ys = refl
run_append ps (x ∷ xs) ys = run_append (outcome ps x).after xs ys

standing_run : (ps : List Pass) (calls : List Call) → Standing ps → Standing (run ps calls)
standing_run ps [] s = s
standing_run ps (call ∷ calls) s = standing_run (outcome ps call).after calls (standing_after ps call s)

pub lawful : (calls : List Call) → Lawful calls
lawful calls =
    let ps = replayed calls in
    record {
      standing = standing_run [] calls (record { short = omega arith; each = tt; bounded = omega arith });
      goes_on = λ later. run_append [] calls later;
      next_is_told = λ call. told ps call (outcome ps call).answer (replayed (calls ++ call ∷ [])) (record { answer = refl; after = run_append [] calls (call ∷ []) });
      no_trace = λ call why later e.
          run_append [] calls (call ∷ later) ∙ ap (λ qs. run qs later) (unchanged call why e) ∙ sym (run_append [] calls later);
    }
  where
    unchanged : (call : Call) (why : Refusal) → (outcome (replayed calls) call).answer ≡ Err why → (outcome (replayed calls) call).after ≡ replayed calls
    unchanged call why e = rw e at (fair (replayed calls) call)
