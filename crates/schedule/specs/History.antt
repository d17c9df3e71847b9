-- What stands after a history of calls, and the laws of such runs.
use Rattle.std.specs.Prelude.{◌≡◌, ℕ, List, [], ◌∷◌, ◌++◌, length, Err, fold, Result, MatchResult}
use Rattle.scale_space.specs.declared.passes.Pass.{Pass}
use Rattle.scale_space.specs.declared.passes.Pass.TheVariants.{Pair, Triple}
use Rattle.samples.specs.declared.refusals.Refusal.{Refusal}
use Rattle.schedule.specs.declared.history.Call.{Call}
use Rattle.schedule.specs.declared.history.Call.TheVariants.{AddPair, AddTriple, AddStep, Withdraw, Join}
use Rattle.schedule.specs.Standing.{Standing}
use Rattle.schedule.specs.Making.{made, step_made}
use Rattle.schedule.specs.Calls.{Outcome, passes, added, withdrawn, joined_by}

-- what one call comes to
abbrev pub outcome : List Pass → Call → Outcome
outcome ps (AddPair a b) = added ps (made (Pair a b))
outcome ps (AddTriple a b c) = added ps (made (Triple a b c))
outcome ps (AddStep p q) = added ps (step_made p q)
outcome ps (Withdraw place) = withdrawn ps place
outcome ps (Join second) = joined_by ps (passes second)

-- each call meets what the ones before it left
abbrev pub run : List Pass → List Call → List Pass
run ps calls = fold (λ ps call. (outcome ps call).after) ps calls

-- at first nothing stands
abbrev pub replayed : List Call → List Pass
replayed calls = run [] calls

-- an accepted call answers how many passes then stand, and a refused one changes nothing
abbrev pub Told : List Pass → Result ℕ Refusal → List Pass → Type 0
Told before r after = MatchResult r (λ n. n ≡ length after) (λ _. after ≡ before)

-- the laws of a history, whatever its calls and whatever comes later
pub record Lawful (calls : List Call) : Type 0 where
  pub standing : Standing (replayed calls)
  -- a run goes on from what stands
  pub goes_on : (later : List Call) → replayed (calls ++ later) ≡ run (replayed calls) later
  pub next_is_told : (call : Call) → Told (replayed calls) (outcome (replayed calls) call).answer (replayed (calls ++ call ∷ []))
  -- a refused call may be left out
  pub no_trace : (call : Call) (why : Refusal) (later : List Call) → (outcome (replayed calls) call).answer ≡ Err why → replayed (calls ++ call ∷ later) ≡ replayed (calls ++ later)
