-- What each call on a schedule leaves standing, and what it answers.
use Rattle.std.specs.Prelude.{◌≡◌, ℕ, ◌^◌, cond, List, [], ◌∷◌, ◌++◌, length, Ok, Err, Result, nat_le, nat_lt}
use Rattle.std.specs.List.{remove}
use Rattle.fixed_list.specs.Listed.{listed}
use Rattle.scale_space.specs.declared.passes.Pass.{Pass}
use Rattle.scale_space.specs.Passes.{product}
use Rattle.samples.specs.declared.refusals.Refusal.{Refusal}
use Rattle.samples.specs.declared.refusals.Refusal.TheVariants.{NoSuchPlace, TooManyPasses, ScaleTooLarge}
use Rattle.schedule.specs.declared.schedules.Schedule.{Schedule}

-- the passes that stand in a schedule
abbrev pub passes : Schedule → List Pass
passes s = listed s.list

pub record Outcome : Type 0 where
  pub answer : Result ℕ Refusal
  pub after : List Pass

-- a refusal changes nothing
abbrev pub refused : Refusal → List Pass → Outcome
refused why ps = record { answer = Err why; after = ps }

-- what stands after, and how many passes that is
abbrev pub stands : List Pass → Outcome
stands ps = record { answer = Ok (length ps); after = ps }

-- `wanted` is to stand in place of `ps`: not if it has more than 24 passes, and then not if its scale passes 2^40
abbrev pub replaced : List Pass → List Pass → Outcome
replaced ps wanted =
    cond (nat_le (length wanted) 24)
    (cond (nat_le (product wanted) (2 ^ 40)) (stands wanted) (refused ScaleTooLarge ps))
    (refused TooManyPasses ps)

-- a pass as it was made, put at the end
abbrev pub added : List Pass → Result Pass Refusal → Outcome
added ps (Ok p) = replaced ps (ps ++ p ∷ [])
added ps (Err why) = refused why ps

abbrev pub joined_by : List Pass → List Pass → Outcome
joined_by ps qs = replaced ps (ps ++ qs)

abbrev pub withdrawn : List Pass → ℕ → Outcome
withdrawn ps place = cond (nat_lt place (length ps)) (stands (remove ps place)) (refused NoSuchPlace ps)

-- a call answered r and left ps standing, as the outcome says
pub record Ends (o : Outcome) (r : Result ℕ Refusal) (ps : List Pass) : Type 0 where
  pub answer : r ≡ o.answer
  pub after : ps ≡ o.after
