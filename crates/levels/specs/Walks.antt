-- Walks: the level that a walk has come to, and what setting out and a step do.
use Rattle.std.specs.Prelude.{◌≡◌, ℕ, ◌+◌, Bool, cond, List, length, take, ℤ, Ok, Err, Result, MatchResult, nat_lt, slice_index_or}
use Rattle.scale_space.specs.declared.passes.Pass.{Pass}
use Rattle.scale_space.specs.declared.passes.Pass.TheVariants.{Pair}
use Rattle.scale_space.specs.Levels.{Level, weighed}
use Rattle.scale_space.specs.Passes.{weights, level}
use Rattle.samples.specs.declared.refusals.Refusal.{Refusal}
use Rattle.schedule.specs.Calls.{passes}
use Rattle.levels.specs.declared.walks.Walk.{Walk}
use Rattle.levels.specs.Drawing.{allowed}

-- the level that it holds
abbrev pub come_to : Walk → Level
come_to w = record { numerators = take w.drawn.length w.samples; scale = w.drawn.scale }

-- on its way up the passes ps to level `last`, it has come to level k of the profile hs, and holds what draw gives there
pub record At (w : Walk) (ps : List Pass) (last k : ℕ) (hs : List ℤ) : Type 0 where
  pub by : passes w.schedule ≡ ps
  pub to : w.last ≡ last
  pub so_far : w.level ≡ k
  pub holds : come_to w ≡ level (take k ps) hs

-- it sets out at level 0 where draw, with room enough, would draw level `last`, and is refused as draw is
abbrev pub SetOut : Result Walk Refusal → List Pass → ℕ → List ℤ → Type 0
SetOut r ps last hs = MatchResult r (λ w. (allowed ps last hs (length hs) ≡ Ok tt) × At w ps last 0 hs) (λ e. allowed ps last hs (length hs) ≡ Err e)

-- the pass that leads to the next level
abbrev pub ahead : Walk → Pass
ahead w = slice_index_or (passes w.schedule) w.level (Pair 0 0)

-- a step from w to v that answered r: up by one level where there is one, and else not at all
pub record Stepped (w : Walk) (r : Bool) (v : Walk) : Type 0 where
  pub answer : r ≡ nat_lt w.level w.last
  pub by : v.schedule ≡ w.schedule
  pub to : v.last ≡ w.last
  pub so_far : v.level ≡ cond r (w.level + 1) w.level
  pub holds : come_to v ≡ cond r (weighed (weights (ahead w)) (come_to w)) (come_to w)
