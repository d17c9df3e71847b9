-- The levels between are passed one by one.
use Rattle.levels.proofs.Walking.{Climbing}
use Rattle.levels.proofs.walks.Walk.climb.Given as goal

abbrev pub invariant-loop : goal.invariant-loop
invariant-loop l = Climbing l.initial.self l.counter l.self
