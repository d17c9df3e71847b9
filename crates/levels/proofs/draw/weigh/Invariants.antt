-- The weights so far are laid.
use Rattle.std.proofs.Common.{length}
use Rattle.levels.proofs.Weighing.{Weighed}
use Rattle.levels.proofs.draw.weigh.Given as goal

abbrev pub invariant-loop-weight : goal.invariant-loop-weight
invariant-loop-weight l = Weighed l.weights l.samples (length l.yielded) l.total
