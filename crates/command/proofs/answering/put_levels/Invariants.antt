-- The levels below are listed, and those above are still to come.
use Rattle.std.proofs.Common.{◌-◌}
use Rattle.command.proofs.Levels.{SoFar}
use Rattle.command.proofs.answering.put_levels.Given as goal

abbrev pub invariant-loop-at : goal.invariant-loop-at
invariant-loop-at l = SoFar l.initial.walk l.walk l.initial.out l.out l.at

abbrev pub decreases-loop-at : goal.decreases-loop-at
decreases-loop-at l = l.walk.last - l.walk.level
