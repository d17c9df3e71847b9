-- What was read lies within the buffer, and less is left each time.
use Rattle.std.proofs.Common.{◌-◌, ◌≤◌, length}
use Rattle.profile_turns.proofs.read_all.Given as goal

abbrev pub invariant-loop-size : goal.invariant-loop-size
invariant-loop-size g l = l.size ≤ length l.buffer

abbrev pub decreases-loop-size : goal.decreases-loop-size
decreases-loop-size g l = length l.buffer - l.size
