-- The square of s is not above d, and s rises.
use Rattle.std.proofs.Common.{◌-◌, ◌*◌, ◌≤◌}
use Rattle.primes.proofs.roots.root.Given as goal

abbrev pub invariant-loop-next : goal.invariant-loop-next
invariant-loop-next l = l.s * l.s ≤ l.d

abbrev pub decreases-loop-next : goal.decreases-loop-next
decreases-loop-next l = l.d - l.s
