-- The parts before i are summed.
use Rattle.std.proofs.Common.{◌≡◌}
use Rattle.scale_space.specs.Taps.{sum_to}
use Rattle.smoother.proofs.Totals.{part}
use Rattle.smoother.proofs.sums.tap.Given as goal

abbrev pub invariant-loop-i : goal.invariant-loop-i
invariant-loop-i l = l.total ≡ sum_to l.i (part l.p l.q l.place)
