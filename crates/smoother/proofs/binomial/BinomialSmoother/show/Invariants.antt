-- The row of the order that is reached.
use Rattle.std.proofs.Common.{◌≡◌}
use Rattle.smoother.specs.Rows.{row}
use Rattle.smoother.specs.TapLists.{shown}
use Rattle.smoother.proofs.binomial.BinomialSmoother.show.Given as goal

abbrev pub invariant-loop : goal.invariant-loop
invariant-loop l = shown l.taps ≡ row l.counter
