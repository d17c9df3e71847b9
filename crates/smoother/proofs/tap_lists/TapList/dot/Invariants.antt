-- The taps so far are weighed.
use Rattle.std.proofs.Common.{length}
use Rattle.smoother.specs.TapLists.{shown}
use Rattle.smoother.proofs.Dots.{Weighed}
use Rattle.smoother.proofs.tap_lists.TapList.dot.Given as goal

abbrev pub invariant-loop-tap : goal.invariant-loop-tap
invariant-loop-tap l = Weighed (shown l.self) l.samples (length l.yielded) l.total
