-- Few taps, each of 32 bits, have a small sum.
use Rattle.std.proofs.Common.{arith}
use Rattle.scale_space.specs.Taps.{scale}
use Rattle.smoother.proofs.tap_lists.TapList.two.Goals as goal

pub of-requires-clause-light : goal.of-requires-clause-light
of-requires-clause-light c = unfold scale in omega arith
