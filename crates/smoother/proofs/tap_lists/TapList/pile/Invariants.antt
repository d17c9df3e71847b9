-- The taps so far are those of the pile.
use Rattle.std.proofs.Common.{◌≡◌, take}
use Rattle.fixed_list.specs.Listed.{listed}
use Rattle.scale_space.specs.Taps.{conv}
use Rattle.smoother.specs.TapLists.{shown}
use Rattle.smoother.proofs.tap_lists.TapList.pile.Given as goal

abbrev pub invariant-loop-place : goal.invariant-loop-place
invariant-loop-place l = listed l.taps ≡ take l.place (conv (shown l.self) (shown l.other))
