-- The taps that a tap list shows.
use Rattle.std.specs.Prelude.{ℕ, List}
use Rattle.fixed_list.specs.Listed.{listed}
use Rattle.smoother.specs.declared.tap_lists.TapList.{TapList}

abbrev pub shown : TapList → List ℕ
shown t = listed t.taps
