-- The passes that are left stand before those that are piled.
use Rattle.std.proofs.Common.{◌≡◌, List, ◌++◌}
use Rattle.std.specs.Slice.Iter.{iter_rest}
use Rattle.std.specs.Iterator.Adapters.{rev_source}
use Rattle.scale_space.specs.declared.passes.Pass.{Pass}
use Rattle.scale_space.specs.Passes.{taps}
use Rattle.schedule.specs.Calls.{passes}
use Rattle.smoother.specs.TapLists.{shown}
use Rattle.smoother.proofs.kinds.taps_of.Given as goal

abbrev pub invariant-loop-pass : goal.invariant-loop-pass
invariant-loop-pass l = (ds : List Pass) × (iter_rest (rev_source l.pass-iterator) ++ ds ≡ passes l.schedule) × (shown l.taps ≡ taps ds)
