-- The windows before the one that comes next are written.
use Rattle.std.proofs.Common.{◌≡◌, ◌+◌, ◌≤◌, length, drop}
use Rattle.std.specs.Slice.Iter.{windows_rest, windows_size}
use Rattle.std.specs.Iterator.Adapters.{enumerate_source, enumerate_count}
use Rattle.smoother.specs.TapLists.{shown}
use Rattle.smoother.proofs.Places.{Written}
use Rattle.smoother.proofs.apply.lay.Given as goal

abbrev pub invariant-loop-i : goal.invariant-loop-i
invariant-loop-i l =
    (length l.out ≡ length l.initial.out)
    × (windows_size (enumerate_source l.i-iterator) ≡ length (shown l.taps))
    × (windows_rest (enumerate_source l.i-iterator) ≡ drop (enumerate_count l.i-iterator) l.samples)
    × (enumerate_count l.i-iterator + length (shown l.taps) ≤ length l.samples + 1)
    × Written (shown l.taps) l.samples l.initial.out (enumerate_count l.i-iterator) l.out
