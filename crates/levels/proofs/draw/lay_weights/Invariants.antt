-- The first i places hold windows, and the others are old.
use Rattle.std.proofs.Common.{◌≡◌, length}
use Rattle.scale_space.specs.Taps.{windows}
use Rattle.levels.proofs.Laying.{partly}
use Rattle.levels.proofs.draw.lay_weights.Given as goal

abbrev pub invariant-loop-i : goal.invariant-loop-i
invariant-loop-i g l = (length l.level ≡ length l.initial.level) × (l.level ≡ partly (windows l.weights l.initial.level) l.i l.initial.level)
