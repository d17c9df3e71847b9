-- The output has the first heights, and the others are left.
use Rattle.std.proofs.Common.{◌≡◌, map, take, drop}
use Rattle.scale_space.specs.Rounding.{rounded}
use Rattle.samples.proofs.rounding.round.Given as goal

abbrev pub invariant-loop-i : goal.invariant-loop-i
invariant-loop-i l = record { done : take l.i l.out ≡ map (rounded l.scale) (take l.i l.numerators); rest : drop l.i l.out ≡ drop l.i l.initial.out }
