-- After i passes the buffer holds level i, and `last` is its shape.
use Rattle.std.proofs.Common.{◌≡◌, length, take}
use Rattle.scale_space.specs.Passes.{level}
use Rattle.levels.specs.Drawing.{shape, laid}
use Rattle.levels.proofs.draw.lay_all.Given as goal

abbrev pub invariant-loop-pass : goal.invariant-loop-pass
invariant-loop-pass l =
    (l.last ≡ shape (level (take l.pass-index l.passes) l.initial.work))
    × (l.work ≡ laid (length l.initial.work) (level (take l.pass-index l.passes) l.initial.work).numerators l.initial.work)
