-- So far it is the product of the first scales.
use Rattle.std.proofs.Common.{◌≡◌, take}
use Rattle.scale_space.specs.Passes.{product}
use Rattle.schedule.proofs.schedules.Schedule.scale.Given as goal

abbrev pub invariant-loop-pass : goal.invariant-loop-pass
invariant-loop-pass l = l.scale ≡ product (take l.pass-index l.pass-items)
