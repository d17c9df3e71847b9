-- The passes ahead leave the scale within its bound.
use Rattle.std.proofs.Common.{refl}
use Rattle.levels.proofs.Walking.{scale_is_lawful}
use Rattle.levels.proofs.walks.Walk.scale.Goals as goal

pub returns : goal.returns
returns c = record { value = refl; lawful = scale_is_lawful c.args.self.now }
