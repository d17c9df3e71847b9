use Rattle.scale_space.proofs.Calm.{roundings_calm}
use Rattle.scale_space.proofs.laws.roundings_are_calm.Goals as goal

pub returns : goal.returns
returns c = roundings_calm
