use Rattle.scale_space.proofs.Piles.{taps_pile}
use Rattle.scale_space.proofs.laws.taps_pile.Goals as goal

pub returns : goal.returns
returns c = taps_pile
