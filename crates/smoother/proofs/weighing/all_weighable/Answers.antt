-- The quotient tells of the product.
use Rattle.std.proofs.Common.{◌∙◌}
use Rattle.smoother.proofs.Sizes.{weighable_is}
use Rattle.smoother.proofs.weighing.all_weighable.Goals as goal

pub returns : goal.returns
returns c = c.are_within.ensures ∙ weighable_is c.args.scale c.args.samples.now c.requires
