-- Lists are equal just where their passes are.
use Rattle.std.proofs.Common.{refl}
use Rattle.std.proofs.lemmas.Slice.Eq.{slice_eq-Decides}
use Rattle.scale_space.proofs.Comparing.{passes_decide}
use Rattle.schedule.specs.Calls.{passes}
use Rattle.schedule.proofs.laws.equality_decides.Goals as goal

pub returns-clause-decides : goal.returns-clause-decides
returns-clause-decides c = λ s t. slice_eq-Decides passes_decide (passes s) (passes t) _ refl
