-- Lists are equal just where their records are.
use Rattle.std.proofs.Common.{refl}
use Rattle.std.proofs.lemmas.Slice.Eq.{slice_eq-Decides}
use Rattle.scale_space.proofs.Comparing.{records_decide}
use Rattle.primes.specs.Entries.{entries}
use Rattle.primes.proofs.laws.equality_decides.Goals as goal

pub returns-clause-decides : goal.returns-clause-decides
returns-clause-decides c = λ s t. slice_eq-Decides records_decide (entries s) (entries t) _ refl
