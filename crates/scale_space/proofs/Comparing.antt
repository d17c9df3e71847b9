-- What `==` of passes and of records decides, for lists of them; where two values are at hand, `search` finds it.
use Rattle.std.proofs.Common.{◌≡◌, Decides, rules}
use Rattle.scale_space.specs.declared.passes.Pass.{Pass}
use Rattle.scale_space.specs.declared.primes.PrimeCount.{PrimeCount}
use Rattle.scale_space.specs.contracts.passes.PassPartialEq as passes
use Rattle.scale_space.specs.contracts.primes.PrimeCountPartialEq as records

pub passes_decide : (p q : Pass) → Decides (passes.TheImpl.eq-value.it p q) (p ≡ q)
passes_decide p q = search rules

pub records_decide : (r s : PrimeCount) → Decides (records.TheImpl.eq-value.it r s) (r ≡ s)
records_decide r s = search rules
