-- The counts of records.
use Rattle.std.specs.Prelude.{ℕ, List, sum_by}
use Rattle.scale_space.specs.declared.passes.Pass.TheVariants.{Pair}
use Rattle.scale_space.specs.declared.primes.PrimeCount.{PrimeCount}

-- what they come to
abbrev pub counted : List PrimeCount → ℕ
counted rs = sum_by (λ r. r.count) rs

-- what a read past the end gives
abbrev pub blank : PrimeCount
blank = record { prime = Pair 0 0; count = 0 }
