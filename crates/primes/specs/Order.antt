-- The order of records.
use Rattle.std.specs.Prelude.{◌≡◌, ℕ, ◌<◌, true, List, length, get_or}
use Rattle.scale_space.specs.declared.primes.PrimeCount.{PrimeCount}
use Rattle.scale_space.specs.Tables.{before}
use Rattle.primes.specs.Counts.{blank}

-- each prime comes before all those behind it: `Ordered`, said by places
abbrev pub InOrder : List PrimeCount → Type 0
InOrder rs = (i j : ℕ) → i < j → j < length rs → before (get_or rs i blank).prime (get_or rs j blank).prime ≡ true
