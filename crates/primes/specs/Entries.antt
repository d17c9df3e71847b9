-- What a prime table holds.
use Rattle.std.specs.Prelude.{List}
use Rattle.fixed_list.specs.Listed.{listed}
use Rattle.scale_space.specs.declared.primes.PrimeCount.{PrimeCount}
use Rattle.primes.specs.declared.tables.PrimeTable.{PrimeTable}

abbrev pub entries : PrimeTable → List PrimeCount
entries t = listed t.list
