-- The table of the passes so far.
use Rattle.std.proofs.Common.{◌≡◌, take}
use Rattle.scale_space.specs.Tables.{table}
use Rattle.primes.specs.Entries.{entries}
use Rattle.primes.proofs.tables.PrimeTable.of.Given as goal

abbrev pub invariant-loop-pass : goal.invariant-loop-pass
invariant-loop-pass l = entries l.table ≡ table (take l.pass-index l.pass-items)
