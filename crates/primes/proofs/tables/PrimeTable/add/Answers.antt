-- A record for a first prime keeps the order and the counts.
use Rattle.primes.specs.Entries.{entries}
use Rattle.primes.proofs.Standing.{held_inserted}
use Rattle.primes.proofs.tables.PrimeTable.add.Goals as goal

pub invariant_of-self : goal.invariant_of-self
invariant_of-self c =
    let t = c.args.self.now in
    let found = c.in-Err.ensures in
    held_inserted (entries t) _ c.args.prime c.in-Err.place c.insert.ensures found.is_new found.range t.ordered t.some c.requires
