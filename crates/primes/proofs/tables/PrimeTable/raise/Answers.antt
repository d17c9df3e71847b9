-- One count raised leaves the primes in their order.
use Rattle.primes.specs.Entries.{entries}
use Rattle.primes.proofs.Standing.{held_raised, raised_is}
use Rattle.primes.proofs.tables.PrimeTable.raise.Goals as goal

pub invariant_of-self : goal.invariant_of-self
invariant_of-self c =
    let t = c.args.self.now in
    held_raised (entries t) c.args.place c.requires.place _ (raised_is t.list c.args.place c.item_mut-record.result.now c.requires.place c.item_mut-record.ensures.value) t.ordered t.some c.requires.room

pub returns : goal.returns
returns c = raised_is c.args.self.now.list c.args.place c.item_mut-record.result.now c.requires.place c.item_mut-record.ensures.value
