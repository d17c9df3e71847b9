-- The closure gives a record's prime, and the records are in the order of their primes.
use Rattle.std.proofs.Common.{rules}
use Rattle.std.proofs.lemmas.List.Sorted.{answers_always}
use Rattle.primes.proofs.Order.{searched}
use Rattle.primes.proofs.tables.PrimeTable.find.Goals as goal

pub returns : goal.returns
returns c =
    let facts = c.binary_search_by_key.ensures in
    let by_prime = facts.position (λ r. r.prime) (answers_always _ _ _ (λ f a r g called. search rules)) in
    rw (← c.as_slice.ensures) (searched _ c.args.prime (rw c.as_slice.ensures c.args.self.now.ordered) _ facts.bound by_prime)
