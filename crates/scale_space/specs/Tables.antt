-- Prime tables: the primes of passes in order, each in one record with how often it stands.
use Rattle.std.specs.Prelude.{◌≡◌, ℕ, ◌+◌, ◌<◌, Bool, true, false, cond, ◌&&◌, ◌||◌, List, [], ◌∷◌, fold, ◌==◌, nat_lt}
use Rattle.std.specs.List.{AllByRecursion}
use Rattle.scale_space.specs.declared.passes.Pass.{Pass}
use Rattle.scale_space.specs.declared.passes.Pass.TheVariants.{Pair, Triple}
use Rattle.scale_space.specs.declared.primes.PrimeCount.{PrimeCount}
use Rattle.scale_space.specs.Primes.{primes, same, count}

-- pairs before triples, then the smaller a, b and c
abbrev pub before : Pass → Pass → Bool
before (Pair a b) (Pair d e) = nat_lt a d || (a == d && nat_lt b e)
before (Pair a b) (Triple d e f) = true
before (Triple a b c) (Pair d e) = false
before (Triple a b c) (Triple d e f) = nat_lt a d || (a == d && (nat_lt b e || (b == e && nat_lt c f)))

abbrev pub single : Pass → PrimeCount
single p = record { prime = p; count = 1 }

abbrev pub raised : PrimeCount → PrimeCount
raised r = record { prime = r.prime; count = r.count + 1 }

-- one more p: its count is raised, or a record for it is put in its place
abbrev pub added : List PrimeCount → Pass → List PrimeCount
added [] p = single p ∷ []
added (r ∷ rs) p = cond (before r.prime p) (r ∷ added rs p) (cond (same r.prime p) (raised r ∷ rs) (single p ∷ r ∷ rs))

-- whether two records are the same
abbrev pub same_record : PrimeCount → PrimeCount → Bool
same_record r s = same r.prime s.prime && r.count == s.count

-- the prime table of a list of passes
abbrev pub table : List Pass → List PrimeCount
table ps = fold added [] (primes ps)

-- ---- the same, with no computing
-- how often the records say that p stands
abbrev pub held : Pass → List PrimeCount → ℕ
held p [] = 0
held p (r ∷ rs) = cond (same p r.prime) r.count 0 + held p rs

-- each prime comes before all those behind it
abbrev pub Ordered : List PrimeCount → Type 0
Ordered [] = Unit {0}
Ordered (r ∷ rs) = AllByRecursion (λ s. before r.prime s.prime ≡ true) rs × Ordered rs

-- strictly in order, no record for nothing, and each prime as often as it stands
pub record Tabulates (ps : List Pass) (rs : List PrimeCount) : Type 0 where
  pub ordered : Ordered rs
  pub positive : AllByRecursion (λ r. 0 < r.count) rs
  pub counts : (p : Pass) → held p rs ≡ count p ps
