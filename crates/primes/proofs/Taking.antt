-- The primes of one pass after another, taken into a table.
use Rattle.std.proofs.Common.{◌≡◌, ℕ, ◌*◌, ◌≤◌, List, [], ◌∷◌, length, subst, arith}
use Rattle.scale_space.specs.declared.passes.Pass.{Pass}
use Rattle.scale_space.specs.declared.passes.Pass.TheVariants.{Triple}
use Rattle.scale_space.specs.Divisors.{Reduced}
use Rattle.scale_space.specs.Passes.{Proper}
use Rattle.scale_space.specs.Tables.{table}
use Rattle.scale_space.proofs.Factors.{primes_length}
use Rattle.scale_space.proofs.Entries.{counted_table}
use Rattle.primes.specs.Counts.{counted}

pub proper_reduced : (p : Pass) (a b c : ℕ) → p ≡ Triple a b c → Proper p → Reduced (a ∷ b ∷ c ∷ [])
proper_reduced p a b c e h = let k : Proper (Triple a b c) = subst Proper e h in k.reduced

pub counted_le : (ps : List Pass) → counted (table ps) ≤ 2 * length ps
counted_le ps = omega (arith, counted_table ps, primes_length ps)
