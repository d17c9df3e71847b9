-- The primes that passes are made of.
use Rattle.std.specs.Prelude.{◌≡◌, ℕ, ◌+◌, ◌-◌, ◌*◌, ◌<◌, ◌≤◌, Bool, false, cond, ◌&&◌, List, [], ◌∷◌, ◌==◌, ◌≢◌, nat_le}
use Rattle.std.specs.List.{flat_map, AllByRecursion}
use Rattle.scale_space.specs.declared.passes.Pass.{Pass}
use Rattle.scale_space.specs.declared.passes.Pass.TheVariants.{Pair, Triple}
use Rattle.scale_space.specs.Divisors.{largest, Reduced}
use Rattle.scale_space.specs.Passes.{lowest, taps}

-- the largest whole number whose square is not above d
unfoldable pub root : ℕ → ℕ
root d = largest (λ s. nat_le (s * s) d) d

-- the same, said by squares
abbrev pub Root : ℕ → ℕ → Type 0
Root d s = (s * s ≤ d) × (d < (s + 1) * (s + 1))

-- the two pairs of a triple whose b² - 4ac is s²
abbrev pub halves : ℕ → ℕ → ℕ → ℕ → List Pass
halves a b c s = cond (c == 0) (Pair 1 0 ∷ lowest (Pair a b) ∷ []) (lowest (Pair (b - s) (2 * c)) ∷ lowest (Pair (b + s) (2 * c)) ∷ [])

-- a triple with b² - 4ac = d, and s the root of d: it splits where d is a square
abbrev pub cut : ℕ → ℕ → ℕ → ℕ → ℕ → List Pass
cut a b c d s = cond (s * s == d) (halves a b c s) (Triple a b c ∷ [])

abbrev pub factors : Pass → List Pass
factors (Pair a b) = Pair a b ∷ []
factors (Triple a b c) = cut a b c (b * b - 4 * (a * c)) (root (b * b - 4 * (a * c)))

-- the primes of one pass after another
abbrev pub primes : List Pass → List Pass
primes ps = flat_map factors ps

-- ---- what a prime is, with no computing
abbrev pub NoSquare : ℕ → Type 0
NoSquare d = (s : ℕ) → s * s ≢ d

-- d is b² - 4ac, which is not negative, and no square
pub record Unsplit (a b c : ℕ) : Type 0 where
  pub d : ℕ
  pub is : d + 4 * (a * c) ≡ b * b
  pub none : NoSquare d

-- every reduced pair, and every reduced triple that does not split
abbrev pub Prime : Pass → Type 0
Prime (Pair a b) = Reduced (a ∷ b ∷ [])
Prime (Triple a b c) = Reduced (a ∷ b ∷ c ∷ []) × Unsplit a b c

-- the passes are primes, and piled they have the taps ts
pub record Factored (ps : List Pass) (ts : List ℕ) : Type 0 where
  pub prime : AllByRecursion Prime ps
  pub piled : taps ps ≡ ts

-- ---- how often a pass stands in a list
abbrev pub same : Pass → Pass → Bool
same (Pair a b) (Pair d e) = a == d && b == e
same (Pair a b) (Triple d e f) = false
same (Triple a b c) (Pair d e) = false
same (Triple a b c) (Triple d e f) = a == d && (b == e && c == f)

abbrev pub count : Pass → List Pass → ℕ
count p [] = 0
count p (q ∷ qs) = cond (same p q) 1 0 + count p qs
