-- The rows of Pascal's triangle.
use Rattle.std.specs.Prelude.{ℕ, zero, suc, ◌+◌, List, [], ◌∷◌, replicate}
use Rattle.scale_space.specs.declared.passes.Pass.TheVariants.{Pair}
use Rattle.scale_space.specs.Passes.{taps}

-- in how many ways k of m things are chosen, by Pascal's rule
unfoldable pub choose : ℕ → ℕ → ℕ
choose zero zero = 1
choose zero (suc k) = 0
choose (suc m) zero = 1
choose (suc m) (suc k) = choose m k + choose m (suc k)

-- f 0, f 1, .., f (n - 1)
unfoldable pub listed_to : ℕ → (ℕ → ℕ) → List ℕ
listed_to zero f = []
listed_to (suc n) f = f 0 ∷ listed_to n (λ k. f (suc k))

-- choose m 0, .., choose m m
unfoldable pub row : ℕ → List ℕ
row m = listed_to (suc m) (choose m)

-- the pair of the weights 1 and 1, piled m times
unfoldable pub pairs : ℕ → List ℕ
pairs m = taps (replicate m (Pair 1 1))
