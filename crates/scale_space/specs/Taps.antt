-- Taps: natural weights laid on neighbouring samples, and how taps are piled.
use Rattle.std.specs.Prelude.{ℕ, zero, suc, ◌+◌, ◌*◌, cond, List, [], ◌∷◌, map, length, ℤ, pos, ◌+ℤ◌, ◌*ℤ◌, nat_le}

-- tap j times sample j, summed
unfoldable pub dot : List ℕ → List ℤ → ℤ
dot [] xs = pos 0
dot (t ∷ ts) [] = pos 0
dot (t ∷ ts) (x ∷ xs) = pos t *ℤ x +ℤ dot ts xs

-- the taps laid on every run of as many neighbours, in order
unfoldable pub windows : List ℕ → List ℤ → List ℤ
windows ts [] = []
windows ts (x ∷ xs) = cond (nat_le (length ts) (length (x ∷ xs))) (dot ts (x ∷ xs) ∷ windows ts xs) []

-- the sum of the taps
unfoldable pub scale : List ℕ → ℕ
scale [] = 0
scale (t ∷ ts) = t + scale ts

-- every tap times m
abbrev pub scaled : ℕ → List ℕ → List ℕ
scaled m ts = map (λ t. m * t) ts

-- two tap lists summed place by place; what the shorter one lacks counts as 0
unfoldable pub plus : List ℕ → List ℕ → List ℕ
plus [] ts = ts
plus (s ∷ ss) [] = s ∷ ss
plus (s ∷ ss) (t ∷ ts) = (s + t) ∷ plus ss ts

-- taps piled, p first and then q (convolution): tap j is the sum of p_i * q_(j-i)
unfoldable pub conv : List ℕ → List ℕ → List ℕ
conv [] q = []
conv (a ∷ p) q = plus (scaled a q) (0 ∷ conv p q)

-- f 0 + f 1 + .. + f (n - 1)
abbrev pub sum_to : ℕ → (ℕ → ℕ) → ℕ
sum_to zero f = 0
sum_to (suc n) f = f 0 + sum_to n (λ i. f (suc i))
