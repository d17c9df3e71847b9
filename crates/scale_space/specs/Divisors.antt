-- Common divisors, and lists of numbers in lowest terms.
use Rattle.std.specs.Prelude.{◌≡◌, ℕ, zero, suc, ◌%◌, Bool, true, cond, ◌&&◌, List, [], ◌∷◌, ◌==◌}
use Rattle.std.specs.Int.{◌∣◌}
use Rattle.std.specs.List.{AllByRecursion}
use Rattle.scale_space.specs.Taps.{scale}

-- the largest number from 1 to n that passes a test, and 0 where none does
unfoldable pub largest : (ℕ → Bool) → ℕ → ℕ
largest test zero = 0
largest test (suc n) = cond (test (suc n)) (suc n) (largest test n)

-- d divides each of the numbers
abbrev pub divides : ℕ → List ℕ → Bool
divides d [] = true
divides d (w ∷ ws) = w % d == 0 && divides d ws

-- the greatest common divisor of numbers that are not all 0: none is larger than their sum
unfoldable pub common : List ℕ → ℕ
common ws = largest (λ d. divides d ws) (scale ws)

abbrev pub Divides : ℕ → List ℕ → Type 0
Divides d ws = AllByRecursion (λ w. d ∣ w) ws

-- g divides each of the numbers, and each number that does so divides g
pub record Greatest (ws : List ℕ) (g : ℕ) : Type 0 where
  pub each : Divides g ws
  pub most : (d : ℕ) → Divides d ws → d ∣ g

-- no common divisor but 1, so not all 0 (every number divides 0)
abbrev pub Reduced : List ℕ → Type 0
Reduced ws = (d : ℕ) → Divides d ws → d ≡ 1
