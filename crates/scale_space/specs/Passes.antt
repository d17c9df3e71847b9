-- Passes, and lists of them: weights, reach, scale, taps, and the levels that they draw from a profile.
use Rattle.std.specs.Prelude.{◌≡◌, ℕ, ◌+◌, ◌-◌, ◌*◌, ◌/◌, ◌<◌, ◌≤◌, Bool, true, List, [], ◌∷◌, length, ℤ, pos, negsuc, fold, nat_le}
use Rattle.std.specs.List.{AllByRecursion}
use Rattle.scale_space.specs.declared.passes.Pass.{Pass}
use Rattle.scale_space.specs.declared.passes.Pass.TheVariants.{Pair, Triple}
use Rattle.scale_space.specs.Taps.{scale, conv}
use Rattle.scale_space.specs.Divisors.{common, Reduced}
use Rattle.scale_space.specs.Levels.{Level, ground, weighed, Between}

abbrev pub weights : Pass → List ℕ
weights (Pair a b) = a ∷ b ∷ []
weights (Triple a b c) = a ∷ b ∷ c ∷ []

-- a pair always, and a triple exactly when b² is at least 4ac
abbrev pub admitted : Pass → Bool
admitted (Pair a b) = true
admitted (Triple a b c) = nat_le (4 * (a * c)) (b * b)

-- the pass with its weights divided by their greatest common divisor
abbrev pub lowest : Pass → Pass
lowest (Pair a b) = Pair (a / common (a ∷ b ∷ [])) (b / common (a ∷ b ∷ []))
lowest (Triple a b c) = Triple (a / common (a ∷ b ∷ c ∷ [])) (b / common (a ∷ b ∷ c ∷ [])) (c / common (a ∷ b ∷ c ∷ []))

-- a pass that may stand in a schedule: weights of 1,000 at most, not all 0, in lowest terms, and admitted
pub record Proper (p : Pass) : Type 0 where
  pub small : AllByRecursion (λ w. w ≤ 1000) (weights p)
  pub some : 0 < scale (weights p)
  pub reduced : Reduced (weights p)
  pub admissible : admitted p ≡ true

-- ---- lists of passes
-- how many samples fewer they leave
abbrev pub reach : List Pass → ℕ
reach [] = 0
reach (p ∷ ps) = (length (weights p) - 1) + reach ps

-- the product of their scales
abbrev pub product : List Pass → ℕ
product [] = 1
product (p ∷ ps) = scale (weights p) * product ps

-- their weights piled in order, and the one tap 1 where there is none
abbrev pub taps : List Pass → List ℕ
taps [] = 1 ∷ []
taps (p ∷ ps) = conv (weights p) (taps ps)

-- the last level that they draw: each pass weighs the level that the one before it left
abbrev pub level : List Pass → List ℤ → Level
level ps hs = fold (λ l p. weighed (weights p) l) (ground hs) ps

-- a lawful profile: 1 to 2,048 heights, each from -100,000 to 100,000
pub record Profile (hs : List ℤ) : Type 0 where
  pub some : 1 ≤ length hs
  pub short : length hs ≤ 2048
  pub in_range : AllByRecursion (Between (negsuc 99999) (pos 100000)) hs
