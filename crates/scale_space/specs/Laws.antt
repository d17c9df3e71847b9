-- What is claimed of piles and of levels.
use Rattle.std.specs.Prelude.{◌≡◌, ℕ, suc, ◌+◌, ◌-◌, ◌*◌, ◌<◌, List, length, take, ℤ, slice_index}
use Rattle.scale_space.specs.declared.passes.Pass.{Pass}
use Rattle.scale_space.specs.Taps.{windows, scale, conv, sum_to}
use Rattle.scale_space.specs.Levels.{ground, whole, Calmer, Within, Diminishing}
use Rattle.scale_space.specs.Passes.{level}

-- tap j of the pile is the sum of p_i q_(j-i); windows of windows are windows of the pile; the reaches add up, the scales
-- multiply, and the law of taps is passed on
pub record Piles (p q : List ℕ) : Type 0 where
  pub tapped : (j : ℕ) → slice_index (conv p q) j ≡ sum_to (suc j) (λ i. slice_index p i * slice_index q (j - i))
  pub windowed : (xs : List ℤ) → windows q (windows p xs) ≡ windows (conv p q) xs
  pub reaches : length (conv p q) + 1 ≡ length p + length q
  pub scales : scale (conv p q) ≡ scale p * scale q
  pub diminishing : Diminishing p → Diminishing q → Diminishing (conv p q)

-- each level is calmer than the one before it, its rounding calmer still, and all lies between the lowest and the highest
-- height of the profile
pub record Calm (ps : List Pass) (hs : List ℤ) : Type 0 where
  pub stepwise : (k : ℕ) → k < length ps → Calmer (level (take k ps) hs) (level (take (k + 1) ps) hs)
  pub rounding : (k : ℕ) → Calmer (level (take k ps) hs) (whole (level (take k ps) hs))
  pub exact : (k : ℕ) (low high : ℤ) → Within low high (ground hs) → Within low high (level (take k ps) hs)
  pub rounded : (k : ℕ) (low high : ℤ) → Within low high (ground hs) → Within low high (whole (level (take k ps) hs))
