-- Rounding numerators over a scale to whole heights, halves upward.
use Rattle.std.specs.Prelude.{◌≡◌, ℕ, ◌*◌, ℤ, pos, ◌+ℤ◌, ◌*ℤ◌, ◌≤ℤ◌}
use Rattle.std.specs.Int.{int_div_euclid}

-- the largest whole number not above (2 n + s) / (2 s)
unfoldable pub rounded : ℕ → ℤ → ℤ
rounded s n = int_div_euclid (pos 2 *ℤ n +ℤ pos s) (pos (2 * s))

abbrev pub KeepsOrder : (ℤ → ℤ) → Type 0
KeepsOrder r = (x y : ℤ) → x ≤ℤ y → r x ≤ℤ r y

-- a rounding from the scale s: it keeps order, and takes the whole height c, which is c times s, to c
pub record Rounds (s : ℕ) (r : ℤ → ℤ) : Type 0 where
  pub order : KeepsOrder r
  pub fixed : (c : ℤ) → r (c *ℤ pos s) ≡ c
