-- Levels: numerators over one scale, what smoothing and rounding make of them, and what neither may do.
use Rattle.std.specs.Prelude.{◌≡◌, ℕ, ◌*◌, ◌≤◌, List, map, length, ℤ, pos, ◌*ℤ◌, ◌≤ℤ◌, slice_index_or}
use Rattle.std.specs.List.{AllByRecursion}
use Rattle.scale_space.specs.Signs.{changes}
use Rattle.scale_space.specs.Taps.{windows, scale}
use Rattle.scale_space.specs.Turns.{turns}
use Rattle.scale_space.specs.Crossings.{crossings}
use Rattle.scale_space.specs.Rounding.{rounded}

-- exact samples: each numerator is to be divided by the scale
pub record Level : Type 0 where
  pub numerators : List ℤ
  pub scale : ℕ

-- heights as they were surveyed
abbrev pub ground : List ℤ → Level
ground hs = record { numerators = hs; scale = 1 }

-- the level that taps make of another
abbrev pub weighed : List ℕ → Level → Level
weighed ts l = record { numerators = windows ts l.numerators; scale = l.scale * scale ts }

-- the level that a map makes of another, at scale 1
abbrev pub mapped : (ℤ → ℤ) → Level → Level
mapped r l = record { numerators = map r l.numerators; scale = 1 }

-- the level rounded to whole heights
abbrev pub whole : Level → Level
whole l = mapped (rounded l.scale) l

abbrev pub turn_count : Level → ℕ
turn_count l = length (turns l.numerators)

-- how often it crosses the whole height c
abbrev pub crossing_count : ℤ → Level → ℕ
crossing_count c l = length (crossings (c *ℤ pos l.scale) l.numerators)

abbrev pub Between : ℤ → ℤ → ℤ → Type 0
Between low high x = (low ≤ℤ x) × (x ≤ℤ high)

-- every exact sample lies between two whole heights, ends included
abbrev pub Within : ℤ → ℤ → Level → Type 0
Within low high l = AllByRecursion (Between (low *ℤ pos l.scale) (high *ℤ pos l.scale)) l.numerators

-- From one level to another neither the turns nor the crossings of any whole height become more, and what lay between
-- two whole heights stays between them.
pub record Calmer (from to : Level) : Type 0 where
  pub turned : turn_count to ≤ turn_count from
  pub crossed : (c : ℤ) → crossing_count c to ≤ crossing_count c from
  pub bounded : (low high : ℤ) → Within low high from → Within low high to

-- the same length, and the same fractions: N / S and M / T agree when N T = M S
pub record Agree (l m : Level) : Type 0 where
  pub lengths : length l.numerators ≡ length m.numerators
  pub fractions : (i : ℕ) → slice_index_or l.numerators i (pos 0) *ℤ pos m.scale ≡ slice_index_or m.numerators i (pos 0) *ℤ pos l.scale

-- The law of taps (they are variation-diminishing): laid on any whole numbers, they make no more changes of sign.
abbrev pub Diminishing : List ℕ → Type 0
Diminishing ts = (xs : List ℤ) → changes (windows ts xs) ≤ changes xs

-- laid on any level, at any scale from 1 up, the taps make a calmer one
abbrev pub Smooths : List ℕ → Type 0
Smooths ts = (l : Level) → 1 ≤ l.scale → Calmer l (weighed ts l)
