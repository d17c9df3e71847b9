-- Turns and crossings in plain words, by places: what the lists of specs/Turns.antt and specs/Crossings.antt are held to.
use Rattle.std.specs.Prelude.{◌≡◌, ℕ, ◌+◌, ◌-◌, ◌<◌, ◌≤◌, ◌↔◌, List, [], ◌∷◌, map, length, ℤ, ◌<ℤ◌, slice_index_or}
use mathlib.Core.List.{Memᴰ}
use Rattle.scale_space.specs.declared.turns.Turn.{Turn}
use Rattle.scale_space.specs.declared.turns.TurnKind.{TurnKind}
use Rattle.scale_space.specs.declared.turns.TurnKind.TheVariants.{Ridge, Hollow}
use Rattle.scale_space.specs.declared.crossings.Crossing.{Crossing}
use Rattle.scale_space.specs.declared.crossings.Direction.{Direction}
use Rattle.scale_space.specs.declared.crossings.Direction.TheVariants.{Up, Down}
use Rattle.scale_space.specs.Turns.{turns}
use Rattle.scale_space.specs.Crossings.{crossings}

-- what stands beside a ridge is lower, and beside a hollow higher
abbrev pub Beside : TurnKind → ℤ → ℤ → Type 0
Beside Ridge x v = x <ℤ v
Beside Hollow x v = v <ℤ x

-- the samples from i to j have the value v, and those on both sides of them lie beside it
pub record TurnsAt (xs : List ℤ) (k : TurnKind) (i j : ℕ) (v : ℤ) : Type 0 where
  pub some : 0 < i
  pub upto : i ≤ j
  pub inside : j + 1 < length xs
  pub flat : (m : ℕ) → i ≤ m → m ≤ j → slice_index_or xs m v ≡ v
  pub before : Beside k (slice_index_or xs (i - 1) v) v
  pub after : Beside k (slice_index_or xs (j + 1) v) v

abbrev pub TurnsAreThese : Type 0
TurnsAreThese = (xs : List ℤ) (t : Turn) → Memᴰ t (turns xs) ↔ ((j : ℕ) × TurnsAt xs t.kind t.place j t.numerator)

-- from x over the height h to y
abbrev pub Over : Direction → ℤ → ℤ → ℤ → Type 0
Over Up x h y = (x <ℤ h) × (h <ℤ y)
Over Down x h y = (h <ℤ x) × (y <ℤ h)

-- the samples at i and j lie on opposite sides of h, and those between them at h
pub record Crosses (h : ℤ) (xs : List ℤ) (i j : ℕ) (w : Direction) : Type 0 where
  pub ahead : i < j
  pub inside : j < length xs
  pub over : Over w (slice_index_or xs i h) h (slice_index_or xs j h)
  pub along : (k : ℕ) → i < k → k < j → slice_index_or xs k h ≡ h

abbrev pub CrossingsAreThese : Type 0
CrossingsAreThese = (h : ℤ) (xs : List ℤ) (c : Crossing) → Memᴰ c (crossings h xs) ↔ Crosses h xs c.from c.to c.direction

-- each place is past the one before it, and none is before n
abbrev pub Ascending : ℕ → List ℕ → Type 0
Ascending n [] = Unit {0}
Ascending n (m ∷ ms) = (n ≤ m) × Ascending (m + 1) ms

abbrev pub PlacesAscend : Type 0
PlacesAscend = (xs : List ℤ) → Ascending 0 (map (λ t. t.place) (turns xs)) × ((h : ℤ) → Ascending 0 (map (λ c. c.from) (crossings h xs)))
