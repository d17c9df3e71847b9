-- Where a list of samples turns: its ridges and hollows.
use Rattle.std.specs.Prelude.{ℕ, suc, List, [], ◌∷◌, ℤ}
use Rattle.scale_space.specs.declared.turns.Turn.{Turn}
use Rattle.scale_space.specs.declared.turns.TurnKind.{TurnKind}
use Rattle.scale_space.specs.declared.turns.TurnKind.TheVariants.{Ridge, Hollow}
use Rattle.scale_space.specs.Signs.{Sign, below, level, above, side, keep}

-- a sample with its place
pub record Spot : Type 0 where
  pub place : ℕ
  pub value : ℤ

abbrev pub spot : ℕ → ℤ → Spot
spot n x = record { place = n; value = x }

-- A flat is a longest run of equal neighbours, given by its first sample: one that is not level with the sample before it.
-- These are the flats that begin in xs, whose first sample has the place n and comes after the sample v.
unfoldable pub flats_after : ℤ → ℕ → List ℤ → List Spot
flats_after v n [] = []
flats_after v n (x ∷ xs) = keep (side x v) (spot n x) (flats_after x (suc n) xs)

unfoldable pub flats : List ℤ → List Spot
flats [] = []
flats (x ∷ xs) = spot 0 x ∷ flats_after x 1 xs

abbrev pub ridge : Spot → Turn
ridge g = record { kind = Ridge; place = g.place; numerator = g.value }

abbrev pub hollow : Spot → Turn
hollow g = record { kind = Hollow; place = g.place; numerator = g.value }

-- the flat g as a turn, where it lies on one side of both its neighbours
abbrev pub turning : Sign → Sign → Spot → List Turn → List Turn
turning below below g ts = hollow g ∷ ts
turning below level g ts = ts
turning below above g ts = ts
turning level t g ts = ts
turning above below g ts = ts
turning above level g ts = ts
turning above above g ts = ridge g ∷ ts

-- the turns among flats: the first and the last are none
unfoldable pub turns_of : List Spot → List Turn
turns_of [] = []
turns_of (f ∷ []) = []
turns_of (f ∷ g ∷ []) = []
turns_of (f ∷ g ∷ h ∷ fs) = turning (side g.value f.value) (side g.value h.value) g (turns_of (g ∷ h ∷ fs))

unfoldable pub turns : List ℤ → List Turn
turns xs = turns_of (flats xs)

abbrev pub kind_number : TurnKind → ℕ
kind_number Ridge = 1
kind_number Hollow = 2
