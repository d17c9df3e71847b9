-- Where a list of samples crosses a height.
use Rattle.std.specs.Prelude.{ℕ, suc, List, [], ◌∷◌, ℤ}
use Rattle.scale_space.specs.declared.crossings.Crossing.{Crossing}
use Rattle.scale_space.specs.declared.crossings.Direction.{Direction}
use Rattle.scale_space.specs.declared.crossings.Direction.TheVariants.{Up, Down}
use Rattle.scale_space.specs.Signs.{Sign, below, level, above, side, keep}
use Rattle.scale_space.specs.Turns.{Spot, spot}

-- the samples that are not at the height h, from the place n on
unfoldable pub away : ℤ → ℕ → List ℤ → List Spot
away h n [] = []
away h n (x ∷ xs) = keep (side x h) (spot n x) (away h (suc n) xs)

-- from f to g, where they lie on opposite sides
abbrev pub crossing : Sign → Sign → Spot → Spot → List Crossing → List Crossing
crossing below below f g cs = cs
crossing below level f g cs = cs
crossing below above f g cs = record { from = f.place; to = g.place; direction = Up } ∷ cs
crossing level t f g cs = cs
crossing above below f g cs = record { from = f.place; to = g.place; direction = Down } ∷ cs
crossing above level f g cs = cs
crossing above above f g cs = cs

unfoldable pub crossings_of : ℤ → List Spot → List Crossing
crossings_of h [] = []
crossings_of h (f ∷ []) = []
crossings_of h (f ∷ g ∷ fs) = crossing (side f.value h) (side g.value h) f g (crossings_of h (g ∷ fs))

-- the crossings of h, which is a whole height times the scale of the samples
unfoldable pub crossings : ℤ → List ℤ → List Crossing
crossings h xs = crossings_of h (away h 0 xs)

abbrev pub direction_number : Direction → ℕ
direction_number Up = 1
direction_number Down = 2
