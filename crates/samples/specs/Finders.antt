-- What a finder gives: for one sample, and for all that are still to be read.
use Rattle.std.specs.Prelude.{ℕ, List, [], ◌∷◌, ℤ, Some, None, Option}
use Rattle.std.specs.declared.cmp.Ordering.{Ordering}
use Rattle.std.specs.declared.cmp.Ordering.TheVariants.{Less, Equal, Greater}
use Rattle.scale_space.specs.declared.crossings.Crossing.{Crossing}
use Rattle.scale_space.specs.declared.turns.Turn.{Turn}
use Rattle.scale_space.specs.Signs.{Sign, below, level, above, side}
use Rattle.scale_space.specs.Turns.{Spot, spot, flats_after, turning, turns_of}
use Rattle.scale_space.specs.Crossings.{away, crossing, crossings_of}
use Rattle.samples.specs.declared.crossings.CrossingFinder.{CrossingFinder}
use Rattle.samples.specs.declared.turns.Heading.{Heading}
use Rattle.samples.specs.declared.turns.Heading.TheVariants.{Level, Rising, Falling}
use Rattle.samples.specs.declared.turns.TurnFinder.{TurnFinder}

-- what one sample gives, put before what the rest gives
abbrev pub then : {A : Type 0} → Option A → List A → List A
then (Some x) xs = x ∷ xs
then None xs = xs

-- where a flat lies, seen from the flat before it
abbrev pub came_from : Heading → Sign
came_from Level = level
came_from Rising = above
came_from Falling = below

-- the turns from the flat g on: it lies so to the flat before it, and the others follow
unfoldable pub turns_from : Sign → Spot → List Spot → List Turn
turns_from s g [] = []
turns_from s g (h ∷ fs) = turning s (side g.value h.value) g (turns_of (g ∷ h ∷ fs))

-- what a finder of turns gives for the samples from the place n on
unfoldable pub turns_ahead : TurnFinder → ℕ → List ℤ → List Turn
turns_ahead f n xs = turns_from (came_from f.heading) (spot f.place f.last) (flats_after f.last n xs)

-- on which side of a number another lies, by how it compares to it
abbrev pub sign_of : Ordering → Sign
sign_of Less = below
sign_of Equal = level
sign_of Greater = above

-- on which side of the height the last sample off it lay, and its place
abbrev pub seen_side : Option (Ordering × ℕ) → Sign
seen_side None = level
seen_side (Some s) = sign_of s.0

abbrev pub seen_place : Option (Ordering × ℕ) → ℕ
seen_place None = 0
seen_place (Some s) = s.1

-- the crossings of h from the sample f on: it lies so to h, and the others that are not at h follow
unfoldable pub crossings_from : ℤ → Sign → Spot → List Spot → List Crossing
crossings_from h s f [] = []
crossings_from h s f (g ∷ gs) = crossing s (side g.value h) f g (crossings_of h (g ∷ gs))

-- what a finder of crossings gives for the samples from the place n on; the sample that was left is given the height for its value, since a crossing tells only places
unfoldable pub crossings_ahead : CrossingFinder → ℕ → List ℤ → List Crossing
crossings_ahead f n xs = crossings_from f.height (seen_side f.seen) (spot (seen_place f.seen) f.height) (away f.height n xs)
