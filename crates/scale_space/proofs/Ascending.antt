-- The turns and the crossings stand in the order of their places, each once.
use Rattle.std.proofs.Common.{ℕ, suc, ◌+◌, ◌≤◌, List, [], ◌∷◌, map, ℤ, arith}
use Rattle.scale_space.specs.Signs.{Sign, below, level, above, side, keep}
use Rattle.scale_space.specs.declared.turns.Turn.{Turn}
use Rattle.scale_space.specs.declared.crossings.Crossing.{Crossing}
use Rattle.scale_space.specs.Turns.{Spot, spot, flats_after, flats, turning, turns_of, turns}
use Rattle.scale_space.specs.Crossings.{away, crossing, crossings_of, crossings}
use Rattle.scale_space.specs.Places.{Ascending, PlacesAscend}

sooner : (m n : ℕ) (ps : List ℕ) → m ≤ n → Ascending n ps → Ascending m ps
sooner m n [] h a = tt
sooner m n (p ∷ ps) h a = (omega (arith, a.0), a.1)

places : List Spot → List ℕ
places fs = map (λ f. f.place) fs

keep_ascends : (t : Sign) (n : ℕ) (x : ℤ) (fs : List Spot) → Ascending (n + 1) (places fs) → Ascending n (places (keep t (spot n x) fs))
unfolding places
keep_ascends below n x fs a = (omega arith, a)
keep_ascends level n x fs a = sooner n (n + 1) (places fs) (omega arith) a
keep_ascends above n x fs a = (omega arith, a)

flats_ascend : (v : ℤ) (n : ℕ) (xs : List ℤ) → Ascending n (places (flats_after v n xs))
unfolding flats_after places
flats_ascend v n [] = tt
flats_ascend v n (x ∷ xs) = keep_ascends (side x v) n x (flats_after x (suc n) xs) (sooner (n + 1) (suc n) (places (flats_after x (suc n) xs)) (omega arith) (flats_ascend x (suc n) xs))

away_ascends : (h : ℤ) (n : ℕ) (xs : List ℤ) → Ascending n (places (away h n xs))
unfolding away places
away_ascends h n [] = tt
away_ascends h n (x ∷ xs) = keep_ascends (side x h) n x (away h (suc n) xs) (sooner (n + 1) (suc n) (places (away h (suc n) xs)) (omega arith) (away_ascends h (suc n) xs))

at_places : List Turn → List ℕ
at_places ts = map (λ t. t.place) ts

turning_ascends : (s t : Sign) (m : ℕ) (g : Spot) (ts : List Turn) → m ≤ g.place → Ascending (g.place + 1) (at_places ts) → Ascending m (at_places (turning s t g ts))
unfolding at_places
turning_ascends below below m g ts h a = (h, a)
turning_ascends below level m g ts h a = sooner m (g.place + 1) (at_places ts) (omega arith) a
turning_ascends below above m g ts h a = sooner m (g.place + 1) (at_places ts) (omega arith) a
turning_ascends level t m g ts h a = sooner m (g.place + 1) (at_places ts) (omega arith) a
turning_ascends above below m g ts h a = sooner m (g.place + 1) (at_places ts) (omega arith) a
turning_ascends above level m g ts h a = sooner m (g.place + 1) (at_places ts) (omega arith) a
turning_ascends above above m g ts h a = (h, a)

turns_ascend : (m : ℕ) (f : Spot) (fs : List Spot) → Ascending m (places fs) → Ascending m (at_places (turns_of (f ∷ fs)))
unfolding turns_of places at_places
turns_ascend m f [] a = tt
turns_ascend m f (g ∷ []) a = tt
turns_ascend m f (g ∷ h ∷ fs) a = turning_ascends (side g.value f.value) (side g.value h.value) m g (turns_of (g ∷ h ∷ fs)) a.0 (turns_ascend (g.place + 1) g (h ∷ fs) a.1)

from_places : List Crossing → List ℕ
from_places cs = map (λ c. c.from) cs

crossing_ascends : (s t : Sign) (m : ℕ) (f g : Spot) (cs : List Crossing) → m ≤ f.place → Ascending (f.place + 1) (from_places cs) → Ascending m (from_places (crossing s t f g cs))
unfolding from_places
crossing_ascends below below m f g cs h a = sooner m (f.place + 1) (from_places cs) (omega arith) a
crossing_ascends below level m f g cs h a = sooner m (f.place + 1) (from_places cs) (omega arith) a
crossing_ascends below above m f g cs h a = (h, a)
crossing_ascends level t m f g cs h a = sooner m (f.place + 1) (from_places cs) (omega arith) a
crossing_ascends above below m f g cs h a = (h, a)
crossing_ascends above level m f g cs h a = sooner m (f.place + 1) (from_places cs) (omega arith) a
crossing_ascends above above m f g cs h a = sooner m (f.place + 1) (from_places cs) (omega arith) a

crossings_ascend : (h : ℤ) (m : ℕ) (fs : List Spot) → Ascending m (places fs) → Ascending m (from_places (crossings_of h fs))
unfolding crossings_of places from_places
crossings_ascend h m [] a = tt
crossings_ascend h m (f ∷ []) a = tt
crossings_ascend h m (f ∷ g ∷ fs) a = crossing_ascends (side f.value h) (side g.value h) m f g (crossings_of h (g ∷ fs)) a.0 (crossings_ascend h (f.place + 1) (g ∷ fs) a.1)

turns_in_order : (xs : List ℤ) → Ascending 0 (at_places (turns xs))
unfolding turns flats turns_of at_places
turns_in_order [] = tt
turns_in_order (x ∷ xs) = turns_ascend 0 (spot 0 x) (flats_after x 1 xs) (sooner 0 1 (places (flats_after x 1 xs)) (omega arith) (flats_ascend x 1 xs))

pub places_ascend : PlacesAscend
unfolding at_places from_places crossings
places_ascend xs = (turns_in_order xs, λ h. crossings_ascend h 0 (away h 0 xs) (away_ascends h 0 xs))
