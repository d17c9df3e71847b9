-- What the finder of crossings still has to give, one sample on.
use Rattle.std.proofs.Common.{◌≡◌, ℕ, suc, ◌+◌, true, false, ◌&&◌, List, [], ◌∷◌, ℤ, pos, ◌*ℤ◌, Some, None, Option, Result, sym, refl, ap, ◌∙◌, add-one}
use Rattle.std.proofs.lemmas.Bool.{and_from, cond-true, true≢false}
use Rattle.std.proofs.lemmas.Cmp.{int_ranked}
use Rattle.std.specs.Ordering.{is_eq, int_cmp}
use Rattle.std.specs.declared.cmp.Ordering.{Ordering}
use Rattle.std.specs.declared.cmp.Ordering.TheVariants.{Less, Equal, Greater}
use Rattle.scale_space.specs.declared.crossings.Crossing.{Crossing}
use Rattle.scale_space.specs.Signs.{Sign, below, level, above, side, keep}
use Rattle.scale_space.specs.Turns.{Spot, spot}
use Rattle.scale_space.specs.Crossings.{away, crossing, crossings_of, crossings}
use Rattle.samples.specs.declared.crossings.CrossingFinder.{CrossingFinder}
use Rattle.samples.specs.declared.refusals.Refusal.{Refusal}
use Rattle.samples.specs.Answers.{scale_lawful, height_lawful, listed, crossed}
use Rattle.samples.specs.Finders.{sign_of, seen_side, seen_place, crossings_from, crossings_ahead}
use Rattle.scale_space.proofs.Sides.{under_side, level_side, over_side}
use Rattle.samples.proofs.Writing.{listed_as}

abbrev pub crossing_finder : ℤ → Option (Ordering × ℕ) → CrossingFinder
crossing_finder h s = record { height = h; seen = s }

-- only the place of the sample that was left counts
from_place : (s t : Sign) (p : ℕ) (v w : ℤ) (g : Spot) (cs : List Crossing) → crossing s t (spot p v) g cs ≡ crossing s t (spot p w) g cs
from_place below below p v w g cs = refl
from_place below level p v w g cs = refl
from_place below above p v w g cs = refl
from_place level t p v w g cs = refl
from_place above below p v w g cs = refl
from_place above level p v w g cs = refl
from_place above above p v w g cs = refl

-- from a sample off the height on, and where there is none before
one_away : (h : ℤ) (p : ℕ) (v : ℤ) (gs : List Spot) → crossings_of h (spot p v ∷ gs) ≡ crossings_from h (side v h) (spot p h) gs
unfolding crossings_of crossings_from
one_away h p v [] = refl
one_away h p v (g ∷ gs) = from_place (side v h) (side g.value h) p v h g (crossings_of h (g ∷ gs))

none_away : (h : ℤ) (f : Spot) (gs : List Spot) → crossings_of h gs ≡ crossings_from h level f gs
unfolding crossings_of crossings_from
none_away h f [] = refl
none_away h f (g ∷ gs) = refl

-- a sample at the height
pub crossings_level : (h : ℤ) (s : Option (Ordering × ℕ)) (n : ℕ) (x : ℤ) (rest : List ℤ) → x ≡ h → crossings_ahead (crossing_finder h s) n (x ∷ rest) ≡ crossings_ahead (crossing_finder h s) (n + 1) rest
unfolding crossings_ahead away
crossings_level h s n x rest e =
    ap (λ t. crossings_from h (seen_side s) (spot (seen_place s) h) (keep t (spot n x) (away h (suc n) rest))) (level_side x h e)
    ∙ ap (λ m. crossings_from h (seen_side s) (spot (seen_place s) h) (away h m rest)) (sym (add-one n))

-- a sample off the height, on the side t
off_height : (h : ℤ) (s t : Sign) (p n : ℕ) (x : ℤ) (rest : List ℤ) → side x h ≡ t → ((gs : List Spot) → keep t (spot n x) gs ≡ spot n x ∷ gs) → crossings_from h s (spot p h) (away h n (x ∷ rest)) ≡ crossing s t (spot p h) (spot n x) (crossings_from h t (spot n h) (away h (n + 1) rest))
unfolding away crossings_from
off_height h s t p n x rest e k =
    let gs = away h (suc n) rest in
    ap (λ u. crossings_from h s (spot p h) (keep u (spot n x) gs)) e
    ∙ ap (crossings_from h s (spot p h)) (k gs)
    ∙ ap (λ u. crossing s u (spot p h) (spot n x) (crossings_of h (spot n x ∷ gs))) e
    ∙ ap (crossing s t (spot p h) (spot n x)) (one_away h n x gs ∙ ap (λ u. crossings_from h u (spot n h) gs) e)
    ∙ ap (λ m. crossing s t (spot p h) (spot n x) (crossings_from h t (spot n h) (away h m rest))) (sym (add-one n))

pub crossings_on : (h : ℤ) (s : Option (Ordering × ℕ)) (o : Ordering) (n : ℕ) (x : ℤ) (rest : List ℤ) → o ≡ int_cmp x h → is_eq o ≡ false → crossings_ahead (crossing_finder h s) n (x ∷ rest) ≡ crossing (seen_side s) (sign_of o) (spot (seen_place s) h) (spot n x) (crossings_ahead (crossing_finder h (Some (o, n))) (n + 1) rest)
unfolding crossings_ahead
crossings_on h s Less n x rest e other = off_height h (seen_side s) below (seen_place s) n x rest (under_side x h (int_ranked x h Less e)) (λ gs. refl)
crossings_on h s Equal n x rest e other = absurd (true≢false other)
crossings_on h s Greater n x rest e other = off_height h (seen_side s) above (seen_place s) n x rest (over_side x h (int_ranked x h Greater e)) (λ gs. refl)

-- with nothing seen it finds all
pub crossings_all : (k h : ℤ) (xs : List ℤ) → k ≡ h → crossings_ahead (crossing_finder k None) 0 xs ≡ crossings h xs
unfolding crossings crossings_ahead
crossings_all k h xs e = ap (λ j. crossings_ahead (crossing_finder j None) 0 xs) e ∙ sym (none_away h (spot 0 h) (away h 0 xs))

pub crossed_all : (xs : List ℤ) (s : ℕ) (c : ℤ) (found : List Crossing) (room : ℕ) (r : Result ℕ Refusal) → scale_lawful s ≡ true → height_lawful c ≡ true → found ≡ crossings (c *ℤ pos s) xs → r ≡ listed found room → r ≡ crossed xs s c room
crossed_all xs s c found room r e h all l = listed_as found (crossings (c *ℤ pos s) xs) room r all l ∙ sym (cond-true (scale_lawful s && height_lawful c) _ _ (and_from _ _ e h))
