-- What the finder of turns still has to give, one sample on.
use Rattle.std.proofs.Common.{◌≡◌, ℕ, suc, ◌+◌, List, [], ◌∷◌, get_or, ℤ, pos, ◌<ℤ◌, sym, refl, ap, ◌∙◌, add-one}
use Rattle.scale_space.specs.declared.turns.Turn.{Turn}
use Rattle.scale_space.specs.Signs.{Sign, below, level, above, side, keep}
use Rattle.scale_space.specs.Turns.{Spot, spot, flats_after, flats, ridge, hollow, turning, turns_of, turns}
use Rattle.samples.specs.declared.turns.Heading.{Heading}
use Rattle.samples.specs.declared.turns.Heading.TheVariants.{Level, Rising, Falling}
use Rattle.samples.specs.declared.turns.TurnFinder.{TurnFinder}
use Rattle.samples.specs.Finders.{came_from, turns_from, turns_ahead}
use Rattle.scale_space.proofs.Sides.{under_side, level_side, over_side}

abbrev pub turn_finder : Heading → ℕ → ℤ → TurnFinder
turn_finder h p v = record { heading = h; place = p; last = v }

-- the flats g and h, and then the others
two_flats : (g h : Spot) (fs : List Spot) → turns_of (g ∷ h ∷ fs) ≡ turns_from (side h.value g.value) h fs
unfolding turns_of turns_from
two_flats g h [] = refl
two_flats g h (k ∷ fs) = refl

first_flat : (g : Spot) (fs : List Spot) → turns_of (g ∷ fs) ≡ turns_from level g fs
unfolding turns_of turns_from
first_flat g [] = refl
first_flat g (h ∷ fs) = refl

-- a sample that is level with the flat
pub turns_level : (h : Heading) (p : ℕ) (v : ℤ) (n : ℕ) (x : ℤ) (rest : List ℤ) → x ≡ v → turns_ahead (turn_finder h p v) n (x ∷ rest) ≡ turns_ahead (turn_finder h p v) (n + 1) rest
unfolding turns_ahead flats_after
turns_level h p v n x rest e =
    ap (λ s. turns_from (came_from h) (spot p v) (keep s (spot n x) (flats_after x (suc n) rest))) (level_side x v e)
    ∙ ap (λ w. turns_from (came_from h) (spot p v) (flats_after w (suc n) rest)) e
    ∙ ap (λ m. turns_from (came_from h) (spot p v) (flats_after v m rest)) (sym (add-one n))

-- a new flat begins at n: it lies so to the old one, and the old one so to it
new_flat : (s t u : Sign) (p : ℕ) (v : ℤ) (n : ℕ) (x : ℤ) (rest : List ℤ) → side x v ≡ t → side v x ≡ u → ((fs : List Spot) → keep t (spot n x) fs ≡ spot n x ∷ fs) → turns_from s (spot p v) (flats_after v n (x ∷ rest)) ≡ turning s u (spot p v) (turns_from t (spot n x) (flats_after x (n + 1) rest))
unfolding flats_after turns_from
new_flat s t u p v n x rest d e k =
    let fs = flats_after x (suc n) rest in
    ap (λ w. turns_from s (spot p v) (keep w (spot n x) fs)) d
    ∙ ap (turns_from s (spot p v)) (k fs)
    ∙ ap (λ w. turning s w (spot p v) (turns_of (spot p v ∷ spot n x ∷ fs))) e
    ∙ ap (turning s u (spot p v)) (two_flats (spot p v) (spot n x) fs ∙ ap (λ w. turns_from w (spot n x) fs) d)
    ∙ ap (λ m. turning s u (spot p v) (turns_from t (spot n x) (flats_after x m rest))) (sym (add-one n))

turns_higher : (h : Heading) (p : ℕ) (v : ℤ) (n : ℕ) (x : ℤ) (rest : List ℤ) → v <ℤ x → turns_ahead (turn_finder h p v) n (x ∷ rest) ≡ turning (came_from h) below (spot p v) (turns_ahead (turn_finder Rising n x) (n + 1) rest)
unfolding turns_ahead
turns_higher h p v n x rest l = new_flat (came_from h) above below p v n x rest (over_side x v l) (under_side v x l) (λ fs. refl)

turns_lower : (h : Heading) (p : ℕ) (v : ℤ) (n : ℕ) (x : ℤ) (rest : List ℤ) → x <ℤ v → turns_ahead (turn_finder h p v) n (x ∷ rest) ≡ turning (came_from h) above (spot p v) (turns_ahead (turn_finder Falling n x) (n + 1) rest)
unfolding turns_ahead
turns_lower h p v n x rest l = new_flat (came_from h) below above p v n x rest (under_side x v l) (over_side v x l) (λ fs. refl)

-- the four ways to a new flat
pub rising_on : (h : Heading) (p : ℕ) (v : ℤ) (n : ℕ) (x : ℤ) (rest : List ℤ) → v <ℤ x → (h ≡ Falling → ⊥) → turns_ahead (turn_finder h p v) n (x ∷ rest) ≡ turns_ahead (turn_finder Rising n x) (n + 1) rest
rising_on Level p v n x rest l other = turns_higher Level p v n x rest l
rising_on Rising p v n x rest l other = turns_higher Rising p v n x rest l
rising_on Falling p v n x rest l other = absurd (other refl)

pub falling_on : (h : Heading) (p : ℕ) (v : ℤ) (n : ℕ) (x : ℤ) (rest : List ℤ) → x <ℤ v → (h ≡ Rising → ⊥) → turns_ahead (turn_finder h p v) n (x ∷ rest) ≡ turns_ahead (turn_finder Falling n x) (n + 1) rest
falling_on Level p v n x rest l other = turns_lower Level p v n x rest l
falling_on Rising p v n x rest l other = absurd (other refl)
falling_on Falling p v n x rest l other = turns_lower Falling p v n x rest l

pub up_again : (h : Heading) (p : ℕ) (v : ℤ) (n : ℕ) (x : ℤ) (rest : List ℤ) (t : Turn) → v <ℤ x → h ≡ Falling → t ≡ hollow (spot p v) → turns_ahead (turn_finder h p v) n (x ∷ rest) ≡ t ∷ turns_ahead (turn_finder Rising n x) (n + 1) rest
up_again h p v n x rest t l e d =
    turns_higher h p v n x rest l
    ∙ ap (λ g. turning (came_from g) below (spot p v) (turns_ahead (turn_finder Rising n x) (n + 1) rest)) e
    ∙ ap (λ u. u ∷ turns_ahead (turn_finder Rising n x) (n + 1) rest) (sym d)

pub down_again : (h : Heading) (p : ℕ) (v : ℤ) (n : ℕ) (x : ℤ) (rest : List ℤ) (t : Turn) → x <ℤ v → h ≡ Rising → t ≡ ridge (spot p v) → turns_ahead (turn_finder h p v) n (x ∷ rest) ≡ t ∷ turns_ahead (turn_finder Falling n x) (n + 1) rest
down_again h p v n x rest t l e d =
    turns_lower h p v n x rest l
    ∙ ap (λ g. turning (came_from g) above (spot p v) (turns_ahead (turn_finder Falling n x) (n + 1) rest)) e
    ∙ ap (λ u. u ∷ turns_ahead (turn_finder Falling n x) (n + 1) rest) (sym d)

-- level with the first sample, it finds all
pub turns_all : (xs : List ℤ) (v : ℤ) → v ≡ get_or xs 0 (pos 0) → turns_ahead (turn_finder Level 0 v) 0 xs ≡ turns xs
unfolding turns flats turns_of turns_ahead turns_from flats_after
turns_all [] v e = refl
turns_all (x ∷ xs) v e =
    ap (λ s. turns_from level (spot 0 v) (keep s (spot 0 x) (flats_after x 1 xs))) (level_side x v (sym e))
    ∙ ap (λ w. turns_from level (spot 0 w) (flats_after x 1 xs)) e
    ∙ sym (first_flat (spot 0 x) (flats_after x 1 xs))
