-- The turns of samples: never more than there are samples, and each with a sample's place and numerator.
use Rattle.std.proofs.Common.{◌≡◌, ℕ, suc, ◌+◌, ◌*◌, ◌<◌, ◌≤◌, true, List, [], ◌∷◌, length, ℤ, nat_abs, arith}
use Rattle.std.specs.List.{AllByRecursion}
use Rattle.std.proofs.lemmas.Bool.{leb-true, and_parts}
use Rattle.scale_space.specs.declared.turns.Turn.{Turn}
use Rattle.scale_space.specs.Signs.{Sign, below, level, above, side, keep}
use Rattle.scale_space.specs.Turns.{Spot, spot, flats_after, flats, turning, turns_of, turns}
use Rattle.samples.specs.Answers.{heights_fit}

-- ---- never more
keep_few : {A : Type 0} (s : Sign) (x : A) (xs : List A) → length (keep s x xs) ≤ 1 + length xs
keep_few below x xs = omega arith
keep_few level x xs = omega arith
keep_few above x xs = omega arith

flats_few : (v : ℤ) (n : ℕ) (xs : List ℤ) → length (flats_after v n xs) ≤ length xs
unfolding flats_after
flats_few v n [] = omega arith
flats_few v n (x ∷ xs) = omega (arith, keep_few (side x v) (spot n x) (flats_after x (suc n) xs), flats_few x (suc n) xs)

turning_few : (s t : Sign) (g : Spot) (ts : List Turn) → length (turning s t g ts) ≤ 1 + length ts
turning_few below below g ts = omega arith
turning_few below level g ts = omega arith
turning_few below above g ts = omega arith
turning_few level t g ts = omega arith
turning_few above below g ts = omega arith
turning_few above level g ts = omega arith
turning_few above above g ts = omega arith

turns_of_few : (fs : List Spot) → length (turns_of fs) ≤ length fs
unfolding turns_of
turns_of_few [] = omega arith
turns_of_few (f ∷ []) = omega arith
turns_of_few (f ∷ g ∷ []) = omega arith
turns_of_few (f ∷ g ∷ h ∷ fs) = omega (arith, turning_few (side g.value f.value) (side g.value h.value) g (turns_of (g ∷ h ∷ fs)), turns_of_few (g ∷ h ∷ fs))

pub turns_few : (xs : List ℤ) → length (turns xs) ≤ length xs
unfolding turns flats
turns_few [] = turns_of_few []
turns_few (x ∷ xs) = omega (arith, turns_of_few (spot 0 x ∷ flats_after x 1 xs), flats_few x 1 xs)

-- ---- what holds of each
module _ (P : Spot → Type 0) where
  keep_each : (s : Sign) (g : Spot) (fs : List Spot) → P g → AllByRecursion P fs → AllByRecursion P (keep s g fs)
  keep_each below g fs p h = (p, h)
  keep_each level g fs p h = h
  keep_each above g fs p h = (p, h)

  abbrev OfTurn : Turn → Type 0
  OfTurn t = P (spot t.place t.numerator)

  turning_each : (s t : Sign) (g : Spot) (ts : List Turn) → P g → AllByRecursion OfTurn ts → AllByRecursion OfTurn (turning s t g ts)
  turning_each below below g ts p h = (p, h)
  turning_each below level g ts p h = h
  turning_each below above g ts p h = h
  turning_each level t g ts p h = h
  turning_each above below g ts p h = h
  turning_each above level g ts p h = h
  turning_each above above g ts p h = (p, h)

  turns_of_each : (fs : List Spot) → AllByRecursion P fs → AllByRecursion OfTurn (turns_of fs)
  unfolding turns_of
  turns_of_each [] h = tt
  turns_of_each (f ∷ []) h = tt
  turns_of_each (f ∷ g ∷ []) h = tt
  turns_of_each (f ∷ g ∷ h ∷ fs) p = turning_each (side g.value f.value) (side g.value h.value) g (turns_of (g ∷ h ∷ fs)) p.1.0 (turns_of_each (g ∷ h ∷ fs) p.1)

module _ (R : ℤ → Type 0) (m : ℕ) where
  -- a sample before the place m
  abbrev Sample : Spot → Type 0
  Sample g = (g.place < m) × R g.value

  flats_each : (v : ℤ) (n : ℕ) (xs : List ℤ) → n + length xs ≤ m → AllByRecursion R xs → AllByRecursion Sample (flats_after v n xs)
  unfolding flats_after
  flats_each v n [] l h = tt
  flats_each v n (x ∷ xs) l h = keep_each Sample (side x v) (spot n x) (flats_after x (suc n) xs) (omega arith, h.0) (flats_each x (suc n) xs (omega arith) h.1)

pub turns_each : (R : ℤ → Type 0) (xs : List ℤ) → AllByRecursion R xs → AllByRecursion (λ t. (t.place < length xs) × R t.numerator) (turns xs)
unfolding turns flats
turns_each R [] h = turns_of_each (Sample R 0) [] tt
turns_each R (x ∷ xs) h = turns_of_each (Sample R (length (x ∷ xs))) (spot 0 x ∷ flats_after x 1 xs) ((omega arith, h.0), flats_each R (length (x ∷ xs)) x 1 xs (omega arith) h.1)

pub all_fit : (s : ℕ) (xs : List ℤ) → heights_fit s xs ≡ true → AllByRecursion (λ x. nat_abs x ≤ 100000 * s) xs
all_fit s [] e = tt
all_fit s (x ∷ xs) e = (leb-true _ _ (and_parts _ _ e).0, all_fit s xs (and_parts _ _ e).1)
