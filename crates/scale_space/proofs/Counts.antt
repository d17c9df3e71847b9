-- The turns are as many as the sign changes of the differences, and the crossings of h as those of the samples less h.
use Rattle.std.proofs.Common.{◌≡◌, ℕ, suc, ◌+◌, List, [], ◌∷◌, map, length, ℤ, ◌-ℤ◌, sym, refl, ap, ◌∙◌, arith}
use Rattle.scale_space.specs.Signs.{Sign, below, level, above, side, clash, keep, nonzero, opposites, changes, differences}
use Rattle.scale_space.specs.declared.turns.Turn.{Turn}
use Rattle.scale_space.specs.declared.crossings.Crossing.{Crossing}
use Rattle.scale_space.specs.Turns.{Spot, spot, flats_after, flats, turning, turns_of, turns}
use Rattle.scale_space.specs.Crossings.{away, crossing, crossings_of, crossings}
use Rattle.scale_space.proofs.Sides.{flip, level_same, side_flip}
use Rattle.scale_space.proofs.Walk.{next, run, changes_run, clash_level}

-- ---- turns
turning_length : (s t : Sign) (g : Spot) (ts : List Turn) → length (turning s (flip t) g ts) ≡ clash s t + length ts
unfolding flip
turning_length below below g ts = omega arith
turning_length below level g ts = omega arith
turning_length below above g ts = omega arith
turning_length level t g ts = omega arith
turning_length above below g ts = omega arith
turning_length above level g ts = omega arith
turning_length above above g ts = omega arith

turning_more : (s t : Sign) (g h : Spot) (ts : List Turn) (m : ℕ) → side h.value g.value ≡ t → length ts ≡ m → length (turning s (side g.value h.value) g ts) ≡ clash s t + m
turning_more s t g h ts m q j =
    ap (λ w. length (turning s w g ts)) (side_flip h.value g.value ∙ ap flip q)
    ∙ turning_length s t g ts
    ∙ ap (λ k. clash s t + k) j

-- f and g are the flats passed, g of the value v; what is left begins at the place n
turns_after : (f g : Spot) (v : ℤ) (n : ℕ) (xs : List ℤ) → g.value ≡ v → length (turns_of (f ∷ g ∷ flats_after v n xs)) ≡ run (side g.value f.value) (differences (v ∷ xs))
unfolding turns_of flats_after differences run
turns_after f g v n [] e = refl
turns_after f g v n (x ∷ xs) e =
    go (side x v) refl (λ k. turns_after f g x (suc n) xs k) (turns_after g (spot n x) x (suc n) xs refl)
  where
    s : Sign
    s = side g.value f.value

    go : (t : Sign) → side x v ≡ t → (g.value ≡ x → length (turns_of (f ∷ g ∷ flats_after x (suc n) xs)) ≡ run s (differences (x ∷ xs))) → length (turns_of (g ∷ spot n x ∷ flats_after x (suc n) xs)) ≡ run (side x g.value) (differences (x ∷ xs)) → length (turns_of (f ∷ g ∷ keep t (spot n x) (flats_after x (suc n) xs))) ≡ clash s t + run (next s t) (differences (x ∷ xs))
    go below k i j = let q = ap (side x) e ∙ k in turning_more s below g (spot n x) (turns_of (g ∷ spot n x ∷ flats_after x (suc n) xs)) (run below (differences (x ∷ xs))) q (j ∙ ap (λ w. run w (differences (x ∷ xs))) q)
    go level k i j = i (e ∙ sym (level_same x v k)) ∙ omega (arith, clash_level s)
    go above k i j = let q = ap (side x) e ∙ k in turning_more s above g (spot n x) (turns_of (g ∷ spot n x ∷ flats_after x (suc n) xs)) (run above (differences (x ∷ xs))) q (j ∙ ap (λ w. run w (differences (x ∷ xs))) q)

-- the same where f is the first flat
turns_first : (f : Spot) (v : ℤ) (n : ℕ) (xs : List ℤ) → f.value ≡ v → length (turns_of (f ∷ flats_after v n xs)) ≡ run level (differences (v ∷ xs))
unfolding turns_of flats_after differences run
turns_first f v n [] e = refl
turns_first f v n (x ∷ xs) e =
    go (side x v) refl (λ k. turns_first f x (suc n) xs k) (turns_after f (spot n x) x (suc n) xs refl)
  where
    go : (t : Sign) → side x v ≡ t → (f.value ≡ x → length (turns_of (f ∷ flats_after x (suc n) xs)) ≡ run level (differences (x ∷ xs))) → length (turns_of (f ∷ spot n x ∷ flats_after x (suc n) xs)) ≡ run (side x f.value) (differences (x ∷ xs)) → length (turns_of (f ∷ keep t (spot n x) (flats_after x (suc n) xs))) ≡ clash level t + run (next level t) (differences (x ∷ xs))
    go below k i j = j ∙ ap (λ w. run w (differences (x ∷ xs))) (ap (side x) e ∙ k) ∙ omega arith
    go level k i j = i (e ∙ sym (level_same x v k)) ∙ omega arith
    go above k i j = j ∙ ap (λ w. run w (differences (x ∷ xs))) (ap (side x) e ∙ k) ∙ omega arith

pub turns_count : (xs : List ℤ) → length (turns xs) ≡ changes (differences xs)
unfolding turns flats turns_of differences changes
turns_count [] = refl
turns_count (x ∷ xs) = turns_first (spot 0 x) x 1 xs refl ∙ sym (changes_run (differences (x ∷ xs)))

-- ---- crossings
crossing_length : (s t : Sign) (f g : Spot) (cs : List Crossing) → length (crossing s t f g cs) ≡ clash s t + length cs
crossing_length below below f g cs = omega arith
crossing_length below level f g cs = omega arith
crossing_length below above f g cs = omega arith
crossing_length level t f g cs = omega arith
crossing_length above below f g cs = omega arith
crossing_length above level f g cs = omega arith
crossing_length above above f g cs = omega arith

less : ℤ → List Spot → List ℤ
less h fs = map (λ f. f.value -ℤ h) fs

crossings_opposites : (h : ℤ) (fs : List Spot) → length (crossings_of h fs) ≡ opposites (less h fs)
unfolding crossings_of less
crossings_opposites h [] = refl
crossings_opposites h (f ∷ []) = refl
crossings_opposites h (f ∷ g ∷ fs) = crossing_length (side f.value h) (side g.value h) f g (crossings_of h (g ∷ fs)) ∙ ap (λ k. clash (side f.value h) (side g.value h) + k) (crossings_opposites h (g ∷ fs))

keep_less : (t : Sign) (h : ℤ) (n : ℕ) (x : ℤ) (fs : List Spot) → less h (keep t (spot n x) fs) ≡ keep t (x -ℤ h) (less h fs)
unfolding less
keep_less below h n x fs = refl
keep_less level h n x fs = refl
keep_less above h n x fs = refl

away_nonzero : (h : ℤ) (n : ℕ) (xs : List ℤ) → less h (away h n xs) ≡ nonzero (map (λ x. x -ℤ h) xs)
unfolding away less
away_nonzero h n [] = refl
away_nonzero h n (x ∷ xs) = keep_less (side x h) h n x (away h (suc n) xs) ∙ ap (keep (side x h) (x -ℤ h)) (away_nonzero h (suc n) xs)

pub crossings_count : (h : ℤ) (xs : List ℤ) → length (crossings h xs) ≡ changes (map (λ x. x -ℤ h) xs)
unfolding crossings changes
crossings_count h xs = crossings_opposites h (away h 0 xs) ∙ ap opposites (away_nonzero h 0 xs)
