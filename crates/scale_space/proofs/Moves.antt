-- From a law of taps: the windows have no more turns than the samples, and no more crossings of a height.
use Rattle.std.proofs.Common.{◌≡◌, ℕ, suc, ◌+◌, ◌*◌, ◌<◌, ◌≤◌, ◌⊎◌, List, [], ◌∷◌, map, length, ℤ, pos, ◌+ℤ◌, ◌-ℤ◌, ◌*ℤ◌, sym, refl, ap, ◌∙◌, subst, inl, inr, arith}
use lib.IntN.{+ℤ_idr, *ℤ-zero, *ℤ_comm}
use lib.ListN.{length-map}
use borrow.Author.Differences.{ints}
use Rattle.std.proofs.lemmas.Bool.{cases_lt}
use Rattle.scale_space.specs.Signs.{changes, differences}
use Rattle.scale_space.specs.Taps.{dot, windows, scale}
use Rattle.scale_space.specs.Turns.{turns}
use Rattle.scale_space.specs.Crossings.{crossings}
use Rattle.scale_space.proofs.Ring.{*ℤ-+ℤ, *ℤ-assoc, times_minus}
use Rattle.scale_space.proofs.Windows.{windows_cons, windows_short, windows_length}
use Rattle.scale_space.specs.Levels.{Diminishing}
use Rattle.scale_space.proofs.Counts.{turns_count, crossings_count}

four_minus : (p q r s : ℤ) → (p -ℤ q) +ℤ (r -ℤ s) ≡ (p +ℤ r) -ℤ (q +ℤ s)
four_minus p q r s = omega (arith, ints)

length_differences : (x : ℤ) (xs : List ℤ) → length (differences (x ∷ xs)) ≡ length xs
unfolding differences
length_differences x [] = refl
length_differences x (y ∷ ys) = ap suc (length_differences y ys)

-- the taps over the differences: the taps one place on, less the taps here
dot_differences : (ts : List ℕ) (x y : ℤ) (ys : List ℤ) → length ts ≤ suc (length ys) → dot ts (differences (x ∷ y ∷ ys)) ≡ dot ts (y ∷ ys) -ℤ dot ts (x ∷ y ∷ ys)
unfolding dot differences
dot_differences [] x y ys h = refl
dot_differences (t ∷ []) x y ys h =
    +ℤ_idr (pos t *ℤ (y -ℤ x)) ∙ times_minus t y x ∙ (λ i. sym (+ℤ_idr (pos t *ℤ y)) i -ℤ sym (+ℤ_idr (pos t *ℤ x)) i)
dot_differences (t ∷ s ∷ ts) x y [] h = absurd (omega arith)
dot_differences (t ∷ s ∷ ts) x y (z ∷ zs) h =
    (λ i. times_minus t y x i +ℤ dot_differences (s ∷ ts) y z zs (omega arith) i)
    ∙ four_minus (pos t *ℤ y) (pos t *ℤ x) (dot (s ∷ ts) (z ∷ zs)) (dot (s ∷ ts) (y ∷ z ∷ zs))

differences_short : (xs : List ℤ) → length xs ≤ 1 → differences xs ≡ []
unfolding differences
differences_short [] h = refl
differences_short (x ∷ []) h = refl
differences_short (x ∷ y ∷ xs) h = absurd (omega arith)

pub differences_windows : (t : ℕ) (ts : List ℕ) (xs : List ℤ) → differences (windows (t ∷ ts) xs) ≡ windows (t ∷ ts) (differences xs)
unfolding differences
differences_windows t ts [] = ap differences (windows_short (t ∷ ts) [] (omega arith)) ∙ sym (windows_short (t ∷ ts) [] (omega arith))
differences_windows t ts (x ∷ []) = differences_short (windows (t ∷ ts) (x ∷ [])) (omega (arith, windows_length t ts (x ∷ []))) ∙ sym (windows_short (t ∷ ts) [] (omega arith))
differences_windows t ts (x ∷ y ∷ ys) = go (differences_windows t ts (y ∷ ys)) (cases_lt (length ys) (length ts))
  where
    go : differences (windows (t ∷ ts) (y ∷ ys)) ≡ windows (t ∷ ts) (differences (y ∷ ys)) → (length ys < length ts) ⊎ (length ts ≤ length ys) → differences (windows (t ∷ ts) (x ∷ y ∷ ys)) ≡ windows (t ∷ ts) (differences (x ∷ y ∷ ys))
    go ih (inl h) =
        differences_short (windows (t ∷ ts) (x ∷ y ∷ ys)) (omega (arith, windows_length t ts (x ∷ y ∷ ys)))
        ∙ sym (windows_short (t ∷ ts) ((y -ℤ x) ∷ differences (y ∷ ys)) (omega (arith, length_differences y ys)))
    go ih (inr h) =
        let v = windows_cons (t ∷ ts) y ys (omega arith) in
        let w = windows_cons (t ∷ ts) x (y ∷ ys) (omega arith) in
        ap differences (w ∙ ap (λ l. dot (t ∷ ts) (x ∷ y ∷ ys) ∷ l) v)
        ∙ (λ i. sym (dot_differences (t ∷ ts) x y ys (omega arith)) i ∷ (ap differences (sym v) ∙ ih) i)
        ∙ sym (windows_cons (t ∷ ts) (y -ℤ x) (differences (y ∷ ys)) (omega (arith, length_differences y ys)))

pub diminishing_turns : (t : ℕ) (ts : List ℕ) → Diminishing (t ∷ ts) → (xs : List ℤ) → length (turns (windows (t ∷ ts) xs)) ≤ length (turns xs)
diminishing_turns t ts law xs =
    let e = turns_count (windows (t ∷ ts) xs) ∙ ap changes (differences_windows t ts xs) in
    omega (arith, turns_count xs, law (differences xs))

-- ---- heights
dot_less : (h : ℤ) (ts : List ℕ) (xs : List ℤ) → length ts ≤ length xs → dot ts (map (λ x. x -ℤ h) xs) ≡ dot ts xs -ℤ h *ℤ pos (scale ts)
unfolding dot scale
dot_less h [] xs k = ap (λ w. pos 0 -ℤ w) (sym (*ℤ-zero h))
dot_less h (t ∷ ts) [] k = absurd (omega arith)
dot_less h (t ∷ ts) (x ∷ xs) k =
    let e : pos t *ℤ h +ℤ h *ℤ pos (scale ts) ≡ h *ℤ pos (t + scale ts) = ap (λ w. w +ℤ h *ℤ pos (scale ts)) (*ℤ_comm (pos t) h) ∙ sym (*ℤ-+ℤ h (pos t) (pos (scale ts))) in
    (λ i. times_minus t x h i +ℤ dot_less h ts xs (omega arith) i)
    ∙ four_minus (pos t *ℤ x) (pos t *ℤ h) (dot ts xs) (h *ℤ pos (scale ts))
    ∙ ap (λ w. pos t *ℤ x +ℤ dot ts xs -ℤ w) e

-- the windows of the samples less h are the windows less h times the scale
pub windows_less : (h : ℤ) (ts : List ℕ) (xs : List ℤ) → windows ts (map (λ x. x -ℤ h) xs) ≡ map (λ y. y -ℤ h *ℤ pos (scale ts)) (windows ts xs)
unfolding windows
windows_less h ts [] = refl
windows_less h ts (x ∷ xs) = go (windows_less h ts xs) (cases_lt (length (x ∷ xs)) (length ts))
  where
    less : List ℤ → List ℤ
    less ys = map (λ y. y -ℤ h) ys

    lessened : List ℤ → List ℤ
    lessened ys = map (λ y. y -ℤ h *ℤ pos (scale ts)) ys

    go : windows ts (less xs) ≡ lessened (windows ts xs) → (suc (length xs) < length ts) ⊎ (length ts ≤ suc (length xs)) → windows ts (less (x ∷ xs)) ≡ lessened (windows ts (x ∷ xs))
    go ih (inl k) =
        windows_short ts (less (x ∷ xs)) (omega (arith, length-map xs (λ y. y -ℤ h)))
        ∙ ap lessened (sym (windows_short ts (x ∷ xs) k))
    go ih (inr k) =
        windows_cons ts (x -ℤ h) (less xs) (omega (arith, length-map xs (λ y. y -ℤ h)))
        ∙ (λ i. dot_less h ts (x ∷ xs) k i ∷ ih i)
        ∙ ap lessened (sym (windows_cons ts x xs k))

-- the height h of the samples is the height h times the scale of the windows
pub diminishing_crossings : (ts : List ℕ) → Diminishing ts → (h : ℤ) (xs : List ℤ) → length (crossings (h *ℤ pos (scale ts)) (windows ts xs)) ≤ length (crossings h xs)
diminishing_crossings ts law h xs =
    let e = crossings_count (h *ℤ pos (scale ts)) (windows ts xs) ∙ ap changes (sym (windows_less h ts xs)) in
    omega (arith, crossings_count h xs, law (map (λ x. x -ℤ h) xs))

-- the same for the whole height c at the scale m of the samples
pub diminishing_heights : (ts : List ℕ) → Diminishing ts → (c : ℤ) (m : ℕ) (xs : List ℤ) → length (crossings (c *ℤ pos (m * scale ts)) (windows ts xs)) ≤ length (crossings (c *ℤ pos m) xs)
diminishing_heights ts law c m xs = subst (λ h. length (crossings h (windows ts xs)) ≤ length (crossings (c *ℤ pos m) xs)) (*ℤ-assoc c (pos m) (pos (scale ts))) (diminishing_crossings ts law (c *ℤ pos m) xs)
