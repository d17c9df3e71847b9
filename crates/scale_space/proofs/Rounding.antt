-- A map that keeps order adds no turn, and one that also takes the multiples of s to whole numbers adds no crossing of these; so does rounding.
use Rattle.std.proofs.Common.{◌≡◌, ℕ, ◌+◌, ◌-◌, ◌*◌, ◌/◌, ◌<◌, ◌≤◌, ◌⊎◌, List, [], ◌∷◌, map, length, ℤ, pos, negsuc, ◌+ℤ◌, ◌-ℤ◌, ◌*ℤ◌, ◌≤ℤ◌, ◌<ℤ◌, sym, refl, ap, ◌∙◌, subst, inl, inr, le_trans, le-div_iff_mul-le, div-mul-le_self, arith}
use native.Mathlib.Nat.{div-eq_of_lt-le, lt-div-mul-add}
use lib.IntN.{+ℤ_invr, *ℤ_comm}
use borrow.Author.Differences.{ints}
use Rattle.std.specs.Int.{int_div_euclid}
use Rattle.scale_space.specs.Signs.{Sign, below, level, above, sign, side, changes, differences}
use Rattle.scale_space.specs.Turns.{turns}
use Rattle.scale_space.specs.Crossings.{crossings}
use Rattle.scale_space.specs.Rounding.{rounded, KeepsOrder, Rounds}
use Rattle.scale_space.proofs.Ring.{times_times}
use Rattle.scale_space.proofs.Walk.{Said, stop, read, say, next, Seen, seen_next, said_changes}
use Rattle.scale_space.proofs.Counts.{turns_count, crossings_count}
use Rattle.scale_space.proofs.Sides.{level_same, side_over, side_under, side_at_least, side_at_most}

-- each number of ys is zero, or has the sign of the number of xs at its place
pub data Fainter : List ℤ → List ℤ → Type 0 where
  none : Fainter [] []
  more : {x y : ℤ} {xs ys : List ℤ} → Seen (sign x) y → Fainter xs ys → Fainter (x ∷ xs) (y ∷ ys)

fainter_said : {xs ys : List ℤ} (u : Sign) → Fainter xs ys → Said u xs ys
fainter_said u none = stop
fainter_said u (more {x = x} {y = y} s f) = read (say (go s (seen_next u x)) (fainter_said (next u (sign x)) f))
  where
    go : Seen (sign x) y → Seen (next u (sign x)) x → Seen (next u (sign x)) y
    go (inl e) t = inl e
    go (inr e) (inl t) = inl (e ∙ t)
    go (inr e) (inr t) = inr (e ∙ t)

pub fainter_changes : (xs ys : List ℤ) → Fainter xs ys → changes ys ≤ changes xs
fainter_changes xs ys f = said_changes xs ys (fainter_said level f)

-- ---- maps that keep order
kept_side : (r : ℤ → ℤ) → KeepsOrder r → (x y : ℤ) → Seen (side x y) (r x -ℤ r y)
kept_side r k x y = go (side x y) refl
  where
    go : (t : Sign) → side x y ≡ t → (side (r x) (r y) ≡ level) ⊎ (side (r x) (r y) ≡ t)
    go below e = side_at_most (r x) (r y) (k x y (let h = side_under x y e in omega (arith, ints)))
    go level e = inl (ap (λ z. side (r x) (r z)) (sym (level_same x y e)) ∙ ap sign (+ℤ_invr (r x)))
    go above e = side_at_least (r x) (r y) (k y x (let h = side_over x y e in omega (arith, ints)))

kept_differences : (r : ℤ → ℤ) → KeepsOrder r → (xs : List ℤ) → Fainter (differences xs) (differences (map r xs))
unfolding differences
kept_differences r k [] = none
kept_differences r k (x ∷ []) = none
kept_differences r k (x ∷ y ∷ xs) = more (kept_side r k y x) (kept_differences r k (y ∷ xs))

pub kept_turns : (r : ℤ → ℤ) → KeepsOrder r → (xs : List ℤ) → length (turns (map r xs)) ≤ length (turns xs)
kept_turns r k xs = omega (arith, turns_count xs, turns_count (map r xs), fainter_changes (differences xs) (differences (map r xs)) (kept_differences r k xs))

-- ---- maps that keep order, and take c times s to c
pub rounds_at_most : (s : ℕ) (r : ℤ → ℤ) → Rounds s r → (c n : ℤ) → n ≤ℤ (c *ℤ pos s) → r n ≤ℤ c
rounds_at_most s r k c n h = subst (λ z. r n ≤ℤ z) (k.fixed c) (k.order n (c *ℤ pos s) h)

pub rounds_at_least : (s : ℕ) (r : ℤ → ℤ) → Rounds s r → (c n : ℤ) → (c *ℤ pos s) ≤ℤ n → c ≤ℤ r n
rounds_at_least s r k c n h = subst (λ z. z ≤ℤ r n) (k.fixed c) (k.order (c *ℤ pos s) n h)

kept_heights : (s : ℕ) (r : ℤ → ℤ) → Rounds s r → (c : ℤ) (xs : List ℤ) → Fainter (map (λ x. x -ℤ c *ℤ pos s) xs) (map (λ y. y -ℤ c) (map r xs))
kept_heights s r k c [] = none
kept_heights s r k c (x ∷ xs) = more (subst (λ z. Seen (side x (c *ℤ pos s)) (r x -ℤ z)) (k.fixed c) (kept_side r k.order x (c *ℤ pos s))) (kept_heights s r k c xs)

pub rounds_crossings : (s : ℕ) (r : ℤ → ℤ) → Rounds s r → (c : ℤ) (xs : List ℤ) → length (crossings c (map r xs)) ≤ length (crossings (c *ℤ pos s) xs)
rounds_crossings s r k c xs = omega (arith, crossings_count c (map r xs), crossings_count (c *ℤ pos s) xs, fainter_changes (map (λ x. x -ℤ c *ℤ pos s) xs) (map (λ y. y -ℤ c) (map r xs)) (kept_heights s r k c xs))

-- ---- rounding, halves upward
div_order : (a b m : ℕ) → 0 < m → a ≤ b → a / m ≤ b / m
div_order a b m p h = (le-div_iff_mul-le p).1 (le_trans (div-mul-le_self a m) h)

floor_order : (m : ℕ) → 0 < m → (x y : ℤ) → x ≤ℤ y → int_div_euclid x (pos m) ≤ℤ int_div_euclid y (pos m)
floor_order m p (pos a) (pos b) h = let k = div_order a b m p (omega (arith, ints)) in omega (arith, ints)
floor_order m p (pos a) (negsuc b) h = absurd (omega (arith, ints))
floor_order m p (negsuc a) (pos b) h = omega (arith, ints)
floor_order m p (negsuc a) (negsuc b) h = let k = div_order b a m p (omega (arith, ints)) in omega (arith, ints)

rounded_order : (s : ℕ) → 0 < s → KeepsOrder (rounded s)
unfolding rounded
rounded_order s p x y h = floor_order (2 * s) (omega arith) (pos 2 *ℤ x +ℤ pos s) (pos 2 *ℤ y +ℤ pos s) (omega (arith, ints))

rounded_fixed : (s : ℕ) → 0 < s → (c : ℤ) → rounded s (c *ℤ pos s) ≡ c
unfolding rounded
rounded_fixed s p (pos n) = ap pos (div-eq_of_lt-le (2 * s) (omega arith) (omega arith))
rounded_fixed s p (negsuc n) = ap (λ z. int_div_euclid z (pos (2 * s))) e ∙ ap negsuc (div-eq_of_lt-le (2 * s) (omega arith) (omega arith))
  where
    e : pos 2 *ℤ (negsuc n *ℤ pos s) +ℤ pos s ≡ negsuc (2 * (n * s) + (s - 1))
    e = omega (arith, ints)

pub rounded_rounds : (s : ℕ) → 0 < s → Rounds s (rounded s)
rounded_rounds s p = record { order = rounded_order s p; fixed = rounded_fixed s p }

-- ---- what it rounds to: the whole number nearest to n / s, the upper one of two
floor_low : (m : ℕ) → 0 < m → (n : ℤ) → (int_div_euclid n (pos m) *ℤ pos m) ≤ℤ n
floor_low m p (pos a) = let h = div-mul-le_self a m in omega (arith, ints)
floor_low m p (negsuc a) = let h = lt-div-mul-add {a = a} p in omega (arith, ints)

floor_high : (m : ℕ) → 0 < m → (n : ℤ) → n <ℤ (int_div_euclid n (pos m) *ℤ pos m +ℤ pos m)
floor_high m p (pos a) = let h = lt-div-mul-add {a = a} p in omega (arith, ints)
floor_high m p (negsuc a) = let h = div-mul-le_self a m in omega (arith, ints)

twice : (q : ℤ) (s : ℕ) → q *ℤ pos (2 * s) ≡ pos 2 *ℤ (q *ℤ pos s)
twice q s = *ℤ_comm q (pos (2 * s)) ∙ sym (times_times 2 s q) ∙ ap (λ z. pos 2 *ℤ z) (*ℤ_comm (pos s) q)

pub rounded_low : (s : ℕ) → 0 < s → (n : ℤ) → (pos 2 *ℤ (rounded s n *ℤ pos s)) ≤ℤ (pos 2 *ℤ n +ℤ pos s)
unfolding rounded
rounded_low s p n = subst (λ z. z ≤ℤ (pos 2 *ℤ n +ℤ pos s)) (twice (rounded s n) s) (floor_low (2 * s) (omega arith) (pos 2 *ℤ n +ℤ pos s))

pub rounded_high : (s : ℕ) → 0 < s → (n : ℤ) → (pos 2 *ℤ n) <ℤ (pos 2 *ℤ (rounded s n *ℤ pos s) +ℤ pos s)
unfolding rounded
rounded_high s p n =
    let h = floor_high (2 * s) (omega arith) (pos 2 *ℤ n +ℤ pos s) in
    let k : (pos 2 *ℤ n +ℤ pos s) <ℤ (pos 2 *ℤ (rounded s n *ℤ pos s) +ℤ pos (2 * s)) = subst (λ z. (pos 2 *ℤ n +ℤ pos s) <ℤ (z +ℤ pos (2 * s))) (twice (rounded s n) s) h in
    less (pos 2 *ℤ n) (pos 2 *ℤ (rounded s n *ℤ pos s)) s k
  where
    less : (a b : ℤ) (s : ℕ) → (a +ℤ pos s) <ℤ (b +ℤ pos (2 * s)) → a <ℤ (b +ℤ pos s)
    less a b s k = omega (arith, ints)
