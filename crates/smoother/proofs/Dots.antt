-- Taps laid on a window, product by product: nothing wraps.
use Rattle.std.proofs.Common.{◌≡◌, ℕ, ◌+◌, ◌*◌, ◌/◌, ◌^◌, ◌<◌, ◌≤◌, true, List, length, get_or, drop, ℤ, pos, negsuc, ◌+ℤ◌, ◌*ℤ◌, nat_abs, sym, refl, ap, ◌∙◌, subst, ap₂, mul-le-mul_left, div-mul-le_self, le-mul_of_pos_right, arith, w64, SFits, to_z, of_z}
use borrow.Author.Differences.{product_is, ints}
use lib.IntN.{+ℤ_idr, +ℤ_assoc}
use Rattle.std.proofs.lemmas.List.{at_drop_all, drop_more}
use Rattle.std.proofs.lemmas.Int.{to_z-of_z, to_z_pos}
use Rattle.scale_space.specs.Taps.{dot, scale}
use Rattle.smoother.specs.Answers.{weighable}
use Rattle.smoother.proofs.Sizes.{fits_size, weighable_at}
use Rattle.smoother.proofs.Totals.{scale_more, tap_most}

size_sum : (x y : ℤ) → nat_abs (x +ℤ y) ≤ nat_abs x + nat_abs y
size_sum x y = omega (arith, ints)

size_times : (t : ℕ) (x : ℤ) → nat_abs (pos t *ℤ x) ≡ t * nat_abs x
size_times t (pos n) = refl
size_times t (negsuc n) = omega (arith, ints, product_is (pos t) (negsuc n))

-- a number as it is read back from its bits
abbrev kept : ℤ → ℤ
kept z = to_z w64 (of_z w64 z)

-- a tap times a sample, as the code computes it
abbrev pub weighted : ℕ → ℤ → ℤ
weighted t x = to_z w64 t *ℤ kept x

-- one product more, where no sample is larger than m and the sum so far leaves room for the taps that are left
module _ (m : ℕ) (a : ℤ) (t : ℕ) (x : ℤ) (rest : ℕ) (l : t ≤ 2 ^ 40) (f : SFits w64 x) (h : nat_abs x ≤ m) (k : nat_abs a + m * (t + rest) ≤ 2 ^ 57) where
  product_size : nat_abs (pos t *ℤ x) ≤ 2 ^ 57
  product_size = omega (arith, size_times t x, mul-le-mul_left t h)

  total_size : nat_abs (a +ℤ pos t *ℤ x) + m * rest ≤ 2 ^ 57
  total_size = omega (arith, size_sum a (pos t *ℤ x), size_times t x, mul-le-mul_left t h)

  product_same : weighted t x ≡ pos t *ℤ x
  product_same = ap₂ ◌*ℤ◌ (to_z_pos w64 t (omega arith)) (to_z-of_z w64 x f)

  product_fits : SFits w64 (weighted t x)
  product_fits = subst (SFits w64) (sym product_same) (fits_size (pos t *ℤ x) product_size)

  total_same : a +ℤ kept (weighted t x) ≡ a +ℤ pos t *ℤ x
  total_same = ap (λ z. a +ℤ z) (to_z-of_z w64 _ product_fits ∙ product_same)

  total_fits : SFits w64 (a +ℤ kept (weighted t x))
  total_fits = subst (SFits w64) (sym total_same) (fits_size (a +ℤ pos t *ℤ x) (omega (arith, total_size)))

  total_read : kept (a +ℤ kept (weighted t x)) ≡ a +ℤ pos t *ℤ x
  total_read = to_z-of_z w64 _ total_fits ∙ total_same

-- the taps before i are laid: what they gave and what is left come to the whole, and there is room for what is left
pub record Weighed (ts : List ℕ) (xs : List ℤ) (i : ℕ) (a : ℤ) : Type 0 where
  pub whole : a +ℤ dot (drop i ts) (drop i xs) ≡ dot ts xs
  pub room : nat_abs a + (2 ^ 57 / scale ts) * scale (drop i ts) ≤ 2 ^ 57

dot_more : (ts : List ℕ) (xs : List ℤ) (i : ℕ) → i < length ts → i < length xs → dot (drop i ts) (drop i xs) ≡ pos (get_or ts i 0) *ℤ get_or xs i (pos 0) +ℤ dot (drop (i + 1) ts) (drop (i + 1) xs)
unfolding dot
dot_more ts xs i l m = ap₂ dot (drop_more ts i 0 l) (drop_more xs i (pos 0) m)

dot_none : (ts : List ℕ) (xs : List ℤ) (i : ℕ) → length ts ≤ i → dot (drop i ts) (drop i xs) ≡ pos 0
unfolding dot
dot_none ts xs i l = at_drop_all (λ us. dot us (drop i xs)) ts i l

module _ (ts : List ℕ) (xs : List ℤ) (i : ℕ) (a : ℤ) (one : 1 ≤ scale ts) (light : scale ts ≤ 2 ^ 40) (small : weighable (scale ts) xs ≡ true) (w : Weighed ts xs i a) (l : i < length ts) (m : i < length xs) (t : ℕ) (x : ℤ) (e : t ≡ get_or ts i 0) (d : x ≡ get_or xs i (pos 0)) where
  abbrev most : ℕ
  most = 2 ^ 57 / scale ts

  pub tap_light : t ≤ 2 ^ 40
  tap_light = omega (arith, e, tap_most ts i)

  sample_small : nat_abs x ≤ most
  sample_small = rw d (weighable_at (scale ts) xs i one m small)

  sample_fits : SFits w64 x
  sample_fits = fits_size x (omega (arith, sample_small, div-mul-le_self (2 ^ 57) (scale ts), le-mul_of_pos_right most one))

  left_room : nat_abs a + most * (t + scale (drop (i + 1) ts)) ≤ 2 ^ 57
  left_room = rw e (subst (λ n. nat_abs a + most * n ≤ 2 ^ 57) (scale_more ts i l) w.room)

  pub next_product_fits : SFits w64 (weighted t x)
  next_product_fits = product_fits most a t x (scale (drop (i + 1) ts)) tap_light sample_fits sample_small left_room

  pub next_total_fits : SFits w64 (a +ℤ kept (weighted t x))
  next_total_fits = total_fits most a t x (scale (drop (i + 1) ts)) tap_light sample_fits sample_small left_room

  pub weighed_more : Weighed ts xs (i + 1) (kept (a +ℤ kept (weighted t x)))
  weighed_more =
      subst (Weighed ts xs (i + 1)) (sym (total_read most a t x (scale (drop (i + 1) ts)) tap_light sample_fits sample_small left_room)) (record {
        whole = +ℤ_assoc a (pos t *ℤ x) (dot (drop (i + 1) ts) (drop (i + 1) xs)) ∙ ap (λ z. a +ℤ z) (ap₂ (λ u y. pos u *ℤ y +ℤ dot (drop (i + 1) ts) (drop (i + 1) xs)) e d ∙ sym (dot_more ts xs i l m)) ∙ w.whole;
        room = total_size most a t x (scale (drop (i + 1) ts)) tap_light sample_fits sample_small left_room;
      })

pub weighed_all : (ts : List ℕ) (xs : List ℤ) (i : ℕ) (a : ℤ) → Weighed ts xs i a → length ts ≤ i → a ≡ dot ts xs
weighed_all ts xs i a w l = sym (+ℤ_idr a) ∙ ap (λ z. a +ℤ z) (sym (dot_none ts xs i l)) ∙ w.whole
