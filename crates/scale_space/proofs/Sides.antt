-- The signs of sums and multiples, and sides as orders.
use Rattle.std.proofs.Common.{◌≡◌, ℕ, zero, suc, ◌+◌, ◌*◌, ◌<◌, ◌≤◌, ◌⊎◌, ℤ, pos, negsuc, ◌+ℤ◌, ◌-ℤ◌, ◌*ℤ◌, neg_ℤ, ◌≤ℤ◌, ◌<ℤ◌, refl, ap, ◌∙◌, inl, inr, arith}
use lib.IntN.{+ℤ_idl, +ℤ_idr, +ℤ_invr}
use borrow.Author.Differences.{ints, up, down}
use Rattle.scale_space.specs.Signs.{Sign, below, level, above, sign, side}

-- ---- sums and multiples
-- the sign t is level, or one of those of two numbers
abbrev pub Either : Sign → Sign → Sign → Type 0
Either v w t = (t ≡ level) ⊎ ((t ≡ v) ⊎ (t ≡ w))

some_sign : (t : Sign) → (t ≡ level) ⊎ ((t ≡ above) ⊎ (t ≡ below))
some_sign below = inr (inr refl)
some_sign level = inl refl
some_sign above = inr (inl refl)

some_sign' : (t : Sign) → (t ≡ level) ⊎ ((t ≡ below) ⊎ (t ≡ above))
some_sign' below = inr (inl refl)
some_sign' level = inl refl
some_sign' above = inr (inr refl)

pub sign_sum : (x y : ℤ) → Either (sign x) (sign y) (sign (x +ℤ y))
sign_sum (pos zero) y = inr (inr (ap sign (+ℤ_idl y)))
sign_sum (pos (suc m)) (pos n) = inr (inl (ap (λ k. sign (pos k)) e))
  where
    e : suc m + n ≡ suc (m + n)
    e = omega arith
sign_sum (pos (suc m)) (negsuc n) = some_sign (sign (pos (suc m) +ℤ negsuc n))
sign_sum (negsuc m) (pos zero) = inr (inl (ap sign (+ℤ_idr (negsuc m))))
sign_sum (negsuc m) (pos (suc n)) = some_sign' (sign (negsuc m +ℤ pos (suc n)))
sign_sum (negsuc m) (negsuc n) = inr (inl refl)

sign_neg_pos : (n : ℕ) → (sign (neg_ℤ (pos n)) ≡ level) ⊎ (sign (neg_ℤ (pos n)) ≡ below)
sign_neg_pos zero = inl refl
sign_neg_pos (suc n) = inr refl

sign_pos : (n : ℕ) → (sign (pos n) ≡ level) ⊎ (sign (pos n) ≡ above)
sign_pos zero = inl refl
sign_pos (suc n) = inr refl

-- a multiple is level, or of the number's sign
pub sign_times : (n : ℕ) (x : ℤ) → (sign (pos n *ℤ x) ≡ level) ⊎ (sign (pos n *ℤ x) ≡ sign x)
sign_times n (pos zero) = inl (ap (λ k. sign (pos k)) e)
  where
    e : n * 0 ≡ 0
    e = omega arith
sign_times n (pos (suc m)) = sign_pos (n * suc m)
sign_times n (negsuc m) = sign_neg_pos (n * suc m)

-- a positive multiple has the number's sign
pub sign_multiple : (n : ℕ) (x : ℤ) → sign (pos (suc n) *ℤ x) ≡ sign x
sign_multiple n (pos zero) = ap (λ k. sign (pos k)) e
  where
    e : suc n * 0 ≡ 0
    e = omega arith
sign_multiple n (pos (suc m)) = ap (λ k. sign (pos k)) e
  where
    e : suc n * suc m ≡ suc (n + m + n * m)
    e = omega arith
sign_multiple n (negsuc m) = ap (λ k. sign (neg_ℤ (pos k))) e
  where
    e : suc n * suc m ≡ suc (n + m + n * m)
    e = omega arith

-- ---- sides
unfoldable pub flip : Sign → Sign
flip below = above
flip level = level
flip above = below

zero_of : (z : ℤ) → sign z ≡ level → z ≡ pos 0
zero_of (pos zero) e = refl
zero_of (pos (suc n)) e = absurd (let z : ◌≡◌ {A = ℕ} 0 1 = cc in omega arith)
zero_of (negsuc n) e = absurd (let z : ◌≡◌ {A = ℕ} 0 1 = cc in omega arith)

pub level_same : (x y : ℤ) → side x y ≡ level → x ≡ y
level_same x y e = let z = zero_of (x -ℤ y) e in omega (arith, ints)

flip_by : (z w : ℤ) → up z + up w ≡ down z + down w → sign w ≡ flip (sign z)
unfolding flip
flip_by (pos zero) (pos zero) e = refl
flip_by (pos zero) (pos (suc n)) e = absurd (omega arith)
flip_by (pos zero) (negsuc n) e = absurd (omega arith)
flip_by (pos (suc m)) (pos n) e = absurd (omega arith)
flip_by (pos (suc m)) (negsuc n) e = refl
flip_by (negsuc m) (pos zero) e = absurd (omega arith)
flip_by (negsuc m) (pos (suc n)) e = refl
flip_by (negsuc m) (negsuc n) e = absurd (omega arith)

pub side_flip : (x y : ℤ) → side y x ≡ flip (side x y)
side_flip x y = flip_by (x -ℤ y) (y -ℤ x) (omega (arith, ints))

-- ---- sides as orders
above_more : (z : ℤ) → sign z ≡ above → down z < up z
above_more (pos zero) e = absurd (let z : ◌≡◌ {A = ℕ} 0 1 = cc in omega arith)
above_more (pos (suc n)) e = omega arith
above_more (negsuc n) e = absurd (let z : ◌≡◌ {A = ℕ} 0 1 = cc in omega arith)

below_less : (z : ℤ) → sign z ≡ below → up z < down z
below_less (pos zero) e = absurd (let z : ◌≡◌ {A = ℕ} 0 1 = cc in omega arith)
below_less (pos (suc n)) e = absurd (let z : ◌≡◌ {A = ℕ} 0 1 = cc in omega arith)
below_less (negsuc n) e = omega arith

more_above : (z : ℤ) → down z < up z → sign z ≡ above
more_above (pos zero) h = absurd (omega arith)
more_above (pos (suc n)) h = refl
more_above (negsuc n) h = absurd (omega arith)

less_below : (z : ℤ) → up z < down z → sign z ≡ below
less_below (pos n) h = absurd (omega arith)
less_below (negsuc n) h = refl

pub side_over : (x y : ℤ) → side x y ≡ above → y <ℤ x
side_over x y e = let h = above_more (x -ℤ y) e in omega (arith, ints)

pub side_under : (x y : ℤ) → side x y ≡ below → x <ℤ y
side_under x y e = let h = below_less (x -ℤ y) e in omega (arith, ints)

pub over_side : (x y : ℤ) → y <ℤ x → side x y ≡ above
over_side x y h = more_above (x -ℤ y) (omega (arith, ints))

pub level_side : (x y : ℤ) → x ≡ y → side x y ≡ level
level_side x y e = ap (λ z. sign (z -ℤ y)) e ∙ ap sign (+ℤ_invr y)

pub under_side : (x y : ℤ) → x <ℤ y → side x y ≡ below
under_side x y h = less_below (x -ℤ y) (omega (arith, ints))

sign_at_least : (z : ℤ) → down z ≤ up z → (sign z ≡ level) ⊎ (sign z ≡ above)
sign_at_least (pos zero) h = inl refl
sign_at_least (pos (suc n)) h = inr refl
sign_at_least (negsuc n) h = absurd (omega arith)

sign_at_most : (z : ℤ) → up z ≤ down z → (sign z ≡ level) ⊎ (sign z ≡ below)
sign_at_most (pos zero) h = inl refl
sign_at_most (pos (suc n)) h = absurd (omega arith)
sign_at_most (negsuc n) h = inr refl

pub side_at_least : (x y : ℤ) → y ≤ℤ x → (side x y ≡ level) ⊎ (side x y ≡ above)
side_at_least x y h = sign_at_least (x -ℤ y) (omega (arith, ints))

pub side_at_most : (x y : ℤ) → x ≤ℤ y → (side x y ≡ level) ⊎ (side x y ≡ below)
side_at_most x y h = sign_at_most (x -ℤ y) (omega (arith, ints))
