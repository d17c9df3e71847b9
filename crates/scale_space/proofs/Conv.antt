-- The laws of `conv`: taps are read as the digits of a number in a base above them all, and `conv` is the product of such numbers.
use Rattle.std.proofs.Common.{◌≡◌, ℕ, zero, suc, ◌+◌, ◌-◌, ◌*◌, ◌<◌, max, ◌⊎◌, List, [], ◌∷◌, length, get_or, sym, refl, ap, ◌∙◌, ap₂, inl, inr, mul-le-mul_right, mul-le-mul_left, arith}
use mathlib.Core.Path.{fun_ext}
use native.Mathlib.Nat.{eq_of_mul-eq-mul_left, suc-sub-suc, sub-zero}
use lib.ListN.{length-map}
use Rattle.std.proofs.lemmas.Bool.{cases_order}
use Rattle.scale_space.specs.Taps.{plus, scaled, conv, scale, sum_to}

-- the number with the digits ts in base B, the first one lowest
abbrev pub val : ℕ → List ℕ → ℕ
val B [] = 0
val B (t ∷ ts) = t + B * val B ts

pub val_plus : (B : ℕ) (xs ys : List ℕ) → val B (plus xs ys) ≡ val B xs + val B ys
unfolding plus
val_plus B [] ys = omega arith
val_plus B (x ∷ xs) [] = omega arith
val_plus B (x ∷ xs) (y ∷ ys) = omega (arith, ap (λ z. B * z) (val_plus B xs ys))

pub val_scaled : (B a : ℕ) (q : List ℕ) → val B (scaled a q) ≡ a * val B q
val_scaled B a [] = omega arith
val_scaled B a (t ∷ ts) = omega (arith, ap (λ z. B * z) (val_scaled B a ts))

pub val_conv : (B : ℕ) (p q : List ℕ) → val B (conv p q) ≡ val B p * val B q
unfolding conv
val_conv B [] q = omega arith
val_conv B (a ∷ p) q = omega (arith, val_plus B (scaled a q) (0 ∷ conv p q), val_scaled B a q, ap (λ z. B * z) (val_conv B p q))

pub length_plus : (xs ys : List ℕ) → length (plus xs ys) ≡ max (length xs) (length ys)
unfolding plus
length_plus [] ys = omega arith
length_plus (x ∷ xs) [] = omega arith
length_plus (x ∷ xs) (y ∷ ys) = omega (arith, length_plus xs ys)

pub length_scaled : (a : ℕ) (q : List ℕ) → length (scaled a q) ≡ length q
length_scaled a q = length-map q (λ t. a * t)

pub length_conv : (p q : List ℕ) → 0 < length p → 0 < length q → suc (length (conv p q)) ≡ length p + length q
unfolding conv
length_conv [] q h k = absurd (omega arith)
length_conv (a ∷ []) q h k = omega (arith, length_plus (scaled a q) (0 ∷ []), length_scaled a q)
length_conv (a ∷ b ∷ p) q h k = omega (arith, length_plus (scaled a q) (0 ∷ conv (b ∷ p) q), length_scaled a q, length_conv (b ∷ p) q (omega arith) k)

-- ---- numbers say what their digits are
digit : (B x y m n : ℕ) → x < B → y < B → x + B * m ≡ y + B * n → m ≡ n
digit B x y m n h k e = by (cases_order m n)
  where
    by : (m ≡ n) ⊎ ((m < n) ⊎ (n < m)) → m ≡ n
    by (inl p) = p
    by (inr (inl l)) = absurd (omega (arith, mul-le-mul_left B l))
    by (inr (inr g)) = absurd (omega (arith, mul-le-mul_left B g))

digits : (B : ℕ) (xs ys : List ℕ) → length xs ≡ length ys → scale xs < B → scale ys < B → val B xs ≡ val B ys → xs ≡ ys
unfolding scale
digits B [] [] l h k e = refl
digits B [] (y ∷ ys) l h k e = absurd (omega arith)
digits B (x ∷ xs) [] l h k e = absurd (omega arith)
digits B (x ∷ xs) (y ∷ ys) l h k e =
    let rest : val B xs ≡ val B ys = digit B x y (val B xs) (val B ys) (omega arith) (omega arith) e in
    ap₂ {C = List ℕ} ◌∷◌ (omega (arith, ap (λ z. B * z) rest)) (digits B xs ys (omega arith) (omega arith) (omega arith) rest)

-- two lists of one length with the same number in every base are one
pub extensional : (xs ys : List ℕ) → length xs ≡ length ys → ((B : ℕ) → 0 < B → val B xs ≡ val B ys) → xs ≡ ys
extensional xs ys l e = digits (suc (scale xs + scale ys)) xs ys l (omega arith) (omega arith) (e _ (omega arith))

-- the number is not 0 where some tap is not
pub val_positive : (B : ℕ) (p : List ℕ) → 0 < B → 0 < scale p → 0 < val B p
unfolding scale
val_positive B [] h k = k
val_positive B (t ∷ ts) h k = by (cases_order 0 (scale ts)) (val_positive B ts h)
  where
    by : (0 ≡ scale ts) ⊎ ((0 < scale ts) ⊎ (scale ts < 0)) → (0 < scale ts → 0 < val B ts) → 0 < t + B * val B ts
    by (inl p) f = omega arith
    by (inr (inl l)) f = omega (arith, mul-le-mul_right (val B ts) h, f l)
    by (inr (inr g)) f = absurd (omega arith)

-- ---- laws
pub conv_some : (p q : List ℕ) → 0 < length p → 0 < length q → 0 < length (conv p q)
conv_some p q h k = omega (arith, length_conv p q h k)

pub conv_comm : (p q : List ℕ) → 0 < length p → 0 < length q → conv p q ≡ conv q p
conv_comm p q h k = extensional (conv p q) (conv q p) (omega (arith, length_conv p q h k, length_conv q p k h)) (λ B b. omega (arith, val_conv B p q, val_conv B q p))

pub conv_assoc : (p q r : List ℕ) → 0 < length p → 0 < length q → 0 < length r → conv (conv p q) r ≡ conv p (conv q r)
conv_assoc p q r h k l =
    extensional (conv (conv p q) r) (conv p (conv q r))
    (omega (arith, length_conv p q h k, length_conv q r k l, length_conv (conv p q) r (conv_some p q h k) l, length_conv p (conv q r) h (conv_some q r k l)))
    (λ B b. omega (arith, val_conv B (conv p q) r, val_conv B p (conv q r), ap (λ z. z * val B r) (val_conv B p q), ap (λ z. val B p * z) (val_conv B q r)))

pub conv_swap : (p q r : List ℕ) → 0 < length p → 0 < length q → 0 < length r → conv p (conv q r) ≡ conv q (conv p r)
conv_swap p q r h k l =
    sym (conv_assoc p q r h k l) ∙ ap (λ z. conv z r) (conv_comm p q h k) ∙ conv_assoc q p r k h l

-- a common factor is left out, under multiples
pub cancel : (p x y : List ℕ) (m n : ℕ) → 0 < scale p → 0 < length p → 0 < length x → 0 < length y →
    scaled m (conv p x) ≡ scaled n (conv p y) → scaled m x ≡ scaled n y
cancel p x y m n t h k l e =
    extensional (scaled m x) (scaled n y)
    (omega (arith, ap length e, length_scaled m (conv p x), length_scaled n (conv p y), length_scaled m x, length_scaled n y, length_conv p x h k, length_conv p y h l))
    (λ B b. eq_of_mul-eq-mul_left (val B p) (val_positive B p b t) (val B (scaled m x)) (val B (scaled n y))
    (omega (
      arith,
      ap (val B) e,
      val_scaled B m (conv p x),
      val_scaled B n (conv p y),
      ap (λ z. m * z) (val_conv B p x),
      ap (λ z. n * z) (val_conv B p y),
      ap (λ z. val B p * z) (val_scaled B m x),
      ap (λ z. val B p * z) (val_scaled B n y),
    )))

pub conv_one : (p : List ℕ) → 0 < length p → conv p (1 ∷ []) ≡ p
conv_one p h = extensional (conv p (1 ∷ [])) p (omega (arith, length_conv p (1 ∷ []) h (omega arith))) (λ B b. omega (arith, val_conv B p (1 ∷ [])))

pub one_conv : (p : List ℕ) → 0 < length p → conv (1 ∷ []) p ≡ p
one_conv p h = conv_comm (1 ∷ []) p (omega arith) h ∙ conv_one p h

pub conv_scaled : (m n : ℕ) (p q : List ℕ) → 0 < length p → 0 < length q → conv (scaled m p) (scaled n q) ≡ scaled (m * n) (conv p q)
conv_scaled m n p q h k =
    extensional (conv (scaled m p) (scaled n q)) (scaled (m * n) (conv p q))
    (omega (
      arith,
      length_conv (scaled m p) (scaled n q) (omega (arith, length_scaled m p)) (omega (arith, length_scaled n q)),
      length_conv p q h k,
      length_scaled m p,
      length_scaled n q,
      length_scaled (m * n) (conv p q),
    ))
    (λ B b. val_conv B (scaled m p) (scaled n q) ∙ ap₂ ◌*◌ (val_scaled B m p) (val_scaled B n q)
    ∙ turned m (val B p) n (val B q) ∙ ap (λ z. m * n * z) (sym (val_conv B p q)) ∙ sym (val_scaled B (m * n) (conv p q)))
  where
    turned : (a b c d : ℕ) → a * b * (c * d) ≡ a * c * (b * d)
    turned a b c d = omega arith

-- the sum of taps is their number in base 1
scale_val : (ts : List ℕ) → scale ts ≡ val 1 ts
unfolding scale
scale_val [] = refl
scale_val (t ∷ ts) = omega (arith, scale_val ts)

pub conv_scale : (p q : List ℕ) → scale (conv p q) ≡ scale p * scale q
conv_scale p q = scale_val (conv p q) ∙ val_conv 1 p q ∙ sym (ap₂ ◌*◌ (scale_val p) (scale_val q))

-- ---- tap by tap
plus_tap : (xs ys : List ℕ) (j : ℕ) → get_or (plus xs ys) j 0 ≡ get_or xs j 0 + get_or ys j 0
unfolding plus
plus_tap [] ys j = omega arith
plus_tap (x ∷ xs) [] j = omega arith
plus_tap (x ∷ xs) (y ∷ ys) zero = refl
plus_tap (x ∷ xs) (y ∷ ys) (suc j) = plus_tap xs ys j

scaled_tap : (a : ℕ) (q : List ℕ) (j : ℕ) → get_or (scaled a q) j 0 ≡ a * get_or q j 0
scaled_tap a [] j = omega arith
scaled_tap a (t ∷ ts) zero = refl
scaled_tap a (t ∷ ts) (suc j) = scaled_tap a ts j

sum_none : (n : ℕ) (g : ℕ → ℕ) → sum_to n (λ i. 0 * g i) ≡ 0
sum_none zero g = refl
sum_none (suc n) g = omega (arith, sum_none n (λ i. g (suc i)))

pub conv_tap : (p q : List ℕ) (j : ℕ) → get_or (conv p q) j 0 ≡ sum_to (suc j) (λ i. get_or p i 0 * get_or q (j - i) 0)
unfolding conv
conv_tap [] q j = sym (sum_none (suc j) (λ i. get_or q (j - i) 0))
conv_tap (a ∷ p) q zero = omega (arith, plus_tap (scaled a q) (0 ∷ conv p q) 0, scaled_tap a q 0)
conv_tap (a ∷ p) q (suc j) =
    plus_tap (scaled a q) (0 ∷ conv p q) (suc j)
    ∙ ap₂ ◌+◌ (scaled_tap a q (suc j) ∙ ap (λ k. a * get_or q k 0) (sym (sub-zero (suc j)))) (conv_tap p q j ∙ ap (sum_to (suc j)) (fun_ext (λ i. ap (λ k. get_or p i 0 * get_or q k 0) (sym (suc-sub-suc j i)))))
