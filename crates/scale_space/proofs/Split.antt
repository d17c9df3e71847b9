-- Products of reduced pairs are reduced, and a reduced triple whose b² - 4ac is a square is such a product.
use Rattle.std.proofs.Common.{◌≡◌, ℕ, ◌+◌, ◌-◌, ◌*◌, ◌<◌, ◌≤◌, List, [], ◌∷◌, sym, ap, ◌∙◌, subst, ap₂, ⊎_elim, mul-le-mul, mul-pos, arith}
use Prim.Native.Nat.{◌∣◌}
use native.Mathlib.Nat.{dvd-mul_left_of_dvd, dvd-add_iff_right}
use Rattle.std.proofs.lemmas.Bool.{cases_lt}
use Rattle.scale_space.specs.declared.passes.Pass.TheVariants.{Pair}
use Rattle.scale_space.specs.Taps.{plus, scale, scaled, conv}
use Rattle.scale_space.specs.Divisors.{Reduced, common}
use Rattle.scale_space.specs.Passes.{weights, lowest}
use Rattle.scale_space.proofs.Conv.{conv_scaled}
use Rattle.scale_space.proofs.Divisors.{common_some, common_factor, same_multiple, lowest_reduced, lowest_scaled}

-- a multiple of what g divides, and what is left of a sum
multiple : (g m c n : ℕ) → c * m ≡ n → g ∣ m → g ∣ n
multiple g m c n e h = subst (λ z. g ∣ z) e (dvd-mul_left_of_dvd g h c)

remainder : (g m n k : ℕ) → m ≡ n + k → g ∣ m → g ∣ n → g ∣ k
remainder g m n k e h i = (dvd-add_iff_right g i).1 (subst (λ z. g ∣ z) e h)

products_reduced : (p q r t : ℕ) → Reduced (p ∷ q ∷ []) → Reduced (r ∷ t ∷ []) → Reduced (p * r ∷ (p * t + q * r) ∷ q * t ∷ [])
products_reduced p q r t red red' g (i, (j, (k, _))) =
    let ppt : g ∣ p * p * t = remainder g (p * (p * t + q * r)) (q * (p * r)) (p * p * t) (omega arith) (dvd-mul_left_of_dvd g j p) (dvd-mul_left_of_dvd g i q) in
    let qqr : g ∣ q * q * r = remainder g (q * (p * t + q * r)) (p * (q * t)) (q * q * r) (omega arith) (dvd-mul_left_of_dvd g j q) (dvd-mul_left_of_dvd g k p) in
    let pp : g ∣ p * p = common_factor (r ∷ t ∷ []) red' g (p * p) (multiple g (p * r) p (p * p * r) (omega arith) i, (ppt, tt)) in
    let qq : g ∣ q * q = common_factor (r ∷ t ∷ []) red' g (q * q) (qqr, (multiple g (q * t) q (q * q * t) (omega arith) k, tt)) in
    let pq : g ∣ p * q = common_factor (p ∷ q ∷ []) red g (p * q) (multiple g (p * p) q (p * q * p) (omega arith) pp, (multiple g (q * q) p (p * q * q) (omega arith) qq, tt)) in
    red g (
      common_factor (p ∷ q ∷ []) red g p (pp, (pq, tt)),
      (common_factor (p ∷ q ∷ []) red g q (multiple g (p * q) 1 (q * p) (omega arith) pq, (qq, tt)), tt),
    )

pub conv_pairs : (p q r t : ℕ) → conv (p ∷ q ∷ []) (r ∷ t ∷ []) ≡ p * r ∷ (p * t + q * r) ∷ q * t ∷ []
unfolding conv plus
conv_pairs p q r t = λ i. first i ∷ second i ∷ q * t ∷ []
  where
    first : p * r + 0 ≡ p * r
    first = omega arith

    second : p * t + (q * r + 0) ≡ p * t + q * r
    second = omega arith

-- where two pairs piled are a multiple of a reduced list, their lowest terms piled are that list
lowest_conv : (a b d e m : ℕ) (ts : List ℕ) → 0 < a + b → 0 < d + e → Reduced ts → conv (a ∷ b ∷ []) (d ∷ e ∷ []) ≡ scaled m ts →
    conv (weights (lowest (Pair a b))) (weights (lowest (Pair d e))) ≡ ts
unfolding scale
lowest_conv a b d e m ts h k red is =
    same_multiple (conv us vs) ts (g * f) m
    (subst Reduced (sym (conv_pairs _ _ _ _)) (products_reduced _ _ _ _ (lowest_reduced (Pair a b) some) (lowest_reduced (Pair d e) some')))
    red (mul-pos (common_some (a ∷ b ∷ []) some) (common_some (d ∷ e ∷ []) some'))
    (sym (conv_scaled g f us vs (omega arith) (omega arith)) ∙ ap₂ conv (lowest_scaled (Pair a b)) (lowest_scaled (Pair d e)) ∙ is)
  where
    some : 0 < a + (b + 0)
    some = omega arith

    some' : 0 < d + (e + 0)
    some' = omega arith

    g : ℕ
    g = common (a ∷ b ∷ [])

    f : ℕ
    f = common (d ∷ e ∷ [])

    us : List ℕ
    us = weights (lowest (Pair a b))

    vs : List ℕ
    vs = weights (lowest (Pair d e))

below : (s b : ℕ) → s * s ≤ b * b → s ≤ b
below s b h = ⊎_elim (λ (l : b < s). absurd (omega (arith, mul-le-mul l l))) (λ (l : s ≤ b). l) (cases_lt b s)

-- the roots of the triple give the two pairs
pub splits : (a b c s : ℕ) → Reduced (a ∷ b ∷ c ∷ []) → s * s + 4 * (a * c) ≡ b * b → 0 < c →
    conv (weights (lowest (Pair (b - s) (2 * c)))) (weights (lowest (Pair (b + s) (2 * c)))) ≡ a ∷ b ∷ c ∷ []
splits a b c s red is pos = lowest_conv (b - s) (2 * c) (b + s) (2 * c) (4 * c) (a ∷ b ∷ c ∷ []) (omega arith) (omega arith) red (conv_pairs (b - s) (2 * c) (b + s) (2 * c) ∙ (λ i. first i ∷ second i ∷ third i ∷ []))
  where
    e : ℕ
    e = b - s

    diff : e + s ≡ b
    diff = omega (arith, below s b (omega arith))

    first : e * (b + s) ≡ 4 * c * a
    first = omega (arith, is, ap (λ z. e * z) diff, ap (λ z. b * z) diff, ap (λ z. s * z) diff)

    second : e * (2 * c) + 2 * c * (b + s) ≡ 4 * c * b
    second = omega (arith, ap (λ z. c * z) diff)

    third : 2 * c * (2 * c) ≡ 4 * c * c
    third = omega arith
