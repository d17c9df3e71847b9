-- A number that is no square has no rational root: m² = d k² only at 0.
use Rattle.std.proofs.Common.{◌≡◌, ℕ, zero, suc, ◌*◌, ◌/◌, ◌<◌, List, [], ◌∷◌, sym, refl, ap, ◌∙◌, mul-pos, arith}
use Prim.Native.Nat.{◌∣◌}
use native.Mathlib.Nat.{eq_of_mul-eq-mul_left, dvd_refl, dvd-mul_left}
use Rattle.scale_space.specs.Taps.{scale}
use Rattle.scale_space.specs.Divisors.{common, Reduced}
use Rattle.scale_space.specs.Primes.{NoSquare}
use Rattle.scale_space.proofs.Divisors.{common_some, common_factor, dvd_from, over_reduced, over_exact}

-- in lowest terms k divides m, so it is 1, and d is the square of m
reduced_root : (d m k : ℕ) → Reduced (m ∷ k ∷ []) → m * m ≡ d * (k * k) → m * m ≡ d
reduced_root d m k red e =
    let h : k ∣ m = common_factor (m ∷ k ∷ []) red k m (dvd_from k (d * k) (m * m) (omega arith), (dvd-mul_left k m, tt)) in
    let one : k ≡ 1 = red k (h, (dvd_refl k, tt)) in
    omega (arith, e, ap (λ z. d * (z * z)) one)

shared : (d g m k : ℕ) → 0 < g → g * m * (g * m) ≡ d * (g * k * (g * k)) → m * m ≡ d * (k * k)
shared d g m k p e = eq_of_mul-eq-mul_left (g * g) (mul-pos p p) (m * m) (d * (k * k)) (omega arith)

pub no_root : (d : ℕ) → NoSquare d → (m k : ℕ) → m * m ≡ d * (k * k) → (m ≡ 0) × (k ≡ 0)
no_root d none zero zero e = (refl, refl)
no_root d none (suc m) zero e = absurd (omega arith)
no_root d none m (suc k) e =
    let ws : List ℕ = m ∷ suc k ∷ [] in
    let g : ℕ = common ws in
    let some : 0 < scale ws = unfold scale in omega arith in
    let t = over_exact ws in
    absurd (none (m / g) (reduced_root d (m / g) (suc k / g) (over_reduced ws some) (shared d g (m / g) (suc k / g) (common_some ws some)
    (ap (λ z. z * z) t.0 ∙ e ∙ ap (λ z. d * (z * z)) (sym t.1.0)))))
