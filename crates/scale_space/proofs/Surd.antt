-- The numbers (p - q) + (r - s)√d, written ((p, q), (r, s)): where d is no square, a product is zero only if a factor is.
use Rattle.std.proofs.Common.{◌≡◌, ℕ, suc, ◌+◌, ◌-◌, ◌*◌, ◌<◌, ◌≤◌, ◌⊎◌, ap, subst, inl, inr, arith}
use native.Mathlib.Nat.{eq_of_mul-eq-mul_left}
use Rattle.std.proofs.lemmas.Bool.{cases_lt, cases_order}
use Rattle.scale_space.specs.Primes.{NoSquare}
use Rattle.scale_space.proofs.Irrational.{no_root}
use Rattle.scale_space.proofs.Semiring.{differences, surds, norm_first, norm_second}
use Rattle.scale_space.proofs.Place.{Place}

abbrev pub Surd : Type 0
Surd = (ℕ × ℕ) × (ℕ × ℕ)

-- zero may be written in many ways
abbrev pub ZeroS : Surd → Type 0
ZeroS x = (x.0.0 ≡ x.0.1) × (x.1.0 ≡ x.1.1)

-- a product of differences of naturals is 0 only if one of them is
gap : (a b : ℕ) → a < b → (t : ℕ) × (a + suc t ≡ b)
gap a b h = (b - suc a, omega arith)

cross_lt : (a t c e : ℕ) → a * c + (a + suc t) * e ≡ a * e + (a + suc t) * c → c ≡ e
cross_lt a t c e h = eq_of_mul-eq-mul_left (suc t) (omega arith) c e (omega arith)

cross : (a b c e : ℕ) → a * c + b * e ≡ a * e + b * c → (a ≡ b) ⊎ (c ≡ e)
cross a b c e h = by (cases_order a b)
  where
    up : ((t : ℕ) × (a + suc t ≡ b)) → c ≡ e
    up (t, f) = cross_lt a t c e (omega (arith, h, ap (λ z. z * c) f, ap (λ z. z * e) f))

    down : ((t : ℕ) × (b + suc t ≡ a)) → c ≡ e
    down (t, f) = cross_lt b t c e (omega (arith, h, ap (λ z. z * c) f, ap (λ z. z * e) f))

    by : (a ≡ b) ⊎ ((a < b) ⊎ (b < a)) → (a ≡ b) ⊎ (c ≡ e)
    by (inl f) = inl f
    by (inr (inl l)) = inr (up (gap a b l))
    by (inr (inr g)) = inr (down (gap b a g))

-- the differences that are 0
abbrev ZeroD : ℕ × ℕ → Type 0
ZeroD x = x.0 ≡ x.1

open differences use {add as addD, mul as mulD}

minus : ℕ × ℕ
minus = (0, 1)

times_zero : (y x : ℕ × ℕ) → ZeroD x → ZeroD (mulD y x)
times_zero y x e = omega (arith, ap (λ z. y.0 * z) e, ap (λ z. y.1 * z) e)

sum_zero : (x y : ℕ × ℕ) → ZeroD x → ZeroD y → ZeroD (addD x y)
sum_zero x y e f = omega arith

less_zero : (x y : ℕ × ℕ) → ZeroD (addD x y) → ZeroD y → ZeroD x
less_zero x y e f = omega arith

with_minus : (x : ℕ × ℕ) → ZeroD (addD x (mulD minus x))
unfolding minus
with_minus x = omega arith

factor_zero : (x y : ℕ × ℕ) → ZeroD (mulD x y) → ZeroD x ⊎ ZeroD y
factor_zero x y e = cross x.0 x.1 y.0 y.1 (omega arith)

norm : ℕ → Surd → ℕ × ℕ
norm d (u, v) = addD (mulD u u) (mulD minus (mulD (d, 0) (mulD v v)))

half_first : (d : ℕ) (x y : Surd) → ZeroS ((surds d).mul x y) → ZeroD (norm d x) ⊎ ZeroD y.0
unfolding norm
half_first d x y (e, f) =
    factor_zero (norm d x) y.0
    (less_zero (mulD (norm d x) y.0) (addD w (mulD minus w))
    (subst ZeroD (norm_first differences minus (d, 0) x.0 x.1 y.0 y.1)
    (sum_zero (mulD x.0 a) (mulD n b) (times_zero x.0 a e) (times_zero n b f)))
    (with_minus w))
  where
    a : ℕ × ℕ
    a = addD (mulD x.0 y.0) (mulD (d, 0) (mulD x.1 y.1))

    b : ℕ × ℕ
    b = addD (mulD x.0 y.1) (mulD x.1 y.0)

    w : ℕ × ℕ
    w = mulD (d, 0) (mulD x.0 (mulD x.1 y.1))

    n : ℕ × ℕ
    n = mulD minus (mulD (d, 0) x.1)

half_second : (d : ℕ) (x y : Surd) → ZeroS ((surds d).mul x y) → ZeroD (norm d x) ⊎ ZeroD y.1
unfolding norm
half_second d x y (e, f) =
    factor_zero (norm d x) y.1
    (less_zero (mulD (norm d x) y.1) (addD w (mulD minus w))
    (subst ZeroD (norm_second differences minus (d, 0) x.0 x.1 y.0 y.1)
    (sum_zero (mulD x.0 b) (mulD n a) (times_zero x.0 b f) (times_zero n a e)))
    (with_minus w))
  where
    a : ℕ × ℕ
    a = addD (mulD x.0 y.0) (mulD (d, 0) (mulD x.1 y.1))

    b : ℕ × ℕ
    b = addD (mulD x.0 y.1) (mulD x.1 y.0)

    w : ℕ × ℕ
    w = mulD x.0 (mulD x.1 y.0)

    n : ℕ × ℕ
    n = mulD minus x.1

-- where the norm is 0 the element is
abbrev pub Distance : ℕ → ℕ → Type 0
Distance a b = (t : ℕ) × ((a ≡ b + t) ⊎ (b ≡ a + t))

pub distance : (a b : ℕ) → Distance a b
distance a b = by (cases_lt a b)
  where
    by : (a < b) ⊎ (b ≤ a) → Distance a b
    by (inl h) = (b - a, inr (omega arith))
    by (inr h) = (a - b, inl (omega arith))

pub squares : (a b w : ℕ) → (a ≡ b + w) ⊎ (b ≡ a + w) → a * a + b * b ≡ 2 * (a * b) + w * w
squares a b w (inl h) = omega (arith, ap (λ z. a * z) h, ap (λ z. b * z) h, ap (λ z. w * z) h)
squares a b w (inr h) = omega (arith, ap (λ z. a * z) h, ap (λ z. b * z) h, ap (λ z. w * z) h)

norm_at : (d p q r s t k : ℕ) → (p ≡ q + t) ⊎ (q ≡ p + t) → (r ≡ s + k) ⊎ (s ≡ r + k) →
    p * p + q * q + d * (2 * (r * s)) ≡ 2 * (p * q) + d * (r * r + s * s) → t * t ≡ d * (k * k)
norm_at d p q r s t k u v e = omega (arith, e, squares p q t u, ap (λ z. d * z) (squares r s k v))

norm_zero : (d : ℕ) → NoSquare d → (x : Surd) → ZeroD (norm d x) → ZeroS x
unfolding norm minus
norm_zero d ns x e = by (distance x.0.0 x.0.1) (distance x.1.0 x.1.1)
  where
    by : Distance x.0.0 x.0.1 → Distance x.1.0 x.1.1 → ZeroS x
    by (t, u) (k, v) = done u v (no_root d ns t k (norm_at d x.0.0 x.0.1 x.1.0 x.1.1 t k u v (omega (arith, e))))
      where
        done : (x.0.0 ≡ x.0.1 + t) ⊎ (x.0.1 ≡ x.0.0 + t) → (x.1.0 ≡ x.1.1 + k) ⊎ (x.1.1 ≡ x.1.0 + k) → (t ≡ 0) × (k ≡ 0) → ZeroS x
        done u v (f, g) = (omega arith, omega arith)

pub no_zero_divisors : (d : ℕ) → NoSquare d → (x y : Surd) → ZeroS ((surds d).mul x y) → ZeroS x ⊎ ZeroS y
no_zero_divisors d ns x y z = by (half_first d x y z) (half_second d x y z)
  where
    by : ZeroD (norm d x) ⊎ ZeroD y.0 → ZeroD (norm d x) ⊎ ZeroD y.1 → ZeroS x ⊎ ZeroS y
    by (inl e) g = inl (norm_zero d ns x e)
    by (inr f) (inl e) = inl (norm_zero d ns x e)
    by (inr f) (inr g) = inr (f, g)

pub multiple_zero : (d : ℕ) (x y : Surd) → ZeroS y → ZeroS ((surds d).mul x y)
multiple_zero d x y (e, f) = (
  sum_zero (mulD x.0 y.0) (mulD (d, 0) (mulD x.1 y.1)) (times_zero x.0 y.0 e) (times_zero (d, 0) (mulD x.1 y.1) (times_zero x.1 y.1 f)),
  sum_zero (mulD x.0 y.1) (mulD x.1 y.0) (times_zero x.0 y.1 f) (times_zero x.1 y.0 e),
)

abbrev pub place : (d : ℕ) → NoSquare d → Surd → Surd → Place
place d ns x y = record {
  ring = surds d;
  X = x;
  Y = y;
  Zero = ZeroS;
  no_divisors = no_zero_divisors d ns;
  absorbs = multiple_zero d;
  apart = λ n z. z.0;
}
