-- A place: a commutative semiring with a test for zero that has no zero divisors, and a point (X, Y) in it. Taps are evaluated there as forms in X and Y, and `conv` is the product.
use Rattle.std.proofs.Common.{◌≡◌, ℕ, zero, suc, ◌+◌, ◌≤◌, ◌⊎◌, List, [], ◌∷◌, length, sym, refl, ap, ◌∙◌, ap₂, arith}
use Rattle.scale_space.proofs.Semiring.{Semiring, mul_swap, add_mul, add_four}
use Rattle.scale_space.specs.Taps.{plus, scaled, conv}

pub record Place : Type 1 where
  pub ring : Semiring
  pub X : ring.R
  pub Y : ring.R
  pub Zero : ring.R → Type 0
  pub no_divisors : (x y : ring.R) → Zero (ring.mul x y) → Zero x ⊎ Zero y
  pub absorbs : (x y : ring.R) → Zero y → Zero (ring.mul x y)
  pub apart : (n : ℕ) → Zero (ring.nat n) → n ≡ 0

module _ (S : Semiring) (X Y : S.R) where
  open S use {R, add, mul, nat, add_assoc, add_comm, mul_assoc, mul_comm, mul_add, add_zero, mul_zero, mul_one, nat_add, nat_mul}

  two_sums : (a b p y u v : R) → add (mul (add a b) p) (mul y (add u v)) ≡ add (add (mul a p) (mul y u)) (add (mul b p) (mul y v))
  two_sums a b p y u v = ap₂ add (add_mul S a b p) (mul_add y u v) ∙ add_four S (mul a p) (mul b p) (mul y u) (mul y v)

  scale_out : (a t p y v : R) → add (mul (mul a t) p) (mul y (mul a v)) ≡ mul a (add (mul t p) (mul y v))
  scale_out a t p y v = ap₂ add (mul_assoc a t p) (mul_swap S y a v) ∙ sym (mul_add a (mul t p) (mul y v))

  abbrev pub power : ℕ → R
  power zero = nat 1
  power (suc n) = mul X (power n)

  -- Σ tⱼ X^(n-j) Y^j
  abbrev pub ev : ℕ → List ℕ → R
  ev n [] = nat 0
  ev zero (t ∷ ts) = nat t
  ev (suc n) (t ∷ ts) = add (mul (nat t) (power (suc n))) (mul Y (ev n ts))

  power_add : (j m k : ℕ) → k ≡ j + m → power k ≡ mul (power j) (power m)
  power_add zero m k e = ap power (omega arith) ∙ sym (mul_one (power m)) ∙ mul_comm (power m) (nat 1)
  power_add (suc j) m zero e = absurd (omega arith)
  power_add (suc j) m (suc k) e = ap (mul X) (power_add j m k (omega arith)) ∙ sym (mul_assoc X (power j) (power m))

  pub ev_plus : (n : ℕ) (xs ys : List ℕ) → ev n (plus xs ys) ≡ add (ev n xs) (ev n ys)
  unfolding plus
  ev_plus n [] ys = sym (add_zero (ev n ys)) ∙ add_comm (ev n ys) (nat 0)
  ev_plus n (x ∷ xs) [] = sym (add_zero (ev n (x ∷ xs)))
  ev_plus zero (x ∷ xs) (y ∷ ys) = nat_add x y
  ev_plus (suc n) (x ∷ xs) (y ∷ ys) =
      ap₂ (λ u v. add (mul u (power (suc n))) (mul Y v)) (nat_add x y) (ev_plus n xs ys)
      ∙ two_sums (nat x) (nat y) (power (suc n)) Y (ev n xs) (ev n ys)

  pub ev_scaled : (n a : ℕ) (ts : List ℕ) → ev n (scaled a ts) ≡ mul (nat a) (ev n ts)
  ev_scaled n a [] = sym (mul_zero (nat a))
  ev_scaled zero a (t ∷ ts) = nat_mul a t
  ev_scaled (suc n) a (t ∷ ts) =
      ap₂ (λ u v. add (mul u (power (suc n))) (mul Y v)) (nat_mul a t) (ev_scaled n a ts)
      ∙ scale_out (nat a) (nat t) (power (suc n)) Y (ev n ts)

  shift : (q : List ℕ) (j m k : ℕ) → k ≡ j + m → length q ≤ suc m → ev k q ≡ mul (power j) (ev m q)
  shift [] j m k e h = sym (mul_zero (power j))
  shift (t ∷ ts) zero zero zero e h = sym (mul_one (nat t)) ∙ mul_comm (nat t) (nat 1)
  shift (t ∷ ts) zero zero (suc k) e h = absurd (omega arith)
  shift (t ∷ ts) (suc j) zero zero e h = absurd (omega arith)
  shift (t ∷ []) (suc j) zero (suc k) e h =
      let z : j ≡ k = omega arith in
      ap₂ (λ u v. add (mul (nat t) (power (suc u))) v) (sym z) (mul_zero Y) ∙ add_zero (mul (nat t) (power (suc j))) ∙ mul_comm (nat t) (power (suc j))
  shift (t ∷ s ∷ ts) (suc j) zero (suc k) e h = absurd (omega arith)
  shift (t ∷ ts) j (suc m) zero e h = absurd (omega arith)
  shift (t ∷ ts) j (suc m) (suc k) e h =
      ap₂ (λ u v. add (mul (nat t) u) (mul Y v)) (power_add j (suc m) (suc k) e) (shift ts j m k (omega arith) (omega arith))
      ∙ ap₂ add (mul_swap S (nat t) (power j) (power (suc m))) (mul_swap S Y (power j) (ev m ts))
      ∙ sym (mul_add (power j) (mul (nat t) (power (suc m))) (mul Y (ev m ts)))

  nil_first : (k : ℕ) (ts : List ℕ) → ev (suc k) (0 ∷ ts) ≡ mul Y (ev k ts)
  nil_first k ts =
      ap (λ u. add u (mul Y (ev k ts))) (mul_comm (nat 0) (power (suc k)) ∙ mul_zero (power (suc k)))
      ∙ add_comm (nat 0) (mul Y (ev k ts)) ∙ add_zero (mul Y (ev k ts))

  nil : (k : ℕ) → ev k (0 ∷ []) ≡ nat 0
  nil zero = refl
  nil (suc k) = nil_first k [] ∙ mul_zero Y

  pub ev_conv : (p q : List ℕ) (n m k : ℕ) → k ≡ n + m → length p ≤ suc n → length q ≤ suc m → ev k (conv p q) ≡ mul (ev n p) (ev m q)
  unfolding conv
  ev_conv [] q n m k e h l = sym (mul_zero (ev m q)) ∙ mul_comm (ev m q) (nat 0)
  ev_conv (a ∷ []) q zero m k e h l =
      let z : k ≡ m = omega arith in
      ev_plus k (scaled a q) (0 ∷ []) ∙ ap₂ add (ev_scaled k a q) (nil k) ∙ add_zero (mul (nat a) (ev k q)) ∙ ap (λ u. mul (nat a) (ev u q)) z
  ev_conv (a ∷ b ∷ p) q zero m k e h l = absurd (omega arith)
  ev_conv (a ∷ p) q (suc n) m zero e h l = absurd (omega arith)
  ev_conv (a ∷ p) q (suc n) m (suc k) e h l =
      ev_plus (suc k) (scaled a q) (0 ∷ conv p q)
      ∙ ap₂ add
      (ev_scaled (suc k) a q ∙ ap (mul (nat a)) (shift q (suc n) m (suc k) e l) ∙ sym (mul_assoc (nat a) (power (suc n)) (ev m q)))
      (nil_first k (conv p q) ∙ ap (mul Y) (ev_conv p q n m k (omega arith) (omega arith) l) ∙ sym (mul_assoc Y (ev n p) (ev m q)))
      ∙ sym (add_mul S (mul (nat a) (power (suc n))) (mul Y (ev n p)) (ev m q))
