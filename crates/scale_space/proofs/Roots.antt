-- Each prime has a root, a place at which it vanishes and no other prime does.
use Rattle.std.proofs.Common.{◌≡◌, ℕ, zero, suc, ◌+◌, ◌-◌, ◌*◌, ◌<◌, ◌⊎◌, [], ◌∷◌, length, ap, arith}
use native.Mathlib.Nat.{eq_of_mul-eq-mul_left}
use Rattle.scale_space.specs.declared.passes.Pass.{Pass}
use Rattle.scale_space.specs.declared.passes.Pass.TheVariants.{Pair, Triple}
use Rattle.scale_space.specs.Taps.{scale}
use Rattle.scale_space.specs.Divisors.{Reduced}
use Rattle.scale_space.specs.Passes.{weights}
use Rattle.scale_space.specs.Primes.{NoSquare, Unsplit, Prime}
use Rattle.scale_space.proofs.Divisors.{reduced_some, same_multiple, weights_apart}
use Rattle.scale_space.proofs.Semiring.{surds}
use Rattle.scale_space.proofs.Place.{Place, ev}
use Rattle.scale_space.proofs.Irrational.{no_root}
use Rattle.scale_space.proofs.Surd.{Surd, ZeroS, place, Distance, distance, squares}

-- the weights of q as a form, at the point of a place
abbrev pub value : (P : Place) → Pass → P.ring.R
value P q = ev P.ring P.X P.Y (length (weights q) - 1) (weights q)

abbrev pub Vanishes : Place → Pass → Type 0
Vanishes P q = P.Zero (value P q)

pub record RootOf (p : Pass) : Type 1 where
  pub at : Place
  pub here : Vanishes at p
  pub only : (q : Pass) → Prime q → Vanishes at q → q ≡ p

-- ---- pairs: b X - a Y, at whole numbers
no_square_two : NoSquare 2
no_square_two zero e = omega arith
no_square_two (suc zero) e = omega arith
no_square_two (suc (suc s)) e = omega arith

abbrev pair_x : ℕ → ℕ → Surd
pair_x a b = ((b, 0), (0, 0))

abbrev pair_y : ℕ → ℕ → Surd
pair_y a b = ((0, a), (0, 0))

pair_at_pair : (a b a' b' : ℕ) → ZeroS (ev (surds 2) (pair_x a b) (pair_y a b) 1 (a' ∷ b' ∷ [])) → a' * b ≡ b' * a
pair_at_pair a b a' b' (e, f) = omega (arith, e)

triple_at_pair : (a b a' b' c' : ℕ) → ZeroS (ev (surds 2) (pair_x a b) (pair_y a b) 2 (a' ∷ b' ∷ c' ∷ [])) → a' * (b * b) + c' * (a * a) ≡ b' * (a * b)
triple_at_pair a b a' b' c' (e, f) = omega (arith, e)

reduced_apart : (a b : ℕ) → Reduced (a ∷ b ∷ []) → 0 < a + b
unfolding scale
reduced_apart a b red = omega (arith, reduced_some (a ∷ b ∷ []) red)

same_pair : (a b a' b' : ℕ) → Reduced (a ∷ b ∷ []) → Reduced (a' ∷ b' ∷ []) → a' * b ≡ b' * a → Pair a' b' ≡ Pair a b
same_pair a b a' b' red red' e =
    weights_apart (Pair a' b') (Pair a b)
    (same_multiple (a' ∷ b' ∷ []) (a ∷ b ∷ []) (a + b) (a' + b') red' red (reduced_apart a b red) (λ i. first i ∷ second i ∷ []))
  where
    first : (a + b) * a' ≡ (a' + b') * a
    first = omega arith

    second : (a + b) * b' ≡ (a' + b') * b
    second = omega arith

-- the first of a triple that does not split is not 0
first_positive : (a b c : ℕ) → Unsplit a b c → 0 < a
first_positive zero b c u = absurd (u.none b (omega (arith, u.is)))
first_positive (suc a) b c u = omega arith

-- a triple that does not split has no rational root
never_at_pair : (a b a' b' c' : ℕ) → Reduced (a ∷ b ∷ []) → Unsplit a' b' c' → a' * (b * b) + c' * (a * a) ≡ b' * (a * b) → ⊥
never_at_pair a b a' b' c' red u e = by (distance (2 * (a' * b)) (b' * a))
  where
    by : Distance (2 * (a' * b)) (b' * a) → ⊥
    by (t, h) =
        let sq : 2 * (a' * b) * (2 * (a' * b)) + b' * a * (b' * a) ≡ 2 * (2 * (a' * b) * (b' * a)) + t * t = squares (2 * (a' * b)) (b' * a) t h in
        let z : (t ≡ 0) × (a ≡ 0) = no_root u.d u.none t a (omega (arith, sq, ap (λ w. 4 * a' * w) e, ap (λ w. w * (a * a)) u.is)) in
        done z h
      where
        done : (t ≡ 0) × (a ≡ 0) → (2 * (a' * b) ≡ b' * a + t) ⊎ (b' * a ≡ 2 * (a' * b) + t) → ⊥
        done (i, j) h =
            let z : a' * b ≡ a' * 0 = omega (arith, ap (λ w. b' * w) j) in
            omega (arith, j, eq_of_mul-eq-mul_left a' (first_positive a' b' c' u) b 0 z, reduced_apart a b red)

pair_root : (a b : ℕ) → Reduced (a ∷ b ∷ []) → RootOf (Pair a b)
pair_root a b red = record {
  at = place 2 no_square_two (pair_x a b) (pair_y a b);
  here = omega arith;
  only = other;
}
  where
    other : (q : Pass) → Prime q → Vanishes (place 2 no_square_two (pair_x a b) (pair_y a b)) q → q ≡ Pair a b
    other (Pair a' b') red' z = same_pair a b a' b' red red' (pair_at_pair a b a' b' z)
    other (Triple a' b' c') pr z = absurd (never_at_pair a b a' b' c' red pr.1 (triple_at_pair a b a' b' c' z))

-- ---- triples: at X = -b + √d, Y = 2a
abbrev triple_x : ℕ → ℕ → Surd
triple_x a b = ((0, b), (1, 0))

abbrev triple_y : ℕ → ℕ → Surd
triple_y a b = ((2 * a, 0), (0, 0))

pair_at_triple : (d a b a' b' : ℕ) → ZeroS (ev (surds d) (triple_x a b) (triple_y a b) 1 (a' ∷ b' ∷ [])) → (a' ≡ 0) × (2 * (a * b') ≡ a' * b)
pair_at_triple d a b a' b' (e, f) = (omega arith, omega arith)

triple_at_triple : (d a b a' b' c' : ℕ) → ZeroS (ev (surds d) (triple_x a b) (triple_y a b) 2 (a' ∷ b' ∷ c' ∷ [])) →
    (a' * (b * b) + a' * d + 4 * (a * (a * c')) ≡ 2 * (a * (b * b'))) × (a * b' ≡ a' * b)
triple_at_triple d a b a' b' c' (e, f) = (omega (arith, e), omega (arith, f))

triple_here : (d a b c : ℕ) → d + 4 * (a * c) ≡ b * b → ZeroS (ev (surds d) (triple_x a b) (triple_y a b) 2 (a ∷ b ∷ c ∷ []))
triple_here d a b c e = (omega (arith, ap (λ w. a * w) e), omega arith)

same_triple : (d a b c a' b' c' : ℕ) → 0 < a → d + 4 * (a * c) ≡ b * b → Reduced (a ∷ b ∷ c ∷ []) → Reduced (a' ∷ b' ∷ c' ∷ []) →
    a' * (b * b) + a' * d + 4 * (a * (a * c')) ≡ 2 * (a * (b * b')) → a * b' ≡ a' * b → Triple a' b' c' ≡ Triple a b c
same_triple d a b c a' b' c' pos is red red' e f =
    weights_apart (Triple a' b' c') (Triple a b c) (same_multiple (a' ∷ b' ∷ c' ∷ []) (a ∷ b ∷ c ∷ []) a a' red' red pos (λ i. first i ∷ f i ∷ third i ∷ []))
  where
    first : a * a' ≡ a' * a
    first = omega arith

    third : a * c' ≡ a' * c
    third = eq_of_mul-eq-mul_left a pos (a * c') (a' * c) (omega (arith, e, ap (λ w. b * w) f, ap (λ w. a' * w) is))

triple_root : (a b c : ℕ) → Reduced (a ∷ b ∷ c ∷ []) → Unsplit a b c → RootOf (Triple a b c)
triple_root a b c red u = record {
  at = place u.d u.none (triple_x a b) (triple_y a b);
  here = triple_here u.d a b c u.is;
  only = other;
}
  where
    pos : 0 < a
    pos = first_positive a b c u

    other : (q : Pass) → Prime q → Vanishes (place u.d u.none (triple_x a b) (triple_y a b)) q → q ≡ Triple a b c
    other (Pair a' b') red' z =
        let h = pair_at_triple u.d a b a' b' z in
        absurd (omega (arith, h.0, eq_of_mul-eq-mul_left a pos b' 0 (omega (arith, h.1, ap (λ w. w * b) h.0)), reduced_apart a' b' red'))
    other (Triple a' b' c') pr z =
        let h = triple_at_triple u.d a b a' b' c' z in
        same_triple u.d a b c a' b' c' pos u.is red pr.0 h.0 h.1

pub root_of : (p : Pass) → Prime p → RootOf p
root_of (Pair a b) pr = pair_root a b pr
root_of (Triple a b c) pr = triple_root a b c pr.0 pr.1
