-- The factors of a proper pass are primes, and have its weights for their taps.
use Rattle.std.proofs.Common.{◌≡◌, ℕ, zero, suc, ◌+◌, ◌-◌, ◌*◌, ◌<◌, ◌≤◌, true, false, eqb, ◌⊎◌, List, [], ◌∷◌, ◌++◌, length, sym, refl, ap, ◌∙◌, subst, inl, inr, arith, length-append}
use native.Mathlib.Nat.{dvd-zero, eq-one_of_dvd-one}
use Rattle.std.specs.List.{AllByRecursion}
use Rattle.std.proofs.ByRecursion.{All-append}
use Rattle.std.proofs.lemmas.Bool.{cases_Bool, cond-true, cond-false, cond_both, eqb-true, eqb-false, eq-eqb, ne_eqb, leb-true}
use Rattle.scale_space.specs.declared.passes.Pass.{Pass}
use Rattle.scale_space.specs.declared.passes.Pass.TheVariants.{Pair, Triple}
use Rattle.scale_space.specs.Taps.{conv, scale}
use Rattle.scale_space.specs.Divisors.{Reduced}
use Rattle.scale_space.specs.Passes.{weights, lowest, taps, Proper}
use Rattle.scale_space.specs.Primes.{root, halves, cut, factors, primes, Prime, Factored}
use Rattle.scale_space.proofs.Conv.{conv_one, one_conv, conv_assoc}
use Rattle.scale_space.proofs.Divisors.{root_is, lowest_is, lowest_reduced}
use Rattle.scale_space.proofs.Piles.{weights_some, taps_some}
use Rattle.scale_space.proofs.Split.{conv_pairs, splits}

taps_append : (ps qs : List Pass) → taps (ps ++ qs) ≡ conv (taps ps) (taps qs)
taps_append [] qs = sym (one_conv (taps qs) (taps_some qs))
taps_append (p ∷ ps) qs = ap (conv (weights p)) (taps_append ps qs) ∙ sym (conv_assoc (weights p) (taps ps) (taps qs) (weights_some p) (taps_some ps) (taps_some qs))

single : (p : Pass) → Prime p → Factored (p ∷ []) (weights p)
single p h = record { prime = (h, tt); piled = conv_one (weights p) (weights_some p) }

double : (p q : Pass) (ts : List ℕ) → Prime p → Prime q → conv (weights p) (weights q) ≡ ts → Factored (p ∷ q ∷ []) ts
double p q ts h k e = record { prime = (h, (k, tt)); piled = ap (conv (weights p)) (conv_one (weights q) (weights_some q)) ∙ e }

-- ---- the two pairs of a triple that splits
-- where c is 0, and where it is not
pub halves_end : (a b c s : ℕ) → c ≡ 0 → halves a b c s ≡ Pair 1 0 ∷ lowest (Pair a b) ∷ []
halves_end a b c s z = cond-true (eqb c 0) (Pair 1 0 ∷ lowest (Pair a b) ∷ []) (lowest (Pair (b - s) (2 * c)) ∷ lowest (Pair (b + s) (2 * c)) ∷ []) (eq-eqb c 0 z)

pub halves_whole : (a b c s : ℕ) → (c ≡ 0 → ⊥) → halves a b c s ≡ lowest (Pair (b - s) (2 * c)) ∷ lowest (Pair (b + s) (2 * c)) ∷ []
halves_whole a b c s z = cond-false (eqb c 0) (Pair 1 0 ∷ lowest (Pair a b) ∷ []) (lowest (Pair (b - s) (2 * c)) ∷ lowest (Pair (b + s) (2 * c)) ∷ []) (ne_eqb c 0 z)

end_factored : (a b : ℕ) → Reduced (a ∷ b ∷ 0 ∷ []) → Factored (Pair 1 0 ∷ lowest (Pair a b) ∷ []) (a ∷ b ∷ 0 ∷ [])
end_factored a b red =
    subst (λ q. Factored (Pair 1 0 ∷ q ∷ []) (a ∷ b ∷ 0 ∷ [])) (sym (lowest_is (Pair a b) pair))
    (double (Pair 1 0) (Pair a b) (a ∷ b ∷ 0 ∷ []) (λ d h. eq-one_of_dvd-one h.0) pair (conv_pairs 1 0 a b ∙ (λ i. first i ∷ second i ∷ third i ∷ [])))
  where
    pair : Reduced (a ∷ b ∷ [])
    pair d (h, (k, _)) = red d (h, (k, (dvd-zero d, tt)))

    first : 1 * a ≡ a
    first = omega arith

    second : 1 * b + 0 * a ≡ b
    second = omega arith

    third : 0 * b ≡ 0
    third = omega arith

whole_factored : (a b c s : ℕ) → Reduced (a ∷ b ∷ c ∷ []) → s * s + 4 * (a * c) ≡ b * b → 0 < c →
    Factored (lowest (Pair (b - s) (2 * c)) ∷ lowest (Pair (b + s) (2 * c)) ∷ []) (a ∷ b ∷ c ∷ [])
unfolding scale
whole_factored a b c s red is pos =
    double (lowest (Pair (b - s) (2 * c))) (lowest (Pair (b + s) (2 * c))) (a ∷ b ∷ c ∷ [])
    (lowest_reduced (Pair (b - s) (2 * c)) (omega arith)) (lowest_reduced (Pair (b + s) (2 * c)) (omega arith)) (splits a b c s red is pos)

pub halves_factored : (a b c s : ℕ) → Reduced (a ∷ b ∷ c ∷ []) → s * s + 4 * (a * c) ≡ b * b → Factored (halves a b c s) (a ∷ b ∷ c ∷ [])
halves_factored a b zero s red is = subst (λ ps. Factored ps (a ∷ b ∷ 0 ∷ [])) (sym (halves_end a b 0 s refl)) (end_factored a b red)
halves_factored a b (suc c) s red is =
    subst (λ ps. Factored ps (a ∷ b ∷ suc c ∷ [])) (sym (halves_whole a b (suc c) s (λ z. omega arith))) (whole_factored a b (suc c) s red is (omega arith))

-- ---- passes
pub factors_factored : (p : Pass) → Proper p → Factored (factors p) (weights p)
factors_factored (Pair a b) h = single (Pair a b) h.reduced
factors_factored (Triple a b c) h = go (cases_Bool (eqb (s * s) d))
  where
    d : ℕ
    d = b * b - 4 * (a * c)

    s : ℕ
    s = root d

    le : 4 * (a * c) ≤ b * b
    le = leb-true (4 * (a * c)) (b * b) h.admissible

    go : (eqb (s * s) d ≡ true) ⊎ (eqb (s * s) d ≡ false) → Factored (cut a b c d s) (weights (Triple a b c))
    go (inl e) =
        subst (λ fs. Factored fs (weights (Triple a b c))) (sym (cond-true (eqb (s * s) d) (halves a b c s) (Triple a b c ∷ []) e))
        (halves_factored a b c s h.reduced (omega (arith, le, eqb-true (s * s) d e)))
    go (inr e) =
        subst (λ fs. Factored fs (weights (Triple a b c))) (sym (cond-false (eqb (s * s) d) (halves a b c s) (Triple a b c ∷ []) e))
        (single (Triple a b c) (h.reduced, record { d = d; is = omega (arith, le); none = none }))
      where
        none : (t : ℕ) → t * t ≡ d → ⊥
        none t f = eqb-false (s * s) d e (subst (λ n. n * n ≡ d) (root_is d t (omega arith, omega arith)) f)

pub primes_factored : (ps : List Pass) → AllByRecursion Proper ps → Factored (primes ps) (taps ps)
primes_factored [] h = record { prime = tt; piled = refl }
primes_factored (p ∷ ps) (h, k) =
    let m = factors_factored p h in
    let n = primes_factored ps k in
    record {
      prime = All-append Prime (factors p) (primes ps) m.prime n.prime;
      piled = taps_append (factors p) (primes ps) ∙ (λ i. conv (m.piled i) (n.piled i));
    }

-- ---- how many there are
halves_length : (a b c s : ℕ) → length (halves a b c s) ≡ 2
halves_length a b c s = cond_both (eqb c 0) (Pair 1 0 ∷ lowest (Pair a b) ∷ []) (lowest (Pair (b - s) (2 * c)) ∷ lowest (Pair (b + s) (2 * c)) ∷ []) (λ qs. length qs ≡ 2) (λ e. refl) (λ e. refl)

factors_length : (p : Pass) → length (factors p) ≤ 2
factors_length (Pair a b) = omega arith
factors_length (Triple a b c) =
    let d = b * b - 4 * (a * c) in
    let s = root d in
    cond_both (eqb (s * s) d) (halves a b c s) (Triple a b c ∷ []) (λ qs. length qs ≤ 2) (λ e. omega (arith, halves_length a b c s)) (λ e. omega arith)

pub primes_length : (ps : List Pass) → length (primes ps) ≤ 2 * length ps
primes_length [] = omega arith
primes_length (p ∷ ps) = omega (arith, length-append (factors p) (primes ps), factors_length p, primes_length ps)
