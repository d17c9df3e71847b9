-- The limits of a pile, and the laws of what keeps them.
use Rattle.std.specs.Prelude.{◌≡◌, ℕ, ◌+◌, ◌-◌, ◌*◌, ◌/◌, ◌^◌, ◌<◌, ◌≤◌, true, ◌&&◌, nat_le, leb, ◌⊎◌, List, [], ◌∷◌, length, ℤ, pos, ◌*ℤ◌}
use Rattle.std.proofs.Common.{sym, ap, subst, ◌∙◌, inl, inr, le-div_iff_mul-le, div-lt_iff_lt-mul, le_refl, mul-le-mul_left, arith}
use Rattle.std.proofs.lemmas.Int.{ints}
use Rattle.std.proofs.Math.IntN.{+ℤ_idr}
use Rattle.std.proofs.lemmas.Bool.{le-leb, lt-leb, leb-true, cases_lt, cond_both, and_parts}
use Rattle.scale_space.specs.Signs.{changes}
use Rattle.scale_space.specs.Taps.{dot, windows, scale, conv}
use Rattle.scale_space.specs.Levels.{Diminishing}
use Rattle.scale_space.proofs.Conv.{conv_scale, length_conv}
use Rattle.scale_space.proofs.Piles.{taps_pile}
use Rattle.scale_space.proofs.Windows.{windows_cons, windows_short}
use Rattle.smoother.specs.Piled.{scales_fit, reaches_fit, piled}

-- the one tap 1 changes nothing
windows_one : (xs : List ℤ) → windows (1 ∷ []) xs ≡ xs
unfolding dot
windows_one [] = windows_short (1 ∷ []) [] (omega arith)
windows_one (x ∷ xs) =
    let once : pos 1 *ℤ x ≡ x = omega (arith, ints) in
    windows_cons (1 ∷ []) x xs (omega arith) ∙ (λ i. (+ℤ_idr (pos 1 *ℤ x) ∙ once) i ∷ windows_one xs i)

pub diminishing_one : Diminishing (1 ∷ [])
diminishing_one xs = subst (λ ys. changes ys ≤ changes xs) (sym (windows_one xs)) (le_refl (changes xs))

-- ---- the tests
pub quotient_test : (a b n : ℕ) → 1 ≤ b → leb a (n / b) ≡ leb (a * b) n
quotient_test a b n one = by (cases_lt (n / b) a)
  where
    by : (n / b < a) ⊎ (a ≤ n / b) → leb a (n / b) ≡ leb (a * b) n
    by (inl h) = lt-leb _ _ h ∙ sym (lt-leb _ _ ((div-lt_iff_lt-mul one).0 h))
    by (inr h) = le-leb _ _ h ∙ sym (le-leb _ _ ((le-div_iff_mul-le one).0 h))

pub scales_test : (p q : List ℕ) (a b : ℕ) → a ≡ scale p → b ≡ scale q → 1 ≤ scale q → nat_le a (2 ^ 40 / b) ≡ scales_fit p q
scales_test p q a b e f one =
    ap (λ n. leb n (2 ^ 40 / b)) e ∙ ap (λ n. leb (scale p) (2 ^ 40 / n)) f ∙ quotient_test (scale p) (scale q) (2 ^ 40) one

scales_within : (p q : List ℕ) → scales_fit p q ≡ true → scale p * scale q ≤ 2 ^ 40
scales_within p q e = leb-true (scale p * scale q) (2 ^ 40) e

reaches_within : (p q : List ℕ) → reaches_fit p q ≡ true → (length p - 1) + (length q - 1) ≤ 48
reaches_within p q e = leb-true ((length p - 1) + (length q - 1)) 48 e

-- ---- the laws of a pile, from those of its parts
both : (p q : List ℕ) → scales_fit p q && reaches_fit p q ≡ true → (scale p * scale q ≤ 2 ^ 40) × ((length p - 1) + (length q - 1) ≤ 48)
both p q e = let h = and_parts (scales_fit p q) (reaches_fit p q) e in (scales_within p q h.0, reaches_within p q h.1)

pub piled_length : (p q : List ℕ) → 1 ≤ length p → 1 ≤ length q → (1 ≤ length (piled p q)) × (length (piled p q) ≤ 49)
piled_length p q h k =
    cond_both (scales_fit p q && reaches_fit p q) (conv p q) (1 ∷ []) (λ ts. (1 ≤ length ts) × (length ts ≤ 49))
    (λ e. omega (arith, (both p q e).1, length_conv p q h k))
    (λ e. omega arith)

pub piled_scale : (p q : List ℕ) → 1 ≤ scale p → 1 ≤ scale q → (1 ≤ scale (piled p q)) × (scale (piled p q) ≤ 2 ^ 40)
unfolding scale
piled_scale p q h k =
    cond_both (scales_fit p q && reaches_fit p q) (conv p q) (1 ∷ []) (λ ts. (1 ≤ scale ts) × (scale ts ≤ 2 ^ 40))
    (λ e. omega (arith, (both p q e).0, conv_scale p q, mul-le-mul_left (scale p) k))
    (λ e. omega arith)

pub piled_diminishing : (p q : List ℕ) → 1 ≤ length p → 1 ≤ length q → Diminishing p → Diminishing q → Diminishing (piled p q)
piled_diminishing p q h k f g =
    cond_both (scales_fit p q && reaches_fit p q) (conv p q) (1 ∷ []) Diminishing (λ e. (taps_pile p q h k).diminishing f g) (λ e. diminishing_one)
