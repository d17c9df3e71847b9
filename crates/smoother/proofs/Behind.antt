-- The passes behind a place of a list, piled.
use Rattle.std.proofs.Common.{◌≡◌, ℕ, zero, suc, ◌+◌, ◌-◌, ◌*◌, ◌^◌, ◌<◌, ◌≤◌, List, [], ◌∷◌, length, drop, slice_index_or, sym, ap, ap₂, ◌∙◌, le-mul_of_pos_right, arith}
use Rattle.std.specs.List.{AllByRecursion}
use Rattle.std.proofs.lemmas.List.{drop_more, drop_all, length-drop}
use Rattle.scale_space.specs.declared.passes.Pass.{Pass}
use Rattle.scale_space.specs.declared.passes.Pass.TheVariants.{Pair, Triple}
use Rattle.scale_space.specs.Taps.{scale, conv}
use Rattle.scale_space.specs.Passes.{weights, Proper, product, taps}
use Rattle.scale_space.proofs.Piles.{weights_some, taps_some, taps_length, reach_le, product_is}
use Rattle.schedule.specs.Standing.{Standing}

-- ---- one more pass piled before those behind it
product_drop : (ps : List Pass) (i : ℕ) → AllByRecursion Proper ps → product (drop i ps) ≤ product ps
product_drop ps zero h = omega arith
product_drop [] (suc i) h = omega arith
product_drop (p ∷ ps) (suc i) (h, k) = omega (arith, product_drop ps i k, le-mul_of_pos_right (product ps) h.some)

weights_short : (p : Pass) → length (weights p) ≤ 3
weights_short (Pair a b) = omega arith
weights_short (Triple a b c) = omega arith

taps_cons : (ps : List Pass) (i : ℕ) (d : Pass) → i < length ps → taps (drop i ps) ≡ conv (weights (slice_index_or ps i d)) (taps (drop (i + 1) ps))
taps_cons ps i d l = ap taps (drop_more ps i d l)

-- the taps ws of pass i, and the taps ts of those behind it
module _ (ps : List Pass) (i : ℕ) (d : Pass) (ws ts : List ℕ) (l : i < length ps) (st : Standing ps) (e : ws ≡ weights (slice_index_or ps i d)) (f : ts ≡ taps (drop (i + 1) ps)) where
  pub next_taps : conv ws ts ≡ taps (drop i ps)
  next_taps = ap₂ conv e f ∙ sym (taps_cons ps i d l)

  pub next_some : (1 ≤ length ws) × (1 ≤ length ts)
  next_some = (omega (arith, ap length e, weights_some (slice_index_or ps i d)), omega (arith, ap length f, taps_some (drop (i + 1) ps)))

  pub next_short : length ws + length ts ≤ 50
  next_short = omega (arith, ap length e, ap length f, weights_short (slice_index_or ps i d), taps_length (drop (i + 1) ps), reach_le (drop (i + 1) ps), length-drop (i + 1) ps, st.short)

  pub next_light : scale ws * scale ts ≤ 2 ^ 40
  next_light = omega (arith, same, product_drop ps i st.each, st.bounded)
    where
      same : scale ws * scale ts ≡ product (drop i ps)
      same = ap₂ (λ u v. scale u * scale v) e f ∙ ap (λ n. scale (weights (slice_index_or ps i d)) * n) (sym (product_is (drop (i + 1) ps))) ∙ sym (ap product (drop_more ps i d l))

-- before the first turn nothing is piled
pub taps_none : (ps : List Pass) (ts : List ℕ) → ts ≡ 1 ∷ [] → ts ≡ taps (drop (length ps) ps)
taps_none ps ts e = e ∙ sym (ap taps (drop_all (length ps) ps (omega arith)))

-- the place before i, counted from there
pub taps_back : (ps : List Pass) (i : ℕ) (ts : List ℕ) → 0 < i → ts ≡ taps (drop i ps) → ts ≡ taps (drop (i - 1 + 1) ps)
taps_back ps i ts h e = let n : i ≡ i - 1 + 1 = omega arith in e ∙ ap (λ k. taps (drop k ps)) n

-- after the last turn all are piled
pub taps_all : (ps qs : List Pass) (i : ℕ) (ts : List ℕ) → i ≤ 0 → qs ≡ ps → ts ≡ taps (drop i qs) → ts ≡ taps ps
taps_all ps qs zero ts h e f = f ∙ ap taps e
taps_all ps qs (suc i) ts h e f = absurd (omega arith)
