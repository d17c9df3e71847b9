-- Passes piled from the last to the first.
use Rattle.std.proofs.Common.{◌≡◌, ℕ, ◌+◌, ◌*◌, ◌^◌, ◌≤◌, List, [], ◌∷◌, ◌++◌, length, sym, ap, ap₂, subst, ◌∙◌, le-mul_of_pos_right, arith}
use Rattle.std.specs.List.{AllByRecursion}
use Rattle.std.proofs.lemmas.List.{length-append}
use Rattle.scale_space.specs.declared.passes.Pass.{Pass}
use Rattle.scale_space.specs.declared.passes.Pass.TheVariants.{Pair, Triple}
use Rattle.scale_space.specs.Taps.{scale}
use Rattle.scale_space.specs.Passes.{weights, Proper, product, taps}
use Rattle.scale_space.proofs.Piles.{taps_length, reach_le, product_is}
use Rattle.schedule.specs.Standing.{Standing}

product_last : (qs ds : List Pass) → AllByRecursion Proper (qs ++ ds) → product ds ≤ product (qs ++ ds)
product_last [] ds h = omega arith
product_last (q ∷ qs) ds (h, k) = omega (arith, product_last qs ds k, le-mul_of_pos_right (product (qs ++ ds)) h.some)

weights_short : (p : Pass) → length (weights p) ≤ 3
weights_short (Pair a b) = omega arith
weights_short (Triple a b c) = omega arith

-- the taps ws of the pass p, which stands before the passes ds, and their taps ts
module _ (ps qs ds : List Pass) (p : Pass) (ws ts : List ℕ) (all : qs ++ (p ∷ ds) ≡ ps) (st : Standing ps) (e : ws ≡ weights p) (f : ts ≡ taps ds) where
  pub next_short : length ws + length ts ≤ 50
  next_short = omega (arith, ap length e, ap length f, weights_short p, taps_length ds, reach_le ds, ap length all, length-append qs (p ∷ ds), st.short)

  pub next_light : scale ws * scale ts ≤ 2 ^ 40
  next_light = omega (arith, same, product_last qs (p ∷ ds) (subst (AllByRecursion Proper) (sym all) st.each), ap product all, st.bounded)
    where
      same : scale ws * scale ts ≡ product (p ∷ ds)
      same = ap₂ (λ u v. scale u * scale v) e f ∙ ap (λ n. scale (weights p) * n) (sym (product_is ds))

pub none_left : (qs ds ps : List Pass) → length qs ≡ 0 → qs ++ ds ≡ ps → ds ≡ ps
none_left [] ds ps n e = e
none_left (q ∷ qs) ds ps n e = absurd (omega arith)
