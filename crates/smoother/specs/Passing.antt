-- The laws of smoothers, for passes and for schedules of them.
use Rattle.std.specs.Prelude.{◌≡◌, ◌*◌, ◌^◌, ◌≤◌, List, [], ◌∷◌, length, ℤ}
use Rattle.std.proofs.Common.{◌∙◌, arith}
use Rattle.std.specs.List.{AllByRecursion}
use Rattle.scale_space.specs.declared.passes.Pass.{Pass}
use Rattle.scale_space.specs.declared.passes.Pass.TheVariants.{Pair, Triple}
use Rattle.scale_space.specs.Taps.{scale}
use Rattle.scale_space.specs.Levels.{Diminishing, ground, weighed}
use Rattle.scale_space.specs.Passes.{weights, Proper, product, taps, level}
use Rattle.scale_space.proofs.Calm.{admitted_diminish}
use Rattle.scale_space.proofs.Piles.{taps_pile, weights_some, taps_some, taps_length, reach_le, product_is, product_some, level_is}
use Rattle.schedule.proofs.Meaning.{scale_le}
use Rattle.smoother.specs.Limits.{diminishing_one}

-- ---- a pass
pub pass_short : (p : Pass) → length (weights p) ≤ 49
pass_short (Pair a b) = omega arith
pass_short (Triple a b c) = omega arith

pub pass_light : (p : Pass) → Proper p → scale (weights p) ≤ 2 ^ 40
pass_light p h = omega (arith, scale_le p h)

pub pass_diminishing : (p : Pass) → Proper p → Diminishing (weights p)
pass_diminishing p h = admitted_diminish p h.admissible

-- ---- passes piled
pub taps_short : (ps : List Pass) → length ps ≤ 24 → length (taps ps) ≤ 49
taps_short ps h = omega (arith, taps_length ps, reach_le ps)

pub taps_heavy : (ps : List Pass) → AllByRecursion Proper ps → 1 ≤ scale (taps ps)
taps_heavy ps h = omega (arith, product_is ps, product_some ps h)

pub taps_light : (ps : List Pass) → product ps ≤ 2 ^ 40 → scale (taps ps) ≤ 2 ^ 40
taps_light ps h = omega (arith, product_is ps)

pub taps_diminishing : (ps : List Pass) → AllByRecursion Proper ps → Diminishing (taps ps)
taps_diminishing [] h = diminishing_one
taps_diminishing (p ∷ ps) (h, k) = (taps_pile (weights p) (taps ps) (weights_some p) (taps_some ps)).diminishing (pass_diminishing p h) (taps_diminishing ps k)

-- laid on a profile, the taps give the last level
pub taps_draw : (ps : List Pass) (hs : List ℤ) → level ps hs ≡ weighed (taps ps) (ground hs)
taps_draw ps hs = level_is ps hs ∙ (λ i. record { numerators = (weighed (taps ps) (ground hs)).numerators; scale = e i })
  where
    e : product ps ≡ 1 * scale (taps ps)
    e = omega (arith, product_is ps)
