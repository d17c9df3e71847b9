-- The test `proper` says what `Proper` says, and so for lists.
use Rattle.std.proofs.Common.{◌≡◌, ℕ, ◌≤◌, true, ◌&&◌, eqb, ltb, leb, List, [], ◌∷◌, refl, subst, arith}
use Prim.Native.Nat.{◌∣◌}
use native.Mathlib.Nat.{eq-one_of_dvd-one}
use Rattle.std.specs.List.{AllByRecursion}
use Rattle.std.proofs.lemmas.Bool.{and_parts, and_from, leb-true, le-leb, ltb-true, lt-ltb, eqb-true, eq-eqb}
use Rattle.scale_space.specs.declared.passes.Pass.{Pass}
use Rattle.scale_space.specs.declared.passes.Pass.TheVariants.{Pair, Triple}
use Rattle.scale_space.specs.Taps.{scale}
use Rattle.scale_space.specs.Divisors.{common}
use Rattle.scale_space.specs.Passes.{weights, admitted, Proper}
use Rattle.scale_space.proofs.Divisors.{common_greatest}
use Rattle.schedule.specs.Tests.{in_range, proper, all_proper}

pub range_means : (ws : List ℕ) → in_range ws ≡ true → AllByRecursion (λ w. w ≤ 1000) ws
range_means [] h = tt
range_means (w ∷ ws) h = let p = and_parts (leb w 1000) (in_range ws) h in (leb-true w 1000 p.0, range_means ws p.1)

range_test : (ws : List ℕ) → AllByRecursion (λ w. w ≤ 1000) ws → in_range ws ≡ true
range_test [] h = refl
range_test (w ∷ ws) h = and_from (leb w 1000) (in_range ws) (le-leb w 1000 h.0) (range_test ws h.1)

pub proper_means : (p : Pass) → proper p ≡ true → Proper p
unfolding proper
proper_means p h =
    let ws = weights p in
    let x = and_parts (in_range ws) (ltb 0 (scale ws) && (eqb (common ws) 1 && admitted p)) h in
    let y = and_parts (ltb 0 (scale ws)) (eqb (common ws) 1 && admitted p) x.1 in
    let z = and_parts (eqb (common ws) 1) (admitted p) y.1 in
    record {
      small = range_means ws x.0;
      some = ltb-true 0 (scale ws) y.0;
      reduced = λ d k. eq-one_of_dvd-one (subst (λ n. d ∣ n) (eqb-true (common ws) 1 z.0) ((common_greatest ws).most d k));
      admissible = z.1;
    }

pub proper_test : (p : Pass) → Proper p → proper p ≡ true
unfolding proper
proper_test p h =
    let ws = weights p in
    let one : common ws ≡ 1 = h.reduced (common ws) (common_greatest ws).each in
    and_from (in_range ws) (ltb 0 (scale ws) && (eqb (common ws) 1 && admitted p)) (range_test ws h.small)
    (and_from (ltb 0 (scale ws)) (eqb (common ws) 1 && admitted p) (lt-ltb 0 (scale ws) h.some)
    (and_from (eqb (common ws) 1) (admitted p) (eq-eqb (common ws) 1 one) h.admissible))

pub all_proper_means : (ps : List Pass) → all_proper ps ≡ true → AllByRecursion Proper ps
all_proper_means [] h = tt
all_proper_means (p ∷ ps) h = let x = and_parts (proper p) (all_proper ps) h in (proper_means p x.0, all_proper_means ps x.1)

pub all_proper_test : (ps : List Pass) → AllByRecursion Proper ps → all_proper ps ≡ true
all_proper_test [] h = refl
all_proper_test (p ∷ ps) h = and_from (proper p) (all_proper ps) (proper_test p h.0) (all_proper_test ps h.1)

-- three weights at most
pub scale_le : (p : Pass) → Proper p → scale (weights p) ≤ 3000
unfolding scale
scale_le (Pair a b) h = let s = h.small in omega (arith, s.0, s.1.0)
scale_le (Triple a b c) h = let s = h.small in omega (arith, s.0, s.1.0, s.1.1.0)
