-- Unique factorisation: piles of primes with proportional taps hold the same primes, equally often.
use Rattle.std.proofs.Common.{◌≡◌, ℕ, ◌+◌, ◌-◌, ◌<◌, cond, List, [], ◌∷◌, length, sym, refl, ap, ◌∙◌, subst, ap₂, ⊎_elim, arith}
use Rattle.std.specs.List.{AllByRecursion}
use Rattle.scale_space.specs.declared.passes.Pass.{Pass}
use Rattle.scale_space.specs.declared.passes.Pass.TheVariants.{Pair, Triple}
use Rattle.scale_space.specs.Taps.{scaled}
use Rattle.scale_space.specs.Passes.{weights, reach, taps}
use Rattle.scale_space.specs.Divisors.{Reduced}
use Rattle.scale_space.specs.Primes.{Prime, same, count}
use Rattle.scale_space.proofs.Conv.{val, length_scaled, cancel}
use Rattle.scale_space.proofs.Divisors.{reduced_some}
use Rattle.scale_space.proofs.Piles.{weights_some, taps_length, taps_some}
use Rattle.scale_space.proofs.Place.{Place, ev, ev_conv, ev_scaled}
use Rattle.scale_space.proofs.Roots.{RootOf, root_of, value}
use Rattle.scale_space.proofs.Reorder.{count_self, Picked, pick}

pub prime_reduced : (p : Pass) → Prime p → Reduced (weights p)
prime_reduced (Pair a b) h = h
prime_reduced (Triple a b c) h = h.0

reach_positive : (p : Pass) (ps : List Pass) → 0 < reach (p ∷ ps)
reach_positive (Pair a b) ps = omega arith
reach_positive (Triple a b c) ps = omega arith

-- a pile at a place
abbrev piled : (P : Place) → List Pass → P.ring.R
piled P qs = ev P.ring P.X P.Y (reach qs) (taps qs)

piled_cons : (P : Place) (q : Pass) (qs : List Pass) → piled P (q ∷ qs) ≡ P.ring.mul (value P q) (piled P qs)
piled_cons P q qs =
    ev_conv P.ring P.X P.Y (weights q) (taps qs) (length (weights q) - 1) (reach qs) (reach (q ∷ qs)) refl
    (omega arith) (omega (arith, taps_length qs))

-- where a pile of primes vanishes at a root of p, p stands in it
stands : (p : Pass) (r : RootOf p) (qs : List Pass) → AllByRecursion Prime qs → r.at.Zero (piled r.at qs) → 0 < count p qs
stands p r [] prs z = let bad : ◌≡◌ {A = ℕ} 1 0 = r.at.apart 1 z in absurd (omega arith)
stands p r (q ∷ qs) (pr, prs) z =
    ⊎_elim
    (λ v. subst (λ w. 0 < cond (same p w) 1 0 + count p qs) (sym (r.only q pr v)) (omega (arith, count_self p qs)))
    (λ v. omega (arith, stands p r qs prs v))
    (r.at.no_divisors (value r.at q) (piled r.at qs) (subst r.at.Zero (piled_cons r.at q qs) z))

-- a root of a prime of the first pile is one of the second
passes : (p : Pass) (r : RootOf p) (ps qs : List Pass) (m n : ℕ) → 0 < n → scaled m (taps (p ∷ ps)) ≡ scaled n (taps qs) → r.at.Zero (piled r.at qs)
passes p r ps qs m n pos e =
    ⊎_elim (λ z. let bad : n ≡ 0 = P.apart n z in absurd (omega arith)) (λ z. z)
    (P.no_divisors (P.ring.nat n) (piled P qs) (subst P.Zero (sym moved ∙ scaled_value) whole))
  where
    P : Place
    P = r.at

    reaches : reach (p ∷ ps) ≡ reach qs
    reaches = omega (arith, ap length e, length_scaled m (taps (p ∷ ps)), length_scaled n (taps qs), taps_length (p ∷ ps), taps_length qs)

    one : P.Zero (piled P (p ∷ ps))
    one = subst P.Zero (P.ring.mul_comm (piled P ps) (value P p) ∙ sym (piled_cons P p ps)) (P.absorbs (piled P ps) (value P p) r.here)

    whole : P.Zero (P.ring.mul (P.ring.nat m) (piled P (p ∷ ps)))
    whole = P.absorbs (P.ring.nat m) (piled P (p ∷ ps)) one

    moved : ev P.ring P.X P.Y (reach (p ∷ ps)) (scaled m (taps (p ∷ ps))) ≡ P.ring.mul (P.ring.nat m) (piled P (p ∷ ps))
    moved = ev_scaled P.ring P.X P.Y (reach (p ∷ ps)) m (taps (p ∷ ps))

    scaled_value : ev P.ring P.X P.Y (reach (p ∷ ps)) (scaled m (taps (p ∷ ps))) ≡ P.ring.mul (P.ring.nat n) (piled P qs)
    scaled_value = ap₂ (ev P.ring P.X P.Y) reaches e ∙ ev_scaled P.ring P.X P.Y (reach qs) n (taps qs)

pub unique : (ps qs : List Pass) (m n : ℕ) → AllByRecursion Prime ps → AllByRecursion Prime qs → 0 < n → scaled m (taps ps) ≡ scaled n (taps qs) →
    ((p : Pass) → count p ps ≡ count p qs) × (m ≡ n)
unique [] [] m n prs qrs k e = ((λ p. refl), omega (arith, ap (val 0) e))
unique [] (q ∷ qs) m n prs qrs k e =
    absurd (omega (arith, ap length e, length_scaled n (taps (q ∷ qs)), taps_length (q ∷ qs), reach_positive q qs))
unique (p ∷ ps) qs m n (pr, prs) qrs k e =
    let r : RootOf p = root_of p pr in
    let c : Picked p qs = pick p qs (stands p r qs qrs (passes p r ps qs m n k e)) in
    let ih = unique ps c.rest m n prs (c.keeps Prime qrs) k
    (cancel (weights p) (taps ps) (taps c.rest) m n (reduced_some (weights p) (prime_reduced p pr)) (weights_some p) (taps_some ps) (taps_some c.rest)
    (e ∙ ap (scaled n) c.same_taps)) in
    ((λ x. omega (arith, ih.0 x, c.counts x)), ih.1)
