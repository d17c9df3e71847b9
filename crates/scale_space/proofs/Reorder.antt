-- The order in a pile does not matter: passes that stand equally often have the same taps.
use Rattle.std.proofs.Common.{◌≡◌, ℕ, ◌+◌, ◌<◌, true, cond, List, [], ◌∷◌, Decides, sym, refl, ap, subst, ◌∙◌, ⊎_elim, arith}
use Rattle.std.specs.List.{AllByRecursion}
use Rattle.std.proofs.lemmas.Bool.Decides.{nat_tests}
use Rattle.std.proofs.lemmas.Bool.{cases_Bool, cond-true, cond-false, false≢true}
use Rattle.scale_space.specs.declared.passes.Pass.{Pass}
use Rattle.scale_space.specs.declared.passes.Pass.TheVariants.{Pair, Triple}
use Rattle.scale_space.specs.Taps.{conv}
use Rattle.scale_space.specs.Passes.{weights, taps}
use Rattle.scale_space.specs.Primes.{same, count}
use Rattle.scale_space.proofs.Conv.{conv_swap}
use Rattle.scale_space.proofs.Piles.{weights_some, taps_some}

pub same_true : (p q : Pass) → same p q ≡ true → p ≡ q
same_true (Pair a b) (Pair d e) t = grind (arith, nat_tests)
same_true (Pair a b) (Triple d e f) t = absurd (false≢true t)
same_true (Triple a b c) (Pair d e) t = absurd (false≢true t)
same_true (Triple a b c) (Triple d e f) t = grind (arith, nat_tests)

pub same_self : (p : Pass) → same p p ≡ true
same_self (Pair a b) = grind (arith, nat_tests)
same_self (Triple a b c) = grind (arith, nat_tests)

pub same_decides : (p q : Pass) → Decides (same p q) (p ≡ q)
same_decides p q = (same_true p q, λ e. subst (λ z. same p z ≡ true) e (same_self p))

pub count_self : (p : Pass) (ps : List Pass) → count p (p ∷ ps) ≡ 1 + count p ps
count_self p ps = ap (λ w. w + count p ps) (cond-true (same p p) 1 0 (same_self p))

-- p taken out of the pile qs
pub record Picked (p : Pass) (qs : List Pass) : Type 1 where
  pub rest : List Pass
  pub keeps : (P : Pass → Type 0) → AllByRecursion P qs → AllByRecursion P rest
  pub same_taps : taps qs ≡ conv (weights p) (taps rest)
  pub counts : (x : Pass) → count x qs ≡ count x (p ∷ rest)

put_back : (p q : Pass) (qs : List Pass) → Picked p qs → Picked p (q ∷ qs)
put_back p q qs k = record {
  rest = q ∷ k.rest;
  keeps = λ P h. (h.0, k.keeps P h.1);
  same_taps = ap (conv (weights q)) k.same_taps ∙ conv_swap (weights q) (weights p) (taps k.rest) (weights_some q) (weights_some p) (taps_some k.rest);
  counts = λ x. omega (arith, k.counts x);
}

pub pick : (p : Pass) (qs : List Pass) → 0 < count p qs → Picked p qs
pick p [] h = absurd (omega arith)
pick p (q ∷ qs) h = ⊎_elim found (λ e. put_back p q qs (pick p qs (omega (arith, h, cond-false {A = ℕ} (same p q) 1 0 e)))) (cases_Bool (same p q))
  where
    found : same p q ≡ true → Picked p (q ∷ qs)
    found t =
        let e : q ≡ p = sym (same_true p q t) in
        record {
          rest = qs;
          keeps = λ P h. h.1;
          same_taps = ap (λ w. conv (weights w) (taps qs)) e;
          counts = λ x. ap (λ w. cond (same x w) 1 0 + count x qs) e;
        }

pub orderless : (ps qs : List Pass) → ((p : Pass) → count p ps ≡ count p qs) → taps ps ≡ taps qs
orderless [] [] e = refl
orderless [] (q ∷ qs) e = absurd (omega (arith, e q, count_self q qs))
orderless (p ∷ ps) qs e =
    let c : Picked p qs = pick p qs (omega (arith, e p, count_self p ps)) in
    ap (conv (weights p)) (orderless ps c.rest (λ x. omega (arith, e x, c.counts x))) ∙ sym c.same_taps
