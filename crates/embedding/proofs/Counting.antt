-- The turns of the levels, counted one behind the other.
use Rattle.std.proofs.Common.{◌≡◌, ℕ, suc, ◌+◌, ◌<◌, ◌≤◌, List, [], ◌∷◌, ◌++◌, length, take, set, ℤ, sym, refl, ap, ◌∙◌, ap₂, add-one, arith}
use Rattle.std.proofs.lemmas.List.{take_more_set, take_all}
use Rattle.scale_space.specs.declared.passes.Pass.{Pass}
use Rattle.scale_space.specs.Levels.{turn_count}
use Rattle.levels.specs.declared.walks.Walk.{Walk}
use Rattle.levels.specs.Walks.{come_to, At}
use Rattle.embedding.specs.Tallies.{turn_counts}
use Rattle.embedding.proofs.Tallies.{length_counts}

-- a walk that set out as w has come to v, at level `at` where there is one, and the levels below are counted
pub record Counted (w v : Walk) (counts : List ℕ) (at : ℕ) : Type 0 where
  pub same : v.last ≡ w.last
  pub law : (ps : List Pass) (hs : List ℤ) → At w ps (length ps) 0 hs → (at ≤ w.last → At v ps (length ps) at hs) × (take at counts ≡ turn_counts ps hs at)

pub counted_none : (w : Walk) (counts : List ℕ) → Counted w w counts 0
counted_none w counts = record { same = refl; law = λ ps hs a. (λ l. a, refl) }

module _ (w v : Walk) (counts : List ℕ) (at : ℕ) (p : Counted w v counts at) (all : length counts ≡ suc w.last) where
  pub counted_more : at < length counts → (n : ℕ) → n ≡ turn_count (come_to v) → (u : Walk) → u.last ≡ v.last → ((ps : List Pass) (last k : ℕ) (hs : List ℤ) → At v ps last k hs → k < last → At u ps last (k + 1) hs) → Counted w u (set counts at n) (at + 1)
  counted_more room n is u to up = record {
    same = to ∙ p.same;
    law = λ ps hs a.
        let q = p.law ps hs a in
        let here = q.0 (omega (arith, room, all)) in (
          λ more. up ps (length ps) at hs here (omega (arith, more, a.to)),
          take_more_set counts at n room
              ∙ ap₂ (λ x y. x ++ (y ∷ [])) q.1 (is ∙ ap turn_count here.holds)
              ∙ ap (turn_counts ps hs) (sym (add-one at)),
        );
  }

  pub counted_all : length counts ≤ at → (ps : List Pass) (hs : List ℤ) → At w ps (length ps) 0 hs → counts ≡ turn_counts ps hs (suc (length ps))
  counted_all end ps hs a =
      let is : counts ≡ turn_counts ps hs at = sym (take_all at counts end) ∙ (p.law ps hs a).1 in
      let top : at ≡ suc (length ps) = omega (arith, ap length is, length_counts ps hs at, all, a.to) in
      is ∙ ap (turn_counts ps hs) top
