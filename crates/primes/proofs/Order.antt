-- Records in the order of their primes: what a search among them finds.
use Rattle.std.proofs.Common.{◌≡◌, ℕ, zero, suc, ◌<◌, ◌≤◌, true, false, List, [], ◌∷◌, length, get_or, set, Result, Ok, Err, IfOk, IfErr, sym, refl, ap, ◌∙◌, subst, ⊎_elim, rules, arith}
use Rattle.std.specs.List.{insert}
use Rattle.std.specs.List.Sorted.{IsSearchInRange, IsBinarySearchResult}
use Rattle.std.specs.Ordering.{ordering_index}
use Rattle.std.specs.declared.cmp.Ordering.{Ordering}
use Rattle.std.specs.declared.cmp.Ordering.TheVariants.{Less, Equal, Greater}
use Rattle.std.proofs.ByRecursion.{All-get_or, All-from_get_or}
use Rattle.std.proofs.lemmas.Bool.{cases_Bool, cases_lt, false≢true}
use Rattle.std.proofs.lemmas.List.Sums.{prefix_len_is}
use Rattle.std.proofs.lemmas.List.Sorted.{IsNonDecreasingBy-from_default}
use Rattle.scale_space.specs.declared.passes.Pass.{Pass}
use Rattle.scale_space.specs.declared.primes.PrimeCount.{PrimeCount}
use Rattle.scale_space.specs.contracts.passes.PassOrd as order
use Rattle.scale_space.specs.Tables.{before, single, raised, added, Ordered}
use Rattle.scale_space.proofs.Entries.{added_raises, added_inserts}
use Rattle.scale_space.proofs.Ranks.{before_trans, before_apart}
use Rattle.scale_space.proofs.Tables.{ordered_added}
use Rattle.scale_space.proofs.Reorder.{same_self}
use Rattle.primes.specs.Counts.{blank}
use Rattle.primes.specs.Order.{InOrder}

-- how `cmp` ranks two primes
abbrev pub ranks : Pass → Pass → Ordering
ranks p q = order.TheImpl.cmp-value.it p q

pub less_before : (p q : Pass) → ranks p q ≡ Less → before p q ≡ true
less_before p q e = search rules

pub before_less : (p q : Pass) → before p q ≡ true → ranks p q ≡ Less
before_less p q e = search rules

pub equal_same : (p q : Pass) → ranks p q ≡ Equal → p ≡ q
equal_same p q e = search rules

pub greater_after : (p q : Pass) → ranks p q ≡ Greater → before p q ≡ false
greater_after p q e = search rules

pub self : (p : Pass) → ranks p p ≡ Equal
self p = search rules

-- ---- order
abbrev Behind : PrimeCount → PrimeCount → Type 0
Behind r s = before r.prime s.prime ≡ true

from_ordered : (rs : List PrimeCount) → Ordered rs → InOrder rs
from_ordered [] h i j l m = absurd (omega arith)
from_ordered (r ∷ rs) (h, k) zero zero l m = absurd (omega arith)
from_ordered (r ∷ rs) (h, k) zero (suc j) l m = All-get_or (Behind r) rs j blank (omega arith) h
from_ordered (r ∷ rs) (h, k) (suc i) zero l m = absurd (omega arith)
from_ordered (r ∷ rs) (h, k) (suc i) (suc j) l m = from_ordered rs k i j (omega arith) (omega arith)

to_ordered : (rs : List PrimeCount) → InOrder rs → Ordered rs
to_ordered [] h = tt
to_ordered (r ∷ rs) h = (All-from_get_or (Behind r) rs blank (λ j l. h 0 (suc j) (omega arith) (omega arith)), to_ordered rs (λ i j l m. h (suc i) (suc j) (omega arith) (omega arith)))

pub in_order_added : (rs : List PrimeCount) (p : Pass) → InOrder rs → InOrder (added rs p)
in_order_added rs p h = from_ordered (added rs p) (ordered_added rs p (to_ordered rs h))

-- ---- a search
apart : (p : Pass) → before p p ≡ false
apart p = ⊎_elim (λ b. absurd (false≢true (sym (before_apart p p b) ∙ same_self p))) (λ b. b) (cases_Bool (before p p))

module _ (rs : List PrimeCount) (p : Pass) (ordered : InOrder rs) where
  abbrev rank : ℕ → ℕ
  rank i = ordering_index (ranks (get_or rs i blank).prime p)

  rank_le : (o : Ordering) → ordering_index o ≤ 2
  rank_le Less = omega arith
  rank_le Equal = omega arith
  rank_le Greater = omega arith

  rises : (i j : ℕ) → i ≤ j → j < length rs → rank i ≤ rank j
  rises i j l m = ⊎_elim (λ (k : i < j). strictly k) (λ (k : j ≤ i). let e : i ≡ j = omega arith in omega (arith, ap rank e)) (cases_lt i j)
    where
      x : Pass
      x = (get_or rs i blank).prime

      y : Pass
      y = (get_or rs j blank).prime

      first : before x p ≡ true → rank i ≤ rank j
      first b = let e = ap ordering_index (before_less x p b) in omega arith

      by : i < j → (o : Ordering) → ranks y p ≡ o → rank i ≤ rank j
      by k Less e = first (before_trans x y p (ordered i j k m) (less_before y p e))
      by k Equal e = first (subst (λ z. before x z ≡ true) (equal_same y p e) (ordered i j k m))
      by k Greater e = let f = ap ordering_index e in let g = rank_le (ranks x p) in omega arith

      strictly : i < j → rank i ≤ rank j
      strictly k = by k (ranks y p) refl

  there : (k : ℕ) → k < length rs → ranks (get_or rs k blank).prime p ≡ Equal → added rs p ≡ set rs k (raised (get_or rs k blank))
  there k l e =
      let h = equal_same (get_or rs k blank).prime p e in
      added_raises rs p k blank
      (prefix_len_is (λ r. before r.prime p) rs k blank (omega arith)
      (λ j m. subst (λ z. before (get_or rs j blank).prime z ≡ true) h (ordered j k m l))
      (λ _. subst (λ z. before z p ≡ false) (sym h) (apart p)))
      l h

  absent : (k : ℕ) → k ≤ length rs → ((j : ℕ) → j < k → ranks (get_or rs j blank).prime p ≡ Less) → (k < length rs → ranks (get_or rs k blank).prime p ≡ Greater) → added rs p ≡ insert rs k (single p)
  absent k l low high =
      added_inserts rs p k blank
      (prefix_len_is (λ r. before r.prime p) rs k blank l (λ j m. less_before (get_or rs j blank).prime p (low j m)) (λ m. greater_after (get_or rs k blank).prime p (high m)))
      (λ m e. differs (subst (λ z. ranks z p ≡ Greater) e (high m)))
    where
      differs : ranks p p ≡ Greater → ⊥
      differs e = let f = ap ordering_index e in let g = ap ordering_index (self p) in omega arith

  pub searched : (r : Result ℕ ℕ) → IsSearchInRange r (length rs) → IsBinarySearchResult (λ y. ranks y.prime p) rs r →
      record {
        range : IsSearchInRange r (length rs);
        is_there : IfOk r (λ k. added rs p ≡ set rs k (raised (get_or rs k blank)));
        is_new : IfErr r (λ k. added rs p ≡ insert rs k (single p));
      }
  searched (Ok k) l equal = record { range = l; is_there = there k l (equal blank); is_new = tt }
  searched (Err k) l parted =
      let parts = parted (IsNonDecreasingBy-from_default (λ y. ordering_index (ranks y.prime p)) rs blank rises) in
      record { range = l; is_there = tt; is_new = absent k l (λ j m. parts.0 j blank (omega arith) m) (λ m. parts.1 k blank (omega arith) m) }
