-- What the counts of a table come to.
use Rattle.std.proofs.Common.{◌≡◌, ℕ, zero, suc, ◌+◌, ◌<◌, ◌≤◌, List, [], ◌∷◌, length, get_or, take, drop, set, refl, ap, ◌∙◌, arith}
use Rattle.std.specs.List.{insert}
use Rattle.std.proofs.lemmas.List.{get_or_default, length-set}
use Rattle.std.proofs.lemmas.List.Edits.{length-insert}
use Rattle.std.proofs.lemmas.List.Sums.{sum_by-cons, sum_by-append, sum_by-take-drop, sum_by-set}
use Rattle.scale_space.specs.declared.passes.Pass.{Pass}
use Rattle.scale_space.specs.declared.primes.PrimeCount.{PrimeCount}
use Rattle.scale_space.specs.Tables.{single, raised, added}
use Rattle.primes.specs.Counts.{counted, blank}
use Rattle.primes.specs.Order.{InOrder}
use Rattle.fixed_list.specs.declared.FixedList.{FixedList}
use Rattle.fixed_list.specs.Listed.{listed}
use Rattle.fixed_list.proofs.Moves.{take_set_in}
use Rattle.primes.proofs.Order.{in_order_added}

abbrev the_count : PrimeCount → ℕ
the_count r = r.count

counted_inserted : (rs : List PrimeCount) (k : ℕ) (r : PrimeCount) → counted (insert rs k r) ≡ counted rs + r.count
counted_inserted rs k r = omega (arith, sum_by-append the_count (take k rs) (r ∷ drop k rs), sum_by-cons the_count r (drop k rs), sum_by-take-drop the_count rs k)

-- the ghost fields of a table, from what is to stand in it
pub held : (ts rs : List PrimeCount) → ts ≡ rs → InOrder rs → length rs ≤ counted rs → counted rs ≤ 48 → record { ordered : InOrder ts; some : length ts ≤ counted ts; bounded : counted ts ≤ 48 }
held ts rs e ordered some bounded = record { ordered = rw e ordered; some = rw e some; bounded = rw e bounded }

-- those of a table into which a record for a first p was put
pub held_inserted : (rs ts : List PrimeCount) (p : Pass) (k : ℕ) → ts ≡ insert rs k (single p) → added rs p ≡ insert rs k (single p) → k ≤ length rs → InOrder rs → length rs ≤ counted rs → counted rs < 48 →
    record { ordered : InOrder ts; some : length ts ≤ counted ts; bounded : counted ts ≤ 48 }
held_inserted rs ts p k is new l ordered some room =
    let n = counted_inserted rs k (single p) in
    let m = length-insert rs k (single p) l in
    held ts (insert rs k (single p)) is (rw (← new) (in_order_added rs p ordered)) (omega arith) (omega arith)

-- ---- a count raised
-- a record put in the place of one of the same prime
same_primes : (rs : List PrimeCount) (k i : ℕ) (r : PrimeCount) → r.prime ≡ (get_or rs k blank).prime → (get_or (set rs k r) i blank).prime ≡ (get_or rs i blank).prime
same_primes [] k i r e = refl
same_primes (s ∷ rs) zero zero r e = e
same_primes (s ∷ rs) zero (suc i) r e = refl
same_primes (s ∷ rs) (suc k) zero r e = refl
same_primes (s ∷ rs) (suc k) (suc i) r e = same_primes rs k i r e

module _ (rs : List PrimeCount) (k : ℕ) (l : k < length rs) where
  abbrev pub lifted : List PrimeCount
  lifted = set rs k (raised (get_or rs k blank))

  same_prime : (i : ℕ) → (get_or lifted i blank).prime ≡ (get_or rs i blank).prime
  same_prime i = same_primes rs k i (raised (get_or rs k blank)) refl

  -- those of a table in which a count was raised
  pub held_raised : (ts : List PrimeCount) → ts ≡ lifted → InOrder rs → length rs ≤ counted rs → counted rs < 48 →
      record { ordered : InOrder ts; some : length ts ≤ counted ts; bounded : counted ts ≤ 48 }
  held_raised ts is ordered some room =
      let n = sum_by-set the_count rs k (raised (get_or rs k blank)) blank l in
      let m = length-set rs k (raised (get_or rs k blank)) in
      held ts lifted is (λ i j p q. rw (same_prime i, same_prime j) (ordered i j p (omega arith))) (omega arith) (omega arith)

-- what stands once r, the record at k, was lent and its count raised
pub raised_is : (v : FixedList PrimeCount 48) (k : ℕ) (r : PrimeCount) → k < length (listed v) → r ≡ get_or (listed v) k r → take v.len (set v.items k (raised r)) ≡ set (listed v) k (raised (get_or (listed v) k blank))
raised_is v k r l e = take_set_in v.len v.items k (raised r) ∙ ap (λ s. set (listed v) k (raised s)) (e ∙ get_or_default (listed v) k r blank l)
