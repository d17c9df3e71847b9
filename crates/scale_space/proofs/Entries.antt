-- Records of a prime table by their places: where one more prime goes, and the sum of the counts.
use Rattle.std.proofs.Common.{◌≡◌, ℕ, zero, suc, ◌+◌, ◌<◌, ◌≤◌, true, false, List, [], ◌∷◌, ◌++◌, length, get_or, take, set, fold, sum_by, sym, refl, ap, ◌∙◌, ⊎_elim, one-add, arith}
use Rattle.std.specs.List.{prefix_len, insert, AllByRecursion}
use Rattle.std.proofs.lemmas.Bool.{cases_Bool, cond-true, cond-false}
use Rattle.std.proofs.lemmas.List.{take_more, flat_map_more}
use Rattle.std.proofs.lemmas.List.Sums.{prefix_len-le-length, sum_by-cons}
use Rattle.scale_space.specs.declared.passes.Pass.{Pass}
use Rattle.scale_space.specs.declared.primes.PrimeCount.{PrimeCount}
use Rattle.scale_space.specs.Primes.{factors, primes, same}
use Rattle.scale_space.specs.Tables.{before, single, raised, added, table}
use Rattle.scale_space.proofs.Reorder.{same_true, same_self}
use Rattle.scale_space.proofs.Tables.{added_later, added_here, added_first, by_ways}

-- ---- places
-- the place of p: so many records come before it
abbrev pub place_of : Pass → List PrimeCount → ℕ
place_of p rs = prefix_len (λ r. before r.prime p) rs

pub place_le : (p : Pass) (rs : List PrimeCount) → place_of p rs ≤ length rs
place_le p rs = prefix_len-le-length (λ r. before r.prime p) rs

place_later : (p : Pass) (r : PrimeCount) (rs : List PrimeCount) → before r.prime p ≡ true → place_of p (r ∷ rs) ≡ suc (place_of p rs)
place_later p r rs b = cond-true (before r.prime p) (1 + place_of p rs) 0 b ∙ one-add (place_of p rs)

place_here : (p : Pass) (r : PrimeCount) (rs : List PrimeCount) → before r.prime p ≡ false → place_of p (r ∷ rs) ≡ 0
place_here p r rs b = cond-false (before r.prime p) (1 + place_of p rs) 0 b

-- p stands there already
pub added_raises : (rs : List PrimeCount) (p : Pass) (k : ℕ) (d : PrimeCount) → place_of p rs ≡ k → k < length rs → (get_or rs k d).prime ≡ p → added rs p ≡ set rs k (raised (get_or rs k d))
added_raises [] p k d e l h = absurd (omega arith)
added_raises (r ∷ rs) p zero d e l h =
    ⊎_elim (λ b. let f = place_later p r rs b in absurd (omega arith)) (λ b. added_here r rs p b (ap (same r.prime) (sym h) ∙ same_self r.prime)) (cases_Bool (before r.prime p))
added_raises (r ∷ rs) p (suc k) d e l h =
    ⊎_elim (λ b. let f = place_later p r rs b in added_later r rs p b ∙ ap (λ t. r ∷ t) (added_raises rs p k d (omega arith) (omega arith) h))
    (λ b. let f = place_here p r rs b in absurd (omega arith)) (cases_Bool (before r.prime p))

-- it does not
pub added_inserts : (rs : List PrimeCount) (p : Pass) (k : ℕ) (d : PrimeCount) → place_of p rs ≡ k → (k < length rs → (get_or rs k d).prime ≡ p → ⊥) → added rs p ≡ insert rs k (single p)
added_inserts [] p zero d e h = refl
added_inserts [] p (suc k) d e h = absurd (omega arith)
added_inserts (r ∷ rs) p zero d e h =
    ⊎_elim (λ b. let f = place_later p r rs b in absurd (omega arith))
    (λ b. ⊎_elim (λ s. absurd (h (omega arith) (same_true r.prime p s))) (λ s. added_first r rs p b s) (cases_Bool (same r.prime p)))
    (cases_Bool (before r.prime p))
added_inserts (r ∷ rs) p (suc k) d e h =
    ⊎_elim (λ b. let f = place_later p r rs b in added_later r rs p b ∙ ap (λ t. r ∷ t) (added_inserts rs p k d (omega arith) (λ l q. h (omega arith) q)))
    (λ b. let f = place_here p r rs b in absurd (omega arith)) (cases_Bool (before r.prime p))

-- ---- counts
abbrev pub counted : List PrimeCount → ℕ
counted rs = sum_by (λ r. r.count) rs

counted_cons : (r : PrimeCount) (rs : List PrimeCount) → counted (r ∷ rs) ≡ r.count + counted rs
counted_cons r rs = sum_by-cons (λ s. s.count) r rs

pub counted_added : (rs : List PrimeCount) (p : Pass) → counted (added rs p) ≡ counted rs + 1
counted_added [] p = omega arith
counted_added (r ∷ rs) p =
    let ih = counted_added rs p in
    let e = counted_cons r rs in
    by_ways (λ t. counted t ≡ counted (r ∷ rs) + 1) r rs p
    (λ b. omega (arith, counted_cons r (added rs p)))
    (λ b s. omega (arith, counted_cons (raised r) rs))
    (λ b s. omega (arith, counted_cons (single p) (r ∷ rs)))

counted_folded : (rs : List PrimeCount) (ps : List Pass) → counted (fold added rs ps) ≡ counted rs + length ps
counted_folded rs [] = omega arith
counted_folded rs (p ∷ ps) = omega (arith, counted_folded (added rs p) ps, counted_added rs p)

pub counted_table : (ps : List Pass) → counted (table ps) ≡ length (primes ps)
counted_table ps = omega (arith, counted_folded [] (primes ps))

-- no record is for nothing, so there are no more records than counts
pub length_le_counted : (rs : List PrimeCount) → AllByRecursion (λ r. 0 < r.count) rs → length rs ≤ counted rs
length_le_counted [] h = omega arith
length_le_counted (r ∷ rs) (h, k) = omega (arith, counted_cons r rs, length_le_counted rs k)

-- ---- one more pass
folded_append : (rs : List PrimeCount) (ps qs : List Pass) → fold added rs (ps ++ qs) ≡ fold added (fold added rs ps) qs
folded_append rs [] qs = refl
folded_append rs (p ∷ ps) qs = folded_append (added rs p) ps qs

pub table_more : (ps : List Pass) (i : ℕ) (d : Pass) → i < length ps → table (take (i + 1) ps) ≡ fold added (table (take i ps)) (factors (get_or ps i d))
table_more ps i d l =
    ap table (take_more ps i d l)
    ∙ ap (fold added []) (sym (flat_map_more factors [] (take i ps) (get_or ps i d)))
    ∙ folded_append [] (primes (take i ps)) (factors (get_or ps i d))
