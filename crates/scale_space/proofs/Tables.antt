-- Prime tables: `table` makes one, and the counts say all that stands in one.
use Rattle.std.proofs.Common.{◌≡◌, ℕ, ◌+◌, ◌<◌, Bool, true, false, cond, ◌⊎◌, List, [], ◌∷◌, fold, sym, refl, ap, ◌∙◌, subst, inl, inr, ⊎_elim, arith}
use Rattle.std.specs.List.{AllByRecursion}
use Rattle.std.proofs.ByRecursion.{All-weaker}
use Rattle.std.proofs.lemmas.Bool.{cases_Bool, cond-true, cond-false}
use Rattle.scale_space.specs.declared.passes.Pass.{Pass}
use Rattle.scale_space.specs.declared.primes.PrimeCount.{PrimeCount}
use Rattle.scale_space.specs.Primes.{primes, same, count}
use Rattle.scale_space.specs.Tables.{before, single, raised, added, table, held, Ordered, Tabulates}
use Rattle.scale_space.proofs.Reorder.{same_true, same_self}
use Rattle.scale_space.proofs.Ranks.{before_trans, before_apart, before_total}

-- ---- the three ways of `added`
abbrev Rest : PrimeCount → List PrimeCount → Pass → List PrimeCount
Rest r rs p = cond (same r.prime p) (raised r ∷ rs) (single p ∷ r ∷ rs)

pub added_later : (r : PrimeCount) (rs : List PrimeCount) (p : Pass) → before r.prime p ≡ true → added (r ∷ rs) p ≡ r ∷ added rs p
added_later r rs p b = cond-true (before r.prime p) (r ∷ added rs p) (Rest r rs p) b

pub added_here : (r : PrimeCount) (rs : List PrimeCount) (p : Pass) → before r.prime p ≡ false → same r.prime p ≡ true → added (r ∷ rs) p ≡ raised r ∷ rs
added_here r rs p b s = cond-false (before r.prime p) (r ∷ added rs p) (Rest r rs p) b ∙ cond-true (same r.prime p) (raised r ∷ rs) (single p ∷ r ∷ rs) s

pub added_first : (r : PrimeCount) (rs : List PrimeCount) (p : Pass) → before r.prime p ≡ false → same r.prime p ≡ false → added (r ∷ rs) p ≡ single p ∷ r ∷ rs
added_first r rs p b s = cond-false (before r.prime p) (r ∷ added rs p) (Rest r rs p) b ∙ cond-false (same r.prime p) (raised r ∷ rs) (single p ∷ r ∷ rs) s

-- a property of `added (r ∷ rs) p`, by those ways
pub by_ways : (P : List PrimeCount → Type 0) (r : PrimeCount) (rs : List PrimeCount) (p : Pass) →
    (before r.prime p ≡ true → P (r ∷ added rs p)) →
    (before r.prime p ≡ false → same r.prime p ≡ true → P (raised r ∷ rs)) →
    (before r.prime p ≡ false → same r.prime p ≡ false → P (single p ∷ r ∷ rs)) →
    P (added (r ∷ rs) p)
by_ways P r rs p f g h =
    ⊎_elim
    (λ b. subst P (sym (added_later r rs p b)) (f b))
    (λ b. ⊎_elim (λ s. subst P (sym (added_here r rs p b s)) (g b s)) (λ s. subst P (sym (added_first r rs p b s)) (h b s)) (cases_Bool (same r.prime p)))
    (cases_Bool (before r.prime p))

-- ---- what one more prime does
held_added : (q : Pass) (rs : List PrimeCount) (p : Pass) → held q (added rs p) ≡ held q rs + cond (same q p) 1 0
held_added q [] p = omega arith
held_added q (r ∷ rs) p =
    let ih = held_added q rs p in
    by_ways (λ t. held q t ≡ held q (r ∷ rs) + cond (same q p) 1 0) r rs p (λ b. omega arith) (λ b s. here s) (λ b s. omega arith)
  where
    test : Bool
    test = same q r.prime

    here : same r.prime p ≡ true → cond test (r.count + 1) 0 + held q rs ≡ cond test r.count 0 + held q rs + cond (same q p) 1 0
    here s = subst (λ z. cond test (r.count + 1) 0 + held q rs ≡ cond test r.count 0 + held q rs + cond (same q z) 1 0) (same_true r.prime p s) (go (cases_Bool test))
      where
        go : (test ≡ true) ⊎ (test ≡ false) → cond test (r.count + 1) 0 + held q rs ≡ cond test r.count 0 + held q rs + cond test 1 0
        go (inl e) = omega (arith, cond-true {A = ℕ} test (r.count + 1) 0 e, cond-true {A = ℕ} test r.count 0 e, cond-true {A = ℕ} test 1 0 e)
        go (inr e) = omega (arith, cond-false {A = ℕ} test (r.count + 1) 0 e, cond-false {A = ℕ} test r.count 0 e, cond-false {A = ℕ} test 1 0 e)

abbrev After : Pass → List PrimeCount → Type 0
After p rs = AllByRecursion (λ s. before p s.prime ≡ true) rs

after_trans : (p q : Pass) (rs : List PrimeCount) → before p q ≡ true → After q rs → After p rs
after_trans p q rs b h = All-weaker (λ s. before q s.prime ≡ true) (λ s. before p s.prime ≡ true) (λ s k. before_trans p q s.prime b k) rs h

after_added : (q : Pass) (rs : List PrimeCount) (p : Pass) → before q p ≡ true → After q rs → After q (added rs p)
after_added q [] p b h = (b, tt)
after_added q (r ∷ rs) p b (h, k) =
    let ih = after_added q rs p b k in
    by_ways (After q) r rs p (λ _. (h, ih)) (λ _ _. (h, k)) (λ _ _. (b, (h, k)))

pub ordered_added : (rs : List PrimeCount) (p : Pass) → Ordered rs → Ordered (added rs p)
ordered_added [] p h = (tt, tt)
ordered_added (r ∷ rs) p (h, k) =
    let ih = ordered_added rs p k in
    by_ways Ordered r rs p (λ b. (after_added r.prime rs p b h, ih)) (λ b s. (h, k))
    (λ b s. let c : before p r.prime ≡ true = before_total r.prime p b s in ((c, after_trans p r.prime rs c h), (h, k)))

abbrev Positive : List PrimeCount → Type 0
Positive rs = AllByRecursion (λ r. 0 < r.count) rs

positive_added : (rs : List PrimeCount) (p : Pass) → Positive rs → Positive (added rs p)
positive_added [] p h = (omega arith, tt)
positive_added (r ∷ rs) p (h, k) =
    let ih = positive_added rs p k in
    by_ways Positive r rs p (λ b. (h, ih)) (λ b s. (omega arith, k)) (λ b s. (omega arith, (h, k)))

-- ---- whole tables
fold_tabulates : (rs : List PrimeCount) (ps : List Pass) → Ordered rs → Positive rs →
    Ordered (fold added rs ps) × Positive (fold added rs ps) × ((q : Pass) → held q (fold added rs ps) ≡ held q rs + count q ps)
fold_tabulates rs [] h k = (h, k, λ q. omega arith)
fold_tabulates rs (p ∷ ps) h k =
    let ih = fold_tabulates (added rs p) ps (ordered_added rs p h) (positive_added rs p k) in
    (ih.0, ih.1, λ q. omega (arith, ih.2 q, held_added q rs p))

pub table_tabulates : (ps : List Pass) → Tabulates (primes ps) (table ps)
table_tabulates ps =
    let t = fold_tabulates [] (primes ps) tt tt in
    record { ordered = t.0; positive = t.1; counts = λ q. omega (arith, t.2 q) }

-- what stands behind a prime does not hold it
held_after : (p : Pass) (rs : List PrimeCount) → After p rs → held p rs ≡ 0
held_after p [] h = refl
held_after p (r ∷ rs) (h, k) = omega (arith, cond-false {A = ℕ} (same p r.prime) r.count 0 (before_apart p r.prime h), held_after p rs k)

held_here : (r : PrimeCount) (rs : List PrimeCount) → held r.prime (r ∷ rs) ≡ r.count + held r.prime rs
held_here r rs = omega (arith, cond-true {A = ℕ} (same r.prime r.prime) r.count 0 (same_self r.prime))

-- the counts say all
same_records : (rs ss : List PrimeCount) → Ordered rs → Ordered ss → Positive rs → Positive ss → ((p : Pass) → held p rs ≡ held p ss) → rs ≡ ss
same_records [] [] h k i j e = refl
same_records [] (s ∷ ss) h k i j e = absurd (omega (arith, e s.prime, held_here s ss, j.0))
same_records (r ∷ rs) [] h k i j e = absurd (omega (arith, e r.prime, held_here r rs, i.0))
same_records (r ∷ rs) (s ∷ ss) h k i j e =
    ⊎_elim
    (λ b. absurd (omega (arith, e r.prime, held_here r rs, i.0, held_after r.prime (s ∷ ss) (b, after_trans r.prime s.prime ss b k.0))))
    (λ b. ⊎_elim
    (λ t. heads (same_true r.prime s.prime t) (same_records rs ss h.1 k.1 i.1 j.1))
    (λ f. let c : before s.prime r.prime ≡ true = before_total r.prime s.prime b f in
    absurd (omega (arith, e s.prime, held_here s ss, j.0, held_after s.prime (r ∷ rs) (c, after_trans s.prime r.prime rs c h.0))))
    (cases_Bool (same r.prime s.prime)))
    (cases_Bool (before r.prime s.prime))
  where
    heads : r.prime ≡ s.prime → (((p : Pass) → held p rs ≡ held p ss) → rs ≡ ss) → r ∷ rs ≡ s ∷ ss
    heads q f =
        let at : held r.prime (s ∷ ss) ≡ s.count + held s.prime ss = ap (λ p. held p (s ∷ ss)) q ∙ held_here s ss in
        let n : r.count ≡ s.count = omega (arith, e r.prime, held_here r rs, at, held_after r.prime rs h.0, held_after s.prime ss k.0) in
        let one : r ≡ s = λ t. record { prime = q t; count = n t } in
        λ t. one t ∷ f (λ p. omega (arith, e p, ap (λ z. cond (same p z.prime) z.count 0) one)) t

-- tables are the same exactly where the passes stand equally often
pub same_table : (ps qs : List Pass) (rs ss : List PrimeCount) → Tabulates ps rs → Tabulates qs ss → ((p : Pass) → count p ps ≡ count p qs) → rs ≡ ss
same_table ps qs rs ss t u e = same_records rs ss t.ordered u.ordered t.positive u.positive (λ p. t.counts p ∙ e p ∙ sym (u.counts p))

pub table_same : (ps qs : List Pass) (rs ss : List PrimeCount) → Tabulates ps rs → Tabulates qs ss → rs ≡ ss → (p : Pass) → count p ps ≡ count p qs
table_same ps qs rs ss t u e p = sym (t.counts p) ∙ ap (held p) e ∙ u.counts p
