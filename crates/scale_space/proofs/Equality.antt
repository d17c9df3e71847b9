-- Two lists of passes have one prime table exactly where no profile tells them apart.
use Rattle.std.proofs.Common.{◌≡◌, ℕ, suc, ◌+◌, ◌*◌, ◌<◌, ◌≤◌, List, [], ◌∷◌, length, get_or, ℤ, pos, ◌*ℤ◌, sym, ap, ◌∙◌, subst₂, arith}
use Rattle.std.specs.List.{AllByRecursion}
use Rattle.std.proofs.lemmas.List.{ext_get_or, get_or-map}
use Rattle.scale_space.specs.declared.passes.Pass.{Pass}
use Rattle.scale_space.specs.Taps.{windows, scaled, scale}
use Rattle.scale_space.specs.Levels.{Level, Agree}
use Rattle.scale_space.specs.Passes.{Proper, reach, product, taps, level}
use Rattle.scale_space.specs.Primes.{primes, Factored}
use Rattle.scale_space.specs.Tables.{table}
use Rattle.scale_space.specs.Equality.{SameLevels, SameSamples, SameTable, Equality}
use Rattle.scale_space.proofs.Conv.{length_scaled}
use Rattle.scale_space.proofs.Piles.{taps_length, taps_some, reach_le, product_is, product_some, level_is, level_length}
use Rattle.scale_space.proofs.Reorder.{orderless}
use Rattle.scale_space.proofs.Unique.{unique}
use Rattle.scale_space.proofs.Factors.{primes_factored}
use Rattle.scale_space.proofs.Tables.{table_tabulates, same_table, table_same}
use Rattle.scale_space.proofs.Impulse.{impulse, impulse_length, impulse_profile, windows_impulse}

-- one table gives one list of taps
pub table_taps : (ps qs : List Pass) → AllByRecursion Proper ps → AllByRecursion Proper qs → SameTable ps qs → taps ps ≡ taps qs
table_taps ps qs h k same =
    sym (primes_factored ps h).piled
    ∙ orderless (primes ps) (primes qs) (table_same (primes ps) (primes qs) (table ps) (table qs) (table_tabulates ps) (table_tabulates qs) same)
    ∙ (primes_factored qs k).piled

-- and so the same levels of all lists of heights
pub taps_levels : (ps qs : List Pass) → taps ps ≡ taps qs → (hs : List ℤ) → level ps hs ≡ level qs hs
taps_levels ps qs e hs = level_is ps hs ∙ (λ i. record { numerators = windows (e i) hs; scale = products i }) ∙ sym (level_is qs hs)
  where
    products : product ps ≡ product qs
    products = product_is ps ∙ ap scale e ∙ sym (product_is qs)

agree : (l m : Level) → l ≡ m → Agree l m
agree l m e = record { lengths = ap (λ n. length n.numerators) e; fractions = λ i. (λ j. get_or (e j).numerators i (pos 0) *ℤ pos (sym e j).scale) }

-- ---- from samples back to the table
-- the one sample that an impulse leaves is a tap
level_impulse : (ps : List Pass) (j : ℕ) → level ps (impulse (length (taps ps)) j) ≡ record { numerators = pos (get_or (taps ps) j 0) ∷ []; scale = product ps }
level_impulse ps j = level_is ps (impulse (length (taps ps)) j) ∙ (λ i. record { numerators = windows_impulse (taps ps) j (taps_some ps) i; scale = product ps })

pos_same : (m n : ℕ) → pos m ≡ pos n → m ≡ n
pos_same m n e = cc

module _ (ps qs : List Pass) (short : length ps ≤ 24) (short' : length qs ≤ 24) (same : SameSamples ps qs) where
  -- a profile that is long enough for both shows that the reaches are equal
  reaches : reach ps ≡ reach qs
  reaches =
      let n : ℕ = suc (reach ps + reach qs) in
      let hs : List ℤ = impulse n 0 in
      let long : length hs ≡ n = impulse_length n 0 in
      let l : reach ps < length hs = omega arith in
      let m : reach qs < length hs = omega arith in
      let a = level_length ps hs l in
      let b = level_length qs hs m in
      let c = (same hs (impulse_profile n 0 (omega arith) (omega (arith, reach_le ps, reach_le qs))) l m).lengths in
      omega arith

  lengths : length (taps ps) ≡ length (taps qs)
  lengths = omega (arith, taps_length ps, taps_length qs, reaches)

  -- impulses show that the taps are proportional
  each : (j : ℕ) → product qs * get_or (taps ps) j 0 ≡ product ps * get_or (taps qs) j 0
  each j =
      let n : ℕ = length (taps ps) in
      let hs : List ℤ = impulse n j in
      let long : length hs ≡ n = impulse_length n j in
      let r = taps_length ps in
      let e : Agree (level ps hs) (level qs hs) = same hs (impulse_profile n j (omega arith) (omega (arith, reach_le ps))) (omega arith) (omega (arith, reaches)) in
      let first = level_impulse ps j in
      let second = ap (λ k. level qs (impulse k j)) lengths ∙ level_impulse qs j in
      let f : get_or (taps ps) j 0 * product qs ≡ get_or (taps qs) j 0 * product ps = pos_same _ _ ((subst₂ Agree first second e).fractions 0) in
      omega arith

  proportional : scaled (product qs) (taps ps) ≡ scaled (product ps) (taps qs)
  proportional =
      ext_get_or 0 (scaled (product qs) (taps ps)) (scaled (product ps) (taps qs))
      (length_scaled (product qs) (taps ps) ∙ lengths ∙ sym (length_scaled (product ps) (taps qs)))
      (λ j l. get_or-map (λ t. product qs * t) (taps ps) j 0 0 (omega (arith, length_scaled (product qs) (taps ps)))
      ∙ each j ∙ sym (get_or-map (λ t. product ps * t) (taps qs) j 0 0 (omega (arith, lengths, length_scaled (product qs) (taps ps)))))

  samples_table : AllByRecursion Proper ps → AllByRecursion Proper qs → SameTable ps qs
  samples_table h k =
      same_table (primes ps) (primes qs) (table ps) (table qs) (table_tabulates ps) (table_tabulates qs)
      (unique (primes ps) (primes qs) (product qs) (product ps) P.prime Q.prime (product_some ps h)
      (ap (scaled (product qs)) P.piled ∙ proportional ∙ ap (scaled (product ps)) (sym Q.piled))).0
    where
      P : Factored (primes ps) (taps ps)
      P = primes_factored ps h

      Q : Factored (primes qs) (taps qs)
      Q = primes_factored qs k

pub tables_decide : (ps qs : List Pass) → length ps ≤ 24 → length qs ≤ 24 → AllByRecursion Proper ps → AllByRecursion Proper qs → Equality ps qs
tables_decide ps qs short short' h k =
    let down : SameTable ps qs → SameLevels ps qs = λ e hs _ _ _. taps_levels ps qs (table_taps ps qs h k e) hs in
    let over : SameLevels ps qs → SameSamples ps qs = λ e hs f l m. agree (level ps hs) (level qs hs) (e hs f l m) in
    let up : SameSamples ps qs → SameTable ps qs = λ e. samples_table ps qs short short' e h k in
    record { levels = (down, λ e. up (over e)); samples = ((λ e. over (down e)), up) }
