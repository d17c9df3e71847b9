-- The rows of Pascal's triangle are pairs piled.
use Rattle.std.specs.Prelude.{◌≡◌, ℕ, zero, suc, ◌+◌, ◌-◌, ◌*◌, ◌^◌, ◌<◌, ◌≤◌, List, [], ◌∷◌, length, slice_index, refl}
use Rattle.std.proofs.Common.{sym, ap, ap₂, subst, ◌∙◌, pow-suc, arith, pow_pos, pow_mono}
use Rattle.std.proofs.lemmas.List.{ext_get_or}
use Rattle.scale_space.specs.Taps.{conv, scale, sum_to}
use Rattle.scale_space.specs.Levels.{Diminishing}
use Rattle.scale_space.proofs.Conv.{conv_tap, conv_scale, length_conv}
use Rattle.scale_space.proofs.Pairs.{law_of_pair}
use Rattle.scale_space.proofs.Piles.{taps_pile}
use Rattle.smoother.specs.Rows.{choose, listed_to, row, pairs}
use Rattle.smoother.specs.Limits.{diminishing_one}

-- ---- a row, tap by tap
listed_length : (n : ℕ) (f : ℕ → ℕ) → length (listed_to n f) ≡ n
unfolding listed_to
listed_length zero f = refl
listed_length (suc n) f = ap suc (listed_length n (λ k. f (suc k)))

listed_at : (n : ℕ) (f : ℕ → ℕ) (k : ℕ) → ((j : ℕ) → n ≤ j → f j ≡ 0) → slice_index (listed_to n f) k ≡ f k
unfolding listed_to
listed_at zero f k h = sym (h k (omega arith))
listed_at (suc n) f zero h = refl
listed_at (suc n) f (suc k) h = listed_at n (λ j. f (suc j)) k (λ j l. h (suc j) (omega arith))

choose_none : (m k : ℕ) → m < k → choose m k ≡ 0
unfolding choose
choose_none zero zero h = absurd (omega arith)
choose_none zero (suc k) h = refl
choose_none (suc m) zero h = absurd (omega arith)
choose_none (suc m) (suc k) h = ap₂ ◌+◌ (choose_none m k (omega arith)) (choose_none m (suc k) (omega arith))

pub row_length : (m : ℕ) → length (row m) ≡ m + 1
unfolding row
row_length m = listed_length (suc m) (choose m) ∙ omega arith

row_at : (m k : ℕ) → slice_index (row m) k ≡ choose m k
unfolding row
row_at m k = listed_at (suc m) (choose m) k (λ j l. choose_none m j l)

-- ---- taps after the pair of 1 and 1
sum_none : (n : ℕ) (g : ℕ → ℕ) → sum_to n (λ i. 0 * g i) ≡ 0
sum_none zero g = refl
sum_none (suc n) g = omega (arith, sum_none n (λ i. g (suc i)))

pair_first : (ts : List ℕ) → slice_index (conv (1 ∷ 1 ∷ []) ts) 0 ≡ slice_index ts 0
pair_first ts = conv_tap (1 ∷ 1 ∷ []) ts 0 ∙ omega arith

pair_next : (ts : List ℕ) (j : ℕ) → slice_index (conv (1 ∷ 1 ∷ []) ts) (suc j) ≡ slice_index ts j + slice_index ts (suc j)
pair_next ts j =
    let here : suc j - 0 ≡ suc j = omega arith in
    let before : suc j - 1 ≡ j = omega arith in
    conv_tap (1 ∷ 1 ∷ []) ts (suc j)
    ∙ omega (arith, ap (λ k. slice_index ts k) here, ap (λ k. slice_index ts k) before, sum_none j (λ i. slice_index ts (suc j - suc (suc i))))

row_next : (m k : ℕ) → slice_index (row (suc m)) k ≡ slice_index (conv (1 ∷ 1 ∷ []) (row m)) k
unfolding choose
row_next m zero = row_at (suc m) 0 ∙ sym (pair_first (row m) ∙ row_at m 0 ∙ first m)
  where
    first : (m : ℕ) → choose m 0 ≡ 1
    first zero = refl
    first (suc m) = refl
row_next m (suc k) = row_at (suc m) (suc k) ∙ sym (pair_next (row m) k ∙ ap₂ ◌+◌ (row_at m k) (row_at m (suc k)))

pub row_more : (m : ℕ) → row (suc m) ≡ conv (1 ∷ 1 ∷ []) (row m)
row_more m =
    ext_get_or 0 (row (suc m)) (conv (1 ∷ 1 ∷ []) (row m))
    (omega (arith, row_length m, row_length (suc m), length_conv (1 ∷ 1 ∷ []) (row m) (omega arith) (omega (arith, row_length m))))
    (λ k l. row_next m k)

pub row_first : row 0 ≡ 1 ∷ []
unfolding row listed_to choose
row_first = refl

pub row_pairs : (m : ℕ) → row m ≡ pairs m
unfolding pairs
row_pairs zero = row_first
row_pairs (suc m) = row_more m ∙ ap (conv (1 ∷ 1 ∷ [])) (row_pairs m)

-- ---- the laws of a row
row_scale : (m : ℕ) → scale (row m) ≡ 2 ^ m
unfolding scale
row_scale zero = ap scale row_first
row_scale (suc m) = ap scale (row_more m) ∙ conv_scale (1 ∷ 1 ∷ []) (row m) ∙ omega (arith, row_scale m, pow-suc 2 m)

pub row_heavy : (m : ℕ) → 1 ≤ scale (row m)
row_heavy m = omega (arith, row_scale m, pow_pos m)

pub row_light : (m : ℕ) → m ≤ 40 → scale (row m) ≤ 2 ^ 40
row_light m h = subst (λ n. n ≤ 2 ^ 40) (sym (row_scale m)) (pow_mono h)

pub row_diminishing : (m : ℕ) → Diminishing (row m)
row_diminishing zero = subst Diminishing (sym row_first) diminishing_one
row_diminishing (suc m) =
    subst Diminishing (sym (row_more m)) ((taps_pile (1 ∷ 1 ∷ []) (row m) (omega arith) (omega (arith, row_length m))).diminishing (law_of_pair 1 1) (row_diminishing m))

-- ---- one pair more
module _ (ps ts : List ℕ) (m : ℕ) (e : ps ≡ 1 ∷ 1 ∷ []) (f : ts ≡ row m) where
  pub next_some : (1 ≤ length ps) × (1 ≤ length ts)
  next_some = omega (arith, ap length e, ap length f, row_length m)

  pub next_short : m < 40 → length ps + length ts ≤ 50
  next_short l = omega (arith, ap length e, ap length f, row_length m)

  pub next_light : m < 40 → scale ps * scale ts ≤ 2 ^ 40
  next_light l = subst (λ n. n ≤ 2 ^ 40) (ap scale (row_more m ∙ sym (ap₂ conv e f)) ∙ conv_scale ps ts) (row_light (suc m) l)

  pub next_is : (us : List ℕ) → us ≡ conv ps ts → us ≡ row (m + 1)
  next_is us h =
      let n : suc m ≡ m + 1 = omega arith in
      h ∙ ap₂ conv e f ∙ sym (row_more m) ∙ ap row n
