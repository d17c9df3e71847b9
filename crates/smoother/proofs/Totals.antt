-- Sums over taps, part by part.
use Rattle.std.proofs.Common.{◌≡◌, ℕ, zero, suc, ◌+◌, ◌-◌, ◌*◌, ◌^◌, ◌<◌, ◌≤◌, List, [], ◌∷◌, ◌++◌, length, get_or, take, drop, refl, sym, ap, ◌∙◌, ap₂, arith}
use Rattle.std.specs.List.{sum}
use Rattle.std.proofs.lemmas.List.{at_drop_more, take_more}
use Rattle.std.proofs.lemmas.List.Sums.{sum_by-cons}
use Rattle.scale_space.specs.Taps.{scale, conv, sum_to}
use Rattle.scale_space.proofs.Conv.{conv_tap, conv_scale}

pub scale_more : (ts : List ℕ) (i : ℕ) → i < length ts → scale (drop i ts) ≡ get_or ts i 0 + scale (drop (i + 1) ts)
unfolding scale
scale_more ts i l = at_drop_more scale ts i 0 l

pub scale_sum : (ts : List ℕ) → sum ts ≡ scale ts
unfolding scale
scale_sum [] = refl
scale_sum (t ∷ ts) = sum_by-cons (λ t. t) t ts ∙ ap (λ n. t + n) (scale_sum ts)

pub tap_most : (ts : List ℕ) (j : ℕ) → get_or ts j 0 ≤ scale ts
unfolding scale
tap_most [] j = omega arith
tap_most (t ∷ ts) zero = omega arith
tap_most (t ∷ ts) (suc j) = omega (arith, tap_most ts j)

-- ---- a tap of a pile
-- what tap i of p and its partner in q give to tap j of the pile
abbrev pub part : List ℕ → List ℕ → ℕ → ℕ → ℕ
part p q j i = get_or p i 0 * get_or q (j - i) 0

pub sum_last : (n : ℕ) (f : ℕ → ℕ) → sum_to (suc n) f ≡ sum_to n f + f n
sum_last zero f = omega arith
sum_last (suc n) f = omega (arith, sum_last n (λ i. f (suc i)))

sum_part : (n m : ℕ) (f : ℕ → ℕ) → n ≤ m → sum_to n f ≤ sum_to m f
sum_part zero m f h = omega arith
sum_part (suc n) zero f h = absurd (omega arith)
sum_part (suc n) (suc m) f h = omega (arith, sum_part n m (λ i. f (suc i)) (omega arith))

pub part_more : (p q : List ℕ) (j i total : ℕ) → total ≡ sum_to i (part p q j) → total + part p q j i ≡ sum_to (i + 1) (part p q j)
part_more p q j i total e =
    let n : i + 1 ≡ suc i = omega arith in
    ap (λ n. n + part p q j i) e ∙ sym (ap (λ k. sum_to k (part p q j)) n ∙ sum_last i (part p q j))

pub part_most : (p q : List ℕ) (j i : ℕ) → i ≤ j → scale p * scale q ≤ 2 ^ 40 → sum_to i (part p q j) + part p q j i ≤ 2 ^ 40
part_most p q j i l h =
    omega (arith, sum_last i (part p q j), sum_part (suc i) (suc j) (part p q j) (omega arith), conv_tap p q j, tap_most (conv p q) j, conv_scale p q)

pub part_all : (p q : List ℕ) (j i total : ℕ) → i ≡ j + 1 → total ≡ sum_to i (part p q j) → total ≡ get_or (conv p q) j 0
part_all p q j i total e h =
    let n : i ≡ suc j = omega arith in
    h ∙ ap (λ k. sum_to k (part p q j)) n ∙ sym (conv_tap p q j)

-- ---- a pile, tap by tap
pub piled_more : (ts qs : List ℕ) (i t : ℕ) → i < length qs → ts ≡ take i qs → t ≡ get_or qs i 0 → ts ++ t ∷ [] ≡ take (i + 1) qs
piled_more ts qs i t l h e = ap₂ (λ us u. us ++ u ∷ []) h e ∙ sym (take_more qs i 0 l)
