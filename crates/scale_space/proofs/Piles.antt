-- Taps and passes piled: the windows of windows are the windows of `conv`, and a last level is the windows of all the taps piled.
use Rattle.std.proofs.Common.{◌≡◌, ℕ, suc, ◌+◌, ◌-◌, ◌*◌, ◌<◌, ◌≤◌, ◌⊎◌, List, [], ◌∷◌, length, ℤ, pos, ◌+ℤ◌, ◌*ℤ◌, fold, sym, refl, ap, ◌∙◌, subst, inl, inr, le_trans, mul-pos, arith}
use lib.IntN.{+ℤ_idr, +ℤ_idl, zero-*ℤ, *ℤ-zero}
use borrow.Author.Differences.{ints}
use Rattle.std.specs.List.{AllByRecursion}
use Rattle.std.proofs.lemmas.Bool.{cases_lt}
use Rattle.scale_space.specs.declared.passes.Pass.{Pass}
use Rattle.scale_space.specs.declared.passes.Pass.TheVariants.{Pair, Triple}
use Rattle.scale_space.specs.Signs.{changes}
use Rattle.scale_space.specs.Taps.{dot, windows, plus, scaled, conv, scale}
use Rattle.scale_space.specs.Levels.{Level, ground, weighed}
use Rattle.scale_space.specs.Passes.{weights, Proper, reach, product, taps, level}
use Rattle.scale_space.specs.Laws.{Piles}
use Rattle.scale_space.proofs.Ring.{*ℤ-+ℤ, times_times, times_plus}
use Rattle.scale_space.proofs.Windows.{windows_cons, windows_short, windows_length}
use Rattle.scale_space.proofs.Conv.{length_conv, conv_comm, conv_scale, conv_tap}

-- ---- taps
four : (p q r s : ℤ) → (p +ℤ q) +ℤ (r +ℤ s) ≡ (p +ℤ r) +ℤ (q +ℤ s)
four p q r s = omega (arith, ints)

dot_nil : (ts : List ℕ) → dot ts [] ≡ pos 0
unfolding dot
dot_nil [] = refl
dot_nil (t ∷ ts) = refl

pub dot_plus : (ss ts : List ℕ) (xs : List ℤ) → dot (plus ss ts) xs ≡ dot ss xs +ℤ dot ts xs
unfolding dot plus
dot_plus [] ts xs = sym (+ℤ_idl (dot ts xs))
dot_plus (s ∷ ss) [] xs = sym (+ℤ_idr (dot (s ∷ ss) xs))
dot_plus (s ∷ ss) (t ∷ ts) [] = refl
dot_plus (s ∷ ss) (t ∷ ts) (x ∷ xs) = (λ i. times_plus (s + t) s t x refl i +ℤ dot_plus ss ts xs i) ∙ four (pos s *ℤ x) (pos t *ℤ x) (dot ss xs) (dot ts xs)

pub dot_scaled : (m : ℕ) (ts : List ℕ) (xs : List ℤ) → dot (scaled m ts) xs ≡ pos m *ℤ dot ts xs
unfolding dot
dot_scaled m [] xs = sym (*ℤ-zero (pos m))
dot_scaled m (t ∷ ts) [] = sym (*ℤ-zero (pos m))
dot_scaled m (t ∷ ts) (x ∷ xs) = (λ i. sym (times_times m t x) i +ℤ dot_scaled m ts xs i) ∙ sym (*ℤ-+ℤ (pos m) (pos t *ℤ x) (dot ts xs))

-- the first window of the windows; `conv` goes by its first taps, so q comes first until the end
dot_windows : (q p : List ℕ) (xs : List ℤ) → length p + length q ≤ suc (length xs) → dot q (windows p xs) ≡ dot (conv q p) xs
unfolding dot conv windows
dot_windows [] p xs h = refl
dot_windows (b ∷ q) p [] h = sym (dot_nil (conv (b ∷ q) p))
dot_windows (b ∷ q) p (x ∷ xs) h =
    let ih = dot_windows q p xs (omega arith) in
    let z : pos 0 *ℤ x +ℤ dot (conv q p) xs ≡ dot (conv q p) xs = ap (λ w. w +ℤ dot (conv q p) xs) (zero-*ℤ x) ∙ +ℤ_idl (dot (conv q p) xs) in
    ap (dot (b ∷ q)) (windows_cons p x xs (omega arith))
    ∙ (λ i. sym (dot_scaled b p (x ∷ xs)) i +ℤ ih i)
    ∙ ap (λ w. dot (scaled b p) (x ∷ xs) +ℤ w) (sym z)
    ∙ sym (dot_plus (scaled b p) (0 ∷ conv q p) (x ∷ xs))

turned : (a : ℕ) (p : List ℕ) (b : ℕ) (q : List ℕ) (xs : List ℤ) → windows (b ∷ q) (windows (a ∷ p) xs) ≡ windows (conv (b ∷ q) (a ∷ p)) xs
turned a p b q xs = by xs
  where
    long : suc (length (conv (b ∷ q) (a ∷ p))) ≡ suc (length q) + suc (length p)
    long = length_conv (b ∷ q) (a ∷ p) (omega arith) (omega arith)

    step : (x : ℤ) (xs : List ℤ) → windows (b ∷ q) (windows (a ∷ p) xs) ≡ windows (conv (b ∷ q) (a ∷ p)) xs → (length xs < length p + length q) ⊎ (length p + length q ≤ length xs) → windows (b ∷ q) (windows (a ∷ p) (x ∷ xs)) ≡ windows (conv (b ∷ q) (a ∷ p)) (x ∷ xs)
    step x xs ih (inl h) =
        windows_short (b ∷ q) (windows (a ∷ p) (x ∷ xs)) (omega (arith, windows_length a p (x ∷ xs)))
        ∙ sym (windows_short (conv (b ∷ q) (a ∷ p)) (x ∷ xs) (omega (arith, long)))
    step x xs ih (inr h) =
        let w = windows_cons (a ∷ p) x xs (omega arith) in
        let head : dot (b ∷ q) (dot (a ∷ p) (x ∷ xs) ∷ windows (a ∷ p) xs) ≡ dot (conv (b ∷ q) (a ∷ p)) (x ∷ xs) = ap (dot (b ∷ q)) (sym w) ∙ dot_windows (b ∷ q) (a ∷ p) (x ∷ xs) (omega arith) in
        ap (windows (b ∷ q)) w
        ∙ windows_cons (b ∷ q) (dot (a ∷ p) (x ∷ xs)) (windows (a ∷ p) xs) (omega (arith, windows_length a p xs))
        ∙ (λ i. head i ∷ ih i)
        ∙ sym (windows_cons (conv (b ∷ q) (a ∷ p)) x xs (omega (arith, long)))

    by : (xs : List ℤ) → windows (b ∷ q) (windows (a ∷ p) xs) ≡ windows (conv (b ∷ q) (a ∷ p)) xs
    by [] = ap (windows (b ∷ q)) (windows_short (a ∷ p) [] (omega arith)) ∙ windows_short (b ∷ q) [] (omega arith) ∙ sym (windows_short (conv (b ∷ q) (a ∷ p)) [] (omega (arith, long)))
    by (x ∷ xs) = step x xs (by xs) (cases_lt (length xs) (length p + length q))

-- piled: p first, then q
pub windows_windows : (p q : List ℕ) (xs : List ℤ) → 0 < length p → 0 < length q → windows q (windows p xs) ≡ windows (conv p q) xs
windows_windows [] q xs h k = absurd (omega arith)
windows_windows (a ∷ p) [] xs h k = absurd (omega arith)
windows_windows (a ∷ p) (b ∷ q) xs h k = turned a p b q xs ∙ ap (λ ts. windows ts xs) (conv_comm (b ∷ q) (a ∷ p) k h)

-- `conv` piles taps: windows of windows, reach and scale, and the law of taps
pub taps_pile : (p q : List ℕ) → 0 < length p → 0 < length q → Piles p q
taps_pile p q h k = record {
  tapped = conv_tap p q;
  windowed = λ xs. windows_windows p q xs h k;
  reaches = omega (arith, length_conv p q h k);
  scales = conv_scale p q;
  diminishing = λ f g xs. subst (λ ys. changes ys ≤ changes xs) (windows_windows p q xs h k) (le_trans (g (windows p xs)) (f xs));
}

windows_one : (xs : List ℤ) → windows (1 ∷ []) xs ≡ xs
windows_one [] = windows_short (1 ∷ []) [] (omega arith)
windows_one (x ∷ xs) = windows_cons (1 ∷ []) x xs (omega arith) ∙ (λ i. e i ∷ windows_one xs i)
  where
    once : pos 1 *ℤ x ≡ x
    once = omega (arith, ints)

    e : dot (1 ∷ []) (x ∷ xs) ≡ x
    e = unfold dot in +ℤ_idr (pos 1 *ℤ x) ∙ once

-- ---- passes
pub weights_some : (p : Pass) → 0 < length (weights p)
weights_some (Pair a b) = omega arith
weights_some (Triple a b c) = omega arith

-- the reach adds up
pub taps_length : (ps : List Pass) → length (taps ps) ≡ suc (reach ps)
taps_length [] = refl
taps_length (p ∷ ps) = omega (arith, length_conv (weights p) (taps ps) (weights_some p) (omega (arith, taps_length ps)), weights_some p, taps_length ps)

pub taps_some : (ps : List Pass) → 0 < length (taps ps)
taps_some ps = omega (arith, taps_length ps)

pub reach_le : (ps : List Pass) → reach ps ≤ 2 * length ps
reach_le [] = omega arith
reach_le (Pair a b ∷ ps) = omega (arith, reach_le ps)
reach_le (Triple a b c ∷ ps) = omega (arith, reach_le ps)

-- the scales multiply
pub product_is : (ps : List Pass) → product ps ≡ scale (taps ps)
unfolding scale
product_is [] = refl
product_is (p ∷ ps) = ap (λ n. scale (weights p) * n) (product_is ps) ∙ sym (conv_scale (weights p) (taps ps))

pub product_some : (ps : List Pass) → AllByRecursion Proper ps → 0 < product ps
product_some [] h = omega arith
product_some (p ∷ ps) (h, k) = mul-pos h.some (product_some ps k)

-- passes weigh any level as their piled taps do
weighed_is : (ps : List Pass) (l : Level) → fold (λ l p. weighed (weights p) l) l ps ≡ record { numerators = windows (taps ps) l.numerators; scale = l.scale * product ps }
weighed_is [] l = λ i. record { numerators = sym (windows_one l.numerators) i; scale = one i }
  where
    one : l.scale ≡ l.scale * 1
    one = omega arith
weighed_is (p ∷ ps) l = weighed_is ps (weighed (weights p) l) ∙ (λ i. record { numerators = windows_windows (weights p) (taps ps) l.numerators (weights_some p) (taps_some ps) i; scale = moved i })
  where
    moved : l.scale * scale (weights p) * product ps ≡ l.scale * (scale (weights p) * product ps)
    moved = omega arith

pub level_is : (ps : List Pass) (hs : List ℤ) → level ps hs ≡ record { numerators = windows (taps ps) hs; scale = product ps }
level_is ps hs = weighed_is ps (ground hs) ∙ (λ i. record { numerators = windows (taps ps) hs; scale = one i })
  where
    one : 1 * product ps ≡ product ps
    one = omega arith

-- a level is shorter by the reach
pub level_length : (ps : List Pass) (hs : List ℤ) → reach ps < length hs → length (level ps hs).numerators + reach ps ≡ length hs
level_length ps hs l = omega (arith, ap (λ n. length n.numerators) (level_is ps hs), count_of (taps ps) (taps_some ps), taps_length ps)
  where
    count_of : (ts : List ℕ) → 0 < length ts → length (windows ts hs) + length ts ≡ suc (length hs - (length ts - 1) + (length ts - 1))
    count_of [] h = absurd (omega arith)
    count_of (t ∷ ts) h = omega (arith, windows_length t ts hs)
