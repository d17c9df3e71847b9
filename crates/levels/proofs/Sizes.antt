-- Lawful heights, and levels that are light enough to be weighed.
use Rattle.std.proofs.Common.{◌≡◌, ℕ, ◌*◌, ◌^◌, ◌≤◌, true, List, [], ◌∷◌, ℤ, pos, negsuc, ◌*ℤ◌, nat_abs, refl, mul-le-mul_left, arith}
use borrow.Author.Differences.{ints, product_is}
use Rattle.std.proofs.ByRecursion.{All-weaker}
use Rattle.std.proofs.lemmas.Bool.{leb-true, le-leb, and_parts, and_from}
use Rattle.scale_space.specs.Levels.{Level, ground, Between, Within}
use Rattle.samples.specs.Answers.{heights_fit}
use Rattle.levels.specs.Drawing.{heights_lawful, Light}

-- ---- heights
height_between : (h : ℤ) → nat_abs h ≤ 100000 → Between (negsuc 99999 *ℤ pos 1) (pos 100000 *ℤ pos 1) h
height_between h l = (omega (arith, ints), omega (arith, ints))

pub lawful_within : (hs : List ℤ) → heights_lawful hs ≡ true → Within (negsuc 99999) (pos 100000) (ground hs)
lawful_within [] e = tt
lawful_within (h ∷ hs) e = let p = and_parts _ _ e in (height_between h (leb-true _ _ p.0), lawful_within hs p.1)

-- ---- levels
sample_size : (s : ℕ) (x : ℤ) → Between (negsuc 99999 *ℤ pos s) (pos 100000 *ℤ pos s) x → nat_abs x ≤ 100000 * s
sample_size s x b = omega (arith, ints, product_is (negsuc 99999) (pos s), product_is (pos 100000) (pos s))

sample_light : (s t : ℕ) (x : ℤ) → s * t ≤ 2 ^ 40 → nat_abs x ≤ 100000 * s → t * nat_abs x ≤ 2 ^ 60
sample_light s t x h k = omega (arith, mul-le-mul_left t k)

pub within_light : (l : Level) (t : ℕ) → l.scale * t ≤ 2 ^ 40 → Within (negsuc 99999) (pos 100000) l → Light t l.numerators
within_light l t h w = All-weaker (Between (negsuc 99999 *ℤ pos l.scale) (pos 100000 *ℤ pos l.scale)) (λ x. t * nat_abs x ≤ 2 ^ 60) (λ x b. sample_light l.scale t x h (sample_size l.scale x b)) l.numerators w

-- ---- the test that numerators are no larger than heights at their scale
fit_between : (s : ℕ) (x : ℤ) → nat_abs x ≤ 100000 * s → Between (negsuc 99999 *ℤ pos s) (pos 100000 *ℤ pos s) x
fit_between s x h = (omega (arith, ints, product_is (negsuc 99999) (pos s)), omega (arith, ints, product_is (pos 100000) (pos s)))

pub fit_within : (s : ℕ) (xs : List ℤ) → heights_fit s xs ≡ true → Within (negsuc 99999) (pos 100000) (record { numerators = xs; scale = s })
fit_within s [] e = tt
fit_within s (x ∷ xs) e = let p = and_parts _ _ e in (fit_between s x (leb-true _ _ p.0), fit_within s xs p.1)

pub within_fit : (s : ℕ) (xs : List ℤ) → Within (negsuc 99999) (pos 100000) (record { numerators = xs; scale = s }) → heights_fit s xs ≡ true
within_fit s [] w = refl
within_fit s (x ∷ xs) w = and_from _ _ (le-leb (nat_abs x) (100000 * s) (sample_size s x w.0)) (within_fit s xs w.1)
