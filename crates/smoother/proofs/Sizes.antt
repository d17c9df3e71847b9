-- Samples that are small enough to be weighed, and the sums that they give.
use Rattle.std.proofs.Common.{◌≡◌, ℕ, zero, suc, ◌/◌, ◌^◌, ◌<◌, ◌≤◌, true, leb, List, [], ◌∷◌, length, get_or, take, drop, ℤ, pos, negsuc, nat_abs, refl, le-div_iff_mul-le, arith, w64, SFits}
use Rattle.std.proofs.lemmas.Bool.{leb-true, and_parts, and_from}
use Rattle.std.specs.List.{list_all}
use Rattle.smoother.specs.Answers.{weighable}
use Rattle.smoother.specs.Limits.{quotient_test}

pub fits_size : (z : ℤ) → nat_abs z ≤ 2 ^ 57 → SFits w64 z
fits_size (pos n) h = record { sfits = omega arith }
fits_size (negsuc n) h = record { sfits = omega arith }

-- ---- the test of size
pub weighable_is : (s : ℕ) (xs : List ℤ) → 1 ≤ s → list_all (λ x. leb (nat_abs x) (2 ^ 57 / s)) xs ≡ weighable s xs
weighable_is s xs one = λ j. list_all (λ x. quotient_test (nat_abs x) s (2 ^ 57) one j) xs

pub weighable_at : (s : ℕ) (xs : List ℤ) (i : ℕ) → 1 ≤ s → i < length xs → weighable s xs ≡ true → nat_abs (get_or xs i (pos 0)) ≤ 2 ^ 57 / s
weighable_at s [] i p l h = absurd (omega arith)
weighable_at s (x ∷ xs) zero p l h = (le-div_iff_mul-le p).1 (leb-true _ _ (and_parts _ _ h).0)
weighable_at s (x ∷ xs) (suc i) p l h = weighable_at s xs i p (omega arith) (and_parts _ _ h).1

weighable_drop : (s i : ℕ) (xs : List ℤ) → weighable s xs ≡ true → weighable s (drop i xs) ≡ true
weighable_drop s zero xs h = h
weighable_drop s (suc i) [] h = h
weighable_drop s (suc i) (x ∷ xs) h = weighable_drop s i xs (and_parts _ _ h).1

weighable_take : (s n : ℕ) (xs : List ℤ) → weighable s xs ≡ true → weighable s (take n xs) ≡ true
weighable_take s zero xs h = refl
weighable_take s (suc n) [] h = h
weighable_take s (suc n) (x ∷ xs) h = let p = and_parts _ _ h in and_from _ _ p.0 (weighable_take s n xs p.1)

pub weighable_window : (s n i : ℕ) (xs : List ℤ) → weighable s xs ≡ true → weighable s (take n (drop i xs)) ≡ true
weighable_window s n i xs h = weighable_take s n (drop i xs) (weighable_drop s i xs h)
