-- Windows of samples between low and high lie between low and high times the scale.
use Rattle.std.proofs.Common.{◌≡◌, ℕ, ◌+◌, ◌<◌, ◌≤◌, ◌⊎◌, List, [], ◌∷◌, length, ℤ, pos, ◌+ℤ◌, ◌*ℤ◌, ◌≤ℤ◌, sym, ap, ◌∙◌, subst, inl, inr, mul-le-mul_left, arith}
use lib.IntN.{*ℤ_comm, *ℤ-zero}
use lib.Signed.{≤ℤ_refl}
use borrow.Author.Differences.{ints, le_out, product_is, at_most_in}
use Rattle.std.proofs.lemmas.Bool.{cases_lt}
use Rattle.std.specs.List.{AllByRecursion}
use Rattle.scale_space.specs.Taps.{dot, windows, scale}
use Rattle.scale_space.specs.Levels.{Between}
use Rattle.scale_space.proofs.Ring.{*ℤ-+ℤ}
use Rattle.scale_space.proofs.Windows.{windows_cons, windows_short}

times_order : (t : ℕ) (x y : ℤ) → x ≤ℤ y → (pos t *ℤ x) ≤ℤ (pos t *ℤ y)
times_order t x y h =
    let k = mul-le-mul_left t (le_out x y h) in
    at_most_in (pos t *ℤ x) (pos t *ℤ y) (omega (arith, product_is (pos t) x, product_is (pos t) y))

sum_order : (x y v w : ℤ) → x ≤ℤ y → v ≤ℤ w → (x +ℤ v) ≤ℤ (y +ℤ w)
sum_order x y v w h k = omega (arith, ints)

more_scale : (h : ℤ) (t n : ℕ) → h *ℤ pos (t + n) ≡ pos t *ℤ h +ℤ h *ℤ pos n
more_scale h t n = *ℤ-+ℤ h (pos t) (pos n) ∙ ap (λ z. z +ℤ h *ℤ pos n) (*ℤ_comm h (pos t))

dot_between : (low high : ℤ) (ts : List ℕ) (xs : List ℤ) → length ts ≤ length xs → AllByRecursion (Between low high) xs → Between (low *ℤ pos (scale ts)) (high *ℤ pos (scale ts)) (dot ts xs)
unfolding dot scale
dot_between low high [] xs h a = (subst (λ z. z ≤ℤ pos 0) (sym (*ℤ-zero low)) (≤ℤ_refl (pos 0)), subst (λ z. pos 0 ≤ℤ z) (sym (*ℤ-zero high)) (≤ℤ_refl (pos 0)))
dot_between low high (t ∷ ts) [] h a = absurd (omega arith)
dot_between low high (t ∷ ts) (x ∷ xs) h a =
    let b = dot_between low high ts xs (omega arith) a.1 in (
      subst (λ z. z ≤ℤ (pos t *ℤ x +ℤ dot ts xs)) (sym (more_scale low t (scale ts))) (sum_order (pos t *ℤ low) (pos t *ℤ x) (low *ℤ pos (scale ts)) (dot ts xs) (times_order t low x a.0.0) b.0),
      subst (λ z. (pos t *ℤ x +ℤ dot ts xs) ≤ℤ z) (sym (more_scale high t (scale ts))) (sum_order (pos t *ℤ x) (pos t *ℤ high) (dot ts xs) (high *ℤ pos (scale ts)) (times_order t x high a.0.1) b.1),
    )

pub windows_between : (low high : ℤ) (ts : List ℕ) (xs : List ℤ) → AllByRecursion (Between low high) xs → AllByRecursion (Between (low *ℤ pos (scale ts)) (high *ℤ pos (scale ts))) (windows ts xs)
unfolding windows
windows_between low high ts [] a = tt
windows_between low high ts (x ∷ xs) a = go (windows_between low high ts xs a.1) (cases_lt (length (x ∷ xs)) (length ts))
  where
    P : ℤ → Type 0
    P = Between (low *ℤ pos (scale ts)) (high *ℤ pos (scale ts))

    go : AllByRecursion P (windows ts xs) → (length (x ∷ xs) < length ts) ⊎ (length ts ≤ length (x ∷ xs)) → AllByRecursion P (windows ts (x ∷ xs))
    go ih (inl h) = subst (AllByRecursion P) (sym (windows_short ts (x ∷ xs) h)) tt
    go ih (inr h) = subst (AllByRecursion P) (sym (windows_cons ts x xs h)) (dot_between low high ts (x ∷ xs) h a, ih)
