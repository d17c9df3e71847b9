-- Impulse profiles: all 0 but a 1 at one place. Their windows are the taps.
use Rattle.std.proofs.Common.{◌≡◌, ℕ, zero, suc, ◌<◌, ◌≤◌, List, [], ◌∷◌, length, get_or, ℤ, pos, negsuc, ◌+ℤ◌, ◌*ℤ◌, refl, ap, ◌∙◌, arith}
use lib.IntN.{+ℤ_idr, +ℤ_idl, *ℤ-zero}
use borrow.Author.Differences.{ints}
use Rattle.std.specs.List.{AllByRecursion}
use Rattle.scale_space.specs.Taps.{dot, windows}
use Rattle.scale_space.specs.Levels.{Between}
use Rattle.scale_space.specs.Passes.{Profile}
use Rattle.scale_space.proofs.Windows.{windows_cons, windows_short}

-- n heights, all 0
abbrev pub flat : ℕ → List ℤ
flat zero = []
flat (suc n) = pos 0 ∷ flat n

-- n heights, all 0 but a 1 at place j
abbrev pub impulse : ℕ → ℕ → List ℤ
impulse zero j = []
impulse (suc n) zero = pos 1 ∷ flat n
impulse (suc n) (suc j) = pos 0 ∷ impulse n j

flat_length : (n : ℕ) → length (flat n) ≡ n
flat_length zero = refl
flat_length (suc n) = ap suc (flat_length n)

pub impulse_length : (n j : ℕ) → length (impulse n j) ≡ n
impulse_length zero j = refl
impulse_length (suc n) zero = ap suc (flat_length n)
impulse_length (suc n) (suc j) = ap suc (impulse_length n j)

abbrev Lawful : ℤ → Type 0
Lawful = Between (negsuc 99999) (pos 100000)

nought : Lawful (pos 0)
nought = (omega (arith, ints), omega (arith, ints))

one : Lawful (pos 1)
one = (omega (arith, ints), omega (arith, ints))

flat_lawful : (n : ℕ) → AllByRecursion Lawful (flat n)
flat_lawful zero = tt
flat_lawful (suc n) = (nought, flat_lawful n)

impulse_lawful : (n j : ℕ) → AllByRecursion Lawful (impulse n j)
impulse_lawful zero j = tt
impulse_lawful (suc n) zero = (one, flat_lawful n)
impulse_lawful (suc n) (suc j) = (nought, impulse_lawful n j)

pub impulse_profile : (n j : ℕ) → 1 ≤ n → n ≤ 2048 → Profile (impulse n j)
impulse_profile n j h k = record { some = omega (arith, impulse_length n j); short = omega (arith, impulse_length n j); in_range = impulse_lawful n j }

dot_flat : (ts : List ℕ) (n : ℕ) → dot ts (flat n) ≡ pos 0
unfolding dot
dot_flat [] n = refl
dot_flat (t ∷ ts) zero = refl
dot_flat (t ∷ ts) (suc n) = (λ i. *ℤ-zero (pos t) i +ℤ dot_flat ts n i)

times_one : (t : ℕ) → pos t *ℤ pos 1 ≡ pos t
times_one t = ap pos (omega arith)

dot_impulse : (ts : List ℕ) (j : ℕ) → dot ts (impulse (length ts) j) ≡ pos (get_or ts j 0)
unfolding dot
dot_impulse [] j = refl
dot_impulse (t ∷ ts) zero = (λ i. times_one t i +ℤ dot_flat ts (length ts) i) ∙ +ℤ_idr (pos t)
dot_impulse (t ∷ ts) (suc j) = (λ i. *ℤ-zero (pos t) i +ℤ dot_impulse ts j i) ∙ +ℤ_idl (pos (get_or ts j 0))

windows_whole : (ts : List ℕ) (xs : List ℤ) → length xs ≡ length ts → 0 < length ts → windows ts xs ≡ dot ts xs ∷ []
windows_whole ts [] e h = absurd (omega arith)
windows_whole ts (x ∷ xs) e h = windows_cons ts x xs (omega arith) ∙ ap (λ l. dot ts (x ∷ xs) ∷ l) (windows_short ts xs (omega arith))

pub windows_impulse : (ts : List ℕ) (j : ℕ) → 0 < length ts → windows ts (impulse (length ts) j) ≡ pos (get_or ts j 0) ∷ []
windows_impulse ts j h = windows_whole ts (impulse (length ts) j) (impulse_length (length ts) j) h ∙ ap (λ z. z ∷ []) (dot_impulse ts j)
