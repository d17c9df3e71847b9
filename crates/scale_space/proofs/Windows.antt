-- How windows compute, and how many there are.
use Rattle.std.proofs.Common.{◌≡◌, ℕ, suc, ◌-◌, ◌<◌, ◌≤◌, cond, ◌⊎◌, List, [], ◌∷◌, length, ℤ, refl, ap, ◌∙◌, inl, inr, arith, le-leb}
use borrow.Author.Tests.{lt-leb}
use Rattle.std.proofs.lemmas.Bool.{cases_lt}
use Rattle.scale_space.specs.Taps.{dot, windows}

pub windows_cons : (ts : List ℕ) (x : ℤ) (xs : List ℤ) → length ts ≤ suc (length xs) → windows ts (x ∷ xs) ≡ dot ts (x ∷ xs) ∷ windows ts xs
unfolding windows
windows_cons ts x xs h = ap (λ t. cond t (dot ts (x ∷ xs) ∷ windows ts xs) []) (le-leb (length ts) (suc (length xs)) h)

pub windows_short : (ts : List ℕ) (xs : List ℤ) → length xs < length ts → windows ts xs ≡ []
unfolding windows
windows_short ts [] h = refl
windows_short ts (x ∷ xs) h = ap (λ t. cond t (dot ts (x ∷ xs) ∷ windows ts xs) []) (lt-leb (length ts) (suc (length xs)) h)

-- there are as many as the samples, less the reach
pub windows_length : (t : ℕ) (ts : List ℕ) (xs : List ℤ) → length (windows (t ∷ ts) xs) ≡ length xs - length ts
unfolding windows
windows_length t ts [] = omega arith
windows_length t ts (x ∷ xs) = go (windows_length t ts xs) (cases_lt (length xs) (length ts))
  where
    go : length (windows (t ∷ ts) xs) ≡ length xs - length ts → (length xs < length ts) ⊎ (length ts ≤ length xs) → length (windows (t ∷ ts) (x ∷ xs)) ≡ suc (length xs) - length ts
    go ih (inl h) = ap length (windows_short (t ∷ ts) (x ∷ xs) (omega arith)) ∙ omega arith
    go ih (inr h) = ap length (windows_cons (t ∷ ts) x xs (omega arith)) ∙ omega arith
