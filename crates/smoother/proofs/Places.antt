-- Windows by place, and how they are written.
use Rattle.std.proofs.Common.{◌≡◌, ℕ, zero, suc, ◌+◌, ◌-◌, ◌<◌, ◌≤◌, List, [], ◌∷◌, ◌++◌, length, get_or, take, drop, set, ℤ, pos, ◌+ℤ◌, ◌*ℤ◌, Result, sym, refl, ap, ◌∙◌, arith}
use Rattle.std.proofs.lemmas.List.{take_all}
use Rattle.samples.specs.Answers.{written}
use Rattle.samples.specs.declared.refusals.Refusal.{Refusal}
use Rattle.scale_space.specs.Taps.{dot, windows}
use Rattle.scale_space.proofs.Windows.{windows_cons, windows_length}
use Rattle.smoother.specs.Answers.{applied}

windows_count : (ts : List ℕ) (xs : List ℤ) → 1 ≤ length ts → length (windows ts xs) ≡ length xs + 1 - length ts
windows_count [] xs h = absurd (omega arith)
windows_count (t ∷ ts) xs h = windows_length t ts xs ∙ omega arith

window_at : (ts : List ℕ) (xs : List ℤ) (i : ℕ) → 1 ≤ length ts → i + length ts ≤ length xs → get_or (windows ts xs) i (pos 0) ≡ dot ts (drop i xs)
window_at ts [] i p h = absurd (omega arith)
window_at ts (x ∷ xs) zero p h = ap (λ ws. get_or ws 0 (pos 0)) (windows_cons ts x xs (omega arith))
window_at ts (x ∷ xs) (suc i) p h = ap (λ ws. get_or ws (suc i) (pos 0)) (windows_cons ts x xs (omega arith)) ∙ window_at ts xs i p (omega arith)

dot_take : (ts : List ℕ) (xs : List ℤ) → dot ts (take (length ts) xs) ≡ dot ts xs
unfolding dot
dot_take [] xs = refl
dot_take (t ∷ ts) [] = refl
dot_take (t ∷ ts) (x ∷ xs) = ap (λ z. pos t *ℤ x +ℤ z) (dot_take ts xs)

put_more : (ws old : List ℤ) (i : ℕ) (v : ℤ) → i < length ws → i < length old → v ≡ get_or ws i (pos 0) → set (take i ws ++ drop i old) i v ≡ take (i + 1) ws ++ drop (i + 1) old
put_more [] old i v h k e = absurd (omega arith)
put_more (w ∷ ws) [] i v h k e = absurd (omega arith)
put_more (w ∷ ws) (o ∷ old) zero v h k e = ap (λ z. z ∷ old) e
put_more (w ∷ ws) (o ∷ old) (suc i) v h k e =
    let n : suc i + 1 ≡ suc (i + 1) = omega arith in
    rw n (ap (λ zs. w ∷ zs) (put_more ws old i v (omega arith) (omega arith) e))

-- the windows before i are written, and the further places are as they were
abbrev pub Written : List ℕ → List ℤ → List ℤ → ℕ → List ℤ → Type 0
Written ts xs old i out = out ≡ take i (windows ts xs) ++ drop i old

module _ (ts : List ℕ) (xs old : List ℤ) (some : 1 ≤ length ts) where
  pub written_more : (i n : ℕ) (out : List ℤ) (v : ℤ) → n ≡ length ts → i + length ts ≤ length xs → i < length old → v ≡ dot ts (take n (drop i xs)) → Written ts xs old i out → Written ts xs old (i + 1) (set out i v)
  written_more i n out v e h k d w =
      let here : v ≡ get_or (windows ts xs) i (pos 0) = d ∙ ap (λ m. dot ts (take m (drop i xs))) e ∙ dot_take ts (drop i xs) ∙ sym (window_at ts xs i some h) in
      ap (λ o. set o i v) w ∙ put_more (windows ts xs) old i v (omega (arith, windows_count ts xs some)) k here

  pub written_all : (i n : ℕ) (out : List ℤ) → n ≡ length xs + 1 - length ts → i ≡ n → Written ts xs old i out → out ≡ windows ts xs ++ drop n old
  written_all i n out e f w =
      w ∙ ap (λ ws. ws ++ drop i old) (take_all i (windows ts xs) (omega (arith, windows_count ts xs some))) ∙ ap (λ m. windows ts xs ++ drop m old) f

-- ---- the same taps, named in two ways
pub applied_as : (us ts : List ℕ) (xs : List ℤ) (room : ℕ) (r : Result ℕ Refusal) → us ≡ ts → r ≡ applied us xs room → r ≡ applied ts xs room
applied_as us ts xs room r e h = h ∙ ap (λ vs. applied vs xs room) e

pub written_as : (us ts : List ℕ) (xs old after : List ℤ) (r : Result ℕ Refusal) → us ≡ ts → after ≡ written r (windows us xs) old → after ≡ written r (windows ts xs) old
written_as us ts xs old after r e h = h ∙ ap (λ vs. written r (windows vs xs) old) e
