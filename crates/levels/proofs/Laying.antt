-- Windows laid in place: what is still to be read is old, and the places that they leave are cleared.
use Rattle.std.proofs.Common.{◌≡◌, ℕ, zero, suc, ◌+◌, ◌-◌, ◌*◌, ◌^◌, ◌<◌, ◌≤◌, List, [], ◌∷◌, ◌++◌, length, get_or, take, drop, set, replicate, ℤ, pos, ◌+ℤ◌, ◌*ℤ◌, nat_abs, sym, refl, ap, ◌∙◌, subst, ap₂, arith}
use borrow.Rule.Slice.PartMut.{put_mid}
use Rattle.std.proofs.ByRecursion.{All-take, All-drop}
use Rattle.std.proofs.lemmas.List.{append_assoc, append-nil, drop_all, length-drop, length-take-le, take_all, take_at, drop_at, replicate-append-replicate}
use Rattle.scale_space.specs.Taps.{dot, windows}
use Rattle.scale_space.proofs.Windows.{windows_cons, windows_length}
use Rattle.levels.specs.Drawing.{laid, Light}

-- ---- one place
-- the first i places are written, and the others old
abbrev pub partly : List ℤ → ℕ → List ℤ → List ℤ
partly ws i old = take i ws ++ drop i old

written : (ws old : List ℤ) (i : ℕ) → i < length ws → i < length old → set (partly ws i old) i (get_or ws i (pos 0)) ≡ partly ws (i + 1) old
written [] old i h k = absurd (omega arith)
written (w ∷ ws) [] i h k = absurd (omega arith)
written (w ∷ ws) (o ∷ old) zero h k = refl
written (w ∷ ws) (o ∷ old) (suc i) h k =
    let n : suc i + 1 ≡ suc (i + 1) = omega arith in
    rw n (ap (λ l. w ∷ l) (written ws old i (omega arith) (omega arith)))

windows_count : (ts : List ℕ) (xs : List ℤ) → 1 ≤ length ts → length (windows ts xs) ≡ length xs + 1 - length ts
windows_count [] xs h = absurd (omega arith)
windows_count (t ∷ ts) xs h = windows_length t ts xs ∙ omega arith

window_at : (ts : List ℕ) (xs : List ℤ) (i : ℕ) → 1 ≤ length ts → i + length ts ≤ length xs → get_or (windows ts xs) i (pos 0) ≡ dot ts (drop i xs)
window_at ts [] i p h = absurd (omega arith)
window_at ts (x ∷ xs) zero p h = ap (λ l. get_or l zero (pos 0)) (windows_cons ts x xs (omega arith))
window_at ts (x ∷ xs) (suc i) p h = ap (λ l. get_or l (suc i) (pos 0)) (windows_cons ts x xs (omega arith)) ∙ window_at ts xs i p (omega arith)

dot_take : (ts : List ℕ) (xs : List ℤ) → dot ts (take (length ts) xs) ≡ dot ts xs
unfolding dot
dot_take [] xs = refl
dot_take (t ∷ ts) [] = refl
dot_take (t ∷ ts) (x ∷ xs) = ap (λ z. pos t *ℤ x +ℤ z) (dot_take ts xs)

-- n weights laid on a level
module _ (ts : List ℕ) (old : List ℤ) (n : ℕ) (len : length ts ≡ n) (some : 1 ≤ n) (long : n ≤ length old) where
  abbrev pub laying : List ℤ
  laying = windows ts old

  laying_length : length laying ≡ length old - n + 1
  laying_length = omega (arith, windows_count ts old (omega arith))

  -- what window i reads is old
  read_is : (work : List ℤ) (i m : ℕ) → i < length old - n + 1 → m ≡ n → work ≡ partly laying i old → take m (drop i work) ≡ take n (drop i old)
  read_is work i m h e f =
      let front : length (take i laying) ≡ i = length-take-le i laying (omega (arith, laying_length)) in
      ap₂ take e (ap (drop i) f ∙ drop_at (take i laying) (drop i old) i front)

  pub read_light : (s : ℕ) (work : List ℤ) (i m : ℕ) → Light s old → i < length old - n + 1 → m ≡ n → work ≡ partly laying i old → Light s (take m (drop i work))
  read_light s work i m light h e f = subst (Light s) (sym (read_is work i m h e f)) (All-take (λ x. s * nat_abs x ≤ 2 ^ 60) n _ (All-drop (λ x. s * nat_abs x ≤ 2 ^ 60) i _ light))

  pub written_more : (work : List ℤ) (i m : ℕ) (v : ℤ) → i < length old - n + 1 → m ≡ n → work ≡ partly laying i old → v ≡ dot ts (take m (drop i work)) → set work i v ≡ partly laying (i + 1) old
  written_more work i m v h e f d =
      let is : v ≡ get_or laying i (pos 0) = d ∙ ap (dot ts) (read_is work i m h e f) ∙ ap (λ k. dot ts (take k (drop i old))) (sym len) ∙ dot_take ts (drop i old) ∙ sym (window_at ts old i (omega arith) (omega arith)) in
      ap₂ (λ l z. set l i z) f is ∙ written laying old i (omega (arith, laying_length)) (omega arith)

  -- all windows are written, and the places after them cleared
  pub cleared : (work zeros : List ℤ) (i : ℕ) → i ≡ length old - n + 1 → work ≡ partly laying i old → zeros ≡ replicate (length old - (length old - n + 1)) (pos 0) → put_mid (length old - n + 1) (length work - (length old - n + 1)) work zeros ≡ laid (length old) laying old
  cleared work zeros i e f z =
      let left = length old - n + 1 in
      let size : length laying ≡ left = laying_length in
      let all : work ≡ laying ++ drop left old = f ∙ ap₂ (λ l j. l ++ drop j old) (take_all i laying (omega arith)) e in
      let rest : drop (length work - left) (drop left work) ≡ drop (length old) old = drop_all (length work - left) (drop left work) (simp length-drop (omega arith)) ∙ sym (drop_all (length old) old (omega arith)) in
      let front : take left work ≡ laying = ap (take left) all ∙ take_at laying (drop left old) left size in
      let zero : zeros ≡ replicate (length old - length laying) (pos 0) = z ∙ ap (λ m. replicate (length old - m) (pos 0)) (sym size) in
      (λ j. front j ++ (zero j ++ rest j))

-- ---- from one laying to the next
pub laid_none : (old : List ℤ) → old ≡ laid (length old) old old
laid_none old =
    let none : 0 ≡ length old - length old = omega arith in
    let rest : [] ≡ drop (length old) old = sym (drop_all (length old) old (omega arith)) in
    sym (append-nil old) ∙ (λ j. old ++ (replicate (none j) (pos 0) ++ rest j))

pub take_laid : (n : ℕ) (xs old : List ℤ) → take (length xs) (laid n xs old) ≡ xs
take_laid n xs old = take_at xs (replicate (n - length xs) (pos 0) ++ drop n old) (length xs) refl

pub laid_laid : (n : ℕ) (xs ws old : List ℤ) → length ws ≤ length xs → length xs ≤ n → laid (length xs) ws (laid n xs old) ≡ laid n ws old
laid_laid n xs ws old h k =
    let m = length xs - length ws in
    let r = n - length xs in
    let sum : m + r ≡ n - length ws = omega arith in
    ap (λ l. ws ++ (replicate m (pos 0) ++ l)) (drop_at xs (replicate r (pos 0) ++ drop n old) (length xs) refl)
    ∙ ap (λ l. ws ++ l) (sym (append_assoc (replicate m (pos 0)) (replicate r (pos 0)) (drop n old)) ∙ ap (λ l. l ++ drop n old) (replicate-append-replicate m r (pos 0)))
    ∙ ap (λ j. ws ++ (replicate j (pos 0) ++ drop n old)) sum

-- what follows the places is kept
pub laid_before : (ws old rest : List ℤ) → laid (length old) ws old ++ rest ≡ ws ++ (replicate (length old - length ws) (pos 0) ++ rest)
laid_before ws old rest =
    let zeros = replicate (length old - length ws) (pos 0) in
    ap (λ l. (ws ++ (zeros ++ l)) ++ rest) (drop_all (length old) old (omega arith)) ∙ append_assoc ws (zeros ++ []) rest ∙ ap (λ l. ws ++ l) (append_assoc zeros [] rest)
