-- What an item put in place of another, and later items moved up or down, leave of the first n.
use Rattle.std.proofs.Common.{◌≡◌, ℕ, zero, suc, ◌+◌, ◌-◌, ◌<◌, ◌≤◌, List, [], ◌∷◌, ◌++◌, length, take, drop, set, sym, refl, ap, ap₂, ◌∙◌, append_assoc, arith}
use Rattle.std.specs.List.{insert, remove, copy_within}
use Rattle.std.proofs.lemmas.List.{length-take-le, length-drop, take-take, drop-take, drop_all, set_split, set-append_left}
use Rattle.std.proofs.lemmas.List.Edits.{take-paste}

pub take_set_in : {X : Type 0} (n : ℕ) (xs : List X) (k : ℕ) (x : X) → take n (set xs k x) ≡ set (take n xs) k x
take_set_in zero [] k x = refl
take_set_in zero (y ∷ xs) zero x = refl
take_set_in zero (y ∷ xs) (suc k) x = refl
take_set_in (suc n) [] k x = refl
take_set_in (suc n) (y ∷ xs) zero x = refl
take_set_in (suc n) (y ∷ xs) (suc k) x = ap (λ t. y ∷ t) (take_set_in n xs k x)

module _ {X : Type 0} (xs : List X) (k n : ℕ) where
  pub removed : k < n → n ≤ length xs → take (n - 1) (copy_within xs (k + 1) n k) ≡ remove (take n xs) k
  removed lo hi =
      let m : ℕ = n - (k + 1) in
      let e : n - 1 ≡ k + m = omega arith in
      let f : suc k + m ≡ n = omega arith in
      let g : k + 1 ≡ suc k = omega arith in
      let front = ap (λ j. take j (copy_within xs (k + 1) n k)) e ∙ take-paste xs k (drop (k + 1) xs) m (omega arith) (omega (arith, length-drop (k + 1) xs)) in
      let back = ap (λ j. drop (suc k) (take j xs)) (sym f) ∙ drop-take (suc k) m xs in
      front ∙ ap₂ (λ p q. p ++ q) (sym (take-take k n xs (omega arith))) (ap (λ j. take m (drop j xs)) g ∙ sym back)

  pub inserted : (x : X) → k ≤ n → n < length xs → set (take (n + 1) (copy_within xs k n (k + 1))) k x ≡ insert (take n xs) k x
  inserted x lo hi =
      let m : ℕ = n - k in
      let ahead : List X = take (k + 1) xs in
      let moved : List X = take m (drop k xs) in
      let long : length ahead ≡ k + 1 = length-take-le (k + 1) xs (omega arith) in
      let e : n + 1 ≡ k + 1 + m = omega arith in
      let f : k + m ≡ n = omega arith in
      let whole : take (n + 1) (copy_within xs k n (k + 1)) ≡ ahead ++ moved =
      ap (λ j. take j (copy_within xs k n (k + 1))) e ∙ take-paste xs (k + 1) (drop k xs) m (omega arith) (omega (arith, length-drop k xs)) in
      let put : set ahead k x ≡ take k xs ++ x ∷ [] =
      set_split ahead k x (omega arith) ∙ ap₂ (λ p q. p ++ x ∷ q) (take-take k (k + 1) xs (omega arith)) (drop_all (suc k) ahead (omega arith)) in
      let later : drop k (take n xs) ≡ moved = ap (λ j. drop k (take j xs)) (sym f) ∙ drop-take k m xs in
      ap (λ t. set t k x) whole
      ∙ set-append_left ahead moved k x (omega arith)
      ∙ ap (λ t. t ++ moved) put
      ∙ append_assoc (take k xs) (x ∷ []) moved
      ∙ sym (ap₂ (λ p q. p ++ x ∷ q) (take-take k n xs lo) later)
