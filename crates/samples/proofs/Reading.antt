-- What a finder still has to give, one sample on: F before the sample at i is read, and G after it.
use Rattle.std.proofs.Common.{◌≡◌, true, ℕ, ◌+◌, ◌<◌, ◌≤◌, List, [], ◌∷◌, length, get_or, drop, ℤ, pos, Some, None, Option, sym, ap, ◌∙◌, w64, SFits, to_z, of_z}
use Rattle.std.proofs.lemmas.List.{at_drop_more, at_drop_all}
use Rattle.std.proofs.lemmas.Bool.{false≢true}
use Rattle.std.proofs.lemmas.Cmp.{int_ranked}
use Rattle.std.proofs.lemmas.Int.{to_z-of_z}
use Rattle.std.specs.Ordering.{is_eq, int_cmp}
use Rattle.std.specs.declared.cmp.Ordering.{Ordering}
use Rattle.std.specs.declared.cmp.Ordering.TheVariants.{Less, Equal, Greater}
use Rattle.samples.specs.Finders.{then}

-- what the finder ensures of the sample as the code passes it
abbrev pub Reads : {A : Type 0} → (List ℤ → List A) → (List ℤ → List A) → Option A → ℤ → Type 0
Reads F G r x = (rest : List ℤ) → F (to_z w64 (of_z w64 x) ∷ rest) ≡ then r (G rest)

read_on : {A : Type 0} (F G : List ℤ → List A) (r : Option A) (xs : List ℤ) (i : ℕ) → SFits w64 (get_or xs i (pos 0)) → i < length xs → Reads F G r (get_or xs i (pos 0)) → F (drop i xs) ≡ then r (G (drop (i + 1) xs))
read_on F G r xs i f l e =
    at_drop_more F xs i (pos 0) l
    ∙ ap (λ x. F (x ∷ drop (i + 1) xs)) (sym (to_z-of_z w64 (get_or xs i (pos 0)) f))
    ∙ e (drop (i + 1) xs)

pub read_some : {A : Type 0} (F G : List ℤ → List A) (r : Option A) (x : A) (xs : List ℤ) (i : ℕ) → SFits w64 (get_or xs i (pos 0)) → i < length xs → Reads F G r (get_or xs i (pos 0)) → r ≡ Some x → F (drop i xs) ≡ x ∷ G (drop (i + 1) xs)
read_some F G r x xs i f l e o = read_on F G r xs i f l e ∙ ap (λ p. then p (G (drop (i + 1) xs))) o

pub read_none : {A : Type 0} (F G : List ℤ → List A) (r : Option A) (xs : List ℤ) (i : ℕ) → SFits w64 (get_or xs i (pos 0)) → i < length xs → Reads F G r (get_or xs i (pos 0)) → r ≡ None → F (drop i xs) ≡ G (drop (i + 1) xs)
read_none F G r xs i f l e o = read_on F G r xs i f l e ∙ ap (λ p. then p (G (drop (i + 1) xs))) o

-- no sample is left
pub read_out : {A : Type 0} (F : List ℤ → List A) (xs : List ℤ) (i : ℕ) → length xs ≤ i → F [] ≡ [] → F (drop i xs) ≡ []
read_out F xs i l e = at_drop_all F xs i l ∙ e

-- what compares equal is the same
pub compared_same : (x v : ℤ) (o : Ordering) → o ≡ int_cmp x v → is_eq o ≡ true → x ≡ v
compared_same x v Less e t = absurd (false≢true t)
compared_same x v Equal e t = int_ranked x v Equal e
compared_same x v Greater e t = absurd (false≢true t)
