-- Where an input is parted.
use Rattle.std.proofs.Common.{◌≡◌, ℕ, zero, suc, ◌+◌, ◌-◌, ◌<◌, Bool, true, false, ◌&&◌, ◌||◌, eqb, List, [], ◌∷◌, length, get_or, take, drop, sym, refl, ap, ◌∙◌, ap₂, add-one, arith}
use native.Mathlib.Nat.{sub-zero}
use Rattle.std.proofs.lemmas.Bool.{cond-true, cond-false}
use Rattle.std.proofs.lemmas.List.{take_rest, drop_all}
use Rattle.command.specs.Parting.{parted, empty_at}

-- whether byte k ends an empty line; `fresh` says whether a line begins here
abbrev ends : Bool → List ℕ → ℕ → Bool
ends fresh [] k = false
ends fresh (b ∷ bs) zero = fresh && eqb b 10
ends fresh (b ∷ bs) (suc k) = ends (eqb b 10) bs k

ends_next : (fresh : Bool) (bs : List ℕ) (k : ℕ) → suc k < length bs → ends fresh bs (suc k) ≡ eqb (get_or bs k 0) 10 && eqb (get_or bs (suc k) 0) 10
ends_next fresh [] k l = absurd (omega arith)
ends_next fresh (b ∷ []) k l = absurd (omega arith)
ends_next fresh (b ∷ c ∷ bs) zero l = refl
ends_next fresh (b ∷ c ∷ bs) (suc k) l = ends_next (eqb b 10) (c ∷ bs) k (omega arith)

and_true : (p : Bool) → p ≡ p && true
and_true true = refl
and_true false = refl

swapped : (p q : Bool) → p && q ≡ q && p
swapped true true = refl
swapped true false = refl
swapped false true = refl
swapped false false = refl

next : (bs : List ℕ) (k : ℕ) (q t : Bool) → t ≡ false → (m : ℕ) → m ≡ k → eqb (get_or bs k 0) 10 && q ≡ q && (t || eqb (get_or bs m 0) 10)
next bs k q t e m f = swapped (eqb (get_or bs k 0) 10) q ∙ ap₂ (λ x y. q && (x || eqb (get_or bs y 0) 10)) (sym e) (sym f)

ends_is : (bs : List ℕ) (k : ℕ) → k < length bs → ends true bs k ≡ empty_at bs k
ends_is [] k l = absurd (omega arith)
ends_is (b ∷ bs) zero l = and_true (eqb b 10)
ends_is (b ∷ bs) (suc k) l = ends_next true (b ∷ bs) k l ∙ next (b ∷ bs) k (eqb (get_or bs k 0) 10) (eqb (suc k) 0) (grind arith) (suc k - 1) (omega arith)

first : (fresh : Bool) (bs : List ℕ) (i : ℕ) → ends fresh bs i ≡ true → ((k : ℕ) → k < i → ends fresh bs k ≡ false) → parted fresh bs ≡ (take i bs, drop (suc i) bs)
first fresh [] i e before = cc
first fresh (b ∷ bs) zero e before = cond-true _ _ _ e
first fresh (b ∷ bs) (suc i) e before = cond-false _ _ _ (before 0 (omega arith)) ∙ ap (λ p. (b ∷ p.0, p.1)) (first (eqb b 10) bs i e (λ k l. before (suc k) (omega arith)))

none : (fresh : Bool) (bs : List ℕ) → ((k : ℕ) → k < length bs → ends fresh bs k ≡ false) → parted fresh bs ≡ (bs, [])
none fresh [] off = refl
none fresh (b ∷ bs) off = cond-false _ _ _ (off 0 (omega arith)) ∙ ap (λ p. (b ∷ p.0, p.1)) (none (eqb b 10) bs (λ k l. off (suc k) (omega arith)))

pub parted_first : (bs : List ℕ) (i : ℕ) → i < length bs → empty_at bs i ≡ true → ((k : ℕ) → k < i → empty_at bs k ≡ false) → (take (i - 0) bs, take (length bs - (i + 1)) (drop (i + 1) bs)) ≡ parted true bs
parted_first bs i l e before =
    (λ j. (take (sub-zero i j) bs, (take_rest bs (i + 1) ∙ ap (λ n. drop n bs) (add-one i)) j))
    ∙ sym (first true bs i (ends_is bs i l ∙ e) (λ k m. ends_is bs k (omega arith) ∙ before k m))

pub parted_none : (bs : List ℕ) → ((k : ℕ) → k < length bs → empty_at bs k ≡ false) → (bs, take (length bs - length bs) (drop (length bs) bs)) ≡ parted true bs
parted_none bs off =
    ap (λ r. (bs, r)) (take_rest bs (length bs) ∙ drop_all (length bs) bs (omega arith))
    ∙ sym (none true bs (λ k l. ends_is bs k l ∙ off k l))
