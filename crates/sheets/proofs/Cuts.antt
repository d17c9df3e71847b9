-- Where a text is cut.
use Rattle.std.proofs.Common.{◌≡◌, ℕ, zero, suc, ◌+◌, ◌-◌, ◌<◌, ◌≤◌, Bool, true, false, cond, eqb, List, [], ◌∷◌, length, get_or, take, drop, Some, None, Ok, Err, Option, Bor, MatchOption, sym, refl, ap, ◌∙◌, add-one, subst, arith}
use Rattle.std.proofs.lemmas.Bool.{eqb-true, eq-eqb, ne_eqb, cond-true, cond-false}
use Rattle.std.proofs.lemmas.List.{take_rest, length-take, length-drop}
use Rattle.std.specs.List.{position, position_or_len}
use Rattle.std.proofs.lemmas.List.Sums.{fails_before_first}
use Rattle.std.proofs.lemmas.List.Quantifiers.{position-Some}
use Rattle.std.proofs.lemmas.Bool.Decides.{nat_tests}
use Rattle.std.specs.Option.{ok_or}
use Rattle.sheets.specs.declared.faults.SheetFault.{SheetFault}
use Rattle.sheets.specs.Lines.{cut, before}
use Rattle.sheets.proofs.Basics.{clash}

-- a text has a first part
pub cut_some : (c : ℕ) (bs : List ℕ) → (p : List ℕ) × (ps : List (List ℕ)) × (cut c bs ≡ p ∷ ps)
cut_some c [] = ([], [], refl)
cut_some c (b ∷ bs) = go (eqb b c) (cut_some c bs)
  where
    go : (t : Bool) → (p : List ℕ) × (ps : List (List ℕ)) × (cut c bs ≡ p ∷ ps) → (p : List ℕ) × (ps : List (List ℕ)) × (cond t ([] ∷ cut c bs) (before b (cut c bs)) ≡ p ∷ ps)
    go true h = ([], cut c bs, refl)
    go false h = (b ∷ h.0, h.1, ap (before b) h.2)

module _ (c : ℕ) where
  pub cut_other : (b : ℕ) (bs : List ℕ) → (b ≡ c → ⊥) → cut c (b ∷ bs) ≡ before b (cut c bs)
  cut_other b bs ne = cond-false (eqb b c) _ _ (ne_eqb b c ne)

  pub cut_here : (b : ℕ) (bs : List ℕ) → b ≡ c → cut c (b ∷ bs) ≡ [] ∷ cut c bs
  cut_here b bs e = cond-true (eqb b c) _ _ (eq-eqb b c e)

  pub cut_none : (bs : List ℕ) → ((k : ℕ) → k < length bs → get_or bs k 0 ≡ c → ⊥) → cut c bs ≡ bs ∷ []
  cut_none [] h = refl
  cut_none (b ∷ bs) h =
      cut_other b bs (h 0 (omega arith)) ∙ ap (before b) (cut_none bs (λ k l. h (suc k) (omega arith)))

  pub cut_first : (bs : List ℕ) (i : ℕ) → i < length bs → ((k : ℕ) → k < i → get_or bs k 0 ≡ c → ⊥) → get_or bs i 0 ≡ c → cut c bs ≡ take i bs ∷ cut c (drop (suc i) bs)
  cut_first [] i l h e = absurd (omega arith)
  cut_first (b ∷ bs) zero l h e = cut_here b bs e
  cut_first (b ∷ bs) (suc i) l h e =
      cut_other b bs (h 0 (omega arith)) ∙ ap (before b) (cut_first bs i (omega arith) (λ k m. h (suc k) (omega arith)) e)

  -- the same, as the checker has `&text[i + 1..]`
  split_first : (bs : List ℕ) (i : ℕ) → i < length bs → ((k : ℕ) → k < i → get_or bs k 0 ≡ c → ⊥) → get_or bs i 0 ≡ c → (cut c bs ≡ take i bs ∷ cut c (take (length bs - (i + 1)) (drop (i + 1) bs))) × (length (take (length bs - (i + 1)) (drop (i + 1) bs)) < length bs)
  split_first bs i l h e =
      let rest = take_rest bs (i + 1) in (
        cut_first bs i l h e
            ∙ ap (λ n. take i bs ∷ cut c (drop n bs)) (sym (add-one i))
            ∙ ap (λ r. take i bs ∷ cut c r) (sym rest),
        simp (length-take, length-drop) (omega arith),
      )

  -- the same, by the first place of c
  abbrev is_c : ℕ → Bool
  is_c b = eqb b c

  pub none_at : (bs : List ℕ) → None ≡ position is_c bs → cut c bs ≡ bs ∷ []
  none_at bs e =
      let far : length bs ≤ position_or_len is_c bs = grind (arith, nat_tests) in
      cut_none bs (λ k l is. clash (ap (λ t. cond t 0 1) (sym (eq-eqb _ _ is) ∙ fails_before_first is_c bs k 0 (omega arith))))

  pub first_at : (bs : List ℕ) (i : ℕ) → Some i ≡ position is_c bs → (cut c bs ≡ take i bs ∷ cut c (take (length bs - (i + 1)) (drop (i + 1) bs))) × (length (take (length bs - (i + 1)) (drop (i + 1) bs)) < length bs)
  first_at bs i e =
      let p = position-Some is_c bs i 0 (sym e) in
      split_first bs i p.0 (λ k l is. clash (ap (λ t. cond t 0 1) (sym (eq-eqb _ _ is) ∙ p.2 k l))) (eqb-true _ _ p.1)

  -- what a split answers, where an error stands for a text that is not cut
  abbrev IsSplit : List ℕ → Option (Bor (List ℕ) × Bor (List ℕ)) → Type 0
  IsSplit bs o = MatchOption o (cut c bs ≡ bs ∷ []) (λ p. (cut c bs ≡ p.0.now ∷ cut c p.1.now) × (length p.1.now < length bs))

  pub split_ok : (bs : List ℕ) (o : Option (Bor (List ℕ) × Bor (List ℕ))) (e : SheetFault) (p : Bor (List ℕ) × Bor (List ℕ)) → Ok p ≡ ok_or o e → IsSplit bs o → (cut c bs ≡ p.0.now ∷ cut c p.1.now) × (length p.1.now < length bs)
  split_ok bs None e p f s = clash cc
  split_ok bs (Some q) e p f s = let same : q ≡ p = cc in subst (λ x. (cut c bs ≡ x.0.now ∷ cut c x.1.now) × (length x.1.now < length bs)) same s

  pub split_err : (bs : List ℕ) (o : Option (Bor (List ℕ) × Bor (List ℕ))) (e y : SheetFault) → Err y ≡ ok_or o e → IsSplit bs o → (cut c bs ≡ bs ∷ []) × (y ≡ e)
  split_err bs None e y f s = (s, cc)
  split_err bs (Some q) e y f s = clash cc
