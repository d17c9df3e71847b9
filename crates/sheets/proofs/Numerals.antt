-- Numbers and cuts, there and back.
use Rattle.std.proofs.Common.{◌≡◌, ℕ, ◌^◌, ◌<◌, true, not, ◌&&◌, eqb, List, [], ◌∷◌, ◌++◌, length, get_or, Some, decimal, sym, refl, ap, ◌∙◌, ⊎_elim, arith, rules}
use Rattle.std.specs.List.{AllByRecursion}
use Rattle.std.proofs.lemmas.Fmt.{decimal_nonempty, decimal_digit, decimal-digits_value, first_decimal, digits_decimal, digits_value-decimal}
use Rattle.std.proofs.lemmas.Str.Parse.{IsNumeralModel, numerals_by_fold}
use Rattle.std.proofs.lemmas.Bool.{and_parts, and_from, leb-true, eqb-true, eq-eqb, ne_eqb, cond-true, cond-false, cases_lt, cases_Bool}
use Rattle.sheets.specs.Numbers.{digit, digits, leads, value, natural}
use Rattle.sheets.specs.Lines.{cut, before}
use Rattle.sheets.proofs.Cuts.{cut_some, cut_other, cut_here}
use Rattle.sheets.proofs.Basics.{clash, is_some}

-- ---- numbers

pub own : IsNumeralModel (λ ds. digits ds ≡ true) (value 0)
own = numerals_by_fold _ (search rules) value (search rules)

leads_from : (ds : List ℕ) → 0 < length ds → (get_or ds 0 0 ≡ 48 → length ds ≡ 1) → leads ds ≡ true
leads_from [] s h = absurd (omega arith)
leads_from (b ∷ []) s h = refl
leads_from (b ∷ c ∷ bs) s h = ap not (ne_eqb b 48 (λ e. omega (arith, h e)))

pub leads_decimal : (n : ℕ) → n < 2 ^ 64 → leads (decimal n) ≡ true
leads_decimal n h =
    leads_from (decimal n) (decimal_nonempty n h)
    (λ e. ⊎_elim (λ p. absurd (omega (arith, first_decimal n p h))) (λ z. let none : n < 10 = omega arith in ap length (decimal_digit n none)) (cases_lt 0 n))

pub natural_decimal : (n : ℕ) → n < 2 ^ 64 → natural (decimal n) ≡ Some n
natural_decimal n h =
    cond-true _ _ _ (and_from _ _ (leads_decimal n h) (digits_decimal own n h)) ∙ ap Some (digits_value-decimal own n h)

-- ---- cuts

-- c does not stand in xs
abbrev pub Free : ℕ → List ℕ → Type 0
Free c xs = AllByRecursion (λ b. b ≡ c → ⊥) xs

pub free_digits : (c : ℕ) (ds : List ℕ) → c < 48 → digits ds ≡ true → Free c ds
free_digits c [] l h = tt
free_digits c (b ∷ ds) l h =
    let p = and_parts (digit b) _ h in
    let low = leb-true 48 b (and_parts _ _ p.0).0 in
    (λ e. omega arith, free_digits c ds l p.1)

pub free_decimal : (c n : ℕ) → c < 48 → n < 2 ^ 64 → Free c (decimal n)
free_decimal c n l h = free_digits c (decimal n) l (digits_decimal own n h)

pub cut_free : (c : ℕ) (xs ys : List ℕ) → Free c xs → cut c (xs ++ (c ∷ ys)) ≡ xs ∷ cut c ys
cut_free c [] ys f = cut_here c c ys refl
cut_free c (x ∷ xs) ys f = cut_other c x (xs ++ (c ∷ ys)) f.0 ∙ ap (before x) (cut_free c xs ys f.1)

pub cut_last : (c : ℕ) (xs : List ℕ) → Free c xs → cut c xs ≡ xs ∷ []
cut_last c [] f = refl
cut_last c (x ∷ xs) f = cut_other c x xs f.0 ∙ ap (before x) (cut_last c xs f.1)

-- ---- from a number's text to the number's writing

short_zero : (ds : List ℕ) → leads ds ≡ true → (0 < length ds) × (get_or ds 0 0 ≡ 48 → length ds ≡ 1)
short_zero [] h = clash cc
short_zero (b ∷ []) h = (omega arith, λ e. refl)
short_zero (b ∷ c ∷ bs) h = (omega arith, λ e. let t = eq-eqb b 48 e in clash cc)

pub natural_is : (s : List ℕ) (n : ℕ) → n < 2 ^ 64 → natural s ≡ Some n → s ≡ decimal n
natural_is s n small e =
    let p = is_some (leads s && digits s) (value 0 s) n e in
    let t = and_parts (leads s) (digits s) p.0 in
    let l = short_zero s t.0 in
    let v = p.1 in
    sym (decimal-digits_value own s t.1 l.0 l.1 (omega arith)) ∙ ap decimal v

-- ---- what was cut is put together again

abbrev pub glue : ℕ → List (List ℕ) → List ℕ
glue c [] = []
glue c (p ∷ []) = p
glue c (p ∷ q ∷ ps) = p ++ (c ∷ glue c (q ∷ ps))

glue_before : (c b : ℕ) (p : List ℕ) (ps : List (List ℕ)) → glue c (before b (p ∷ ps)) ≡ b ∷ glue c (p ∷ ps)
glue_before c b p [] = refl
glue_before c b p (q ∷ ps) = refl

pub glue_cut : (c : ℕ) (bs : List ℕ) → glue c (cut c bs) ≡ bs
glue_cut c [] = refl
glue_cut c (b ∷ bs) = go (cut_some c bs) (glue_cut c bs)
  where
    go : (p : List ℕ) × (ps : List (List ℕ)) × (cut c bs ≡ p ∷ ps) → glue c (cut c bs) ≡ bs → glue c (cut c (b ∷ bs)) ≡ b ∷ bs
    go s h =
        let rest : glue c (s.0 ∷ s.1) ≡ bs = ap (glue c) (sym s.2) ∙ h in
        ⊎_elim
        (λ t. ap (glue c) (cond-true _ _ _ t ∙ ap (λ q. [] ∷ q) s.2) ∙ (λ i. sym (eqb-true b c t) i ∷ rest i))
        (λ t. ap (glue c) (cond-false _ _ _ t ∙ ap (before b) s.2) ∙ glue_before c b s.0 s.1 ∙ ap (λ l. b ∷ l) rest)
        (cases_Bool (eqb b c))
