-- The names line, and the value lines one after another.
use Rattle.std.proofs.Common.{◌≡◌, ℕ, ◌+◌, ◌<◌, ◌≤◌, cond, leb, List, [], ◌∷◌, ◌++◌, length, drop, Ok, Err, Result, sym, refl, ap, ◌∙◌, ⊎_elim, arith}
use Rattle.std.specs.Str.{bytes_eq}
use Rattle.std.proofs.lemmas.Slice.Eq.{bytes_eq-Decides}
use Rattle.std.proofs.lemmas.Bool.{cases_Bool, cond-true, cond-false, le-ltb, le-leb}
use Rattle.sheets.specs.declared.faults.SheetFault.{SheetFault}
use Rattle.sheets.specs.declared.faults.SheetFault.TheVariants.{WrongNames, Malformed, BufferTooShort}
use Rattle.sheets.specs.Lines.{cut, goes_on, walked, titled, opened, answer}
use Rattle.sheets.proofs.Cuts.{cut_some}

module _ {A : Type 0} (read : ℕ → List A → List (List ℕ) → Result (List A) SheetFault) (k : ℕ) (xs : List A) where
  walked_line : (rest l after : List ℕ) → cut 10 rest ≡ l ∷ cut 10 after → walked read k xs (cut 10 rest) ≡ goes_on (read k xs (cut 44 l)) (λ ys. walked read (k + 1) ys (cut 10 after))
  walked_line rest l after e =
      let s = cut_some 10 after in
      ap (walked read k xs) (e ∙ ap (λ q. l ∷ q) s.2) ∙ ap (λ q. goes_on (read k xs (cut 44 l)) (λ ys. walked read (k + 1) ys q)) (sym s.2)

  pub walked_more : (rest l after : List ℕ) (ys : List A) → cut 10 rest ≡ l ∷ cut 10 after → read k xs (cut 44 l) ≡ Ok ys → walked read k xs (cut 10 rest) ≡ walked read (k + 1) ys (cut 10 after)
  walked_more rest l after ys e f = walked_line rest l after e ∙ ap (λ v. goes_on v (λ ys. walked read (k + 1) ys (cut 10 after))) f

  pub walked_stop : (rest l after : List ℕ) (y : SheetFault) → cut 10 rest ≡ l ∷ cut 10 after → read k xs (cut 44 l) ≡ Err y → walked read k xs (cut 10 rest) ≡ Err y
  walked_stop rest l after y e f = walked_line rest l after e ∙ ap (λ v. goes_on v (λ ys. walked read (k + 1) ys (cut 10 after))) f

  pub walked_unended : (rest : List ℕ) → cut 10 rest ≡ rest ∷ [] → 0 < length rest → walked read k xs (cut 10 rest) ≡ Err (Malformed (k + 2))
  walked_unended rest e some = ap (walked read k xs) e ∙ go rest some
    where
      go : (r : List ℕ) → 0 < length r → walked read k xs (r ∷ []) ≡ Err (Malformed (k + 2))
      go [] s = absurd (omega arith)
      go (b ∷ bs) s = refl

  pub walked_end : (rest : List ℕ) → length rest ≡ 0 → walked read k xs (cut 10 rest) ≡ Ok xs
  walked_end [] e = refl
  walked_end (b ∷ bs) e = absurd (omega arith)

-- ---- the names
module _ (names bytes : List ℕ) (short : length bytes ≤ 32768) where
  is_opened : opened names bytes ≡ titled names (cut 10 bytes)
  is_opened = cond-false _ _ _ (le-ltb 32768 (length bytes) short)

  pub opened_one : cut 10 bytes ≡ bytes ∷ [] → opened names bytes ≡ Err WrongNames
  opened_one e = is_opened ∙ ap (titled names) e

  is_titled : (f r : List ℕ) → cut 10 bytes ≡ f ∷ cut 10 r → opened names bytes ≡ cond (bytes_eq f names) (Ok (cut 10 r)) (Err WrongNames)
  is_titled f r e =
      let s = cut_some 10 r in
      is_opened ∙ ap (titled names) (e ∙ ap (λ q. f ∷ q) s.2) ∙ ap (λ q. cond (bytes_eq f names) (Ok q) (Err WrongNames)) (sym s.2)

  pub opened_same : (f r : List ℕ) → cut 10 bytes ≡ f ∷ cut 10 r → f ≡ names → opened names bytes ≡ Ok (cut 10 r)
  opened_same f r e same = is_titled f r e ∙ cond-true _ _ _ ((bytes_eq-Decides f names).1 same)

  pub opened_other : (f r : List ℕ) → cut 10 bytes ≡ f ∷ cut 10 r → (f ≡ names → ⊥) → opened names bytes ≡ Err WrongNames
  opened_other f r e other =
      is_titled f r e ∙ ⊎_elim (λ t. absurd (other ((bytes_eq-Decides f names).0 t))) (λ t. cond-false _ _ _ t) (cases_Bool (bytes_eq f names))

-- ---- what is put in front of the caller's places
pub answer_ok : {A : Type 0} (r : Result (List A) SheetFault) (hs places : List A) (n : ℕ) → r ≡ Ok hs → length hs ≡ n → n ≤ length places → (Ok n ≡ (answer r places).0) × (hs ++ drop n places ≡ (answer r places).1)
answer_ok r hs places n e long room =
    let t = cond-true (leb (length hs) (length places)) (Ok (length hs), hs ++ drop (length hs) places) (Err BufferTooShort, places) (le-leb (length hs) (length places) (omega arith)) in
    let a : answer r places ≡ (Ok (length hs), hs ++ drop (length hs) places) = ap (λ x. answer x places) e ∙ t in (
      ap Ok (sym long) ∙ sym (ap (λ x. x.0) a),
      ap (λ m. hs ++ drop m places) (sym long) ∙ sym (ap (λ x. x.1) a),
    )
