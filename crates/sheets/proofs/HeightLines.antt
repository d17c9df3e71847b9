-- What one value line of a profile gives.
use Rattle.std.proofs.Common.{◌≡◌, ℕ, ◌+◌, ◌-◌, ◌^◌, min, Bool, true, false, cond, ◌&&◌, eqb, ltb, List, [], ◌∷◌, length, ℤ, pos, negsuc, Some, None, Ok, Err, Option, Result, sym, refl, ap, ◌∙◌, ⊎_elim, arith}
use Rattle.std.specs.Option.{option_map, ok_or}
use Rattle.std.proofs.lemmas.Bool.Decides.{nat_tests}
use Rattle.std.proofs.lemmas.Bool.{cases_Bool, and_parts, eqb-true, cond-true, cond-false}
use Rattle.sheets.specs.declared.faults.SheetFault.{SheetFault}
use Rattle.sheets.specs.declared.faults.SheetFault.TheVariants.{Malformed, Refused}
use Rattle.sheets.specs.Numbers.{digits, leads, value, capped, capped_integer, natural, negative, integer}
use Rattle.sheets.specs.Lines.{cut}
use Rattle.sheets.proofs.Cuts.{cut_some}
use Rattle.sheets.specs.Profiles.{both, station_height, accepted, judged, height_at, capped_both}
use Rattle.samples.specs.Answers.{height_lawful}
use Rattle.sheets.proofs.Basics.{clash, is_some}
use Rattle.sheets.proofs.Numerals.{Free, free_digits, cut_last, glue, glue_cut}

-- two fields, or more
pub pair_two : (l s r : List ℕ) → cut 44 l ≡ s ∷ cut 44 r → cut 44 r ≡ r ∷ [] → station_height (cut 44 l) ≡ both (natural s) (integer r)
pair_two l s r e f = ap station_height (e ∙ ap (λ q. s ∷ q) f)

pub pair_more : (l s r a b : List ℕ) → cut 44 l ≡ s ∷ cut 44 r → cut 44 r ≡ a ∷ cut 44 b → station_height (cut 44 l) ≡ None
pair_more l s r a b e f =
    let g = cut_some 44 b in
    ap station_height (e ∙ ap (λ q. s ∷ q) (f ∙ ap (λ q. a ∷ q) g.2))

-- no comma stands in a height
height_free : (r : List ℕ) (h : ℤ) → integer r ≡ Some h → Free 44 r
height_free [] h e = clash cc
height_free (b ∷ bs) h e = ⊎_elim signed plain (cases_Bool (eqb b 45))
  where
    number : (t : List ℕ) (n : ℕ) → natural t ≡ Some n → Free 44 t
    number t n f = free_digits 44 t (omega arith) (and_parts (leads t) (digits t) (is_some (leads t && digits t) (value 0 t) n f).0).1

    signed : eqb b 45 ≡ true → Free 44 (b ∷ bs)
    signed t = go (natural bs) refl (sym (cond-true _ _ _ t) ∙ e)
      where
        go : (o : Option ℕ) → natural bs ≡ o → negative o ≡ Some h → Free 44 (b ∷ bs)
        go None f g = clash cc
        go (Some n) f g = let minus = eqb-true b 45 t in (λ c. omega arith, number bs n f)

    plain : eqb b 45 ≡ false → Free 44 (b ∷ bs)
    plain t = go (natural (b ∷ bs)) refl (sym (cond-false _ _ _ t) ∙ e)
      where
        go : (o : Option ℕ) → natural (b ∷ bs) ≡ o → option_map pos o ≡ Some h → Free 44 (b ∷ bs)
        go None f g = clash cc
        go (Some n) f g = number (b ∷ bs) n f

no_height : (o : Option ℕ) → both o None ≡ None
no_height None = refl
no_height (Some s) = refl

-- a line with a first comma: a second one would stand in the height, which is then none
pub fields_are : (l s r : List ℕ) → cut 44 l ≡ s ∷ cut 44 r → station_height (cut 44 l) ≡ both (natural s) (integer r)
fields_are l s r e = go (cut_some 44 r)
  where
    go : (p : List ℕ) × (ps : List (List ℕ)) × (cut 44 r ≡ p ∷ ps) → station_height (cut 44 l) ≡ both (natural s) (integer r)
    go (p, [], f) =
        let same : p ≡ r = ap (glue 44) (sym f) ∙ glue_cut 44 r in
        ap station_height (e ∙ ap (λ q. s ∷ q) f) ∙ ap (λ q. both (natural s) (integer q)) same
    go (p, q ∷ qs, f) = ap station_height (e ∙ ap (λ x. s ∷ x) f) ∙ more (integer r) refl
      where
        more : (o : Option ℤ) → integer r ≡ o → None ≡ both (natural s) (integer r)
        more None g = sym (ap (both (natural s)) g ∙ no_height (natural s))
        more (Some h) g =
            let one : r ∷ [] ≡ p ∷ q ∷ qs = sym (cut_last 44 r (height_free r h g)) ∙ f in
            absurd (omega (arith, ap length one))

module _ (e : SheetFault) where
  pub line_ok : (o : Option ℕ) (p : Option ℤ) (a : ℕ) (b : ℤ) → Ok a ≡ ok_or (option_map capped o) e → Ok b ≡ ok_or (option_map capped_integer p) e → Ok (a, b) ≡ ok_or (option_map capped_both (both o p)) e
  line_ok None p a b f g = clash cc
  line_ok (Some s) None a b f g = clash cc
  line_ok (Some s) (Some h) a b f g =
      let x : a ≡ capped s = cc in
      let y : b ≡ capped_integer h = cc in
      λ i. Ok (x i, y i)

  line_left : (o : Option ℕ) (p : Option ℤ) (y : SheetFault) → Err y ≡ ok_or (option_map capped o) e → Err y ≡ ok_or (option_map capped_both (both o p)) e
  line_left None p y f = let x : y ≡ e = cc in ap Err x
  line_left (Some s) p y f = clash cc

  pub line_right : (o : Option ℕ) (p : Option ℤ) (y : SheetFault) → Err y ≡ ok_or (option_map capped_integer p) e → Err y ≡ ok_or (option_map capped_both (both o p)) e
  line_right o (Some h) y f = clash cc
  line_right None None y f = let x : y ≡ e = cc in ap Err x
  line_right (Some s) None y f = let x : y ≡ e = cc in ap Err x

in_range_capped : (h : ℤ) → height_lawful (capped_integer h) ≡ height_lawful h
in_range_capped (pos n) = grind (arith, nat_tests)
in_range_capped (negsuc n) = grind (arith, nat_tests)

capped_in_range : (h : ℤ) → height_lawful h ≡ true → capped_integer h ≡ h
capped_in_range (pos n) r = let e : min n (2 ^ 32 - 1) ≡ n = grind (arith, nat_tests) in ap pos e
capped_in_range (negsuc n) r = let e : min n (2 ^ 32 - 2) ≡ n = grind (arith, nat_tests) in ap negsuc e

-- ---- line n, of two fields, s and r
abbrev pub Line : List ℕ → ℕ → Result (ℕ × ℤ) SheetFault
Line l n = ok_or (option_map capped_both (station_height (cut 44 l))) (Malformed n)

module _ (l s r : List ℕ) (n : ℕ) (e : cut 44 l ≡ s ∷ cut 44 r) where
  is_line : ok_or (option_map capped_both (both (natural s) (integer r))) (Malformed n) ≡ Line l n
  is_line = ap (λ o. ok_or (option_map capped_both o) (Malformed n)) (sym (fields_are l s r e))

  pub value_ok : (a : ℕ) (b : ℤ) → Ok a ≡ ok_or (option_map capped (natural s)) (Malformed n) → Ok b ≡ ok_or (option_map capped_integer (integer r)) (Malformed n) → Ok (a, b) ≡ Line l n
  value_ok a b x y = line_ok (Malformed n) (natural s) (integer r) a b x y ∙ is_line

  pub value_left : (y : SheetFault) → Err y ≡ ok_or (option_map capped (natural s)) (Malformed n) → Err y ≡ Line l n
  value_left y x = line_left (Malformed n) (natural s) (integer r) y x ∙ is_line

  pub value_right : (y : SheetFault) → Err y ≡ ok_or (option_map capped_integer (integer r)) (Malformed n) → Err y ≡ Line l n
  value_right y x = line_right (Malformed n) (natural s) (integer r) y x ∙ is_line

-- ---- the tests do not see the cap

accepted_capped : (k : ℕ) (p : ℕ × ℤ) → accepted k (capped_both p) ≡ accepted k p
accepted_capped k p = ap (λ t. ltb k 2048 && (eqb (capped p.0) k && t)) (in_range_capped p.1) ∙ go (height_lawful p.1)
  where
    go : (t : Bool) → (ltb k 2048 && (eqb (capped p.0) k && t)) ≡ (ltb k 2048 && (eqb p.0 k && t))
    go t = grind (arith, nat_tests)

height_capped : (k : ℕ) (o : Option (ℕ × ℤ)) → judged k (option_map capped_both o) ≡ judged k o
height_capped k None = refl
height_capped k (Some p) =
    ap (λ t. cond t (Ok (capped_integer p.1)) (Err (Refused (k + 2)))) (accepted_capped k p) ∙ go (accepted k p) (λ h. capped_in_range p.1 (and_parts _ _ (and_parts (ltb k 2048) _ h).1).1)
  where
    go : (t : Bool) → (t ≡ true → capped_integer p.1 ≡ p.1) → cond t (Ok (capped_integer p.1)) (Err (Refused (k + 2))) ≡ cond t (Ok p.1) (Err (Refused (k + 2)))
    go true h = ap Ok (h refl)
    go false h = refl

from_ok : (o : Option (ℕ × ℤ)) (e : SheetFault) (p : ℕ × ℤ) → Ok p ≡ ok_or o e → o ≡ Some p
from_ok None e p h = clash cc
from_ok (Some q) e p h = let x : q ≡ p = cc in ap Some x

module _ (l : List ℕ) (k n s : ℕ) (h : ℤ) (e : Ok (s, h) ≡ Line l n) where
  is_height : height_at k (cut 44 l) ≡ judged k (Some (s, h))
  is_height =
      sym (height_capped k (station_height (cut 44 l))) ∙ ap (judged k) (from_ok (option_map capped_both (station_height (cut 44 l))) (Malformed n) (s, h) e)

  -- z is h, to its bits and back
  pub height_refused : (z : ℤ) → z ≡ h → false ≡ accepted k (s, z) → Err (Refused (k + 2)) ≡ height_at k (cut 44 l)
  height_refused z e t = sym (cond-false _ _ _ (sym t)) ∙ ap (λ y. judged k (Some (s, y))) e ∙ sym is_height
