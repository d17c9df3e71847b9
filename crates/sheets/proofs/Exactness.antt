-- A sheet is the sheet of what it gives, and the sheet of lawful values gives them, if each line does so.
use Rattle.std.proofs.Common.{◌≡◌, ℕ, ◌+◌, ◌≤◌, Bool, true, false, cond, ltb, List, [], ◌∷◌, ◌++◌, length, Ok, Err, Result, sym, refl, ap, ◌∙◌, subst, append_assoc, append-nil, arith}
use Rattle.std.specs.List.{AllByRecursion}
use Rattle.std.specs.Str.{bytes_eq}
use Rattle.std.proofs.lemmas.Slice.Eq.{bytes_eq-Decides}
use Rattle.std.proofs.lemmas.List.{length_push}
use Rattle.sheets.specs.declared.faults.SheetFault.{SheetFault}
use Rattle.sheets.specs.declared.faults.SheetFault.TheVariants.{TooLong, WrongNames}
use Rattle.sheets.specs.Lines.{cut, goes_on, walked, titled, opened, sheet, lines_of, sheet_of}
use Rattle.sheets.proofs.Numerals.{Free, cut_free, glue, glue_cut}
use Rattle.sheets.proofs.Walks.{walked_more, opened_same}
use Rattle.sheets.proofs.Basics.{clash, is_ok}

-- `read` takes from plain lines what `line` writes, and gives lawful lists just so
pub record Reads {A : Type 0} (read : ℕ → List A → List (List ℕ) → Result (List A) SheetFault) (line : ℕ → A → List ℕ) (Plain : List ℕ → Type 0) (Lawful : List A → Type 0) : Type 0 where
  pub to : (k : ℕ) (xs : List A) (l : List ℕ) (ys : List A) → read k xs (cut 44 l) ≡ Ok ys → Plain l → (x : A) × (l ≡ line k x) × (ys ≡ xs ++ x ∷ [])
  pub keeps : (k : ℕ) (xs : List A) (fs : List (List ℕ)) (ys : List A) → k ≡ length xs → Lawful xs → read k xs fs ≡ Ok ys → Lawful ys × (k + 1 ≡ length ys)
  pub from : (k : ℕ) (xs : List A) (x : A) → k ≡ length xs → Lawful (xs ++ x ∷ []) → read k xs (cut 44 (line k x)) ≡ Ok (xs ++ x ∷ [])
  pub ended : (k : ℕ) (xs : List A) (x : A) → k ≡ length xs → Lawful (xs ++ x ∷ []) → Free 10 (line k x)
  pub front : (xs ys : List A) → Lawful (xs ++ ys) → Lawful xs

goes_on_is : {A B : Type 0} (r : Result A SheetFault) (next : A → Result B SheetFault) (y : B) → goes_on r next ≡ Ok y → (x : A) × (r ≡ Ok x) × (next x ≡ Ok y)
goes_on_is (Err f) next y e = clash cc
goes_on_is (Ok x) next y e = (x, refl, e)

module _ (names : List ℕ) (Plain : List ℕ → Type 0) where
  titled_is : (ps ls : List (List ℕ)) → titled names ps ≡ Ok ls → (glue 10 ps ≡ names ++ (10 ∷ glue 10 ls)) × (AllByRecursion Plain ps → AllByRecursion Plain ls)
  titled_is [] ls e = clash cc
  titled_is (p ∷ []) ls e = clash cc
  titled_is (p ∷ q ∷ ps) ls e =
      let t = is_ok (bytes_eq p names) (q ∷ ps) ls WrongNames e in
      ((λ i. (bytes_eq-Decides p names).0 t.0 i ++ (10 ∷ glue 10 (t.1 i))), λ a. subst (AllByRecursion Plain) t.1 a.1)

  opened_is : (bytes : List ℕ) (ls : List (List ℕ)) → opened names bytes ≡ Ok ls → (bytes ≡ names ++ (10 ∷ glue 10 ls)) × (AllByRecursion Plain (cut 10 bytes) → AllByRecursion Plain ls)
  opened_is bytes ls e = go (ltb 32768 (length bytes)) e
    where
      go : (t : Bool) → cond t (Err TooLong) (titled names (cut 10 bytes)) ≡ Ok ls → (bytes ≡ names ++ (10 ∷ glue 10 ls)) × (AllByRecursion Plain (cut 10 bytes) → AllByRecursion Plain ls)
      go true f = clash cc
      go false f = let t = titled_is (cut 10 bytes) ls f in (sym (glue_cut 10 bytes) ∙ t.0, t.1)

module _ {A : Type 0} {read : ℕ → List A → List (List ℕ) → Result (List A) SheetFault} {line : ℕ → A → List ℕ} {Plain : List ℕ → Type 0} {Lawful : List A → Type 0} (r : Reads read line Plain Lawful) where
  -- ls are the lines of what came to xs, from value line k on
  abbrev Are : List (List ℕ) → ℕ → List A → List A → Type 0
  Are ls k xs ys = (zs : List A) × (ys ≡ xs ++ zs) × (glue 10 ls ≡ lines_of line k zs)

  lines_are : (ls : List (List ℕ)) (k : ℕ) (xs ys : List A) → walked read k xs ls ≡ Ok ys → AllByRecursion Plain ls → Are ls k xs ys
  lines_are [] k xs ys e p = let x : xs ≡ ys = cc in ([], sym x ∙ sym (append-nil xs), refl)
  lines_are ([] ∷ []) k xs ys e p = let x : xs ≡ ys = cc in ([], sym x ∙ sym (append-nil xs), refl)
  lines_are ((b ∷ bs) ∷ []) k xs ys e p = clash cc
  lines_are (l ∷ m ∷ ls) k xs ys e p =
      let g = goes_on_is (read k xs (cut 44 l)) (λ ys. walked read (k + 1) ys (m ∷ ls)) ys e in
      let t = r.to k xs l g.0 g.1 p.0 in
      let a = lines_are (m ∷ ls) (k + 1) g.0 ys g.2 p.1 in
      (t.0 ∷ a.0, a.1 ∙ ap (λ q. q ++ a.0) t.2 ∙ append_assoc xs (t.0 ∷ []) a.0, λ i. t.1 i ++ (10 ∷ a.2 i))

  lines_lawful : (ls : List (List ℕ)) (k : ℕ) (xs ys : List A) → k ≡ length xs → Lawful xs → walked read k xs ls ≡ Ok ys → Lawful ys
  lines_lawful [] k xs ys n h e = let x : xs ≡ ys = cc in subst Lawful x h
  lines_lawful ([] ∷ []) k xs ys n h e = let x : xs ≡ ys = cc in subst Lawful x h
  lines_lawful ((b ∷ bs) ∷ []) k xs ys n h e = clash cc
  lines_lawful (l ∷ m ∷ ls) k xs ys n h e =
      let g = goes_on_is (read k xs (cut 44 l)) (λ ys. walked read (k + 1) ys (m ∷ ls)) ys e in
      let t = r.keeps k xs (cut 44 l) g.0 n h g.1 in
      lines_lawful (m ∷ ls) (k + 1) g.0 ys t.1 t.0 g.2

  lines_back : (zs : List A) (k : ℕ) (xs : List A) → k ≡ length xs → Lawful (xs ++ zs) → walked read k xs (cut 10 (lines_of line k zs)) ≡ Ok (xs ++ zs)
  lines_back [] k xs n h = ap Ok (sym (append-nil xs))
  lines_back (z ∷ zs) k xs n h =
      let rest = lines_of line (k + 1) zs in
      let all : Lawful ((xs ++ z ∷ []) ++ zs) = subst Lawful (sym (append_assoc xs (z ∷ []) zs)) h in
      let here = r.front (xs ++ z ∷ []) zs all in
      walked_more read k xs (lines_of line k (z ∷ zs)) (line k z) rest (xs ++ z ∷ [])
      (cut_free 10 (line k z) rest (r.ended k xs z n here))
      (r.from k xs z n here)
      ∙ lines_back zs (k + 1) (xs ++ z ∷ []) (omega (arith, length_push xs z)) all
      ∙ ap Ok (append_assoc xs (z ∷ []) zs)

  module _ (names bytes : List ℕ) (xs : List A) where
    pub sheet_same : sheet names read bytes ≡ Ok xs → AllByRecursion Plain (cut 10 bytes) → bytes ≡ sheet_of names line xs
    sheet_same e p =
        let g = goes_on_is (opened names bytes) (walked read 0 []) xs e in
        let t = opened_is names Plain bytes g.0 g.1 in
        let a = lines_are g.0 0 [] xs g.2 (t.1 p) in
        t.0 ∙ ap (λ l. names ++ (10 ∷ l)) a.2 ∙ ap (sheet_of names line) (sym a.1)

    pub sheet_lawful : Lawful [] → sheet names read bytes ≡ Ok xs → Lawful xs
    sheet_lawful none e =
        let g = goes_on_is (opened names bytes) (walked read 0 []) xs e in
        lines_lawful g.0 0 [] xs refl none g.2

    pub sheet_back : Free 10 names → length (sheet_of names line xs) ≤ 32768 → Lawful xs → sheet names read (sheet_of names line xs) ≡ Ok xs
    sheet_back free short h =
        ap (λ o. goes_on o (walked read 0 []))
        (opened_same names (sheet_of names line xs) short names (lines_of line 0 xs) (cut_free 10 names (lines_of line 0 xs) free) refl)
        ∙ lines_back xs 0 [] refl h
