-- A sheet: bytes cut into lines, and lines into fields; and the sheet that values make.
use Rattle.std.specs.Prelude.{ℕ, ◌+◌, cond, List, [], ◌∷◌, ◌++◌, length, drop, Ok, Err, Result, ◌==◌, nat_le, nat_lt}
use Rattle.std.specs.Str.{bytes_eq}
use Rattle.sheets.specs.declared.faults.SheetFault.{SheetFault}
use Rattle.sheets.specs.declared.faults.SheetFault.TheVariants.{TooLong, WrongNames, Malformed, BufferTooShort}

abbrev pub before : ℕ → List (List ℕ) → List (List ℕ)
before b [] = []
before b (p ∷ ps) = (b ∷ p) ∷ ps

-- the parts of a text between the bytes c: one more than there are such bytes
abbrev pub cut : ℕ → List ℕ → List (List ℕ)
cut c [] = [] ∷ []
cut c (b ∷ bs) = cond (b == c) ([] ∷ cut c bs) (before b (cut c bs))

-- what follows a step that went well; the first fault counts
abbrev pub goes_on : {A B : Type 0} → Result A SheetFault → (A → Result B SheetFault) → Result B SheetFault
goes_on (Err e) next = Err e
goes_on (Ok x) next = next x

-- what value line k and those after it leave of xs: `read k xs` takes the fields (44 is the comma) of value line k, which is line k + 2.
-- What follows the last byte 10 is no line, and must be empty
abbrev pub walked : {A : Type 0} → (ℕ → List A → List (List ℕ) → Result (List A) SheetFault) → ℕ → List A → List (List ℕ) → Result (List A) SheetFault
walked read k xs [] = Ok xs
walked read k xs ([] ∷ []) = Ok xs
walked read k xs ((b ∷ bs) ∷ []) = Err (Malformed (k + 2))
walked read k xs (l ∷ m ∷ ls) = goes_on (read k xs (cut 44 l)) (λ ys. walked read (k + 1) ys (m ∷ ls))

-- the lines after the first, which must be these names
abbrev pub titled : List ℕ → List (List ℕ) → Result (List (List ℕ)) SheetFault
titled names [] = Err WrongNames
titled names (l ∷ []) = Err WrongNames
titled names (l ∷ m ∷ ls) = cond (bytes_eq l names) (Ok (m ∷ ls)) (Err WrongNames)

-- the lines after the names, of a sheet that is not too long
abbrev pub opened : List ℕ → List ℕ → Result (List (List ℕ)) SheetFault
opened names bytes = cond (nat_lt 32768 (length bytes)) (Err TooLong) (titled names (cut 10 bytes))

-- what a sheet gives, or what is wrong with it
abbrev pub sheet : {A : Type 0} → List ℕ → (ℕ → List A → List (List ℕ) → Result (List A) SheetFault) → List ℕ → Result (List A) SheetFault
sheet names read bytes = goes_on (opened names bytes) (walked read 0 [])

-- the answer of a function that puts xs in front of these places, and what they hold afterwards
abbrev pub answer : {A : Type 0} → Result (List A) SheetFault → List A → Result ℕ SheetFault × List A
answer (Err e) places = (Err e, places)
answer (Ok xs) places = cond (nat_le (length xs) (length places)) (Ok (length xs), xs ++ drop (length xs) places) (Err BufferTooShort, places)

-- the lines of xs, from value line k on: `line k x` is that of x, without the byte 10 that ends it
abbrev pub lines_of : {A : Type 0} → (ℕ → A → List ℕ) → ℕ → List A → List ℕ
lines_of line k [] = []
lines_of line k (x ∷ xs) = line k x ++ (10 ∷ lines_of line (k + 1) xs)

-- the sheet of xs
abbrev pub sheet_of : {A : Type 0} → List ℕ → (ℕ → A → List ℕ) → List A → List ℕ
sheet_of names line xs = names ++ (10 ∷ lines_of line 0 xs)
