-- What a profile sheet says.
use Rattle.std.specs.Prelude.{◌≡◌, ℕ, ◌+◌, ◌≤◌, Bool, true, cond, ◌&&◌, List, [], ◌∷◌, ◌++◌, length, ℤ, Some, None, Ok, Err, codes, decimal, Option, Result, ◌==◌, nat_lt}
use Rattle.std.specs.Fmt.{signed_decimal}
use Rattle.std.specs.List.{AllByRecursion}
use Rattle.arrayvec.specs.ArrayVec.{ArrayVec}
use Rattle.samples.specs.Answers.{height_lawful}
use Rattle.sheets.specs.declared.faults.SheetFault.{SheetFault}
use Rattle.sheets.specs.declared.faults.SheetFault.TheVariants.{Malformed, Refused}
use Rattle.sheets.specs.Numbers.{natural, integer, capped, capped_integer}
use Rattle.sheets.specs.Lines.{sheet, sheet_of}

abbrev pub both : Option ℕ → Option ℤ → Option (ℕ × ℤ)
both None h = None
both (Some s) None = None
both (Some s) (Some h) = Some (s, h)

-- a station and a height
abbrev pub station_height : List (List ℕ) → Option (ℕ × ℤ)
station_height [] = None
station_height (s ∷ []) = None
station_height (s ∷ h ∷ []) = both (natural s) (integer h)
station_height (s ∷ h ∷ x ∷ xs) = None

-- p may stand in the value line of station k
abbrev pub accepted : ℕ → ℕ × ℤ → Bool
accepted k p = nat_lt k 2048 && (p.0 == k && height_lawful p.1)

abbrev pub judged : ℕ → Option (ℕ × ℤ) → Result ℤ SheetFault
judged k None = Err (Malformed (k + 2))
judged k (Some p) = cond (accepted k p) (Ok p.1) (Err (Refused (k + 2)))

-- the height in value line k, which must be that of station k
abbrev pub height_at : ℕ → List (List ℕ) → Result ℤ SheetFault
height_at k fields = judged k (station_height fields)

abbrev pub pushed : List ℤ → Result ℤ SheetFault → Result (List ℤ) SheetFault
pushed hs (Err e) = Err e
pushed hs (Ok h) = Ok (hs ++ h ∷ [])

-- the heights of the lines before value line k, and its own
abbrev pub with_height : ℕ → List ℤ → List (List ℕ) → Result (List ℤ) SheetFault
with_height k hs fields = pushed hs (height_at k fields)

-- the heights of a profile sheet
abbrev pub profile_of : List ℕ → Result (List ℤ) SheetFault
profile_of bytes = sheet (codes "station,height") with_height bytes

-- the heights that were read, if they were
abbrev pub heights_in : Result (ArrayVec ℤ) SheetFault → Result (List ℤ) SheetFault
heights_in (Ok hs) = Ok hs.items
heights_in (Err e) = Err e

-- the value line of station k, without its end
abbrev pub height_line : ℕ → ℤ → List ℕ
height_line k h = decimal k ++ (codes "," ++ signed_decimal h)

-- the sheet of these heights
abbrev pub profile_sheet : List ℤ → List ℕ
profile_sheet hs = sheet_of (codes "station,height") height_line hs

-- heights that a sheet may have
pub record Fair (hs : List ℤ) : Type 0 where
  pub short : length hs ≤ 2048
  pub each : AllByRecursion (λ h. height_lawful h ≡ true) hs

-- a sheet gives heights just where it is their sheet, and they are fair
pub record ExactProfile : Type 0 where
  pub same : (bytes : List ℕ) (hs : List ℤ) → profile_of bytes ≡ Ok hs → bytes ≡ profile_sheet hs
  pub fair : (bytes : List ℕ) (hs : List ℤ) → profile_of bytes ≡ Ok hs → Fair hs
  pub back : (hs : List ℤ) → Fair hs → profile_of (profile_sheet hs) ≡ Ok hs

-- a station and a height as the code holds them
abbrev pub capped_both : ℕ × ℤ → ℕ × ℤ
capped_both p = (capped p.0, capped_integer p.1)
