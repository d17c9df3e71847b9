-- A text put at the end of a field, from the back.
use Rattle.std.specs.Prelude.{ℕ, ◌-◌, cond, List, ◌++◌, length, take, drop, Ok, Err, Result, nat_le}
use Rattle.sheets.specs.declared.faults.SheetFault.{SheetFault}
use Rattle.sheets.specs.declared.faults.SheetFault.TheVariants.{BufferTooShort}

-- the place of the first byte of text
abbrev pub placed : List ℕ → List ℕ → Result ℕ SheetFault
placed text field = cond (nat_le (length text) (length field)) (Ok (length field - length text)) (Err BufferTooShort)

-- what the field holds then: where it is too short, the end of text
abbrev pub fitted : List ℕ → List ℕ → List ℕ
fitted text field = take (length field - length text) field ++ drop (length text - length field) text
