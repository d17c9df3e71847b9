-- The number and the line of each fault.
use Rattle.std.specs.Prelude.{ℕ, List, ◌++◌, codes, decimal}
use Rattle.sheets.specs.declared.faults.SheetFault.{SheetFault}
use Rattle.sheets.specs.declared.faults.SheetFault.TheVariants.{TooLong, WrongNames, Malformed, Refused, BufferTooShort}

abbrev pub fault_number : SheetFault → ℕ
fault_number TooLong = 24
fault_number WrongNames = 20
fault_number (Malformed n) = 21
fault_number (Refused n) = 22
fault_number BufferTooShort = 23

abbrev pub fault_line : SheetFault → ℕ
fault_line TooLong = 0
fault_line WrongNames = 1
fault_line (Malformed n) = n
fault_line (Refused n) = n
fault_line BufferTooShort = 0

-- the fault in words
abbrev pub fault_words : SheetFault → List ℕ
fault_words TooLong = codes "too long"
fault_words WrongNames = codes "line 1 has the wrong names"
fault_words (Malformed n) = codes "line " ++ (decimal n ++ codes " is malformed")
fault_words (Refused n) = codes "line " ++ (decimal n ++ codes " is refused")
fault_words BufferTooShort = codes "the buffer is too short"
