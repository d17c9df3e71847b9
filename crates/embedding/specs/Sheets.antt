-- What is read from one sheet, and made of it.
use Rattle.std.specs.Prelude.{ℕ, List, Ok, Err, Result}
use Rattle.scale_space.specs.declared.passes.Pass.{Pass}
use Rattle.sheets.specs.declared.faults.SheetFault.{SheetFault}
use Rattle.sheets.specs.declared.faults.SheetFault.TheVariants.{TooLong, WrongNames, Malformed, Refused, BufferTooShort}
use Rattle.sheets.specs.Lines.{answer}
use Rattle.sheets.specs.ScheduleSheets.{schedule_sheet}
use Rattle.embedding.specs.declared.replies.Obstacle.{Obstacle}
use Rattle.embedding.specs.declared.replies.Obstacle.TheVariants.{First, Room}
use Rattle.embedding.specs.Replies.{for_room}

-- the sheet is at fault, unless it is the room
abbrev pub blamed : SheetFault → Obstacle
blamed TooLong = First TooLong
blamed WrongNames = First WrongNames
blamed (Malformed n) = First (Malformed n)
blamed (Refused n) = First (Refused n)
blamed BufferTooShort = Room

abbrev pub sheet_or_room : {A : Type 0} → Result A SheetFault → Result A Obstacle
sheet_or_room (Ok x) = Ok x
sheet_or_room (Err fault) = Err (blamed fault)

-- the sheet of the passes that a sheet gives, in front of these places: how that comes out, and what they hold afterwards
abbrev pub rewritten : Result (List Pass) SheetFault → List ℕ → Result ℕ Obstacle × List ℕ
rewritten (Err fault) places = (Err (First fault), places)
rewritten (Ok ps) places = (for_room (answer (Ok (schedule_sheet ps)) places).0, (answer (Ok (schedule_sheet ps)) places).1)
