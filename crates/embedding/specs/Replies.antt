-- What a tool is told.
use Rattle.std.specs.Prelude.{ℕ, Ok, Err, Result}
use Rattle.samples.specs.Refusals.{refusal_number}
use Rattle.sheets.specs.declared.faults.SheetFault.{SheetFault}
use Rattle.sheets.specs.Faults.{fault_number, fault_line}
use Rattle.embedding.specs.declared.replies.Reply.{Reply}
use Rattle.embedding.specs.declared.replies.Obstacle.{Obstacle}
use Rattle.embedding.specs.declared.replies.Obstacle.TheVariants.{First, Second, Draw, Room}

-- it went well, and n is the count
abbrev pub done : ℕ → Reply
done n = record { count = n; refusal = 0; sheet = 0; line = 0 }

-- it was refused with n, for this line of this sheet
abbrev pub refused : ℕ → ℕ → ℕ → Reply
refused n sheet line = record { count = 0; refusal = n; sheet = sheet; line = line }

abbrev pub told : Obstacle → Reply
told (First fault) = refused (fault_number fault) 1 (fault_line fault)
told (Second fault) = refused (fault_number fault) 2 (fault_line fault)
told (Draw why) = refused (refusal_number why) 0 0
told Room = refused 23 0 0

abbrev pub reply_to : Result ℕ Obstacle → Reply
reply_to (Ok n) = done n
reply_to (Err what) = told what

-- what the only sheet of a call gives
abbrev pub in_first : {A : Type 0} → Result A SheetFault → Result A Obstacle
in_first (Ok x) = Ok x
in_first (Err fault) = Err (First fault)

-- what a call gives that refuses for want of room alone
abbrev pub for_room : {A : Type 0} → Result A SheetFault → Result A Obstacle
for_room (Ok x) = Ok x
for_room (Err fault) = Err Room
