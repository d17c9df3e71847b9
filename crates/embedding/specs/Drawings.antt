-- One level of what a schedule sheet gives, drawn.
use Rattle.std.specs.Prelude.{ℕ, List, length, take, ℤ, Ok, Err, Result}
use Rattle.scale_space.specs.declared.passes.Pass.{Pass}
use Rattle.scale_space.specs.Passes.{level}
use Rattle.samples.specs.declared.refusals.Refusal.{Refusal}
use Rattle.levels.specs.declared.draw.Drawn.{Drawn}
use Rattle.levels.specs.Drawing.{drawn, worked}
use Rattle.sheets.specs.declared.faults.SheetFault.{SheetFault}
use Rattle.embedding.specs.declared.replies.Obstacle.{Obstacle}
use Rattle.embedding.specs.declared.replies.Obstacle.TheVariants.{First, Draw}

abbrev pub or_refusal : Result Drawn Refusal → Result Drawn Obstacle
or_refusal (Ok d) = Ok d
or_refusal (Err why) = Err (Draw why)

-- level k of the passes that a sheet gives, from the heights hs, with a work buffer of `room` places: its length and scale
abbrev pub level_drawn : Result (List Pass) SheetFault → ℕ → List ℤ → ℕ → Result Drawn Obstacle
level_drawn (Err fault) k hs room = Err (First fault)
level_drawn (Ok ps) k hs room = or_refusal (drawn ps k hs room)

abbrev pub length_of : Result Drawn Obstacle → Result ℕ Obstacle
length_of (Ok d) = Ok d.length
length_of (Err what) = Err what

-- a refusal leaves the caller's scale as it was
abbrev pub scale_after : Result Drawn Obstacle → ℕ → ℕ
scale_after (Ok d) old = d.scale
scale_after (Err what) old = old

-- what the work buffer holds afterwards
abbrev pub work_after : Result (List Pass) SheetFault → ℕ → List ℤ → List ℤ → List ℤ
work_after (Err fault) k hs old = old
work_after (Ok ps) k hs old = worked (drawn ps k hs (length old)) (length hs) (level (take k ps) hs).numerators old
