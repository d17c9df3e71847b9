-- How many turns each level has, of what a schedule sheet gives.
use Rattle.std.specs.Prelude.{ℕ, zero, suc, List, [], ◌∷◌, ◌++◌, length, take, ℤ, Ok, Err, Result}
use Rattle.scale_space.specs.declared.passes.Pass.{Pass}
use Rattle.scale_space.specs.Levels.{turn_count}
use Rattle.scale_space.specs.Passes.{level}
use Rattle.samples.specs.declared.refusals.Refusal.{Refusal}
use Rattle.levels.specs.Drawing.{allowed}
use Rattle.sheets.specs.declared.faults.SheetFault.{SheetFault}
use Rattle.sheets.specs.Lines.{answer}
use Rattle.embedding.specs.declared.replies.Obstacle.{Obstacle}
use Rattle.embedding.specs.declared.replies.Obstacle.TheVariants.{First, Draw}
use Rattle.embedding.specs.Replies.{for_room}

-- how many turns each of the first n levels has
abbrev pub turn_counts : List Pass → List ℤ → ℕ → List ℕ
turn_counts ps hs zero = []
turn_counts ps hs (suc n) = turn_counts ps hs n ++ (turn_count (level (take n ps) hs) ∷ [])

-- these numbers in front of these places, where the last level can be drawn and there are places enough
abbrev pub put_counts : Result (Unit {0}) Refusal → List ℕ → List ℕ → Result ℕ Obstacle × List ℕ
put_counts (Err why) ns places = (Err (Draw why), places)
put_counts (Ok u) ns places = (for_room (answer (Ok ns) places).0, (answer (Ok ns) places).1)

-- the turns of all levels, counted: how that comes out, and what the places hold afterwards
abbrev pub tallied : Result (List Pass) SheetFault → List ℤ → List ℕ → Result ℕ Obstacle × List ℕ
tallied (Err fault) hs places = (Err (First fault), places)
tallied (Ok ps) hs places = put_counts (allowed ps (length ps) hs (length hs)) (turn_counts ps hs (suc (length ps))) places
