-- The text of one level's turns: a line for each, and the names of the fields before level 0.
use Rattle.std.specs.Prelude.{ℕ, cond, List, [], ◌++◌, ℤ, codes, decimal, ◌==◌}
use Rattle.std.specs.Fmt.{signed_decimal}
use Rattle.std.specs.List.{flat_map}
use Rattle.scale_space.specs.declared.turns.Turn.{Turn}
use Rattle.scale_space.specs.declared.turns.TurnKind.{TurnKind}
use Rattle.scale_space.specs.declared.turns.TurnKind.TheVariants.{Ridge, Hollow}
use Rattle.scale_space.specs.Levels.{Level}
use Rattle.scale_space.specs.Rounding.{rounded}
use Rattle.scale_space.specs.Turns.{turns}

abbrev pub kind_word : TurnKind → List ℕ
kind_word Ridge = codes "ridge"
kind_word Hollow = codes "hollow"

-- a line: level, place, kind, height
abbrev pub row : ℕ → ℕ → TurnKind → ℤ → List ℕ
row k place kind height =
    decimal k ++ (codes "," ++ (decimal place ++ (codes "," ++ (kind_word kind ++ (codes "," ++ (signed_decimal height ++ codes "\n"))))))

-- the line of a turn of level k, whose numerator over the scale s is rounded
abbrev pub turn_line : ℕ → ℕ → Turn → List ℕ
turn_line k s t = row k t.place t.kind (rounded s t.numerator)

abbrev pub names : ℕ → List ℕ
names k = cond (k == 0) (codes "level,place,kind,height\n") []

-- the text of level k
abbrev pub listing : ℕ → Level → List ℕ
listing k l = names k ++ flat_map (turn_line k l.scale) (turns l.numerators)

-- the line of a turn whose numerator is its height already, at scale 1
abbrev pub height_line : ℕ → Turn → List ℕ
height_line k t = row k t.place t.kind t.numerator

-- the turn with its rounded height for its numerator
abbrev pub turn_rounded : ℕ → Turn → Turn
turn_rounded s t = record { kind = t.kind; place = t.place; numerator = rounded s t.numerator }
