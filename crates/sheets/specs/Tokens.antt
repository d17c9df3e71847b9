-- What a token stands for.
use Rattle.std.specs.Prelude.{◌≡◌, ℕ, ◌<◌, List, length}
use Rattle.sheets.specs.declared.tokens.Field.{Field}
use Rattle.sheets.specs.declared.tokens.Field.TheVariants.{Number, Empty}
use Rattle.sheets.specs.declared.tokens.Token.{Token}

abbrev pub Holds : Field → List ℕ → Type 0
Holds (Number t) bs = (t.now ≡ bs) × (0 < length bs)
Holds (Empty t) bs = (t.now ≡ bs) × (length bs ≡ 0)

-- t is the field bs of line n
abbrev pub TokenOf : Token → List ℕ → ℕ → Type 0
TokenOf t bs n = Holds t.field bs × (t.line ≡ n)
