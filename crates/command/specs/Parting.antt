-- An input parted at its first empty line.
use Rattle.std.specs.Prelude.{ℕ, ◌-◌, Bool, cond, ◌&&◌, ◌||◌, List, [], ◌∷◌, ◌==◌, slice_index}

-- what stands before the first empty line, and what follows it; `fresh` says whether a line begins here
abbrev pub parted : Bool → List ℕ → List ℕ × List ℕ
parted fresh [] = ([], [])
parted fresh (b ∷ bs) = cond (fresh && b == 10) ([], bs) (b ∷ (parted (b == 10) bs).0, (parted (b == 10) bs).1)

-- whether byte i ends an empty line
abbrev pub empty_at : List ℕ → ℕ → Bool
empty_at bs i = slice_index bs i == 10 && (i == 0 || slice_index bs (i - 1) == 10)
