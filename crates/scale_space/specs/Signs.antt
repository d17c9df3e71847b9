-- The signs of whole numbers, and how often they change along a list.
use Rattle.std.specs.Prelude.{ℕ, zero, suc, ◌+◌, List, [], ◌∷◌, ℤ, pos, negsuc, ◌-ℤ◌}

pub data Sign : Type 0 where
  below level above : Sign

abbrev pub sign : ℤ → Sign
sign (pos zero) = level
sign (pos (suc n)) = above
sign (negsuc n) = below

-- where x lies, seen from y
abbrev pub side : ℤ → ℤ → Sign
side x y = sign (x -ℤ y)

-- 1 where the two are opposite, else 0
abbrev pub clash : Sign → Sign → ℕ
clash below below = 0
clash below level = 0
clash below above = 1
clash level t = 0
clash above below = 1
clash above level = 0
clash above above = 0

-- the list with x in front, unless the sign is level
abbrev pub keep : {A : Type 0} → Sign → A → List A → List A
keep below x xs = x ∷ xs
keep level x xs = xs
keep above x xs = x ∷ xs

abbrev pub nonzero : List ℤ → List ℤ
nonzero [] = []
nonzero (x ∷ xs) = keep (sign x) x (nonzero xs)

-- how many neighbours are of opposite sign
abbrev pub opposites : List ℤ → ℕ
opposites [] = 0
opposites (x ∷ []) = 0
opposites (x ∷ y ∷ xs) = clash (sign x) (sign y) + opposites (y ∷ xs)

-- the changes of sign along a list: its zeros are dropped
unfoldable pub changes : List ℤ → ℕ
changes xs = opposites (nonzero xs)

-- each number less the one before it
unfoldable pub differences : List ℤ → List ℤ
differences [] = []
differences (x ∷ []) = []
differences (x ∷ y ∷ xs) = (y -ℤ x) ∷ differences (y ∷ xs)
