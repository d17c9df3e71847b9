-- The numbers that a field of a sheet writes.
use Rattle.std.specs.Prelude.{ℕ, zero, suc, ◌+◌, ◌-◌, ◌*◌, ◌^◌, min, Bool, true, false, cond, not, ◌&&◌, List, [], ◌∷◌, ℤ, pos, negsuc, Some, None, Option, ◌==◌, nat_le}
use Rattle.std.specs.Option.{option_map}

abbrev pub digit : ℕ → Bool
digit b = nat_le 48 b && nat_le b 57

abbrev pub digits : List ℕ → Bool
digits [] = true
digits (b ∷ bs) = digit b && digits bs

-- there is a first digit, and it is no zero before another
abbrev pub leads : List ℕ → Bool
leads [] = false
leads (b ∷ []) = true
leads (b ∷ c ∷ bs) = not (b == 48)

-- the number that the digits bs write after those of n
abbrev pub value : ℕ → List ℕ → ℕ
value n [] = n
value n (b ∷ bs) = value (n * 10 + (b - 48)) bs

-- the number that a field writes, if it writes one
abbrev pub natural : List ℕ → Option ℕ
natural bs = cond (leads bs && digits bs) (Some (value 0 bs)) None

-- nothing writes -0
abbrev pub negative : Option ℕ → Option ℤ
negative None = None
negative (Some zero) = None
negative (Some (suc n)) = Some (negsuc n)

-- the same, where a minus (45) may stand in front
abbrev pub integer : List ℕ → Option ℤ
integer [] = None
integer (b ∷ bs) = cond (b == 45) (negative (natural bs)) (option_map pos (natural (b ∷ bs)))

-- a number as the code holds it: past the top of u32 it stays there
abbrev pub capped : ℕ → ℕ
capped n = min n (2 ^ 32 - 1)

abbrev pub capped_integer : ℤ → ℤ
capped_integer (pos n) = pos (min n (2 ^ 32 - 1))
capped_integer (negsuc n) = negsuc (min n (2 ^ 32 - 2))
