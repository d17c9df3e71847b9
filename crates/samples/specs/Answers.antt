-- What the calls on samples answer, and what the caller's buffers hold afterwards.
use Rattle.std.specs.Prelude.{ℕ, ◌*◌, ◌^◌, Bool, cond, ◌&&◌, List, ◌++◌, length, drop, ℤ, pos, ◌*ℤ◌, Ok, Err, Result, nat_le, unsigned_abs}
use Rattle.std.specs.List.{list_all}
use Rattle.samples.specs.declared.refusals.Refusal.{Refusal}
use Rattle.samples.specs.declared.refusals.Refusal.TheVariants.{BufferTooShort, SampleTooLarge, TableTooShort, ScaleOrHeight}
use Rattle.scale_space.specs.Crossings.{crossings}
use Rattle.scale_space.specs.Rounding.{rounded}

-- what stands in a buffer: the items that were written and then the further places as they were, or all as it was
abbrev pub written : {A : Type 0} → Result ℕ Refusal → List A → List A → List A
written (Ok n) items old = items ++ drop n old
written (Err e) items old = old

-- records for a table of `room` places
abbrev pub listed : {A : Type 0} → List A → ℕ → Result ℕ Refusal
listed records room = cond (nat_le (length records) room) (Ok (length records)) (Err TableTooShort)

abbrev pub scale_lawful : ℕ → Bool
scale_lawful s = nat_le 1 s && nat_le s (2 ^ 40)

abbrev pub height_lawful : ℤ → Bool
height_lawful c = nat_le (unsigned_abs c) 100000

-- the crossings of the height c by numerators over the scale s
abbrev pub crossed : List ℤ → ℕ → ℤ → ℕ → Result ℕ Refusal
crossed xs s c room = cond (scale_lawful s && height_lawful c) (listed (crossings (c *ℤ pos s) xs) room) (Err ScaleOrHeight)

-- each of the numbers is at most as large as the limit, above and below 0
abbrev pub all_within : ℕ → List ℤ → Bool
all_within limit xs = list_all (λ x. nat_le (unsigned_abs x) limit) xs

-- no numerator is larger than the largest height at the scale s
abbrev pub heights_fit : ℕ → List ℤ → Bool
heights_fit s xs = all_within (100000 * s) xs

-- numerators over the scale s, rounded into an output of `room` places
abbrev pub rounding : List ℤ → ℕ → ℕ → Result ℕ Refusal
rounding xs s room =
    cond (scale_lawful s)
    (cond (nat_le (length xs) room)
    (cond (heights_fit s xs) (Ok (length xs)) (Err SampleTooLarge))
    (Err BufferTooShort))
    (Err ScaleOrHeight)

-- the numerator x over the scale s, rounded
abbrev pub rounding_one : ℤ → ℕ → Result ℤ Refusal
rounding_one x s =
    cond (scale_lawful s)
    (cond (nat_le (unsigned_abs x) (100000 * s)) (Ok (rounded s x)) (Err SampleTooLarge))
    (Err ScaleOrHeight)
