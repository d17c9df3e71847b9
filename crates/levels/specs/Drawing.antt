-- What draw answers, and what its work buffer holds afterwards.
use Rattle.std.specs.Prelude.{ℕ, ◌-◌, ◌*◌, ◌^◌, ◌≤◌, Bool, cond, ◌&&◌, List, ◌++◌, length, take, drop, replicate, ℤ, pos, Ok, Err, Result, nat_le, nat_lt, unsigned_abs}
use Rattle.std.specs.List.{AllByRecursion, list_all}
use Rattle.scale_space.specs.declared.passes.Pass.{Pass}
use Rattle.scale_space.specs.Levels.{Level}
use Rattle.scale_space.specs.Passes.{reach, level}
use Rattle.samples.specs.declared.refusals.Refusal.{Refusal}
use Rattle.samples.specs.declared.refusals.Refusal.TheVariants.{NoSuchPlace, ProfileLength, HeightOutOfRange, TooFewSamples, BufferTooShort}
use Rattle.samples.specs.Answers.{height_lawful}
use Rattle.levels.specs.declared.draw.Drawn.{Drawn}

-- each height is from -100,000 to 100,000
abbrev pub heights_lawful : List ℤ → Bool
heights_lawful hs = list_all height_lawful hs

-- why level k of the passes ps cannot be drawn from the profile hs with a work buffer of `room` places, if it cannot
abbrev pub allowed : List Pass → ℕ → List ℤ → ℕ → Result (Unit {0}) Refusal
allowed ps k hs room =
    cond (nat_le k (length ps))
    (cond (nat_le 1 (length hs) && nat_le (length hs) 2048)
    (cond (heights_lawful hs)
    (cond (nat_lt (reach (take k ps)) (length hs))
    (cond (nat_le (length hs) room) (Ok tt) (Err BufferTooShort))
    (Err TooFewSamples))
    (Err HeightOutOfRange))
    (Err ProfileLength))
    (Err NoSuchPlace)

-- the length of a level, and its scale
abbrev pub shape : Level → Drawn
shape l = record { length = length l.numerators; scale = l.scale }

-- the shape of the level, where it can be drawn
abbrev pub shaped : Result (Unit {0}) Refusal → Level → Result Drawn Refusal
shaped (Ok u) l = Ok (shape l)
shaped (Err e) l = Err e

abbrev pub drawn : List Pass → ℕ → List ℤ → ℕ → Result Drawn Refusal
drawn ps k hs room = shaped (allowed ps k hs room) (level (take k ps) hs)

-- n places hold the numerators and then 0, and those from n on are unchanged
abbrev pub laid : ℕ → List ℤ → List ℤ → List ℤ
laid n xs old = xs ++ (replicate (n - length xs) (pos 0) ++ drop n old)

abbrev pub worked : Result Drawn Refusal → ℕ → List ℤ → List ℤ → List ℤ
worked (Ok d) n xs old = laid n xs old
worked (Err e) n xs old = old

-- so small that weights with the sum s, laid on them, stay far within 64 bits
abbrev pub Light : ℕ → List ℤ → Type 0
Light s xs = AllByRecursion (λ x. s * unsigned_abs x ≤ 2 ^ 60) xs
