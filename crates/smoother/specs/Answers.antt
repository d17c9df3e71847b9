-- What weighing and applying answer.
use Rattle.std.specs.Prelude.{ℕ, ◌+◌, ◌-◌, ◌*◌, ◌^◌, Bool, cond, List, length, ℤ, Ok, Err, Result, ◌==◌, nat_le, nat_lt, unsigned_abs}
use Rattle.std.specs.List.{list_all}
use Rattle.samples.specs.declared.refusals.Refusal.{Refusal}
use Rattle.samples.specs.declared.refusals.Refusal.TheVariants.{TooFewSamples, BufferTooShort, WindowLength, SampleTooLarge}
use Rattle.scale_space.specs.Taps.{dot, scale}

-- no sample's size, times the scale, is above 2^57
abbrev pub weighable : ℕ → List ℤ → Bool
weighable s xs = list_all (λ x. nat_le (unsigned_abs x * s) (2 ^ 57)) xs

-- one window
abbrev pub weighing : List ℕ → List ℤ → Result ℤ Refusal
weighing ts xs =
    cond (length xs == length ts)
    (cond (weighable (scale ts) xs) (Ok (dot ts xs)) (Err SampleTooLarge))
    (Err WindowLength)

-- every window, into an output of `room` places
abbrev pub applied : List ℕ → List ℤ → ℕ → Result ℕ Refusal
applied ts xs room =
    cond (nat_lt (length xs) (length ts)) (Err TooFewSamples)
    (cond (nat_lt room (length xs + 1 - length ts)) (Err BufferTooShort)
    (cond (weighable (scale ts) xs) (Ok (length xs + 1 - length ts)) (Err SampleTooLarge)))
