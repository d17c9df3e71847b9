-- The number of each refusal.
use Rattle.std.specs.Prelude.{ℕ}
use Rattle.samples.specs.declared.refusals.Refusal.{Refusal}
use Rattle.samples.specs.declared.refusals.Refusal.TheVariants.{OutOfRange, AllZero, NotAdmitted, NoSuchPlace, TooManyPasses, ScaleTooLarge, ProfileLength, HeightOutOfRange, TooFewSamples, BufferTooShort, WindowLength, SampleTooLarge, TableTooShort, ScaleOrHeight, ReachTooLong}

abbrev pub refusal_number : Refusal → ℕ
refusal_number OutOfRange = 1
refusal_number AllZero = 2
refusal_number NotAdmitted = 3
refusal_number NoSuchPlace = 4
refusal_number TooManyPasses = 5
refusal_number ScaleTooLarge = 6
refusal_number ProfileLength = 7
refusal_number HeightOutOfRange = 8
refusal_number TooFewSamples = 9
refusal_number BufferTooShort = 10
refusal_number WindowLength = 11
refusal_number SampleTooLarge = 12
refusal_number TableTooShort = 13
refusal_number ScaleOrHeight = 14
refusal_number ReachTooLong = 15
