use Rattle.std.proofs.Common.{rules}
use Rattle.scale_space.specs.Divisors.{common, largest}
use Rattle.scale_space.specs.Taps.{scale}
use Rattle.scale_space.specs.Primes.{root}
use Rattle.scale_space.specs.Rounding.{rounded}
use Rattle.scale_space.specs.Turns.{turns, turns_of, flats, flats_after}
use Rattle.scale_space.specs.Crossings.{crossings, crossings_of, away}
use Rattle.worked_cases.proofs.worked_cases.Goals as goal

pub returns : goal.returns
unfolding common largest scale root rounded turns turns_of flats flats_after crossings crossings_of away
returns c = search rules
