-- Worked cases: what the definitions say of small examples.
use Rattle.std.specs.Prelude.{◌≡◌, List, [], ◌∷◌, pos, negsuc, Ok, Err}
use Rattle.scale_space.specs.declared.passes.Pass.{Pass}
use Rattle.scale_space.specs.declared.passes.Pass.TheVariants.{Pair, Triple}
use Rattle.scale_space.specs.declared.primes.PrimeCount.{PrimeCount}
use Rattle.scale_space.specs.declared.turns.TurnKind.TheVariants.{Ridge}
use Rattle.scale_space.specs.declared.crossings.Direction.TheVariants.{Up}
use Rattle.scale_space.specs.Rounding.{rounded}
use Rattle.scale_space.specs.Turns.{turns}
use Rattle.scale_space.specs.Crossings.{crossings}
use Rattle.scale_space.specs.Tables.{single, table}
use Rattle.samples.specs.declared.refusals.Refusal.TheVariants.{NotAdmitted}
use Rattle.schedule.specs.Making.{made, step_made}

-- one record for each of two primes
abbrev pub two_primes : Pass → Pass → List PrimeCount
two_primes p q = single p ∷ single q ∷ []

pub record WorkedCases : Type 0 where
  -- weights that would split a hill
  pub gap : made (Triple 1 0 1) ≡ Err NotAdmitted
  pub near_miss : made (Triple 100 199 100) ≡ Err NotAdmitted
  -- triples that are two pairs, and one that is none
  pub splits : table (Triple 2 5 2 ∷ []) ≡ two_primes (Pair 1 2) (Pair 2 1)
  pub prime : table (Triple 1 3 1 ∷ []) ≡ single (Triple 1 3 1) ∷ []
  pub shift : made (Triple 0 4 0) ≡ Ok (Triple 0 1 0)
  pub shift_splits : table (Triple 0 1 0 ∷ []) ≡ two_primes (Pair 0 1) (Pair 1 0)
  -- diffusion steps
  pub step : step_made 3 8 ≡ Ok (Triple 3 10 3)
  pub step_splits : table (Triple 3 10 3 ∷ []) ≡ two_primes (Pair 1 3) (Pair 3 1)
  pub long_step : step_made 2 3 ≡ Err NotAdmitted
  -- 5/2 and -5/2
  pub half_up : rounded 2 (pos 5) ≡ pos 3
  pub half_up_below : rounded 2 (negsuc 4) ≡ negsuc 1
  -- a flat is one ridge, and a sample at the height is passed over
  pub ridge : turns (pos 0 ∷ pos 5 ∷ pos 5 ∷ pos 0 ∷ []) ≡ record { kind = Ridge; place = 1; numerator = pos 5 } ∷ []
  pub crosses : crossings (pos 0) (negsuc 0 ∷ pos 0 ∷ pos 1 ∷ []) ≡ record { from = 0; to = 2; direction = Up } ∷ []
  -- the pair (1, 0) is not nothing
  pub not_nothing : table (Pair 1 0 ∷ []) ≡ table [] → ⊥
