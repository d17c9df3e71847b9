-- What comes of weights as they are given: the pass in lowest terms, or a refusal.
use Rattle.std.specs.Prelude.{◌≡◌, ℕ, ◌-◌, ◌*◌, cond, ◌&&◌, Ok, Err, Result, nat_le, nat_lt}
use Rattle.scale_space.specs.declared.passes.Pass.{Pass}
use Rattle.scale_space.specs.declared.passes.Pass.TheVariants.{Triple}
use Rattle.scale_space.specs.Taps.{scale, scaled}
use Rattle.scale_space.specs.Divisors.{Greatest}
use Rattle.scale_space.specs.Passes.{weights, admitted, lowest}
use Rattle.samples.specs.declared.refusals.Refusal.{Refusal}
use Rattle.samples.specs.declared.refusals.Refusal.TheVariants.{OutOfRange, AllZero, NotAdmitted}
use Rattle.schedule.specs.Tests.{in_range}

abbrev pub made : Pass → Result Pass Refusal
made p =
    cond (in_range (weights p))
    (cond (nat_lt 0 (scale (weights p)))
    (cond (admitted p) (Ok (lowest p)) (Err NotAdmitted))
    (Err AllZero))
    (Err OutOfRange)

-- the weights that were given are those that were kept, times the greatest common divisor of those given
pub record LosesNothing (given kept : Pass) : Type 0 where
  pub divisor : ℕ
  pub greatest : Greatest (weights given) divisor
  pub times : scaled divisor (weights kept) ≡ weights given

-- the triple of the diffusion step p/q
abbrev pub step_pass : ℕ → ℕ → Pass
step_pass p q = Triple p (2 * q - 2 * p) p

abbrev pub step_made : ℕ → ℕ → Result Pass Refusal
step_made p q = cond (nat_le 1 q && (nat_le q 500 && nat_le p q)) (made (step_pass p q)) (Err OutOfRange)
