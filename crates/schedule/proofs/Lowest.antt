-- What is made of a pass is proper and loses nothing.
use Rattle.std.proofs.Common.{◌≡◌, ◌<◌, true, ap, ◌∙◌}
use Rattle.scale_space.specs.declared.passes.Pass.{Pass}
use Rattle.scale_space.specs.Taps.{scale, scaled}
use Rattle.scale_space.specs.Divisors.{common}
use Rattle.scale_space.specs.Passes.{weights, admitted, lowest}
use Rattle.scale_space.proofs.Divisors.{common_greatest, lowest_proper, lowest_scaled}
use Rattle.schedule.specs.Tests.{in_range, proper}
use Rattle.schedule.specs.Making.{LosesNothing}
use Rattle.schedule.proofs.Meaning.{range_means, proper_test}

-- a pass that no test refuses, in lowest terms
module _ (p r : Pass) (e : r ≡ lowest p) where
  pub made_proper : in_range (weights p) ≡ true → 0 < scale (weights p) → admitted p ≡ true → proper r ≡ true
  made_proper range some adm = rw e (proper_test (lowest p) (lowest_proper p (range_means (weights p) range) some adm))

  pub made_whole : LosesNothing p r
  made_whole = record { divisor = common (weights p); greatest = common_greatest (weights p); times = ap (λ x. scaled (common (weights p)) (weights x)) e ∙ lowest_scaled p }
