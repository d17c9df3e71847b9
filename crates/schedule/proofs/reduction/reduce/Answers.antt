-- What is left of a pass that no test refused is proper.
use Rattle.std.proofs.Common.{◌≡◌, ◌<◌, true, sym, ◌∙◌, arith}
use Rattle.scale_space.specs.Taps.{scale}
use Rattle.scale_space.specs.Passes.{weights, admitted}
use Rattle.schedule.specs.Tests.{in_range}
use Rattle.schedule.proofs.Lowest.{made_proper}
use Rattle.schedule.proofs.reduction.reduce.Goals as goal

pub returns-clause-proper : goal.returns-clause-proper
returns-clause-proper c =
    let p = c.args.pass in
    let range : in_range (weights p) ≡ true = sym c.is_in_range.ensures ∙ c.if-not-is_in_range.false in
    let some : 0 < scale (weights p) = omega (arith, c.scale_of.ensures, c.if-scale_of-eq0.false) in
    let adm : admitted p ≡ true = sym c.is_admitted.ensures.is ∙ c.if-not-is_admitted.false in
    made_proper p c.in_lowest_terms.result c.in_lowest_terms.ensures range some adm
