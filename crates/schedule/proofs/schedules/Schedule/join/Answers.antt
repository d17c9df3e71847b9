-- A second schedule behind the first.
use Rattle.std.proofs.Common.{◌++◌, ap, ◌∙◌, arith}
use Rattle.std.proofs.lemmas.List.{length-append}
use Rattle.schedule.specs.Calls.{passes}
use Rattle.schedule.proofs.Lists.{product_of_append}
use Rattle.schedule.proofs.Standing.{standing_joined, held, ends_large}
use Rattle.schedule.proofs.schedules.Schedule.join.Goals as goal

pub returns-then-scale : goal.returns-then-scale
returns-then-scale c =
    let ps = passes c.args.self.now in
    let qs = passes c.args.second.now in
    ends_large ps (ps ++ qs) (omega (arith, length-append ps qs)) (omega (arith, product_of_append ps qs c.scale.ensures c.scale-2.ensures))

pub invariant_of-self : goal.invariant_of-self
invariant_of-self c =
    let s = c.args.self.now in
    let t = c.args.second.now in
    held _ (passes s ++ passes t) (c.extend_from_slice.ensures ∙ ap (λ qs. passes s ++ qs) c.as_slice.ensures.is)
    (standing_joined s t (omega arith) (omega (arith, product_of_append (passes s) (passes t) c.scale.ensures c.scale-2.ensures)))
