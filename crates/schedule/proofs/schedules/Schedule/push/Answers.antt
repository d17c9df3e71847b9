-- A pass put at the end.
use Rattle.std.proofs.Common.{◌*◌, ◌^◌, ◌≤◌, [], ◌∷◌, ◌++◌, mul-le-mul, arith}
use Rattle.std.proofs.lemmas.List.{length_push}
use Rattle.scale_space.specs.Taps.{scale}
use Rattle.scale_space.specs.Passes.{weights, product}
use Rattle.schedule.specs.Calls.{passes}
use Rattle.schedule.proofs.Meaning.{proper_means, scale_le}
use Rattle.schedule.proofs.Lists.{product_of_push}
use Rattle.schedule.proofs.Standing.{standing_pushed, held, ends_large}
use Rattle.schedule.proofs.schedules.Schedule.push.Goals as goal

pub overflow_mul-scale : goal.overflow_mul-scale
overflow_mul-scale c =
    let s = c.args.self.now in
    let p = c.args.pass in
    let m : product (passes s) * scale (weights p) ≤ 2 ^ 40 * 3000 = mul-le-mul s.bounded (scale_le p (proper_means p c.requires)) in
    rw (c.scale.ensures, c.scale_of.ensures) (omega (arith, m))

pub returns-then-scale-scale_of-gt-LARGEST_SCALE : goal.returns-then-scale-scale_of-gt-LARGEST_SCALE
returns-then-scale-scale_of-gt-LARGEST_SCALE c =
    let ps = passes c.args.self.now in
    let p = c.args.pass in
    ends_large ps (ps ++ p ∷ []) (omega (arith, length_push ps p)) (omega (arith, product_of_push ps p c.scale.ensures c.scale_of.ensures))

pub invariant_of-self : goal.invariant_of-self
invariant_of-self c =
    let s = c.args.self.now in
    let p = c.args.pass in
    let ws = passes s ++ p ∷ [] in
    held _ ws c.push.ensures (standing_pushed s p c.requires (omega arith) (omega (arith, product_of_push (passes s) p c.scale.ensures c.scale_of.ensures)))
