-- The reach is the sum of what each pass takes away.
use Rattle.std.proofs.Common.{◌≡◌, ◌-◌, length, ◌∙◌, rules}
use Rattle.std.specs.List.{sum_by}
use Rattle.scale_space.specs.Passes.{weights}
use Rattle.levels.proofs.Stepping.{reach_sum}
use Rattle.levels.proofs.draw.reach_of.Goals as goal

pub returns : goal.returns
returns c =
    let e : c.sum.result ≡ sum_by (λ p. length (weights p) - 1) c.args.passes.now = search rules in
    e ∙ reach_sum c.args.passes.now
