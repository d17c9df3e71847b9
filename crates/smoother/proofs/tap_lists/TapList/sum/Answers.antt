-- The sum of the taps is their scale.
use Rattle.std.proofs.Common.{◌≡◌, ◌^◌, ◌<◌, ◌∙◌, arith, rules}
use Rattle.std.specs.List.{sum}
use Rattle.smoother.specs.TapLists.{shown}
use Rattle.smoother.proofs.Totals.{scale_sum}
use Rattle.smoother.proofs.tap_lists.TapList.sum.Goals as goal

pub sum-requires-clause-fits : goal.sum-requires-clause-fits
sum-requires-clause-fits c =
    let h : sum (shown c.args.self.now) < 2 ^ 64 = omega (arith, scale_sum (shown c.args.self.now), c.args.self.now.light) in
    search rules

pub returns : goal.returns
returns c =
    let e : c.sum.result ≡ sum (shown c.args.self.now) = search rules in
    e ∙ scale_sum (shown c.args.self.now)
