-- One pair more makes the next row.
use Rattle.std.proofs.Common.{◌≡◌, sym, ap, ◌∙◌, arith}
use Rattle.smoother.specs.Rows.{row}
use Rattle.smoother.specs.Row.{row_first, next_short, next_light, next_is}
use Rattle.smoother.proofs.binomial.BinomialSmoother.show.Goals as goal

pub pile-taps-requires : goal.pile-taps-requires
pile-taps-requires c =
    let low = c.args.self.now.low in
    record {
      short = next_short _ _ _ c.two-pair.ensures c.loop.invariant (omega arith);
      light = next_light _ _ _ c.two-pair.ensures c.loop.invariant (omega arith);
    }

pub loop-init : goal.loop-init
loop-init c = c.one-taps.ensures ∙ sym row_first

pub loop-preserved : goal.loop-preserved
loop-preserved c = next_is _ _ _ c.two-pair.ensures c.loop.invariant _ c.pile-taps.ensures

pub returns : goal.returns
returns c =
    let last : c.loop.counter ≡ c.args.self.now.order = omega arith in
    c.loop.invariant ∙ ap row last
