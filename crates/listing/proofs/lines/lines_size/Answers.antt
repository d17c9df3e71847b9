-- What was counted, and what is left.
use Rattle.std.proofs.Common.{arith}
use Rattle.listing.specs.Listing.{height_line}
use Rattle.listing.proofs.RoundedTurns.{no_turn}
use Rattle.listing.proofs.Lining.{size_more, size_all}
use Rattle.listing.proofs.lines.lines_size.Goals as goal

pub loop-turn-preserved : goal.loop-turn-preserved
loop-turn-preserved c =
    let e = size_more (height_line c.args.level) c.args.turns.now c.loop-turn.size c.loop-turn.turn-index no_turn c.loop-turn-test.true c.loop-turn.invariant.1 in
    (omega arith, omega (arith, e, c.line_size-size.ensures.size))

pub returns : goal.returns
returns c = record {
  size = size_all (height_line c.args.level) c.args.turns.now c.loop-turn.size c.loop-turn.turn-index c.loop-turn-test.false c.loop-turn.invariant.1;
  most = omega arith;
}
