-- Each height is in range, so no turn is refused.
use Rattle.std.proofs.Common.{get_or, w64, SFits, rules}
use Rattle.std.proofs.lemmas.Int.{to_z-of_z}
use Rattle.listing.proofs.RoundedTurns.{no_turn, round_never, round_more, round_all}
use Rattle.listing.proofs.lines.round_turns.Goals as goal

pub unreachable-requires : goal.unreachable-requires
unreachable-requires c =
    let f : SFits w64 (get_or c.loop-turn.turns c.loop-turn.turn-index no_turn).numerator = search rules in
    round_never c.args.scale c.args.turns.now c.loop-turn.turn-index c.loop-turn.turns c.loop-turn.invariant c.requires.lawful c.requires.small no_turn c.loop-turn-test.true c.in_default.field-0 (simp to_z-of_z at c.in_default.ensures)

pub loop-turn-preserved : goal.loop-turn-preserved
loop-turn-preserved c =
    let f : SFits w64 (get_or c.loop-turn.turns c.loop-turn.turn-index no_turn).numerator = search rules in
    let h : SFits w64 c.in-Ok.height = search rules in
    simp to_z-of_z (round_more c.args.scale c.args.turns.now c.loop-turn.turn-index c.loop-turn.turns c.loop-turn.invariant c.requires.lawful c.requires.small no_turn c.loop-turn-test.true c.in-Ok.height (simp to_z-of_z at c.in-Ok.ensures))

pub returns : goal.returns
returns c = round_all c.args.scale c.args.turns.now c.loop-turn.turn-index c.loop-turn.turns c.loop-turn.invariant c.loop-turn-test.false
