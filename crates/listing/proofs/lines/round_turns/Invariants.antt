-- The first turns have their heights, and the others are as they were.
use Rattle.listing.proofs.RoundedTurns.{RoundedSoFar}
use Rattle.listing.proofs.lines.round_turns.Given as goal

abbrev pub invariant-loop-turn : goal.invariant-loop-turn
invariant-loop-turn l = RoundedSoFar l.scale l.initial.turns l.turn-index l.turns
