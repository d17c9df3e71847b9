-- What was counted, and what is left.
use Rattle.std.proofs.Common.{◌≡◌, ◌+◌, ◌*◌, ◌≤◌, length, drop}
use Rattle.std.specs.List.{flat_map}
use Rattle.listing.specs.Listing.{height_line}
use Rattle.listing.proofs.lines.lines_size.Given as goal

abbrev pub invariant-loop-turn : goal.invariant-loop-turn
invariant-loop-turn l =
    (l.size ≤ 80 * l.turn-index)
    × (l.size + length (flat_map (height_line l.level) (drop l.turn-index l.turns)) ≡ length (flat_map (height_line l.level) l.turns))
