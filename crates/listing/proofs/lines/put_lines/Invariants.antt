-- The lines of the last turns, zs, stand before the end.
use Rattle.std.proofs.Common.{◌≡◌, List, ◌++◌}
use Rattle.std.specs.List.{flat_map}
use Rattle.scale_space.specs.declared.turns.Turn.{Turn}
use Rattle.listing.specs.Listing.{height_line}
use Rattle.listing.specs.Putting.{Put}
use Rattle.listing.proofs.lines.put_lines.Given as goal

abbrev pub invariant-loop-turn : goal.invariant-loop-turn
invariant-loop-turn l =
    (goal.iterator-loop-turn).can_next l.turn-iterator
    × (goal.iterator-loop-turn).is_finite l.turn-iterator
    × (l.pen.out.ghost_name ≡ l.initial.pen.out.ghost_name)
    × ((zs : List Turn) × (l.turns ≡ l.turn-iterator.iter.rest.now ++ zs) × Put (flat_map (height_line l.level) zs) l.initial.pen.at l.initial.pen.out.now l.pen.at l.pen.out.now)
