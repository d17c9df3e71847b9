-- The six texts of the line, from the last to the first.
use Rattle.std.proofs.Common.{w64, SFits, rules}
use Rattle.std.proofs.lemmas.Int.{to_z-of_z}
use Rattle.listing.proofs.Puts.{room_fifth, room_sixth, put_six}
use Rattle.listing.proofs.Rows.{line_room, line_put}
use Rattle.listing.proofs.lines.put_line.Goals as goal

pub word-requires-4 : goal.word-requires-4
word-requires-4 c =
    let f : SFits w64 c.args.turn.numerator = search rules in
    room_fifth (line_room c.args.level c.args.turn c.requires) c.word.ensures.put (simp to_z-of_z at c.signed.ensures.put) (rw c.word-2.ensures.bytes at c.word-3.ensures.put) c.number.ensures.put

pub number-requires-2 : goal.number-requires-2
number-requires-2 c =
    let f : SFits w64 c.args.turn.numerator = search rules in
    room_sixth (line_room c.args.level c.args.turn c.requires) c.word.ensures.put (simp to_z-of_z at c.signed.ensures.put) (rw c.word-2.ensures.bytes at c.word-3.ensures.put) c.number.ensures.put c.word-4.ensures.put

pub returns : goal.returns
returns c =
    let f : SFits w64 c.args.turn.numerator = search rules in
    record {
      same_reference = search rules;
      put = line_put c.args.level c.args.turn (put_six (line_room c.args.level c.args.turn c.requires) c.word.ensures.put (simp to_z-of_z at c.signed.ensures.put) (rw c.word-2.ensures.bytes at c.word-3.ensures.put) c.number.ensures.put c.word-4.ensures.put c.number-2.ensures.put);
    }
