-- The six texts of the line, from the last to the first.
use Rattle.std.proofs.Common.{codes, decimal, rules}
use Rattle.listing.proofs.Puts.{room_of_six, put_six}
use Rattle.listing.proofs.refusal_lines.put_told.Goals as goal

pub returns : goal.returns
returns c = record {
  same_reference = search rules;
  put = put_six (room_of_six c.args.word.now (codes ",") (decimal c.args.number) (codes ",") (decimal c.args.line) (codes "\n") c.requires) c.word.ensures.put c.number.ensures.put c.word-2.ensures.put c.number-2.ensures.put c.word-3.ensures.put c.word-4.ensures.put;
}
