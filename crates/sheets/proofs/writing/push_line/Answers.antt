-- The texts of a triple's line, one behind another.
use Rattle.sheets.proofs.Filling.{triple_line}
use Rattle.sheets.proofs.writing.push_line.Goals as goal

pub returns-in-Triple-clause-text : goal.returns-in-Triple-clause-text
returns-in-Triple-clause-text c =
    rw (c.push_str-in-Triple-4.ensures.bytes, c.push_weight-in-Triple-3.ensures.text, c.push_str-in-Triple-3.ensures.bytes, c.push_weight-in-Triple-2.ensures.text, c.push_str-in-Triple-2.ensures.bytes, c.push_weight-in-Triple.ensures.text, c.push_str-in-Triple.ensures.bytes, c.in-Triple.is)
    (triple_line c.args.sheet.now.bytes c.in-Triple.a c.in-Triple.b c.in-Triple.c)
