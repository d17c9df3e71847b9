-- The four fields of a line.
use Rattle.sheets.proofs.PassLines.{pass_more}
use Rattle.sheets.proofs.schedule_sheets.four.Goals as goal

pub returns-in-Some : goal.returns-in-Some
returns-in-Some c =
    pass_more c.args.line.now c.in_ok-count.count.now c.in_ok-count.rest.now c.in_ok-a.a.now c.in_ok-a.rest.now c.in_ok-b.b.now c.in_ok-b.c.now c.in-Some.field-0.0.now c.in-Some.field-0.1.now
    c.in_ok-count.ensures.0 c.in_ok-a.ensures.0 c.in_ok-b.ensures.0 c.in-Some.ensures.0
