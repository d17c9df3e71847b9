-- Where a text is cut.
use Rattle.sheets.proofs.Cuts.{none_at, first_at}
use Rattle.sheets.proofs.lines.split.Goals as goal

pub returns : goal.returns
returns c = first_at c.args.mark c.args.text.now c.in_ok-at.at c.in_ok-at.ensures

pub returns-in_err-at : goal.returns-in_err-at
returns-in_err-at c = rw c.from_residual.ensures (none_at c.args.mark c.args.text.now c.in_err-at.ensures)
