-- The two weights of a pair.
use Rattle.std.proofs.Common.{rules}
use Rattle.sheets.proofs.schedule_sheets.read_pair.Goals as goal

pub returns-in_err-number : goal.returns-in_err-number
returns-in_err-number c x y n s t =
    let a = c.in_err-number.ensures x n s in
    search rules

pub returns-in_err-number-2 : goal.returns-in_err-number-2
returns-in_err-number-2 c x y n s t =
    let a = c.in_ok-number.ensures x n s in
    let b = c.in_err-number-2.ensures y n t in
    search rules

pub returns : goal.returns
returns c x y n s t =
    let a = c.in_ok-number.ensures x n s in
    let b = c.in_ok-number-2.ensures y n t in
    search rules
