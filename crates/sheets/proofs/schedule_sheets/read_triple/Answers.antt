-- The three weights of a triple.
use Rattle.std.proofs.Common.{rules}
use Rattle.sheets.proofs.schedule_sheets.read_triple.Goals as goal

pub returns-in_err-number : goal.returns-in_err-number
returns-in_err-number c x y z n s t u =
    let a = c.in_err-number.ensures x n s in
    search rules

pub returns-in_err-number-2 : goal.returns-in_err-number-2
returns-in_err-number-2 c x y z n s t u =
    let a = c.in_ok-number.ensures x n s in
    let b = c.in_err-number-2.ensures y n t in
    search rules

pub returns-in_err-number-3 : goal.returns-in_err-number-3
returns-in_err-number-3 c x y z n s t u =
    let a = c.in_ok-number.ensures x n s in
    let b = c.in_ok-number-2.ensures y n t in
    let d = c.in_err-number-3.ensures z n u in
    search rules

pub returns : goal.returns
returns c x y z n s t u =
    let a = c.in_ok-number.ensures x n s in
    let b = c.in_ok-number-2.ensures y n t in
    let d = c.in_ok-number-3.ensures z n u in
    search rules
