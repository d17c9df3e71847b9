-- One value line, added.
use Rattle.std.proofs.Common.{◌≡◌, ◌+◌, rules}
use Rattle.std.proofs.lemmas.Result.{err_from_is_err_and}
use Rattle.schedule.specs.Calls.{passes}
use Rattle.sheets.specs.declared.faults.SheetFault.TheVariants.{Refused}
use Rattle.sheets.proofs.PassLines.{line_added, line_refused, line_malformed}
use Rattle.sheets.proofs.schedule_sheets.ScheduleReadsLines.read_line.Goals as goal

pub returns : goal.returns
returns c =
    line_added c.args.line.now c.args.k (passes c.args.self.now) (passes c.add.new.self) c.in_ok-pass.pass c.add.result (search rules) c.in_ok-pass.ensures c.requires.next c.add.ensures

pub returns-in_err-map_err : goal.returns-in_err-map_err
returns-in_err-map_err c =
    let p = err_from_is_err_and c.from_residual-in_err-map_err.result c.from_residual-in_err-map_err.ensures.1 in
    let e : c.in_err-map_err.field-0.0 ≡ Refused (c.args.k + 2) = search rules in
    rw (p.1, p.2, e)
    (line_refused c.args.line.now c.args.k (passes c.args.self.now) (passes c.add.new.self) c.in_ok-pass.pass c.add.result (search rules) c.in_ok-pass.ensures c.add.ensures)

pub returns-in_err-pass : goal.returns-in_err-pass
returns-in_err-pass c =
    let p = err_from_is_err_and c.from_residual.result c.from_residual.ensures.1 in
    rw (p.1, p.2) (line_malformed c.args.line.now c.args.k (passes c.args.self.now) c.in_err-pass.field-0.0 c.in_err-pass.ensures)
