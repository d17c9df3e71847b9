-- The sheet of the schedule that was read.
use Rattle.std.proofs.Common.{◌≡◌, List, Ok, Result, ap, ◌∙◌, rules}
use Rattle.scale_space.specs.declared.passes.Pass.{Pass}
use Rattle.schedule.specs.Calls.{passes}
use Rattle.sheets.specs.declared.faults.SheetFault.{SheetFault}
use Rattle.sheets.specs.ScheduleSheets.{schedule_of}
use Rattle.embedding.specs.Sheets.{rewritten}
use Rattle.embedding.proofs.schedule_calls.rewrite.Goals as goal

pub returns-clause-writes : goal.returns-clause-writes
returns-clause-writes c =
    let reads : ◌≡◌ {A = Result (List Pass) SheetFault} (Ok (passes c.in_ok-schedule.schedule)) (schedule_of c.args.sheet.now) = search rules in
    c.write_schedule.ensures.writes ∙ ap (λ s. (rewritten s c.args.out.now).1) reads
