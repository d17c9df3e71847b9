-- The sheet is read, and the turns are counted or not, as the definition says.
use Rattle.std.proofs.Common.{◌≡◌, List, Ok, Result, arith, rules}
use Rattle.scale_space.specs.declared.passes.Pass.{Pass}
use Rattle.schedule.specs.Calls.{passes}
use Rattle.sheets.specs.declared.faults.SheetFault.{SheetFault}
use Rattle.sheets.specs.ScheduleSheets.{schedule_of}
use Rattle.embedding.proofs.Tallies.{tallied_short, tallied_all}
use Rattle.embedding.proofs.turn_calls.tally.Goals as goal

pub returns-then-counts-levels : goal.returns-then-counts-levels
returns-then-counts-levels c =
    let reads : ◌≡◌ {A = Result (List Pass) SheetFault} (Ok (passes c.in_ok-built.built)) (schedule_of c.args.schedule.now) = search rules in
    let e = tallied_short _ _ reads c.args.heights.now c.args.counts.now c.len-last.result c.len-last.ensures c.in_ok-walk.ensures.0 (omega (arith, c.if-counts-levels.true)) in
    record { answers = λ j. (e j).0; writes = λ j. (e j).1 }

pub returns : goal.returns
returns c =
    let reads : ◌≡◌ {A = Result (List Pass) SheetFault} (Ok (passes c.in_ok-built.built)) (schedule_of c.args.schedule.now) = search rules in
    let e = tallied_all _ _ reads c.args.heights.now c.args.counts.now c.len-last.result c.len-last.ensures c.in_ok-walk.ensures.0 (omega (arith, c.if-counts-levels.false)) c.in_ok-walk.walk c.in_ok-walk.ensures.1 _ c.put_counts.ensures in
    record { answers = λ j. (e j).0; writes = λ j. (e j).1 }
