-- The theorems beside the writing.
use Rattle.std.proofs.Common.{◌≡◌, Ok, sym, ap, ◌∙◌, arith}
use Rattle.schedule.specs.Calls.{passes}
use Rattle.sheets.specs.Lines.{answer}
use Rattle.sheets.specs.ScheduleSheets.{schedule_sheet}
use Rattle.sheets.proofs.ExactSchedules.{exact_schedule, read_back}
use Rattle.sheets.proofs.Filling.{no_room}
use Rattle.sheets.proofs.writing.write_schedule.Goals as goal

pub returns-then-out-len-clause-answers : goal.returns-then-out-len-clause-answers
returns-then-out-len-clause-answers c = λ j. (sym (no_room (passes c.args.schedule.now) c.args.out.now (omega (arith, c.if-out-len.true, c.len.ensures))) j).0

pub returns-then-out-len-clause-writes : goal.returns-then-out-len-clause-writes
returns-then-out-len-clause-writes c = λ j. (sym (no_room (passes c.args.schedule.now) c.args.out.now (omega (arith, c.if-out-len.true, c.len.ensures))) j).1

pub returns-then-out-len-clause-exact : goal.returns-then-out-len-clause-exact
returns-then-out-len-clause-exact c = exact_schedule

pub returns : goal.returns
returns c =
    let ps = passes c.args.schedule.now in
    let out = c.args.out.now in
    let e = c.put_in_front.ensures in
    let text : c.as_bytes.result.now ≡ schedule_sheet ps = c.as_bytes.ensures.value ∙ c.as_str.ensures.value ∙ c.sheet_of-sheet.ensures ∙ ap schedule_sheet c.as_slice.ensures.value in
    let a : c.put_in_front.result ≡ (answer (Ok (schedule_sheet ps)) out).0 = e.answers ∙ ap (λ t. (answer (Ok t) out).0) text in
    let w : c.put_in_front.new.places ≡ (answer (Ok (schedule_sheet ps)) out).1 = e.writes ∙ ap (λ t. (answer (Ok t) out).1) text in
    record { answers = a; writes = w; back = read_back ps out c.put_in_front.new.places c.put_in_front.result c.as_slice.ensures.standing a w; exact = exact_schedule }
