-- The lines of the first passes stand behind the names.
use Rattle.std.proofs.Common.{◌≡◌, ◌+◌, ◌*◌, ◌≤◌, ◌++◌, length, drop}
use Rattle.std.specs.List.{flat_map}
use Rattle.sheets.specs.ScheduleSheets.{schedule_sheet}
use Rattle.sheets.proofs.Filling.{line_of}
use Rattle.sheets.proofs.writing.sheet_of.Given as goal

abbrev pub invariant-loop-pass : goal.invariant-loop-pass
invariant-loop-pass l =
    (length l.sheet.bytes ≤ 11 + 36 * l.pass-index)
    × (l.sheet.bytes ++ flat_map line_of (drop l.pass-index l.passes) ≡ schedule_sheet l.passes)
