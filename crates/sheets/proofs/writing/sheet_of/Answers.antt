-- The names stand first.
use Rattle.std.proofs.Common.{◌≡◌, ◌++◌, length, sym, ap, ◌∙◌, arith}
use Rattle.std.specs.List.{flat_map}
use Rattle.sheets.proofs.Filling.{line_of, names, joined_lines}
use Rattle.sheets.proofs.writing.sheet_of.Goals as goal

pub loop-pass-init : goal.loop-pass-init
loop-pass-init c =
    let is : c.push_str.new.self.bytes ≡ names = c.push_str.ensures.bytes ∙ ap (λ l. l ++ names) c.new-sheet.ensures in (
      omega (arith, ap length is),
      ap (λ l. l ++ flat_map line_of c.args.passes.now) is ∙ ap (λ l. names ++ l) (sym (joined_lines 0 c.args.passes.now)),
    )
