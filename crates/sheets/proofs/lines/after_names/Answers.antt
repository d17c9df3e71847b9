-- The names line.
use Rattle.std.proofs.Common.{rules}
use Rattle.std.proofs.lemmas.Slice.Eq.{slice_eq-Decides}
use Rattle.std.proofs.lemmas.Bool.Decides.{Decides-eqb}
use Rattle.sheets.proofs.Cuts.{split_ok}
use Rattle.sheets.proofs.Walks.{opened_same}
use Rattle.sheets.proofs.lines.after_names.Goals as goal

pub returns-then-eq : goal.returns-then-eq
returns-then-eq c =
    let s = split_ok 10 c.args.sheet.now c.split.result _ _ c.in_ok-first.ensures.value c.split.ensures in
    opened_same c.args.names.now c.args.sheet.now (search rules) c.in_ok-first.first.now c.in_ok-first.rest.now s.0
    ((slice_eq-Decides Decides-eqb _ _ _ c.eq.ensures).0 c.if-eq.true)
