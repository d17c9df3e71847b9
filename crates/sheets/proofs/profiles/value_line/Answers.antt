-- The two fields of a value line.
use Rattle.std.proofs.Common.{Ok, Err, ap, ◌∙◌, w64, SFits, rules}
use Rattle.std.proofs.lemmas.Result.{err_from_is_err_and}
use Rattle.std.proofs.lemmas.Int.{to_z-of_z}
use Rattle.sheets.proofs.Cuts.{split_ok}
use Rattle.sheets.proofs.HeightLines.{value_ok, value_right}
use Rattle.sheets.proofs.profiles.value_line.Goals as goal

pub returns-in_err-station-2 : goal.returns-in_err-station-2
returns-in_err-station-2 c =
    let a = c.in_err-station-2.ensures c.in_ok-station.station.now c.args.number c.new.ensures in
    search rules

pub returns-in_err-height : goal.returns-in_err-height
returns-in_err-height c =
    let s = split_ok 44 c.args.line.now c.split.result _ _ c.in_ok-station.ensures.value c.split.ensures in
    let h = c.in_err-height.ensures c.in_ok-station.rest.now c.args.number c.new-2.ensures in
    let p = err_from_is_err_and c.from_residual-in_err-height.result c.from_residual-in_err-height.ensures.1 in
    p.1 ∙ ap Err p.2
    ∙ value_right c.args.line.now c.in_ok-station.station.now c.in_ok-station.rest.now c.args.number s.0 c.in_err-height.field-0.0 h

pub returns : goal.returns
returns c =
    let s = split_ok 44 c.args.line.now c.split.result _ _ c.in_ok-station.ensures.value c.split.ensures in
    let a = c.in_ok-station-2.ensures c.in_ok-station.station.now c.args.number c.new.ensures in
    let h = c.in_ok-height.ensures c.in_ok-station.rest.now c.args.number c.new-2.ensures in
    let f : SFits w64 c.in_ok-height.height = search rules in
    ap (λ z. Ok (c.in_ok-station-2.station, z)) (to_z-of_z w64 c.in_ok-height.height f)
    ∙ value_ok c.args.line.now c.in_ok-station.station.now c.in_ok-station.rest.now c.args.number s.0 c.in_ok-station-2.station c.in_ok-height.height a h
