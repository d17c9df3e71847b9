-- The value lines, one after another.
use Rattle.std.proofs.Common.{◌≡◌, ◌<◌, length, sym, ◌∙◌, arith, rules}
use Rattle.std.proofs.lemmas.Result.{err_from_is_err_and}
use Rattle.sheets.proofs.Cuts.{split_ok, split_err}
use Rattle.sheets.proofs.Walks.{walked_more, walked_stop, walked_unended, walked_end}
use Rattle.sheets.proofs.lines.walk.Goals as goal

pub returns-in_err-line : goal.returns-in_err-line
returns-in_err-line g c =
    let r = g.R.ReadsLines in
    let some : 0 < length c.loop-rest.rest.now = search rules in
    let p = err_from_is_err_and c.from_residual.result c.from_residual.ensures.1 in
    let s = split_err 10 c.loop-rest.rest.now c.split.result _ _ c.in_err-line.ensures.value c.split.ensures in
    rw (p.1, p.2, s.1)
    (sym c.loop-rest.invariant.2 ∙ walked_unended r.read c.loop-rest.k (r.values c.loop-rest.into) c.loop-rest.rest.now s.0 some)

pub returns-in_err-read_line : goal.returns-in_err-read_line
returns-in_err-read_line g c =
    let r = g.R.ReadsLines in
    let p = err_from_is_err_and c.from_residual-in_err-read_line.result c.from_residual-in_err-read_line.ensures.1 in
    let s = split_ok 10 c.loop-rest.rest.now c.split.result _ _ c.in_ok-line.ensures.value c.split.ensures in
    rw (p.1, p.2)
    (sym c.loop-rest.invariant.2
    ∙ walked_stop r.read c.loop-rest.k (r.values c.loop-rest.into) c.loop-rest.rest.now c.in_ok-line.line.now c.in_ok-line.after.now c.in_err-read_line.field-0.0 s.0 c.in_err-read_line.ensures)

pub loop-rest-preserved : goal.loop-rest-preserved
loop-rest-preserved g c =
    let r = g.R.ReadsLines in
    let s = split_ok 10 c.loop-rest.rest.now c.split.result _ _ c.in_ok-line.ensures.value c.split.ensures in
    let e = c.in_ok-read_line.ensures in (
      omega (arith, s.1),
      sym e.1,
      sym (walked_more r.read c.loop-rest.k (r.values c.loop-rest.into) c.loop-rest.rest.now c.in_ok-line.line.now c.in_ok-line.after.now (r.values c.read_line.new.self) s.0 e.0)
          ∙ c.loop-rest.invariant.2,
    )

pub returns : goal.returns
returns g c =
    let r = g.R.ReadsLines in
    let none : length c.loop-rest.rest.now ≡ 0 = search rules in
    sym c.loop-rest.invariant.2 ∙ walked_end r.read c.loop-rest.k (r.values c.loop-rest.into) c.loop-rest.rest.now none
