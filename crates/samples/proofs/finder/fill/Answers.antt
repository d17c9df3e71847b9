-- Each record that is read is the next of all.
use Rattle.std.proofs.Common.{◌+◌, get_or, pos, arith, w64, SFits, rules}
use Rattle.samples.proofs.Reading.{read_some, read_none, read_out}
use Rattle.samples.proofs.Writing.{put_same, put_next, put_count, put_all}
use Rattle.samples.proofs.finder.fill.Goals as goal
use Rattle.samples.proofs.finder.fill.Goals.{in-Some, in_default}

pub loop-i-preserved : goal.loop-i-preserved
loop-i-preserved g c =
    let xs = c.args.samples.now in
    let i = c.loop-i.i in
    let F = g.F.Finder.finds c.loop-i.finder i in
    let G = g.F.Finder.finds c.read.new.self (i + 1) in
    let f : SFits w64 (get_or xs i (pos 0)) = search rules in
    elim c.match-read.branch [
      | in-Some w ↦
          let e = read_some F G c.read.result _ xs i f c.loop-i-test.true c.read.ensures w.in-Some.is in
          record {
            few = omega (arith, w.found-is);
            put = simp (w.table-is, w.found-is, w.put.ensures) (put_next _ _ _ _ _ _ _ c.loop-i.invariant.put e);
          }
      | in_default w ↦
          record {
            few = omega (arith, w.found-is);
            put = simp (w.table-is, w.found-is) (put_same _ _ _ _ _ _ c.loop-i.invariant.put (read_none F G c.read.result xs i f c.loop-i-test.true c.read.ensures w.in_default.is));
          }
    ]

pub returns : goal.returns
returns g c =
    let F = g.F.Finder.finds c.loop-i.finder c.loop-i.i in
    let none = read_out F c.args.samples.now c.loop-i.i c.loop-i-test.false (g.met.F.Finder.nothing c.loop-i.finder c.loop-i.i) in
    record {
      count = put_count _ _ _ _ _ c.loop-i.invariant.put none;
      few = omega (arith, c.loop-i.invariant.few);
      places = put_all _ _ _ _ _ c.loop-i.invariant.put none;
    }
