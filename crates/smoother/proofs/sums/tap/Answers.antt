-- The parts come to the tap of the pile, and no sum of some of them is larger.
use Rattle.std.proofs.Common.{◌≡◌, ◌+◌, ◌*◌, ap₂, arith}
use Rattle.smoother.proofs.Totals.{part, part_more, part_most, part_all}
use Rattle.smoother.proofs.sums.tap.Goals as goal

pub overflow_mul-total : goal.overflow_mul-total
overflow_mul-total c =
    let h : c.at.result * c.at-in-loop-i.result ≡ part c.args.p.now c.args.q.now c.args.place c.loop-i.i = ap₂ ◌*◌ c.at.ensures c.at-in-loop-i.ensures in
    record { fits = omega (arith, part_most c.args.p.now c.args.q.now c.args.place c.loop-i.i (omega arith) c.requires.0) }

pub overflow_add-total : goal.overflow_add-total
overflow_add-total c =
    let h : c.at.result * c.at-in-loop-i.result ≡ part c.args.p.now c.args.q.now c.args.place c.loop-i.i = ap₂ ◌*◌ c.at.ensures c.at-in-loop-i.ensures in
    record { fits = omega (arith, part_most c.args.p.now c.args.q.now c.args.place c.loop-i.i (omega arith) c.requires.0) }

pub loop-i-preserved : goal.loop-i-preserved
loop-i-preserved c = simp (c.at.ensures, c.at-in-loop-i.ensures) (part_more c.args.p.now c.args.q.now c.args.place c.loop-i.i c.loop-i.total c.loop-i.invariant)

pub returns : goal.returns
returns c = part_all c.args.p.now c.args.q.now c.args.place c.loop-i.i c.loop-i.total (omega arith) c.loop-i.invariant

pub returns-2 : goal.returns-2
returns-2 c =
    let p = c.args.p.now in
    let q = c.args.q.now in
    simp (c.at.ensures, c.at-in-loop-i.ensures) (part_all p q c.args.place (c.loop-i.i + 1) _ (omega arith) (part_more p q c.args.place c.loop-i.i c.loop-i.total c.loop-i.invariant))
