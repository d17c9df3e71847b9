-- The product of the first scales stays below the bound of the whole.
use Rattle.std.proofs.Common.{◌^◌, sym, arith}
use Rattle.scale_space.specs.declared.passes.Pass.TheVariants.{Pair}
use Rattle.schedule.proofs.Lists.{product_more, product_more_le}
use Rattle.schedule.proofs.schedules.Schedule.scale.Goals as goal

pub overflow_mul-scale : goal.overflow_mul-scale
overflow_mul-scale c =
    let all = c.as_slice-pass-items in
    let s = all.ensures.standing in
    rw (c.loop-pass.invariant, c.scale_of-scale.ensures) (
    let b = product_more_le all.result.now c.loop-pass.pass-index (2 ^ 40) (Pair 0 0) c.loop-pass-test.true (rw all.ensures.value s.each) (rw all.ensures.value s.bounded) in
    omega (arith, b)
    )

pub loop-pass-preserved : goal.loop-pass-preserved
loop-pass-preserved c =
    rw (c.loop-pass.invariant, c.scale_of-scale.ensures) (sym (product_more c.as_slice-pass-items.result.now c.loop-pass.pass-index _ c.loop-pass-test.true))
