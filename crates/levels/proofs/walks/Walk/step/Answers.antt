-- The pass ahead can be laid, and what it leaves is sound and the next level.
use Rattle.std.proofs.Common.{◌≡◌, true, length, refl, arith, rules}
use Rattle.levels.proofs.Walking.{pass_heavy, pass_long, pass_bounded, pass_light, pass_sound, pass_stepped, climbs}
use Rattle.levels.proofs.walks.Walk.step.Goals as goal

pub lay-self-requires : goal.lay-self-requires
lay-self-requires c =
    let w = c.args.self.now in
    let more = c.if-self.false in
    let ps = c.as_slice.result.now in
    let same = c.as_slice.ensures.value in
    record { heavy = pass_heavy w more ps same; long = pass_long w more ps same; room = omega (arith, w.short, w.full); light = pass_light w more ps same; bounded = pass_bounded w more ps same }

pub invariant_of-self : goal.invariant_of-self
invariant_of-self c =
    let w = c.args.self.now in
    let l = c.lay-self.ensures in
    let full : length c.lay-self.new.work ≡ length w.samples = search rules in
    pass_sound w c.if-self.false c.as_slice.result.now c.as_slice.ensures.value c.lay-self.result c.lay-self.new.work l.shorter l.larger l.places full

pub returns : goal.returns
returns c =
    let w = c.args.self.now in
    let l = c.lay-self.ensures in
    let stepped = pass_stepped w c.if-self.false c.as_slice.result.now c.as_slice.ensures.value c.lay-self.result c.lay-self.new.work l.shorter l.larger l.places in
    record { is = stepped _ refl refl refl refl; climbs = climbs w _ true (stepped _ refl refl refl refl) }
