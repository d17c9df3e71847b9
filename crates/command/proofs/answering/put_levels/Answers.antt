-- The levels below are listed, and those above are still to come.
use Rattle.std.proofs.Common.{length, ap, arith}
use Rattle.std.proofs.lemmas.List.{length-drop, take_rest}
use Rattle.command.proofs.Levels.{so_far_none, so_far_more, so_far_all, so_far_less, so_far_room}
use Rattle.command.proofs.answering.put_levels.Goals as goal

pub loop-at-init : goal.loop-at-init
loop-at-init c = so_far_none c.args.walk.now c.args.out.now c.requires.start

pub put_level-at-requires : goal.put_level-at-requires
put_level-at-requires c =
    let r = so_far_room _ _ _ _ _ c.loop-at.invariant (omega (arith, c.requires.room, c.loop-at.auto.out)) in
    record { low = r.0; room = omega (arith, r.1, length-drop c.loop-at.at c.loop-at.out, ap length (take_rest c.loop-at.out c.loop-at.at)) }

pub returns-then-not-step : goal.returns-then-not-step
returns-then-not-step c =
    let room = so_far_room _ _ _ _ _ c.loop-at.invariant (omega (arith, c.requires.room, c.loop-at.auto.out)) in
    record { most = omega (arith, c.put_level-at.ensures.most, c.loop-at.invariant.within, room.0); bytes = so_far_all _ _ _ _ _ c.loop-at.invariant _ _ c.put_level-at.ensures.size c.put_level-at.ensures.bytes c.step.new.self c.if-not-step.ensures.is }

pub loop-at-smaller : goal.loop-at-smaller
loop-at-smaller c = so_far_less _ _ _ _ _ c.loop-at.invariant _ _ c.put_level-at.ensures.size c.put_level-at.ensures.bytes c.step.new.self c.if-not-step.ensures.is

pub loop-at-preserved : goal.loop-at-preserved
loop-at-preserved c = so_far_more _ _ _ _ _ c.loop-at.invariant _ _ c.put_level-at.ensures.size c.put_level-at.ensures.bytes c.step.new.self c.put_level-at.ensures.most c.if-not-step.ensures.is c.step.ensures.climbs
