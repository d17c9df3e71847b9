-- Each turn lays one pass on the level that the passes before it left.
use Rattle.std.proofs.Common.{◌*◌, length, refl, ap, ◌∙◌, arith}
use Rattle.std.proofs.lemmas.List.{take_all}
use Rattle.scale_space.specs.Taps.{scale}
use Rattle.scale_space.specs.Passes.{weights, level}
use Rattle.levels.specs.Drawing.{shape, laid}
use Rattle.levels.proofs.Laying.{laid_none}
use Rattle.levels.proofs.Stepping.{Ready, pass_at, step_heavy, step_long, step_room, step_bounded, step_light, step_shape, step_places}
use Rattle.levels.proofs.draw.lay_all.Goals as goal

pub loop-pass-init : goal.loop-pass-init
loop-pass-init c = (refl, laid_none c.args.work.now)

pub lay-last-requires : goal.lay-last-requires
lay-last-requires c =
    let ps = c.args.passes.now in
    let old = c.args.work.now in
    let i = c.loop-pass.pass-index in
    let at = c.loop-pass-test.true in
    let e = c.loop-pass.invariant.0 in
    let ready : Ready ps old = record { proper = c.requires.proper; bounded = c.requires.bounded; long = c.requires.long; lawful = c.requires.lawful } in
    record {
      heavy = step_heavy ps old ready i at;
      long = omega (arith, ap (λ d. d.length) e, step_long ps old ready i at);
      room = omega (arith, ap (λ d. d.length) e, step_room ps old ready i at);
      light = step_light ps old ready i at c.loop-pass.last c.loop-pass.work e c.loop-pass.invariant.1;
      bounded = omega (arith, ap (λ d. d.scale * scale (weights (pass_at ps i))) e, step_bounded ps old ready i at);
    }

pub loop-pass-preserved : goal.loop-pass-preserved
loop-pass-preserved c =
    let ps = c.args.passes.now in
    let old = c.args.work.now in
    let i = c.loop-pass.pass-index in
    let at = c.loop-pass-test.true in
    let ready : Ready ps old = record { proper = c.requires.proper; bounded = c.requires.bounded; long = c.requires.long; lawful = c.requires.lawful } in (
      step_shape ps old ready i at c.loop-pass.last c.lay-last.result c.loop-pass.invariant.0 c.lay-last.ensures.shorter c.lay-last.ensures.larger,
      step_places ps old ready i at c.loop-pass.last c.loop-pass.work c.lay-last.new.work c.loop-pass.invariant.0 c.loop-pass.invariant.1 c.lay-last.ensures.places,
    )

pub returns : goal.returns
returns c =
    let all = take_all c.loop-pass.pass-index c.args.passes.now c.loop-pass-test.false in
    let hs = c.args.work.now in
    record {
      answer = c.loop-pass.invariant.0 ∙ ap (λ ps. shape (level ps hs)) all;
      places = c.loop-pass.invariant.1 ∙ ap (λ ps. laid (length hs) (level ps hs).numerators hs) all;
    }
