-- Each turn reads old samples and writes one window; the places that are left are cleared.
use Rattle.std.proofs.Common.{◌≡◌, ◌+◌, ◌-◌, length, take, drop, ap, ◌∙◌, pos, replicate, arith, w64, SFits, rules}
use Rattle.std.proofs.lemmas.List.{length-set, length-take, length-drop}
use Rattle.std.proofs.lemmas.Int.{to_z-of_z}
use Rattle.levels.proofs.Laying.{read_light, written_more, cleared}
use Rattle.levels.proofs.draw.lay_weights.Goals as goal

pub weigh-requires-clause-light : goal.weigh-requires-clause-light
weigh-requires-clause-light g c =
    let n : length c.args.weights ≡ g.row.N = search rules in
    let r = c.requires in
    read_light _ _ _ n r.some r.long _ c.loop-i.level c.loop-i.i _ r.light c.loop-i-test.true (omega arith) c.loop-i.invariant.1

pub loop-i-preserved : goal.loop-i-preserved
loop-i-preserved g c =
    let n : length c.args.weights ≡ g.row.N = search rules in
    let f : SFits w64 c.weigh.result = search rules in
    let r = c.requires in
    simp (to_z-of_z, length-set) (c.loop-i.invariant.0, written_more _ _ _ n r.some r.long c.loop-i.level c.loop-i.i _ c.weigh.result c.loop-i-test.true (omega arith) c.loop-i.invariant.1 c.weigh.ensures)

pub returns : goal.returns
returns g c =
    let n : length c.args.weights ≡ g.row.N = search rules in
    let r = c.requires in
    let left = length c.args.level.now - g.row.N + 1 in
    let size : length (take (length c.loop-i.level - left) (drop left c.loop-i.level)) ≡ length c.args.level.now - left = simp (length-take, length-drop) (omega (arith, c.loop-i.invariant.0)) in
    cleared _ _ _ n r.some r.long c.loop-i.level c.fill.new.self c.loop-i.i (omega arith) c.loop-i.invariant.1 (c.fill.ensures.after (λ y h. h) ∙ ap (λ k. replicate k (pos 0)) size)
