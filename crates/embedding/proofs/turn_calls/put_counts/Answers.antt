-- The levels below are counted.
use Rattle.std.proofs.Common.{◌≡◌, suc, length, ap, ◌∙◌, rules}
use Rattle.scale_space.specs.Turns.{turns}
use Rattle.embedding.proofs.Counting.{counted_none, counted_more, counted_all}
use Rattle.embedding.proofs.turn_calls.put_counts.Goals as goal

pub loop-count-init : goal.loop-count-init
loop-count-init c = counted_none c.args.walk.now c.args.counts.now

pub loop-count-preserved : goal.loop-count-preserved
loop-count-preserved c =
    let all : length c.loop-count.counts ≡ suc c.args.walk.now.last = c.loop-count.auto.counts ∙ c.requires.all in
    counted_more _ _ _ _ c.loop-count.invariant all (search rules) _ (c.count.ensures ∙ ap (λ xs. length (turns xs)) c.numerators.ensures.value) _ c.step.ensures.is.to c.step.ensures.climbs

pub returns : goal.returns
returns c =
    let all : length c.loop-count.counts ≡ suc c.args.walk.now.last = c.loop-count.auto.counts ∙ c.requires.all in
    counted_all _ _ _ _ c.loop-count.invariant all (search rules)
