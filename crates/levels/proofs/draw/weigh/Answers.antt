-- The products and their sums fit, so nothing wraps.
use Rattle.std.proofs.Common.{◌≡◌, ◌<◌, ◌^◌, pos, arith, rules}
use Rattle.std.proofs.lemmas.List.{length-append}
use Rattle.std.proofs.lemmas.Slice.Zip.{zip_turn, zip_end}
use Rattle.std.specs.Slice.Iter.{iter_rest}
use Rattle.std.specs.Iterator.Adapters.{zip_first, zip_second}
use Rattle.levels.proofs.Weighing.{next_product_fits, next_total_fits, weighed_more, weighed_all}
use Rattle.levels.proofs.draw.weigh.Goals as goal

pub overflow_mul-total : goal.overflow_mul-total
overflow_mul-total c =
    let ws = c.args.weights.now in
    let xs = c.args.samples.now in
    let first : iter_rest (zip_first c.into_iter-weight-iterator.result) ≡ ws = search rules in
    let second : iter_rest (zip_second c.into_iter-weight-iterator.result) ≡ xs = search rules in
    let n : c.in-Some.weight.now < 2 ^ 32 = search rules in
    let turn = zip_turn ws xs c.loop-weight.yielded c.into_iter-weight-iterator.result c.loop-weight.weight-iterator c.next.new.self c.next.result first second c.loop-weight.yielded_by (c.in-Some.weight, c.in-Some.sample) c.in-Some.is c.next.ensures.steps in
    next_product_fits ws xs _ _ c.requires.heavy c.requires.light c.loop-weight.invariant turn.0 turn.1 _ _ (turn.2 0) (turn.3 (pos 0)) n

pub overflow_add-total : goal.overflow_add-total
overflow_add-total c =
    let ws = c.args.weights.now in
    let xs = c.args.samples.now in
    let first : iter_rest (zip_first c.into_iter-weight-iterator.result) ≡ ws = search rules in
    let second : iter_rest (zip_second c.into_iter-weight-iterator.result) ≡ xs = search rules in
    let n : c.in-Some.weight.now < 2 ^ 32 = search rules in
    let turn = zip_turn ws xs c.loop-weight.yielded c.into_iter-weight-iterator.result c.loop-weight.weight-iterator c.next.new.self c.next.result first second c.loop-weight.yielded_by (c.in-Some.weight, c.in-Some.sample) c.in-Some.is c.next.ensures.steps in
    next_total_fits ws xs _ _ c.requires.heavy c.requires.light c.loop-weight.invariant turn.0 turn.1 _ _ (turn.2 0) (turn.3 (pos 0)) n

pub loop-weight-preserved : goal.loop-weight-preserved
loop-weight-preserved c =
    let ws = c.args.weights.now in
    let xs = c.args.samples.now in
    let first : iter_rest (zip_first c.into_iter-weight-iterator.result) ≡ ws = search rules in
    let second : iter_rest (zip_second c.into_iter-weight-iterator.result) ≡ xs = search rules in
    let n : c.in-Some.weight.now < 2 ^ 32 = search rules in
    let turn = zip_turn ws xs c.loop-weight.yielded c.into_iter-weight-iterator.result c.loop-weight.weight-iterator c.next.new.self c.next.result first second c.loop-weight.yielded_by (c.in-Some.weight, c.in-Some.sample) c.in-Some.is c.next.ensures.steps in
    simp length-append (weighed_more ws xs _ _ c.requires.heavy c.requires.light c.loop-weight.invariant turn.0 turn.1 _ _ (turn.2 0) (turn.3 (pos 0)) n)

pub returns : goal.returns
returns c =
    let ws = c.args.weights.now in
    let xs = c.args.samples.now in
    let first : iter_rest (zip_first c.into_iter-weight-iterator.result) ≡ ws = search rules in
    let second : iter_rest (zip_second c.into_iter-weight-iterator.result) ≡ xs = search rules in
    let end = zip_end ws xs c.loop-weight.yielded c.into_iter-weight-iterator.result c.loop-weight.weight-iterator c.next.new.self c.next.result first second c.loop-weight.yielded_by c.in-None.is c.next.ensures.steps in
    weighed_all ws xs _ _ c.loop-weight.invariant (omega arith)
