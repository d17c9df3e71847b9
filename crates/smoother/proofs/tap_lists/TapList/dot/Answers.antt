-- The products and their sums fit, so nothing wraps.
use Rattle.std.proofs.Common.{◌≡◌, pos, arith, rules}
use Rattle.std.proofs.lemmas.List.{length-append}
use Rattle.std.proofs.lemmas.Slice.Zip.{zip_turn, zip_end}
use Rattle.std.specs.Slice.Iter.{iter_rest}
use Rattle.std.specs.Iterator.Adapters.{zip_first, zip_second}
use Rattle.smoother.specs.TapLists.{shown}
use Rattle.smoother.proofs.Dots.{tap_light, next_product_fits, next_total_fits, weighed_more, weighed_all}
use Rattle.smoother.proofs.tap_lists.TapList.dot.Goals as goal

pub overflow_cast-total : goal.overflow_cast-total
overflow_cast-total c =
    let ws = shown c.args.self.now in
    let xs = c.args.samples.now in
    let first : iter_rest (zip_first c.into_iter-tap-iterator.result) ≡ ws = search rules in
    let second : iter_rest (zip_second c.into_iter-tap-iterator.result) ≡ xs = search rules in
    let turn = zip_turn ws xs c.loop-tap.yielded c.into_iter-tap-iterator.result c.loop-tap.tap-iterator c.next.new.self c.next.result first second c.loop-tap.yielded_by (c.in-Some.tap, c.in-Some.sample) c.in-Some.is c.next.ensures.steps in
    record { sfits = omega (arith, tap_light ws xs _ _ c.requires.heavy c.args.self.now.light c.requires.small c.loop-tap.invariant turn.0 turn.1 _ _ (turn.2 0) (turn.3 (pos 0))) }

pub overflow_mul-total : goal.overflow_mul-total
overflow_mul-total c =
    let ws = shown c.args.self.now in
    let xs = c.args.samples.now in
    let first : iter_rest (zip_first c.into_iter-tap-iterator.result) ≡ ws = search rules in
    let second : iter_rest (zip_second c.into_iter-tap-iterator.result) ≡ xs = search rules in
    let turn = zip_turn ws xs c.loop-tap.yielded c.into_iter-tap-iterator.result c.loop-tap.tap-iterator c.next.new.self c.next.result first second c.loop-tap.yielded_by (c.in-Some.tap, c.in-Some.sample) c.in-Some.is c.next.ensures.steps in
    next_product_fits ws xs _ _ c.requires.heavy c.args.self.now.light c.requires.small c.loop-tap.invariant turn.0 turn.1 _ _ (turn.2 0) (turn.3 (pos 0))

pub overflow_add-total : goal.overflow_add-total
overflow_add-total c =
    let ws = shown c.args.self.now in
    let xs = c.args.samples.now in
    let first : iter_rest (zip_first c.into_iter-tap-iterator.result) ≡ ws = search rules in
    let second : iter_rest (zip_second c.into_iter-tap-iterator.result) ≡ xs = search rules in
    let turn = zip_turn ws xs c.loop-tap.yielded c.into_iter-tap-iterator.result c.loop-tap.tap-iterator c.next.new.self c.next.result first second c.loop-tap.yielded_by (c.in-Some.tap, c.in-Some.sample) c.in-Some.is c.next.ensures.steps in
    next_total_fits ws xs _ _ c.requires.heavy c.args.self.now.light c.requires.small c.loop-tap.invariant turn.0 turn.1 _ _ (turn.2 0) (turn.3 (pos 0))

pub loop-tap-preserved : goal.loop-tap-preserved
loop-tap-preserved c =
    let ws = shown c.args.self.now in
    let xs = c.args.samples.now in
    let first : iter_rest (zip_first c.into_iter-tap-iterator.result) ≡ ws = search rules in
    let second : iter_rest (zip_second c.into_iter-tap-iterator.result) ≡ xs = search rules in
    let turn = zip_turn ws xs c.loop-tap.yielded c.into_iter-tap-iterator.result c.loop-tap.tap-iterator c.next.new.self c.next.result first second c.loop-tap.yielded_by (c.in-Some.tap, c.in-Some.sample) c.in-Some.is c.next.ensures.steps in
    simp length-append (weighed_more ws xs _ _ c.requires.heavy c.args.self.now.light c.requires.small c.loop-tap.invariant turn.0 turn.1 _ _ (turn.2 0) (turn.3 (pos 0)))

pub returns : goal.returns
returns c =
    let ws = shown c.args.self.now in
    let xs = c.args.samples.now in
    let first : iter_rest (zip_first c.into_iter-tap-iterator.result) ≡ ws = search rules in
    let second : iter_rest (zip_second c.into_iter-tap-iterator.result) ≡ xs = search rules in
    let end = zip_end ws xs c.loop-tap.yielded c.into_iter-tap-iterator.result c.loop-tap.tap-iterator c.next.new.self c.next.result first second c.loop-tap.yielded_by c.in-None.is c.next.ensures.steps in
    weighed_all ws xs _ _ c.loop-tap.invariant (omega (arith, c.requires.long))
