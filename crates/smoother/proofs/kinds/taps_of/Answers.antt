-- Each pass is piled before those behind it, and no pile passes a limit.
use Rattle.std.proofs.Common.{◌≡◌, [], ◌∷◌, ◌++◌, sym, ap, ap₂, ◌∙◌, append_assoc, append-nil, rules}
use Rattle.std.specs.Slice.Iter.{iter_rest}
use Rattle.std.specs.Iterator.Adapters.{rev_source}
use Rattle.scale_space.specs.Taps.{conv}
use Rattle.scale_space.specs.Passes.{taps}
use Rattle.schedule.specs.Calls.{passes}
use Rattle.smoother.specs.Passing.{taps_draw}
use Rattle.smoother.proofs.Piling.{next_short, next_light, none_left}
use Rattle.smoother.proofs.kinds.taps_of.Goals as goal

pub loop-pass-init : goal.loop-pass-init
loop-pass-init c =
    let e : iter_rest (rev_source c.into_iter-pass-iterator.result) ≡ passes c.args.schedule.now = search rules in
    ([], append-nil _ ∙ e, c.one-taps.ensures)

pub pile-taps-requires : goal.pile-taps-requires
pile-taps-requires c =
    let ps = passes c.args.schedule.now in
    let qs = iter_rest (rev_source c.next.new.self) in
    let p = c.in-Some.pass.now in
    let ds = c.loop-pass.invariant.0 in
    let all : qs ++ (p ∷ ds) ≡ ps = sym (append_assoc qs (p ∷ []) ds) ∙ ap (λ l. l ++ ds) (sym c.in-Some.ensures.steps) ∙ c.loop-pass.invariant.1 in
    record {
      short = next_short ps qs ds p _ _ all c.as_slice.ensures.standing c.from.ensures c.loop-pass.invariant.2;
      light = next_light ps qs ds p _ _ all c.as_slice.ensures.standing c.from.ensures c.loop-pass.invariant.2;
    }

pub loop-pass-preserved : goal.loop-pass-preserved
loop-pass-preserved c =
    let ps = passes c.args.schedule.now in
    let qs = iter_rest (rev_source c.next.new.self) in
    let p = c.in-Some.pass.now in
    let ds = c.loop-pass.invariant.0 in
    let all : qs ++ (p ∷ ds) ≡ ps = sym (append_assoc qs (p ∷ []) ds) ∙ ap (λ l. l ++ ds) (sym c.in-Some.ensures.steps) ∙ c.loop-pass.invariant.1 in
    (p ∷ ds, all, c.pile-taps.ensures ∙ ap₂ conv c.from.ensures c.loop-pass.invariant.2)

pub returns : goal.returns
returns c = record {
  piled = c.loop-pass.invariant.2 ∙ ap taps (none_left _ _ _ c.in-None.ensures.steps.0 c.loop-pass.invariant.1);
  draws = taps_draw _;
}
