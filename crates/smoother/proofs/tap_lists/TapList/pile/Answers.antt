-- Each tap that is put at the end is the next of the pile.
use Rattle.std.proofs.Common.{◌≡◌, ◌^◌, ◌≤◌, length, get_or, sym, ap, ap₂, subst, ◌∙◌, arith}
use Rattle.fixed_list.specs.Listed.{listed}
use Rattle.std.proofs.lemmas.List.{take_all}
use Rattle.scale_space.specs.Taps.{scale, conv}
use Rattle.scale_space.proofs.Conv.{length_conv, conv_scale}
use Rattle.smoother.specs.TapLists.{shown}
use Rattle.smoother.proofs.Totals.{piled_more}
use Rattle.smoother.proofs.tap_lists.TapList.pile.Goals as goal

pub loop-place-preserved : goal.loop-place-preserved
loop-place-preserved c =
    let p = shown c.args.self.now in
    let q = shown c.args.other.now in
    let size = length_conv p q c.args.self.now.some c.args.other.now.some in
    let here : c.tap.result ≡ get_or (conv p q) c.loop-place.place 0 = c.tap.ensures ∙ ap₂ (λ us vs. get_or (conv us vs) c.loop-place.place 0) c.as_slice.ensures c.as_slice-in-loop-place.ensures in
    c.push.ensures ∙ piled_more _ (conv p q) c.loop-place.place c.tap.result (omega (arith, c.loop-place-test.true)) c.loop-place.invariant here

pub invariant_of-result : goal.invariant_of-result
invariant_of-result c =
    let p = shown c.args.self.now in
    let q = shown c.args.other.now in
    let size = length_conv p q c.args.self.now.some c.args.other.now.some in
    let full : listed c.loop-place.taps ≡ conv p q = c.loop-place.invariant ∙ take_all c.loop-place.place (conv p q) (omega (arith, c.len.ensures.is, c.len-2.ensures.is)) in
    record { some = omega (arith, ap length full, c.args.self.now.some, c.args.other.now.some); light = subst (λ n. n ≤ 2 ^ 40) (sym (ap scale full ∙ conv_scale p q)) c.requires.light }

pub returns : goal.returns
returns c =
    let p = shown c.args.self.now in
    let q = shown c.args.other.now in
    let size = length_conv p q c.args.self.now.some c.args.other.now.some in
    let full : listed c.loop-place.taps ≡ conv p q = c.loop-place.invariant ∙ take_all c.loop-place.place (conv p q) (omega (arith, c.len.ensures.is, c.len-2.ensures.is)) in
    full
