-- Each number that is written is the next window.
use Rattle.std.proofs.Common.{◌≡◌, ◌+◌, ◌-◌, ◌<◌, ◌≤◌, true, length, take, drop, sym, ap, ◌∙◌, arith, w64, SFits, rules}
use Rattle.std.specs.Slice.Iter.{windows_rest, windows_size}
use Rattle.std.specs.Iterator.Adapters.{enumerate_source, enumerate_count}
use Rattle.std.proofs.lemmas.List.{length-set, length-drop, drop-drop}
use Rattle.std.proofs.lemmas.Int.{to_z-of_z}
use Rattle.scale_space.specs.Taps.{dot, scale}
use Rattle.smoother.specs.TapLists.{shown}
use Rattle.smoother.specs.Answers.{weighable}
use Rattle.smoother.proofs.Places.{written_more, written_all}
use Rattle.smoother.proofs.Sizes.{weighable_window}
use Rattle.smoother.proofs.apply.lay.Goals as goal

pub dot-requires-clause-small : goal.dot-requires-clause-small
dot-requires-clause-small c =
    let xs = c.args.samples.now in
    let ts = shown c.args.taps.now in
    let k = enumerate_count c.loop-i.i-iterator in
    let inv = c.loop-i.invariant in
    let h = c.in-Some.ensures.steps in
    let window : c.in-Some.window.now ≡ take (windows_size (enumerate_source c.loop-i.i-iterator)) (drop k xs) = h.0.1.1 ∙ ap (take (windows_size (enumerate_source c.loop-i.i-iterator))) inv.2 in
    let all : weighable (scale ts) xs ≡ true = ap (λ s. weighable s xs) (sym c.sum.ensures) ∙ sym c.if-not-all_weighable.ensures in
    ap (weighable (scale ts)) window ∙ weighable_window (scale ts) _ k xs all

pub loop-i-preserved : goal.loop-i-preserved
loop-i-preserved c =
    let xs = c.args.samples.now in
    let ts = shown c.args.taps.now in
    let k = enumerate_count c.loop-i.i-iterator in
    let inv = c.loop-i.invariant in
    let h = c.in-Some.ensures.steps in
    let window : c.in-Some.window.now ≡ take (windows_size (enumerate_source c.loop-i.i-iterator)) (drop k xs) = h.0.1.1 ∙ ap (take (windows_size (enumerate_source c.loop-i.i-iterator))) inv.2 in
    let f : SFits w64 c.dot.result = search rules in
    let left : length (windows_rest (enumerate_source c.loop-i.i-iterator)) ≡ length xs - k = ap length inv.2 ∙ length-drop k xs in
    let fits : k + length ts ≤ length xs = omega (arith, h.0.1.0, inv.1, c.args.taps.now.some) in
    let next : k < length c.args.out.now = omega (arith, fits, ap length c.as_slice-width.ensures) in
    let more = written_more ts xs c.args.out.now c.args.taps.now.some k _ c.loop-i.out c.dot.result inv.1 fits next (c.dot.ensures ∙ ap (dot ts) window) inv.4 in
    simp (to_z-of_z, length-set) (inv.0, h.0.0 ∙ inv.1, h.0.1.2 ∙ ap (drop 1) inv.2 ∙ drop-drop 1 k xs ∙ ap (λ n. drop n xs) (sym h.2), omega (arith, fits, h.2), rw (h.1, h.2) more)

pub returns-clause-places : goal.returns-clause-places
returns-clause-places c =
    let xs = c.args.samples.now in
    let ts = shown c.args.taps.now in
    let k = enumerate_count c.loop-i.i-iterator in
    let inv = c.loop-i.invariant in
    let left : length (windows_rest (enumerate_source c.loop-i.i-iterator)) ≡ length xs - k = ap length inv.2 ∙ length-drop k xs in
    let none = c.in-None.ensures.steps.0.1 in
    written_all ts xs c.args.out.now c.args.taps.now.some k _ c.loop-i.out (omega (arith, ap length c.as_slice-width.ensures)) (omega (arith, none, inv.1, inv.3, ap length c.as_slice-width.ensures)) inv.4
