-- The profile is put at the front, and what is then laid on it is the level of the first k passes.
use Rattle.std.proofs.Common.{◌≡◌, length, take, Ok, sym, ap, ◌∙◌, subst, arith}
use Rattle.std.specs.List.{AllByRecursion}
use Rattle.std.proofs.ByRecursion.{All-take}
use Rattle.scale_space.specs.Passes.{Proper, reach, product, level}
use Rattle.scale_space.proofs.Calm.{levels_calm}
use Rattle.schedule.specs.Standing.{Standing}
use Rattle.schedule.proofs.Standing.{standing}
use Rattle.levels.specs.Drawing.{heights_lawful, allowed, drawn, laid}
use Rattle.levels.proofs.Stepping.{product_first}
use Rattle.levels.proofs.Checking.{passed, first_is, front_is, drawn_is, places_are}
use Rattle.levels.proofs.draw.draw.Goals as goal

pub lay_all-requires : goal.lay_all-requires
lay_all-requires c =
    let s = c.args.schedule.now in
    let ps = c.as_slice.result.now in
    let is = c.as_slice.ensures.value in
    let k = c.args.k in
    let hs = c.args.profile.now in
    let old = c.args.work.now in
    let new = c.begin.new.work in
    let same = c.begin.ensures in
    let let_through : Ok c.in_ok-check.field-0 ≡ allowed ps k hs (length old) = c.in_ok-check.ensures ∙ ap (λ qs. allowed qs k hs (length old)) (sym is) in
    let st : Standing ps = subst Standing (sym is) (standing s) in
    let ok = passed ps k hs (length old) c.in_ok-check.field-0 let_through in
    let first = first_is ps k hs old new same in
    record {
      proper = subst (AllByRecursion Proper) (sym first) (All-take Proper k ps st.each);
      bounded = omega (arith, ap product first, product_first k ps st.each, st.bounded);
      long = omega (arith, ap reach first, ap length (front_is ps k hs old new same), ok.long);
      lawful = ap heights_lawful (front_is ps k hs old new same) ∙ ok.lawful;
    }

pub returns : goal.returns
returns c =
    let s = c.args.schedule.now in
    let ps = c.as_slice.result.now in
    let is = c.as_slice.ensures.value in
    let k = c.args.k in
    let hs = c.args.profile.now in
    let old = c.args.work.now in
    let new = c.begin.new.work in
    let same = c.begin.ensures in
    let let_through : Ok c.in_ok-check.field-0 ≡ allowed ps k hs (length old) = c.in_ok-check.ensures ∙ ap (λ qs. allowed qs k hs (length old)) (sym is) in
    record {
      answer = drawn_is ps k hs old new same c.in_ok-check.field-0 c.lay_all.result let_through c.lay_all.ensures.answer ∙ ap (λ qs. drawn qs k hs (length old)) is;
      places = places_are ps k hs old new same c.lay_all.new.work c.lay_all.ensures.places ∙ ap (λ qs. laid (length hs) (level (take k qs) hs).numerators old) is;
      calm = levels_calm _ (standing s).each;
    }

pub returns-in_err-check-clause-calm : goal.returns-in_err-check-clause-calm
returns-in_err-check-clause-calm c = levels_calm _ (standing c.args.schedule.now).each
