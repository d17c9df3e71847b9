-- What the check lets through is sound, and the profile is level 0.
use Rattle.std.proofs.Common.{◌≡◌, length, Ok, sym, refl, rules}
use Rattle.schedule.specs.Calls.{passes}
use Rattle.levels.specs.Drawing.{allowed}
use Rattle.levels.proofs.Walking.{begun_sound, begun_held}
use Rattle.levels.proofs.walks.Walk.new.Goals as goal
use Rattle.levels.proofs.walks.Walk.new.Goals.{After-begin}

lets : (c : goal.After-begin) → allowed (passes c.args.schedule.now) c.args.last c.args.profile.now (length c.args.profile.now) ≡ Ok tt
lets c = sym c.in_ok-check.ensures

pub invariant_of-result : goal.invariant_of-result
invariant_of-result c =
    let full : length c.begin.new.work ≡ 2048 = search rules in
    begun_sound c.args.schedule.now c.args.last c.args.profile.now (lets (goal.at.invariant_of-result c).After-begin) _ c.begin.new.work c.begin.ensures full

pub returns : goal.returns
returns c =
    let ok = lets (goal.at.returns c).After-begin in
    (ok, record { by = refl; to = refl; so_far = refl; holds = begun_held c.args.schedule.now c.args.last c.args.profile.now ok _ c.begin.new.work c.begin.ensures })
