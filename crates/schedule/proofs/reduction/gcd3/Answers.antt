-- One number more.
use Rattle.std.proofs.Common.{[], ◌∷◌}
use Rattle.scale_space.proofs.Divisors.{common_is, greatest_cons}
use Rattle.schedule.proofs.reduction.gcd3.Goals as goal

pub returns : goal.returns
returns c =
    let ws = c.args.b ∷ c.args.c ∷ [] in
    let r = c.gcd-2.result in
    let g = greatest_cons c.args.a ws c.gcd.result r c.gcd.ensures.greatest c.gcd-2.ensures.greatest in
    record { greatest = g; is = common_is (c.args.a ∷ ws) r g }
