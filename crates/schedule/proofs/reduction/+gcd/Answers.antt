-- Euclid's step keeps the greatest common divisor.
use Rattle.std.proofs.Common.{[], ◌∷◌, sym, subst}
use Rattle.scale_space.specs.Divisors.{Greatest}
use Rattle.scale_space.proofs.Divisors.{common_is, greatest_end, greatest_step}
use Rattle.schedule.proofs.reduction.+gcd.Goals as goal

pub returns-then-b-eq0-clause-is : goal.returns-then-b-eq0-clause-is
returns-then-b-eq0-clause-is t c =
    let a = c.args.a in
    common_is (a ∷ c.args.b ∷ []) a (subst (λ b. Greatest (a ∷ b ∷ []) a) (sym c.if-b-eq0.true) (greatest_end a))

pub returns-else-b-eq0-clause-greatest : goal.returns-else-b-eq0-clause-greatest
returns-else-b-eq0-clause-greatest t c = greatest_step c.args.a c.args.b c.gcd.result c.gcd.ensures.greatest

pub returns-else-b-eq0-clause-is : goal.returns-else-b-eq0-clause-is
returns-else-b-eq0-clause-is t c =
    common_is (c.args.a ∷ c.args.b ∷ []) c.gcd.result (greatest_step c.args.a c.args.b c.gcd.result c.gcd.ensures.greatest)
