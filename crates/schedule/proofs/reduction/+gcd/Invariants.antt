-- Each call has a smaller second number.
use Rattle.schedule.proofs.reduction.+gcd.Given as goal

abbrev pub decreases-gcd : goal.decreases-gcd
decreases-gcd l = l.b
