-- Its row is pairs piled, at any order.
use Rattle.std.proofs.Common.{rules}
use Rattle.smoother.specs.Row.{row_pairs}
use Rattle.smoother.proofs.binomial.Binomial.new.Goals as goal

pub returns-then-order-gt-HIGHEST_ORDER : goal.returns-then-order-gt-HIGHEST_ORDER
returns-then-order-gt-HIGHEST_ORDER c = record { answer = search rules; taps = row_pairs c.args.order }

pub returns : goal.returns
returns c = record { answer = search rules; taps = row_pairs c.args.order }
