-- The digits of a number, from its logarithm.
use Rattle.std.proofs.Common.{◌≡◌, ◌+◌, MatchOption, rules}
use Rattle.listing.proofs.Widths.{width_of}
use Rattle.listing.proofs.fields.width.Goals as goal

pub returns-clause-size : goal.returns-clause-size
returns-clause-size c =
    let l = c.checked_ilog10.ensures in
    let e : MatchOption c.checked_ilog10.result (c.map_or.result ≡ 1) (λ k. c.map_or.result ≡ k + 1) = search rules in
    width_of c.args.n c.map_or.result c.checked_ilog10.result c.ranges.n.fits l.none l.power_le l.next_power_gt e
