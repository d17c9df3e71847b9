-- The later items moved down.
use Rattle.std.proofs.Common.{arith}
use Rattle.fixed_list.proofs.Lengths.{length_listed}
use Rattle.fixed_list.proofs.Moves.{removed}
use Rattle.fixed_list.proofs.FixedList.remove.Goals as goal

pub returns : goal.returns
returns g c =
    let s = c.args.self.now in
    let n = length_listed s in
    rw c.copy_within.ensures.after (removed s.items c.args.place s.len (omega (arith, c.requires)) (omega (arith, s.full, s.short)))
