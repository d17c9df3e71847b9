-- The later items moved up, and the new one put before them.
use Rattle.std.proofs.Common.{◌∙◌, arith}
use Rattle.fixed_list.proofs.Lengths.{length_listed}
use Rattle.fixed_list.proofs.Moves.{take_set_in, inserted}
use Rattle.fixed_list.proofs.FixedList.insert.Goals as goal

pub returns : goal.returns
returns g c =
    let s = c.args.self.now in
    let n = length_listed s in
    rw c.copy_within.ensures.after (take_set_in _ _ c.args.place c.args.item ∙ inserted s.items c.args.place s.len c.args.item (omega (arith, c.requires.place)) (omega (arith, c.requires.room, s.full)))
