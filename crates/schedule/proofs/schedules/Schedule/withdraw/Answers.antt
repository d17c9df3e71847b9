-- One pass taken out.
use Rattle.std.proofs.Common.{arith}
use Rattle.schedule.specs.Calls.{passes}
use Rattle.schedule.proofs.Standing.{standing, standing_removed, held}
use Rattle.schedule.proofs.schedules.Schedule.withdraw.Goals as goal

pub invariant_of-self : goal.invariant_of-self
invariant_of-self c =
    let s = c.args.self.now in
    held _ _ c.remove.ensures (standing_removed (passes s) _ (omega arith) (standing s))
