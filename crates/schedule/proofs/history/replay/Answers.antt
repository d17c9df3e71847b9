-- One call more, and the laws of the whole.
use Rattle.schedule.proofs.Runs.{replayed_more, replayed_all, lawful}
use Rattle.schedule.proofs.history.replay.Goals as goal

pub loop-call-preserved : goal.loop-call-preserved
loop-call-preserved c =
    replayed_more c.args.history.now c.loop-call.call-index c.call-item.result _ _ c.loop-call-test.true c.call-item.is c.loop-call.invariant c.make.ensures.ends.after

pub returns : goal.returns
returns c =
    record {
      is = replayed_all c.args.history.now c.loop-call.call-index _ c.loop-call-test.false c.loop-call.invariant;
      lawful = lawful c.args.history.now;
    }
