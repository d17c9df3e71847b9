-- What stands is what the calls so far left.
use Rattle.std.proofs.Common.{◌≡◌, take}
use Rattle.schedule.specs.Calls.{passes}
use Rattle.schedule.specs.History.{replayed}
use Rattle.schedule.proofs.history.replay.Given as goal

abbrev pub invariant-loop-call : goal.invariant-loop-call
invariant-loop-call l = passes l.schedule ≡ replayed (take l.call-index l.history)
