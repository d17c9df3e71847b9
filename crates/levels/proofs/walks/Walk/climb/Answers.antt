-- The levels between are passed one by one.
use Rattle.levels.proofs.Walking.{climbing_none, climbing_more, climbing_all}
use Rattle.levels.proofs.walks.Walk.climb.Goals as goal

pub loop-init : goal.loop-init
loop-init c = climbing_none c.args.self.now

pub loop-preserved : goal.loop-preserved
loop-preserved c = climbing_more c.args.self.now c.loop.self c.step.new.self c.loop.counter c.loop.invariant c.loop-test.true c.step.ensures.climbs

pub returns : goal.returns
returns c = climbing_all c.args.self.now c.loop.self c.loop.counter c.loop.invariant c.loop-test.false
