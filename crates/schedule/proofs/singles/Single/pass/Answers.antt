-- A single pass is proper as it stands.
use Rattle.schedule.proofs.Meaning.{proper_means}
use Rattle.schedule.proofs.singles.Single.pass.Goals as goal

pub returns-clause-proper : goal.returns-clause-proper
returns-clause-proper g c = proper_means c.args.self.now.pass c.args.self.now.stands
