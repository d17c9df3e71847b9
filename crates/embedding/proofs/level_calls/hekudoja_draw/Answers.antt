-- What a sheet gives may stand in a schedule, and so its levels are calm.
use Rattle.embedding.proofs.Tallies.{sheet_calm}
use Rattle.embedding.proofs.level_calls.hekudoja_draw.Goals as goal

pub returns-clause-calm : goal.returns-clause-calm
returns-clause-calm c = sheet_calm c.args.schedule.now
