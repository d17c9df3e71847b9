-- The levels of a sheet's schedule are calm, so the numbers never rise.
use Rattle.std.proofs.Common.{ap, ◌∙◌}
use Rattle.embedding.specs.Replies.{reply_to}
use Rattle.embedding.proofs.Tallies.{replied_falls}
use Rattle.embedding.proofs.turn_calls.hekudoja_count_turns.Goals as goal

pub returns : goal.returns
returns c =
    let e = c.tally.ensures in
    let a = c.from.ensures ∙ ap reply_to e.answers in
    record { answers = a; writes = e.writes; falling = replied_falls c.args.schedule.now c.args.heights.now c.args.counts.now _ _ (ap (λ r. r.count) a) e.writes }
