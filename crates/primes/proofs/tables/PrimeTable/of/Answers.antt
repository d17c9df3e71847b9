-- Each pass finds room, and in the end all are in the table.
use Rattle.std.proofs.Common.{◌≡◌, length, take, sym, ap, ◌∙◌, subst, arith}
use Rattle.std.proofs.lemmas.List.{length-take-le, take_all}
use Rattle.scale_space.specs.Primes.{primes}
use Rattle.scale_space.specs.Tables.{table, Tabulates}
use Rattle.scale_space.proofs.Tables.{table_tabulates}
use Rattle.schedule.specs.Calls.{passes}
use Rattle.primes.specs.Counts.{counted}
use Rattle.primes.specs.Entries.{entries}
use Rattle.primes.proofs.Taking.{counted_le}
use Rattle.primes.proofs.tables.PrimeTable.of.Goals as goal

pub take-requires-clause-room : goal.take-requires-clause-room
take-requires-clause-room c =
    let all = c.as_slice-pass-items in
    let i = c.loop-pass.pass-index in
    omega (arith, ap counted c.loop-pass.invariant, counted_le (take i all.result.now), length-take-le i all.result.now (omega arith), ap length all.ensures.value, all.ensures.standing.short)

pub returns-clause-tabulates : goal.returns-clause-tabulates
returns-clause-tabulates c =
    let ps = passes c.args.schedule.now in
    let is : entries c.loop-pass.table ≡ table ps =
    c.loop-pass.invariant ∙ ap table (take_all c.loop-pass.pass-index c.as_slice-pass-items.result.now c.loop-pass-test.false ∙ c.as_slice-pass-items.ensures.value) in
    subst (Tabulates (primes ps)) (sym is) (table_tabulates ps)
