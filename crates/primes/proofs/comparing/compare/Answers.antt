-- The tables are the same just where the answer is `Equal`, and what tables say is known of all that stands.
use Rattle.std.proofs.Common.{sym, ◌∙◌}
use Rattle.std.proofs.lemmas.Bool.{both_ways}
use Rattle.std.proofs.lemmas.Slice.Eq.{slice_eq-Decides}
use Rattle.scale_space.proofs.Comparing.{records_decide}
use Rattle.scale_space.specs.Equality.{SameTable}
use Rattle.schedule.specs.Calls.{passes}
use Rattle.schedule.proofs.Standing.{standing}
use Rattle.primes.specs.Entries.{entries}
use Rattle.primes.proofs.Verdict.{says_equal, says_different}
use Rattle.primes.proofs.comparing.compare.Goals as goal

pub returns-then-eq : goal.returns-then-eq
returns-then-eq c =
    let x = c.args.x.now in
    let y = c.args.y.now in
    let decides = slice_eq-Decides records_decide (entries c.of-p.result) (entries c.of-q.result) _ c.eq.ensures in
    let same : SameTable (passes x) (passes y) = sym c.of-p.ensures.is ∙ decides.0 c.if-eq.true ∙ c.of-q.ensures.is in
    let s = says_equal (passes x) (passes y) (standing x) (standing y) same in
    record { tables = s.tables; levels = s.levels; samples = s.samples }

pub returns-else-eq : goal.returns-else-eq
returns-else-eq c =
    let x = c.args.x.now in
    let y = c.args.y.now in
    let decides = slice_eq-Decides records_decide (entries c.of-p.result) (entries c.of-q.result) _ c.eq.ensures in
    let differ : SameTable (passes x) (passes y) → ⊥ = λ e. both_ways c.eq.result c.if-eq.false (decides.1 (c.of-p.ensures.is ∙ e ∙ sym c.of-q.ensures.is)) in
    let s = says_different (passes x) (passes y) (standing x) (standing y) differ in
    record { tables = s.tables; levels = s.levels; samples = s.samples }
