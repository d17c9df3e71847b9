-- The levels below are counted.
use Rattle.embedding.proofs.Counting.{Counted}
use Rattle.embedding.proofs.turn_calls.put_counts.Given as goal

abbrev pub invariant-loop-count : goal.invariant-loop-count
invariant-loop-count l = Counted l.initial.walk l.walk l.counts l.count-index
