-- The table has the first records, as far as it has room, and the others are still to be found.
use Rattle.std.proofs.Common.{◌≤◌, drop}
use Rattle.samples.proofs.Writing.{PutInRoom}
use Rattle.samples.proofs.finder.fill.Given as goal

abbrev pub invariant-loop-i : goal.invariant-loop-i
invariant-loop-i g l = record {
  few : l.found ≤ l.i;
  put : PutInRoom (g.F.Finder.finds l.initial.finder 0 l.samples) l.initial.table l.found l.table (g.F.Finder.finds l.finder l.i (drop l.i l.samples));
}
