-- What was read and what is left give the whole.
use Rattle.std.proofs.Common.{◌≡◌, ◌+◌, ◌≤◌, [], length}
use Rattle.sheets.specs.Lines.{cut, walked}
use Rattle.sheets.proofs.lines.walk.Given as goal

abbrev pub invariant-loop-rest : goal.invariant-loop-rest
invariant-loop-rest g l =
    (l.k + length l.rest ≤ length l.text)
    × (l.k ≡ length (g.R.ReadsLines.values l.into))
    × (walked g.R.ReadsLines.read l.k (g.R.ReadsLines.values l.into) (cut 10 l.rest) ≡ walked g.R.ReadsLines.read 0 [] (cut 10 l.text))

abbrev pub decreases-loop-rest : goal.decreases-loop-rest
decreases-loop-rest g l = length l.rest
