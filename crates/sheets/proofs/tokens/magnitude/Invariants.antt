-- Digits from the left, with a top.
use Rattle.std.proofs.Common.{◌≡◌, ◌^◌, ◌<◌, drop}
use Rattle.sheets.proofs.Digits.{reads}
use Rattle.sheets.proofs.tokens.magnitude.Given as goal

abbrev pub invariant-loop-byte : goal.invariant-loop-byte
invariant-loop-byte l = (l.n < 2 ^ 32) × (reads l.n (drop l.byte-index l.text) ≡ reads 0 l.text)
