-- The finder starts level with the first sample, so it finds all turns.
use Rattle.std.proofs.Common.{◌≡◌, get_or, pos, arith, w64, SFits, rules}
use Rattle.std.proofs.lemmas.List.{get_or_past}
use Rattle.std.proofs.lemmas.Int.{to_z-of_z}
use Rattle.samples.proofs.Turning.{turns_all}
use Rattle.samples.proofs.turns.TurnFinder.new.Goals as goal

pub returns : goal.returns
returns c =
    let xs = c.args.samples.now in
    let first : c.unwrap_or.result ≡ get_or xs 0 (pos 0) = grind (arith, c.first.ensures.item.2, get_or_past xs 0 (pos 0)) in
    let f : SFits w64 c.unwrap_or.result = search rules in
    simp to_z-of_z (turns_all xs c.unwrap_or.result first)
