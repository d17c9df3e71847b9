-- A height out of its place or range, which the cap does not bring into it.
use Rattle.std.proofs.Common.{◌+◌, w64, SFits, rules}
use Rattle.std.proofs.lemmas.Int.{to_z-of_z}
use Rattle.sheets.proofs.HeightLines.{height_refused}
use Rattle.sheets.proofs.profiles.height_of.Goals as goal

pub returns-else-fits : goal.returns-else-fits
returns-else-fits c =
    let f : SFits w64 c.in_ok-station.height = search rules in
    height_refused c.args.line.now c.args.k (c.args.k + 2) c.in_ok-station.station c.in_ok-station.height c.in_ok-station.ensures
    _ (to_z-of_z w64 c.in_ok-station.height f) c.if-fits.ensures
