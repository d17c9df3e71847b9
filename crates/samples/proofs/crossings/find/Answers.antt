-- The height times the scale fits, and with nothing seen the finder finds all crossings of it.
use Rattle.std.proofs.Common.{sym}
use Rattle.std.proofs.lemmas.Int.{to_z-of_z}
use Rattle.samples.proofs.Crossing.{crossings_all, crossed_all}
use Rattle.samples.proofs.Sizes.{height_fits, height_read}
use Rattle.samples.proofs.Writing.{written_as}
use Rattle.samples.proofs.crossings.find.Goals as goal

pub overflow_mul-finder : goal.overflow_mul-finder
overflow_mul-finder c =
    let f = c.ranges.height in
    height_fits c.args.height c.args.scale f (sym c.if-not-is_scale.ensures) (sym (simp to_z-of_z at c.if-not-is_height.ensures))

pub returns : goal.returns
returns c =
    let f = c.ranges.height in
    let scale_is = sym c.if-not-is_scale.ensures in
    let height_is = sym (simp to_z-of_z at c.if-not-is_height.ensures) in
    let all = crossings_all _ _ c.args.samples.now (height_read c.args.height c.args.scale f scale_is height_is) in
    record {
      answer = crossed_all c.args.samples.now c.args.scale c.args.height _ _ _ scale_is height_is all c.list.ensures.answer;
      places = written_as _ _ c.args.table.now _ c.list.result all c.list.ensures.places;
    }
