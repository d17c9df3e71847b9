-- The table has a place for each sample, so all turns are found.
use Rattle.std.proofs.Common.{◌≡◌, ◌++◌, true, map, take, length, sym, ap, ◌∙◌, subst, arith}
use Rattle.std.proofs.lemmas.List.{length-map}
use Rattle.std.specs.List.{flat_map, AllByRecursion}
use Rattle.levels.specs.Walks.{come_to}
use Rattle.scale_space.specs.Turns.{turns}
use Rattle.samples.specs.Answers.{heights_fit}
use Rattle.listing.specs.Listing.{listing, turn_line, names, height_line, turn_rounded}
use Rattle.listing.proofs.RoundedTurns.{Small, rounded_lines}
use Rattle.listing.proofs.Turning.{turns_few}
use Rattle.listing.proofs.Finding.{turns_small, found_never, found_part}
use Rattle.listing.proofs.Puts.{answered_as}
use Rattle.listing.proofs.listings.list.Goals as goal

pub unreachable-requires : goal.unreachable-requires
unreachable-requires c = found_never c.numerators.result.now 2048 c.numerators.ensures.short c.in_default.field-0 c.in_default.ensures.answer

pub round_turns-requires-clause-small : goal.round_turns-requires-clause-small
round_turns-requires-clause-small c =
    let xs = c.numerators.result.now in
    let part = found_part xs 2048 c.numerators.ensures.short c.in-Ok.count c.in-Ok.ensures.answer _ c.find.new.table c.in-Ok.ensures.places in
    let fit : heights_fit c.scale.result xs ≡ true = ap (λ s. heights_fit s xs) c.scale.ensures.value ∙ c.numerators.ensures.fit in
    subst (AllByRecursion (Small c.scale.result)) (sym part) (turns_small c.scale.result xs fit)

pub write_heights-requires : goal.write_heights-requires
write_heights-requires c =
    let xs = c.numerators.result.now in
    let part = found_part xs 2048 c.numerators.ensures.short c.in-Ok.count c.in-Ok.ensures.answer _ c.find.new.table c.in-Ok.ensures.places in
    omega (arith, ap length c.round_turns.ensures, length-map (take c.in-Ok.count c.find.new.table) (turn_rounded c.scale.result), ap length part, turns_few xs, c.numerators.ensures.short)

pub returns : goal.returns
returns c =
    let l = come_to c.args.walk.now in
    let k = c.level.result in
    let s = c.scale.result in
    let xs = c.numerators.result.now in
    let part = found_part xs 2048 c.numerators.ensures.short c.in-Ok.count c.in-Ok.ensures.answer _ c.find.new.table c.in-Ok.ensures.places in
    let text : names k ++ flat_map (height_line k) c.round_turns.new.turns ≡ names k ++ flat_map (turn_line k s) (turns xs) =
    ap (λ ts. names k ++ flat_map (height_line k) ts) (c.round_turns.ensures ∙ ap (map (turn_rounded s)) part) ∙ ap (λ t. names k ++ t) (rounded_lines k s (turns xs)) in
    let is : names k ++ flat_map (turn_line k s) (turns xs) ≡ listing c.args.walk.now.level l = λ i. names (c.level.ensures i) ++ flat_map (turn_line (c.level.ensures i) (c.scale.ensures.value i)) (turns (c.numerators.ensures.value i)) in
    let a = answered_as _ _ c.args.out.now (text ∙ is) (record { answers = c.write_heights.ensures.answers; writes = c.write_heights.ensures.writes }) in
    record { answers = a.answers; writes = a.writes }
