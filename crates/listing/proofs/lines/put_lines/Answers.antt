-- Each line is put before those that stand.
use Rattle.std.proofs.Common.{◌≡◌, [], ◌∷◌, ◌++◌, sym, refl, ap, ◌∙◌, subst, append_assoc, append-nil, rules}
use Rattle.std.specs.List.{flat_map}
use Rattle.std.proofs.lemmas.List.{nil_from_length}
use Rattle.listing.specs.Listing.{height_line}
use Rattle.listing.specs.Putting.{Roomy, Put}
use Rattle.listing.proofs.Lining.{put_nothing, line_room_next, lines_more}
use Rattle.listing.proofs.lines.put_lines.Goals as goal

pub loop-turn-init : goal.loop-turn-init
loop-turn-init c =
    let all : c.into_iter-turn-iterator.result.iter.rest.now ≡ c.args.turns.now = search rules in
    (tt, tt, refl, ([], sym (append-nil _ ∙ all), put_nothing c.args.pen.now.at c.args.pen.now.out.now))

pub put_line-requires : goal.put_line-requires
put_line-requires c =
    let line = height_line c.args.level in
    let (zs, is, put) = c.loop-turn.invariant.3 in
    let whole : c.args.turns.now ≡ c.next.new.self.iter.rest.now ++ c.in-Some.turn.now ∷ zs = is ∙ ap (λ r. r ++ zs) c.in-Some.ensures.steps ∙ append_assoc c.next.new.self.iter.rest.now (c.in-Some.turn.now ∷ []) zs in
    line_room_next line c.next.new.self.iter.rest.now c.in-Some.turn.now zs (subst (λ ts. Roomy (flat_map line ts) c.args.pen.now.at c.args.pen.now.out.now) whole c.requires) put

pub loop-turn-preserved : goal.loop-turn-preserved
loop-turn-preserved c =
    let line = height_line c.args.level in
    let (zs, is, put) = c.loop-turn.invariant.3 in
    let whole : c.args.turns.now ≡ c.next.new.self.iter.rest.now ++ c.in-Some.turn.now ∷ zs = is ∙ ap (λ r. r ++ zs) c.in-Some.ensures.steps ∙ append_assoc c.next.new.self.iter.rest.now (c.in-Some.turn.now ∷ []) zs in
    let room = subst (λ ts. Roomy (flat_map line ts) c.args.pen.now.at c.args.pen.now.out.now) whole c.requires in (
      tt,
      tt,
      c.put_line.ensures.same_reference ∙ c.loop-turn.invariant.2,
      (c.in-Some.turn.now ∷ zs, whole, lines_more line c.next.new.self.iter.rest.now c.in-Some.turn.now zs room put c.put_line.ensures.put),
    )

pub returns : goal.returns
returns c =
    let (zs, is, put) = c.loop-turn.invariant.3 in
    let whole : c.args.turns.now ≡ zs = is ∙ ap (λ r. r ++ zs) (nil_from_length _ c.in-None.ensures.steps.0) in
    record {
      same_reference = c.loop-turn.invariant.2;
      put = subst (λ ts. Put (flat_map (height_line c.args.level) ts) c.args.pen.now.at c.args.pen.now.out.now c.loop-turn.pen.at c.loop-turn.pen.out.now) (sym whole) put;
    }
