-- Where an input is parted.
use Rattle.std.proofs.Common.{◌≡◌, true, false, Some, None, rules, arith}
use Rattle.std.proofs.lemmas.Iterator.{first_from_Range}
use Rattle.command.specs.Parting.{empty_at}
use Rattle.command.proofs.Partings.{parted_first, parted_none}
use Rattle.command.proofs.parting.part.Goals as goal

pub returns-in-None : goal.returns-in-None
returns-in-None c =
    let bs = c.args.input.now in
    let off = first_from_Range _ _ _ None (λ k. empty_at bs k ≡ true) (λ k. empty_at bs k ≡ false) c.in-None.ensures.ran (λ x q h. search rules) (λ x q h. search rules) in
    parted_none bs (λ k l. off k (omega arith) l)

pub returns-in-Some : goal.returns-in-Some
returns-in-Some c =
    let bs = c.args.input.now in
    let here = first_from_Range _ _ _ (Some c.in-Some.i) (λ k. empty_at bs k ≡ true) (λ k. empty_at bs k ≡ false) c.in-Some.ensures.ran (λ x q h. search rules) (λ x q h. search rules) in
    parted_first bs c.in-Some.i here.1 here.2 (λ k l. here.3 k (omega arith) l)
