-- The turns of samples in a table with a place for each sample.
use Rattle.std.proofs.Common.{◌≡◌, ℕ, ◌≤◌, true, List, ◌++◌, length, take, drop, ℤ, Ok, Err, Result, ap, sym, ◌∙◌, arith}
use Rattle.std.specs.List.{AllByRecursion}
use Rattle.std.proofs.ByRecursion.{All-weaker}
use Rattle.std.proofs.lemmas.List.{take_at}
use Rattle.std.proofs.lemmas.Bool.{le-leb, cond-true}
use Rattle.scale_space.specs.declared.turns.Turn.{Turn}
use Rattle.scale_space.specs.Turns.{turns}
use Rattle.samples.specs.declared.refusals.Refusal.{Refusal}
use Rattle.samples.specs.Answers.{listed, heights_fit}
use Rattle.listing.proofs.RoundedTurns.{Small}
use Rattle.listing.proofs.Turning.{turns_few, turns_each, all_fit}

pub turns_small : (s : ℕ) (xs : List ℤ) → heights_fit s xs ≡ true → AllByRecursion (Small s) (turns xs)
turns_small s xs e = All-weaker _ (Small s) (λ t h. h.1) (turns xs) (turns_each _ xs (all_fit s xs e))

module _ (xs : List ℤ) (room : ℕ) (enough : length xs ≤ room) where
  all_listed : listed (turns xs) room ≡ Ok (length (turns xs))
  all_listed = cond-true _ _ _ (le-leb (length (turns xs)) room (omega (arith, turns_few xs)))

  pub found_never : (why : Refusal) → Err why ≡ listed (turns xs) room → ⊥
  found_never why e =
      let f : ◌≡◌ {A = Result ℕ Refusal} (Err why) (Ok (length (turns xs))) = e ∙ all_listed in
      let z : ◌≡◌ {A = ℕ} 0 1 = cc in
      omega arith

  module _ (count : ℕ) (e : Ok count ≡ listed (turns xs) room) where
    pub found_count : count ≡ length (turns xs)
    found_count =
        let f : ◌≡◌ {A = Result ℕ Refusal} (Ok count) (Ok (length (turns xs))) = e ∙ all_listed in
        cc

    -- `table[..count]` as the checker has it
    pub found_part : (old table : List Turn) → table ≡ turns xs ++ drop count old → take count table ≡ turns xs
    found_part old table w = ap (take count) w ∙ take_at (turns xs) (drop count old) count (sym found_count)
