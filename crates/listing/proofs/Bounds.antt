-- How long the text of a level can be.
use Rattle.std.proofs.Common.{◌≡◌, ℕ, suc, ◌+◌, ◌*◌, ◌<◌, ◌≤◌, Bool, true, false, cond, eqb, List, [], ◌∷◌, length, ℤ, pos, negsuc, nat_abs, ◌≤ℤ◌, codes, arith}
use borrow.Author.Differences.{product_is, ints}
use Rattle.std.specs.Fmt.{signed_decimal}
use Rattle.std.specs.List.{flat_map, AllByRecursion}
use Rattle.std.proofs.lemmas.Fmt.{length-decimal-le}
use Rattle.std.proofs.ByRecursion.{All-weaker}
use Rattle.std.proofs.lemmas.List.{length-append}
use Rattle.std.proofs.lemmas.Bool.{leb-true, and_parts}
use Rattle.scale_space.specs.declared.turns.TurnKind.{TurnKind}
use Rattle.scale_space.specs.declared.turns.TurnKind.TheVariants.{Ridge, Hollow}
use Rattle.scale_space.specs.Levels.{Level}
use Rattle.scale_space.specs.Rounding.{rounded}
use Rattle.scale_space.specs.Turns.{turns}
use Rattle.scale_space.proofs.Rounding.{rounds_at_most, rounds_at_least, rounded_rounds}
use Rattle.samples.specs.Answers.{scale_lawful, heights_fit}
use Rattle.listing.specs.Listing.{row, turn_line, names, listing}
use Rattle.listing.proofs.Rows.{between_commas, row_length}
use Rattle.listing.proofs.Turning.{turns_few, turns_each, all_fit}

-- a height in range stays in range when it is rounded
rounded_small : (s : ℕ) (x : ℤ) → 0 < s → nat_abs x ≤ 100000 * s → nat_abs (rounded s x) ≤ 100000
rounded_small s x some small =
    let high : rounded s x ≤ℤ pos 100000 = rounds_at_most s (rounded s) (rounded_rounds s some) (pos 100000) x (omega (arith, ints)) in
    let low : negsuc 99999 ≤ℤ rounded s x = rounds_at_least s (rounded s) (rounded_rounds s some) (negsuc 99999) x (omega (arith, ints, product_is (negsuc 99999) (pos s))) in
    omega (arith, ints)

signed_small : (h : ℤ) → nat_abs h ≤ 100000 → length (signed_decimal h) ≤ 7
signed_small (pos n) l = omega (arith, length-decimal-le 6 n (omega arith) (omega arith) (omega arith))
signed_small (negsuc n) l = omega (arith, length-decimal-le 6 (suc n) (omega arith) (omega arith) (omega arith))

word_small : (kind : TurnKind) → length (between_commas kind) ≤ 8
word_small Ridge = omega arith
word_small Hollow = omega arith

row_small : (k p : ℕ) (kind : TurnKind) (h : ℤ) → k ≤ 24 → p < 2048 → nat_abs h ≤ 100000 → length (row k p kind h) ≤ 23
row_small k p kind h few near small =
    omega (
      arith,
      row_length k p kind h,
      signed_small h small,
      word_small kind,
      length-decimal-le 2 k (omega arith) (omega arith) (omega arith),
      length-decimal-le 4 p (omega arith) (omega arith) (omega arith),
    )

names_small : (k : ℕ) → length (names k) ≤ 24
names_small k = go (eqb k 0)
  where
    go : (b : Bool) → length (cond b (codes "level,place,kind,height\n") []) ≤ 24
    go true = omega arith
    go false = omega arith

joined_small : {X : Type 0} (line : X → List ℕ) (m : ℕ) (xs : List X) → AllByRecursion (λ x. length (line x) ≤ m) xs → length (flat_map line xs) ≤ m * length xs
joined_small line m [] h = omega arith
joined_small line m (x ∷ xs) h = omega (arith, length-append (line x) (flat_map line xs), h.0, joined_small line m xs h.1)

-- a level up to 24 of up to 2,048 samples in range
pub listing_bound : (k : ℕ) (l : Level) → k ≤ 24 → length l.numerators ≤ 2048 → scale_lawful l.scale ≡ true → heights_fit l.scale l.numerators ≡ true → length (listing k l) ≤ 24 + 23 * length l.numerators
listing_bound k l few short lawful fits =
    let xs = l.numerators in
    let s = l.scale in
    let some : 0 < s = omega (arith, leb-true 1 s (and_parts _ _ lawful).0) in
    let each : AllByRecursion (λ t. length (turn_line k s t) ≤ 23) (turns xs) =
    All-weaker (λ t. (t.place < length xs) × (nat_abs t.numerator ≤ 100000 * s)) (λ t. length (turn_line k s t) ≤ 23)
    (λ t h. row_small k t.place t.kind (rounded s t.numerator) few (omega (arith, h.0)) (rounded_small s t.numerator some h.1)) (turns xs) (turns_each _ xs (all_fit s xs fits)) in
    omega (arith, length-append (names k) (flat_map (turn_line k s) (turns xs)), names_small k, joined_small (turn_line k s) 23 (turns xs) each, turns_few xs)
