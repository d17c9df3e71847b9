-- Lines one after another: how many bytes they have, and how they are put from the last to the first.
use Rattle.std.proofs.Common.{◌≡◌, ℕ, ◌+◌, ◌-◌, ◌<◌, ◌≤◌, List, [], ◌∷◌, ◌++◌, length, get_or, take, drop, sym, ap, ◌∙◌, arith}
use Rattle.std.specs.List.{flat_map}
use Rattle.std.proofs.lemmas.List.{length-append, take-append-drop, at_drop_more, at_drop_all}
use Rattle.listing.specs.Putting.{Roomy, Put}
use Rattle.listing.proofs.Puts.{room_next, put_next}

-- nothing was put
pub put_nothing : (at : ℕ) (out : List ℕ) → Put [] at out at out
put_nothing at out =
    let all : at ≡ at - 0 = omega arith in
    record { place = all; bytes = sym (take-append-drop at out) ∙ ap (λ n. take n out ++ drop at out) all }

module _ {X : Type 0} (line : X → List ℕ) where
  longer : (xs ys : List X) → length (flat_map line ys) ≤ length (flat_map line (xs ++ ys))
  longer [] ys = omega arith
  longer (x ∷ xs) ys = omega (arith, longer xs ys, length-append (line x) (flat_map line (xs ++ ys)))

  module _ (xs : List X) where
    -- ---- how many bytes
    pub size_more : (size i : ℕ) (d : X) → i < length xs → size + length (flat_map line (drop i xs)) ≡ length (flat_map line xs) → size + length (line (get_or xs i d)) + length (flat_map line (drop (i + 1) xs)) ≡ length (flat_map line xs)
    size_more size i d l e = omega (arith, ap length (at_drop_more (flat_map line) xs i d l), length-append (line (get_or xs i d)) (flat_map line (drop (i + 1) xs)))

    pub size_all : (size i : ℕ) → length xs ≤ i → size + length (flat_map line (drop i xs)) ≡ length (flat_map line xs) → size ≡ length (flat_map line xs)
    size_all size i l e = omega (arith, ap length (at_drop_all (flat_map line) xs i l))

  -- ---- from the last to the first: the lines of zs stand, and that of x comes next
  module _ (xs : List X) (x : X) (zs : List X) {end at : ℕ} {was out : List ℕ} (room : Roomy (flat_map line (xs ++ x ∷ zs)) end was) (p : Put (flat_map line zs) end was at out) where
    room_more : Roomy (line x ++ flat_map line zs) end was
    room_more = record { enough = omega (arith, room.enough, longer xs (x ∷ zs)); within = room.within }

    pub line_room_next : Roomy (line x) at out
    line_room_next = room_next _ _ room_more p

    pub lines_more : {first : ℕ} {after : List ℕ} → Put (line x) at out first after → Put (flat_map line (x ∷ zs)) end was first after
    lines_more q = put_next _ _ room_more p q
