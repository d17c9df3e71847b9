-- Items put into a buffer one by one: what is written, and what is left to write.
use Rattle.std.proofs.Common.{◌≡◌, ℕ, ◌+◌, ◌<◌, ◌≤◌, List, [], ◌∷◌, ◌++◌, length, get_or, take, drop, set, Result, sym, ap, ◌∙◌, add-zero, arith}
use Rattle.std.proofs.lemmas.List.{append-nil, append_assoc, length-drop, length-take-le, take-append-drop, take_more, drop_more, drop-drop, get_or-drop, set_at}
use Rattle.samples.specs.declared.refusals.Refusal.{Refusal}
use Rattle.samples.specs.Answers.{listed, written}

-- the first n of all items stand in the buffer, which was old, and the others are left
pub record Put {A : Type 0} (all old : List A) (n : ℕ) (buffer left : List A) : Type 0 where
  pub some : n ≤ length all
  pub front : buffer ≡ take n all ++ drop n old
  pub rest : drop n all ≡ left

-- they stand there as long as they have room; those past it are only counted
pub record PutInRoom {A : Type 0} (all old : List A) (n : ℕ) (buffer left : List A) : Type 0 where
  pub some : n ≤ length all
  pub put : n ≤ length old → Put all old n buffer left
  pub rest : drop n all ≡ left

pub put_same : {A : Type 0} (all old : List A) (n : ℕ) (buffer left more : List A) → PutInRoom all old n buffer left → left ≡ more → PutInRoom all old n buffer more
put_same all old n buffer left more p e = record { some = p.some; put = λ l. record { some = p.some; front = (p.put l).front; rest = p.rest ∙ e }; rest = p.rest ∙ e }

-- an item is left, so not all are put
pub put_room : {A : Type 0} (all : List A) (n : ℕ) (left : List A) (x : A) (more : List A) → drop n all ≡ left → left ≡ x ∷ more → n < length all
put_room all n left x more p e = omega (arith, length-drop n all, ap length (p ∙ e))

next_is : {A : Type 0} (all : List A) (n : ℕ) (x : A) (rest : List A) → drop n all ≡ x ∷ rest → get_or all n x ≡ x
next_is all n x rest e = ap (λ k. get_or all k x) (sym (add-zero n)) ∙ sym (get_or-drop n all 0 x) ∙ ap (λ l. get_or l 0 x) e

front_more : {A : Type 0} (all old : List A) (n : ℕ) (x : A) → n < length all → n < length old → get_or all n x ≡ x → set (take n all ++ drop n old) n x ≡ take (n + 1) all ++ drop (n + 1) old
front_more all old n x l m e =
    ap (λ ys. set (take n all ++ ys) n x) (drop_more old n x m)
    ∙ set_at (take n all) (get_or old n x) (drop (n + 1) old) x n (length-take-le n all (omega arith))
    ∙ sym (ap (λ ys. ys ++ drop (n + 1) old) (take_more all n x l ∙ ap (λ y. take n all ++ y ∷ []) e) ∙ append_assoc (take n all) (x ∷ []) (drop (n + 1) old))

pub put_more : {A : Type 0} (all old : List A) (n : ℕ) (buffer left : List A) (x : A) (more : List A) → Put all old n buffer left → left ≡ x ∷ more → n < length old → Put all old (n + 1) (set buffer n x) more
put_more all old n buffer left x more p e l =
    let m = put_room all n left x more p.rest e in
    record {
      some = omega arith;
      front = ap (λ b. set b n x) p.front ∙ front_more all old n x m l (next_is all n x more (p.rest ∙ e));
      rest = sym (drop-drop 1 n all) ∙ ap (drop 1) (p.rest ∙ e);
    }

-- one more item is put, if it has room
pub put_next : {A : Type 0} (all old : List A) (n : ℕ) (buffer left : List A) (x : A) (more : List A) → PutInRoom all old n buffer left → left ≡ x ∷ more → PutInRoom all old (n + 1) (set buffer n x) more
put_next all old n buffer left x more p e =
    let m = put_room all n left x more p.rest e in
    record {
      some = omega arith;
      put = λ l. put_more all old n buffer left x more (p.put (omega arith)) e (omega arith);
      rest = sym (drop-drop 1 n all) ∙ ap (drop 1) (p.rest ∙ e);
    }

-- nothing is left
pub put_count : {A : Type 0} (all old : List A) (n : ℕ) (buffer left : List A) → PutInRoom all old n buffer left → left ≡ [] → n ≡ length all
put_count all old n buffer left p e = omega (arith, p.some, length-drop n all, ap length (p.rest ∙ e))

pub put_all : {A : Type 0} (all old : List A) (n : ℕ) (buffer left : List A) → PutInRoom all old n buffer left → left ≡ [] → n ≤ length old → buffer ≡ all ++ drop n old
put_all all old n buffer left p e l =
    let none : drop n all ≡ [] = p.rest ∙ e in
    let whole : take n all ≡ all = sym (append-nil (take n all)) ∙ ap (λ ys. take n all ++ ys) (sym none) ∙ take-append-drop n all in
    (p.put l).front ∙ ap (λ ys. ys ++ drop n old) whole

-- ---- what a call answers and leaves, where it found all
pub listed_as : {A : Type 0} (found all : List A) (room : ℕ) (r : Result ℕ Refusal) → found ≡ all → r ≡ listed found room → r ≡ listed all room
listed_as found all room r e l = l ∙ ap (λ xs. listed xs room) e

pub written_as : {A : Type 0} (found all old after : List A) (r : Result ℕ Refusal) → found ≡ all → after ≡ written r found old → after ≡ written r all old
written_as found all old after r e w = w ∙ ap (λ xs. written r xs old) e
