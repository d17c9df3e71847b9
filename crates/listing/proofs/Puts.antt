-- Texts put one before another.
use Rattle.std.proofs.Common.{◌≡◌, ℕ, ◌+◌, ◌-◌, ◌≤◌, List, ◌++◌, length, take, drop, Ok, Result, sym, ap, ◌∙◌, append_assoc, arith}
use Rattle.std.proofs.lemmas.List.{length-append, length-drop, length-take-le, take-take, take-append-le, drop_at}
use Rattle.sheets.specs.declared.faults.SheetFault.{SheetFault}
use Rattle.sheets.specs.Lines.{answer}
use Rattle.listing.specs.Putting.{Roomy, Put}

-- ---- a text before another, b

module _ (a b : List ℕ) {at : ℕ} {out : List ℕ} (room : Roomy (a ++ b) at out) where
  pub room_back : Roomy b at out
  room_back = record { enough = omega (arith, room.enough, length-append a b); within = room.within }

  module _ {first : ℕ} {mid : List ℕ} (p : Put b at out first mid) where
    front_length : length (take (at - length b) out) ≡ at - length b
    front_length = length-take-le (at - length b) out (omega (arith, room.within))

    mid_length : length mid ≡ length out
    mid_length =
        ap length p.bytes
        ∙ length-append (take (at - length b) out) (b ++ drop at out)
        ∙ omega (arith, front_length, length-append a b, length-append b (drop at out), length-drop at out, room.enough, room.within)

    pub room_next : Roomy a first mid
    room_next = record { enough = omega (arith, room.enough, length-append a b, p.place); within = omega (arith, p.place, mid_length, room.within) }

    pub put_next : {last : ℕ} {after : List ℕ} → Put a first mid last after → Put (a ++ b) at out last after
    put_next {last} {after} q =
        let sum = length-append a b in
        let here : first - length a ≡ at - length (a ++ b) = omega (arith, p.place) in
        let low : at - length (a ++ b) ≤ at - length b = omega arith in
        let f = front_length in
        let front : take (first - length a) mid ≡ take (at - length (a ++ b)) out =
        (λ i. take (here i) (p.bytes i))
        ∙ take-append-le (at - length (a ++ b)) (take (at - length b) out) (b ++ drop at out) (omega arith)
        ∙ take-take (at - length (a ++ b)) (at - length b) out low in
        let back : drop first mid ≡ b ++ drop at out =
        (λ i. drop (p.place i) (p.bytes i)) ∙ drop_at (take (at - length b) out) (b ++ drop at out) (at - length b) f in
        record {
          place = q.place ∙ here;
          bytes = q.bytes ∙ (λ i. front i ++ (a ++ back i)) ∙ ap (λ l. take (at - length (a ++ b)) out ++ l) (sym (append_assoc a b (drop at out)));
        }

-- ---- six texts, put from the last to the first

abbrev pub six : List ℕ → List ℕ → List ℕ → List ℕ → List ℕ → List ℕ → List ℕ
six a b c d e f = a ++ (b ++ (c ++ (d ++ (e ++ f))))

pub six_length : (a b c d e f : List ℕ) → length (six a b c d e f) ≡ length a + (length b + (length c + (length d + (length e + length f))))
six_length a b c d e f = simp length-append

pub record RoomOfSix (a b c d e f : List ℕ) (at : ℕ) (out : List ℕ) : Type 0 where
  pub all : Roomy (six a b c d e f) at out

pub room_of_six : (a b c d e f : List ℕ) {at : ℕ} {out : List ℕ} → Roomy (six a b c d e f) at out → RoomOfSix a b c d e f at out
room_of_six a b c d e f r = record { all = r }

module _ {a b c d e f : List ℕ} {at : ℕ} {out : List ℕ} (room : RoomOfSix a b c d e f at out) where
  room_b : Roomy (b ++ (c ++ (d ++ (e ++ f)))) at out
  room_b = room_back a _ room.all

  room_c : Roomy (c ++ (d ++ (e ++ f))) at out
  room_c = room_back b _ room_b

  room_d : Roomy (d ++ (e ++ f)) at out
  room_d = room_back c _ room_c

  room_e : Roomy (e ++ f) at out
  room_e = room_back d _ room_d

  module _ {n₁ : ℕ} {o₁ : List ℕ} (p₁ : Put f at out n₁ o₁) where
    module _ {n₂ : ℕ} {o₂ : List ℕ} (p₂ : Put e n₁ o₁ n₂ o₂) where
      two : Put (e ++ f) at out n₂ o₂
      two = put_next e f room_e p₁ p₂

      module _ {n₃ : ℕ} {o₃ : List ℕ} (p₃ : Put d n₂ o₂ n₃ o₃) where
        three : Put (d ++ (e ++ f)) at out n₃ o₃
        three = put_next d _ room_d two p₃

        module _ {n₄ : ℕ} {o₄ : List ℕ} (p₄ : Put c n₃ o₃ n₄ o₄) where
          four : Put (c ++ (d ++ (e ++ f))) at out n₄ o₄
          four = put_next c _ room_c three p₄

          pub room_fifth : Roomy b n₄ o₄
          room_fifth = room_next b _ room_b four

          module _ {n₅ : ℕ} {o₅ : List ℕ} (p₅ : Put b n₄ o₄ n₅ o₅) where
            five : Put (b ++ (c ++ (d ++ (e ++ f)))) at out n₅ o₅
            five = put_next b _ room_b four p₅

            pub room_sixth : Roomy a n₅ o₅
            room_sixth = room_next a _ room.all five

            pub put_six : {n₆ : ℕ} {o₆ : List ℕ} → Put a n₅ o₅ n₆ o₆ → Put (six a b c d e f) at out n₆ o₆
            put_six p₆ = put_next a _ room.all five p₆

-- ---- what is answered, and what `out` holds then

pub record Answered (text out : List ℕ) (r : Result ℕ SheetFault) (after : List ℕ) : Type 0 where
  pub answers : r ≡ (answer (Ok text) out).0
  pub writes : after ≡ (answer (Ok text) out).1

pub answered_as : (a b out : List ℕ) {r : Result ℕ SheetFault} {after : List ℕ} → a ≡ b → Answered a out r after → Answered b out r after
answered_as a b out e p = record { answers = p.answers ∙ ap (λ t. (answer (Ok t) out).0) e; writes = p.writes ∙ ap (λ t. (answer (Ok t) out).1) e }
