-- A turn's line as six texts.
use Rattle.std.proofs.Common.{◌≡◌, ℕ, ◌+◌, List, ◌++◌, length, ℤ, codes, decimal, sym, ap, ◌∙◌, subst, append_assoc, arith}
use Rattle.std.specs.Fmt.{signed_decimal}
use Rattle.scale_space.specs.declared.turns.Turn.{Turn}
use Rattle.scale_space.specs.declared.turns.TurnKind.{TurnKind}
use Rattle.listing.specs.Listing.{kind_word, row, height_line}
use Rattle.listing.specs.Putting.{Roomy, Put}
use Rattle.listing.proofs.Puts.{six, six_length, RoomOfSix}

-- a kind's word and the commas beside it
abbrev pub between_commas : TurnKind → List ℕ
between_commas kind = codes "," ++ (kind_word kind ++ codes ",")

row_is : (k p : ℕ) (kind : TurnKind) (h : ℤ) → six (decimal k) (codes ",") (decimal p) (between_commas kind) (signed_decimal h) (codes "\n") ≡ row k p kind h
row_is k p kind h = ap (λ l. decimal k ++ (codes "," ++ (decimal p ++ (codes "," ++ l)))) (append_assoc (kind_word kind) (codes ",") (signed_decimal h ++ codes "\n"))

module _ (k : ℕ) (t : Turn) where
  line_is : six (decimal k) (codes ",") (decimal t.place) (between_commas t.kind) (signed_decimal t.numerator) (codes "\n") ≡ height_line k t
  line_is = row_is k t.place t.kind t.numerator

  pub line_room : {at : ℕ} {out : List ℕ} → Roomy (height_line k t) at out → RoomOfSix (decimal k) (codes ",") (decimal t.place) (between_commas t.kind) (signed_decimal t.numerator) (codes "\n") at out
  line_room {at} {out} r = record { all = subst (λ l. Roomy l at out) (sym line_is) r }

  pub line_put : {at first : ℕ} {out after : List ℕ} → Put (six (decimal k) (codes ",") (decimal t.place) (between_commas t.kind) (signed_decimal t.numerator) (codes "\n")) at out first after → Put (height_line k t) at out first after
  line_put {at} {first} {out} {after} q = subst (λ l. Put l at out first after) line_is q

pub row_length : (k p : ℕ) (kind : TurnKind) (h : ℤ) → length (row k p kind h) ≡ length (decimal k) + length (decimal p) + length (signed_decimal h) + length (between_commas kind) + 2
row_length k p kind h = ap length (sym (row_is k p kind h)) ∙ six_length (decimal k) (codes ",") (decimal p) (between_commas kind) (signed_decimal h) (codes "\n") ∙ omega arith
