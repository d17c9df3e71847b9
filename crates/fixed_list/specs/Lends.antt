-- What a list ends as, where one of its items is lent.
use Rattle.std.specs.Prelude.{ℕ, slice_set}
use Rattle.std.specs.Borrow.{Lends, Fml, RattleType, MutBor}
use Rattle.std.proofs.lemmas.List.{length-set}
use Rattle.fixed_list.specs.contracts.FixedList.{the_row}

module _ (T N : RattleType) (v : MutBor (the_row T N).Denot) where
  -- once the borrow r ends, the place has the last value written through r
  abbrev pub lends_item : ℕ → MutBor T.Denot → Fml
  lends_item k r = Lends (the_row T N) T v r (λ x. record v.now { items = slice_set v.now.items k x; full = rw (length-set v.now.items k x) v.now.full })
