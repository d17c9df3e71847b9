-- What a list of fixed room holds.
use Rattle.std.specs.Prelude.{ℕ, List, take}
use Rattle.fixed_list.specs.declared.FixedList.{FixedList}

abbrev pub listed : {T : Type 0} {N : ℕ} → FixedList T N → List T
listed v = take v.len v.items
