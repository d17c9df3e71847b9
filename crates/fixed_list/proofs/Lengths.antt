-- A list is as long as it says.
use Rattle.std.proofs.Common.{◌≡◌, ℕ, length, arith}
use Rattle.std.proofs.lemmas.List.{length-take-le}
use Rattle.fixed_list.specs.declared.FixedList.{FixedList}
use Rattle.fixed_list.specs.Listed.{listed}

pub length_listed : {T : Type 0} {N : ℕ} (v : FixedList T N) → length (listed v) ≡ v.len
length_listed v = length-take-le v.len v.items (omega (arith, v.full, v.short))
