-- A single pass, a pair and a triple as passes.
use Rattle.std.specs.Prelude.{ℕ}
use Rattle.scale_space.specs.declared.passes.Pass.{Pass}
use Rattle.schedule.specs.declared.singles.Single.{Single}

abbrev pub single_pass : {N : ℕ} → Single N → Pass
single_pass s = s.pass

abbrev pub pair_pass : Single 2 → Pass
pair_pass p = single_pass p

abbrev pub triple_pass : Single 3 → Pass
triple_pass t = single_pass t
