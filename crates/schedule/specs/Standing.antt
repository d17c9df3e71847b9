-- What a list of passes that stands in a schedule is, said with no test.
use Rattle.std.specs.Prelude.{◌^◌, ◌≤◌, List, length}
use Rattle.std.specs.List.{AllByRecursion}
use Rattle.scale_space.specs.declared.passes.Pass.{Pass}
use Rattle.scale_space.specs.Passes.{Proper, product}

pub record Standing (ps : List Pass) : Type 0 where
  pub short : length ps ≤ 24
  pub each : AllByRecursion Proper ps
  pub bounded : product ps ≤ 2 ^ 40
