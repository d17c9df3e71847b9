-- When two lists of passes do the same to every profile.
use Rattle.std.specs.Prelude.{◌≡◌, ◌<◌, ◌↔◌, List, length, ℤ}
use Rattle.scale_space.specs.declared.passes.Pass.{Pass}
use Rattle.scale_space.specs.Levels.{Level, Agree}
use Rattle.scale_space.specs.Passes.{reach, level, Profile}
use Rattle.scale_space.specs.Tables.{table}

-- the last levels from every lawful profile that is longer than both reaches are related so
abbrev pub Always : (Level → Level → Type 0) → List Pass → List Pass → Type 0
Always R ps qs = (hs : List ℤ) → Profile hs → reach ps < length hs → reach qs < length hs → R (level ps hs) (level qs hs)

-- no profile tells them apart: the last levels have the same numerators, so the same length, and the same scale
abbrev pub SameLevels : List Pass → List Pass → Type 0
SameLevels = Always (λ l m. l ≡ m)

-- the last levels agree in length and as fractions
abbrev pub SameSamples : List Pass → List Pass → Type 0
SameSamples = Always Agree

abbrev pub SameTable : List Pass → List Pass → Type 0
SameTable ps qs = table ps ≡ table qs

-- the three readings of "equal" are one
pub record Equality (ps qs : List Pass) : Type 0 where
  pub levels : SameTable ps qs ↔ SameLevels ps qs
  pub samples : SameTable ps qs ↔ SameSamples ps qs
