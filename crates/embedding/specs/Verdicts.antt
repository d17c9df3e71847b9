-- What is replied where two schedule sheets are compared.
use Rattle.std.specs.Prelude.{◌≡◌, ℕ, ◌≤◌, ◌↔◌, List, Ok, Err, Result}
use Rattle.scale_space.specs.declared.passes.Pass.{Pass}
use Rattle.scale_space.specs.Equality.{SameTable, SameLevels, SameSamples}
use Rattle.sheets.specs.declared.faults.SheetFault.{SheetFault}
use Rattle.embedding.specs.declared.replies.Reply.{Reply}
use Rattle.embedding.specs.declared.replies.Obstacle.TheVariants.{First, Second}
use Rattle.embedding.specs.Replies.{done, told}

-- n is 1 just where the prime tables are the same, which is where no profile tells the passes apart, and else 0
pub record Verdict (ps qs : List Pass) (n : ℕ) : Type 0 where
  pub either : n ≤ 1
  pub tables : (n ≡ 1) ↔ SameTable ps qs
  pub levels : (n ≡ 1) ↔ SameLevels ps qs
  pub samples : (n ≡ 1) ↔ SameSamples ps qs

-- what is replied for two sheets that give this: the first sheet's fault comes first
abbrev pub Compares : Result (List Pass) SheetFault → Result (List Pass) SheetFault → Reply → Type 0
Compares (Err fault) t reply = reply ≡ told (First fault)
Compares (Ok ps) (Err fault) reply = reply ≡ told (Second fault)
Compares (Ok ps) (Ok qs) reply = (n : ℕ) × (reply ≡ done n) × Verdict ps qs n
