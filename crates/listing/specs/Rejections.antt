-- The line that tells why nothing was listed: what was refused, the refusal's number, and the line at fault, or 0.
use Rattle.std.specs.Prelude.{ℕ, List, ◌++◌, codes, decimal}
use Rattle.samples.specs.Refusals.{refusal_number}
use Rattle.sheets.specs.Faults.{fault_number, fault_line}
use Rattle.listing.specs.declared.refusal_lines.Rejection.{Rejection}
use Rattle.listing.specs.declared.refusal_lines.Rejection.TheVariants.{Input, Schedule, Profile, Draw}

abbrev pub rejection_word : Rejection → List ℕ
rejection_word Input = codes "input"
rejection_word (Schedule fault) = codes "schedule"
rejection_word (Profile fault) = codes "profile"
rejection_word (Draw why) = codes "draw"

abbrev pub rejection_number : Rejection → ℕ
rejection_number Input = 24
rejection_number (Schedule fault) = fault_number fault
rejection_number (Profile fault) = fault_number fault
rejection_number (Draw why) = refusal_number why

-- the line of the sheet that is at fault
abbrev pub rejected_at : Rejection → ℕ
rejected_at Input = 0
rejected_at (Schedule fault) = fault_line fault
rejected_at (Profile fault) = fault_line fault
rejected_at (Draw why) = 0

abbrev pub told : List ℕ → ℕ → ℕ → List ℕ
told word n k = word ++ (codes "," ++ (decimal n ++ (codes "," ++ (decimal k ++ codes "\n"))))

abbrev pub rejection_line : Rejection → List ℕ
rejection_line r = told (rejection_word r) (rejection_number r) (rejected_at r)
