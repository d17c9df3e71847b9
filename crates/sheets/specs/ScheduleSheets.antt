-- What a schedule sheet says.
use Rattle.std.specs.Prelude.{◌≡◌, ℕ, ◌+◌, cond, List, [], ◌∷◌, ◌++◌, length, Some, None, Ok, Err, codes, decimal, Option, Result, ◌==◌}
use Rattle.std.specs.List.{AllByRecursion}
use Rattle.scale_space.specs.declared.passes.Pass.{Pass}
use Rattle.scale_space.specs.declared.passes.Pass.TheVariants.{Pair, Triple}
use Rattle.scale_space.specs.Divisors.{Reduced}
use Rattle.scale_space.specs.Passes.{weights}
use Rattle.samples.specs.declared.refusals.Refusal.{Refusal}
use Rattle.schedule.specs.declared.schedules.Schedule.{Schedule}
use Rattle.schedule.specs.Calls.{passes, added}
use Rattle.schedule.specs.Making.{made}
use Rattle.schedule.specs.Standing.{Standing}
use Rattle.sheets.specs.declared.faults.SheetFault.{SheetFault}
use Rattle.sheets.specs.declared.faults.SheetFault.TheVariants.{Malformed, Refused}
use Rattle.sheets.specs.declared.schedule_sheets.TapCount.{TapCount}
use Rattle.sheets.specs.declared.schedule_sheets.TapCount.TheVariants.{Two, Three}
use Rattle.sheets.specs.Numbers.{natural, capped}
use Rattle.sheets.specs.Lines.{cut, sheet, sheet_of}

abbrev pub two : Option ℕ → Option ℕ → Option Pass
two None b = None
two (Some a) None = None
two (Some a) (Some b) = Some (Pair a b)

abbrev pub three : Option ℕ → Option ℕ → Option ℕ → Option Pass
three None b c = None
three (Some a) None c = None
three (Some a) (Some b) None = None
three (Some a) (Some b) (Some c) = Some (Triple a b c)

-- a field of one byte, `2` (50) or `3` (51)
abbrev pub counts : List ℕ → Option TapCount
counts [] = None
counts (b ∷ []) = cond (b == 50) (Some Two) (cond (b == 51) (Some Three) None)
counts (b ∷ c ∷ bs) = None

-- `2,A,B,` is a pair, and `3,A,B,C` a triple
abbrev pub weighed : Option TapCount → List ℕ → List ℕ → List ℕ → Option Pass
weighed None a b c = None
weighed (Some Two) a b [] = two (natural a) (natural b)
weighed (Some Two) a b (x ∷ c) = None
weighed (Some Three) a b c = three (natural a) (natural b) (natural c)

-- the pass that these fields give, with its weights as they stand there, however large
abbrev pub pass_of : List (List ℕ) → Option Pass
pass_of [] = None
pass_of (n ∷ []) = None
pass_of (n ∷ a ∷ []) = None
pass_of (n ∷ a ∷ b ∷ []) = None
pass_of (n ∷ a ∷ b ∷ c ∷ []) = weighed (counts n) a b c
pass_of (n ∷ a ∷ b ∷ c ∷ x ∷ xs) = None

-- what stands after value line k, if its pass was not refused
abbrev pub told : ℕ → Result ℕ Refusal → List Pass → Result (List Pass) SheetFault
told k (Ok n) ps = Ok ps
told k (Err why) ps = Err (Refused (k + 2))

-- the pass of value line k, added to the passes of the lines before it
abbrev pub joining : ℕ → List Pass → Option Pass → Result (List Pass) SheetFault
joining k ps None = Err (Malformed (k + 2))
joining k ps (Some p) = told k (added ps (made p)).answer (added ps (made p)).after

abbrev pub with_pass : ℕ → List Pass → List (List ℕ) → Result (List Pass) SheetFault
with_pass k ps fields = joining k ps (pass_of fields)

-- the passes of a schedule sheet
abbrev pub schedule_of : List ℕ → Result (List Pass) SheetFault
schedule_of bytes = sheet (codes "taps,a,b,c") with_pass bytes

-- the passes that stand in the schedule that was read, if one was
abbrev pub standing_in : Result Schedule SheetFault → Result (List Pass) SheetFault
standing_in (Ok s) = Ok (passes s)
standing_in (Err e) = Err e

-- how many passes were read
abbrev pub counted : Result (List Pass) SheetFault → Result ℕ SheetFault
counted (Ok ps) = Ok (length ps)
counted (Err e) = Err e

-- what stands afterwards in a schedule that held `old`
abbrev pub in_place_of : List Pass → Result (List Pass) SheetFault → List Pass
in_place_of old (Ok ps) = ps
in_place_of old (Err e) = old

-- the value line of a pass, without its end
abbrev pub pass_line : ℕ → Pass → List ℕ
pass_line k (Pair a b) = codes "2," ++ (decimal a ++ (codes "," ++ (decimal b ++ codes ",")))
pass_line k (Triple a b c) = codes "3," ++ (decimal a ++ (codes "," ++ (decimal b ++ (codes "," ++ decimal c))))

-- the sheet of these passes
abbrev pub schedule_sheet : List Pass → List ℕ
schedule_sheet ps = sheet_of (codes "taps,a,b,c") pass_line ps

-- a line whose pass, if it gives one, has no common divisor but 1
abbrev pub ReducedLine : List ℕ → Type 0
ReducedLine l = (p : Pass) → pass_of (cut 44 l) ≡ Some p → Reduced (weights p)

-- what a sheet gives may stand in a schedule; a sheet in reduced form is the sheet of what it gives; and back
pub record ExactSchedule : Type 0 where
  pub stands : (bytes : List ℕ) (ps : List Pass) → schedule_of bytes ≡ Ok ps → Standing ps
  pub same : (bytes : List ℕ) (ps : List Pass) → schedule_of bytes ≡ Ok ps → AllByRecursion ReducedLine (cut 10 bytes) → bytes ≡ schedule_sheet ps
  pub back : (ps : List Pass) → Standing ps → schedule_of (schedule_sheet ps) ≡ Ok ps

-- a pass as the code holds it
abbrev pub capped_pass : Pass → Pass
capped_pass (Pair a b) = Pair (capped a) (capped b)
capped_pass (Triple a b c) = Triple (capped a) (capped b) (capped c)
