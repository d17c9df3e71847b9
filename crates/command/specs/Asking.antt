-- What an input asks for.
use Rattle.std.specs.Prelude.{◌≡◌, ℕ, true, cond, List, length, ℤ, Ok, Err, Result, MatchResult, nat_lt}
use Rattle.scale_space.specs.declared.passes.Pass.{Pass}
use Rattle.samples.specs.declared.refusals.Refusal.{Refusal}
use Rattle.levels.specs.declared.walks.Walk.{Walk}
use Rattle.levels.specs.Drawing.{allowed}
use Rattle.levels.specs.Walks.{At}
use Rattle.sheets.specs.declared.faults.SheetFault.{SheetFault}
use Rattle.sheets.specs.Profiles.{profile_of}
use Rattle.sheets.specs.ScheduleSheets.{schedule_of}
use Rattle.listing.specs.declared.refusal_lines.Rejection.{Rejection}
use Rattle.listing.specs.declared.refusal_lines.Rejection.TheVariants.{Input, Schedule, Profile, Draw}
use Rattle.command.specs.Parting.{parted}

-- passes, and the heights to lay them on
pub record Request : Type 0 where
  pub passes : List Pass
  pub heights : List ℤ

-- where the last level can be drawn
abbrev pub drawable : Request → Result (Unit {0}) Refusal → Result Request Rejection
drawable q (Ok u) = Ok q
drawable q (Err e) = Err (Draw e)

-- what the two sheets say together: the schedule's fault comes first
abbrev pub together : Result (List Pass) SheetFault → Result (List ℤ) SheetFault → Result Request Rejection
together (Err e) p = Err (Schedule e)
together (Ok ps) (Err e) = Err (Profile e)
together (Ok ps) (Ok hs) = drawable (record { passes = ps; heights = hs }) (allowed ps (length ps) hs (length hs))

-- what an input asks for, or why it is rejected
abbrev pub asked : List ℕ → Result Request Rejection
asked input = cond (nat_lt 32768 (length input)) (Err Input) (together (schedule_of (parted true input).0) (profile_of (parted true input).1))

-- a walk that sets out to do what is asked, up to the last level
abbrev pub SetsOut : Result Walk Rejection → Result Request Rejection → Type 0
SetsOut r a = MatchResult r (λ w. (q : Request) × (a ≡ Ok q) × At w q.passes (length q.passes) 0 q.heights) (λ e. a ≡ Err e)
