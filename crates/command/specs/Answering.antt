-- What the command prints.
use Rattle.std.specs.Prelude.{ℕ, zero, suc, cond, List, [], ◌++◌, length, drop, ℤ, Ok, Err, Result, nat_le}
use Rattle.scale_space.specs.declared.passes.Pass.{Pass}
use Rattle.sheets.specs.declared.faults.SheetFault.{SheetFault}
use Rattle.sheets.specs.declared.faults.SheetFault.TheVariants.{BufferTooShort}
use Rattle.listing.specs.declared.refusal_lines.Rejection.{Rejection}
use Rattle.listing.specs.Listings.{level_text}
use Rattle.listing.specs.Rejections.{rejection_line}
use Rattle.command.specs.Asking.{Request, asked}

-- the listings of the first n levels, one after another
abbrev pub listings : List Pass → List ℤ → ℕ → List ℕ
listings ps hs zero = []
listings ps hs (suc n) = listings ps hs n ++ level_text ps n hs

-- all levels, or the one line of a rejection
abbrev pub shown : Result Request Rejection → List ℕ
shown (Ok q) = listings q.passes q.heights (suc (length q.passes))
shown (Err why) = rejection_line why

-- what the command prints for an input
abbrev pub printed : List ℕ → List ℕ
printed input = shown (asked input)

-- the text in front of these places, of which there must be enough for any listing
abbrev pub replied : List ℕ → List ℕ → Result ℕ SheetFault × List ℕ
replied text places = cond (nat_le 1178200 (length places)) (Ok (length text), text ++ drop (length text) places) (Err BufferTooShort, places)
