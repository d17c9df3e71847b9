-- The listing of one level, of what two sheets give.
use Rattle.std.specs.Prelude.{ℕ, List, length, ℤ, Ok, Err, Result}
use Rattle.scale_space.specs.declared.passes.Pass.{Pass}
use Rattle.levels.specs.Drawing.{allowed}
use Rattle.sheets.specs.declared.faults.SheetFault.{SheetFault}
use Rattle.listing.specs.declared.listings.ListingFault.{ListingFault}
use Rattle.listing.specs.declared.listings.ListingFault.TheVariants.{Refused, BufferTooShort}
use Rattle.listing.specs.Listings.{level_text, listed}
use Rattle.embedding.specs.declared.replies.Obstacle.{Obstacle}
use Rattle.embedding.specs.declared.replies.Obstacle.TheVariants.{First, Second, Draw, Room}

abbrev pub why_unlisted : ListingFault → Obstacle
why_unlisted (Refused why) = Draw why
why_unlisted BufferTooShort = Room

abbrev pub or_why : Result ℕ ListingFault → Result ℕ Obstacle
or_why (Ok n) = Ok n
or_why (Err fault) = Err (why_unlisted fault)

-- level k of the passes and the heights that two sheets give, listed in front of these places: how that comes out, and what they
-- hold afterwards. The schedule's fault comes first, then the profile's
abbrev pub level_listed : Result (List Pass) SheetFault → ℕ → Result (List ℤ) SheetFault → List ℕ → Result ℕ Obstacle × List ℕ
level_listed (Err fault) k p places = (Err (First fault), places)
level_listed (Ok ps) k (Err fault) places = (Err (Second fault), places)
level_listed (Ok ps) k (Ok hs) places =
    (or_why (listed (allowed ps k hs (length hs)) (level_text ps k hs) places).0, (listed (allowed ps k hs (length hs)) (level_text ps k hs) places).1)
