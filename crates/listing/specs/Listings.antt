-- What the call for one level answers, and what its output holds afterwards.
use Rattle.std.specs.Prelude.{ℕ, cond, List, ◌++◌, length, take, drop, ℤ, Ok, Err, Result, nat_le}
use Rattle.scale_space.specs.declared.passes.Pass.{Pass}
use Rattle.scale_space.specs.Passes.{level}
use Rattle.samples.specs.declared.refusals.Refusal.{Refusal}
use Rattle.samples.specs.Refusals.{refusal_number}
use Rattle.listing.specs.declared.listings.ListingFault.{ListingFault}
use Rattle.listing.specs.declared.listings.ListingFault.TheVariants.{Refused, BufferTooShort}
use Rattle.listing.specs.Listing.{listing}

abbrev pub listing_number : ListingFault → ℕ
listing_number (Refused why) = refusal_number why
listing_number BufferTooShort = 23

-- the text of level k of the passes ps, drawn from the heights hs
abbrev pub level_text : List Pass → ℕ → List ℤ → List ℕ
level_text ps k hs = listing k (level (take k ps) hs)

-- the text in front of these places, where the level can be drawn and they are enough
abbrev pub listed : Result (Unit {0}) Refusal → List ℕ → List ℕ → Result ℕ ListingFault × List ℕ
listed (Err why) text places = (Err (Refused why), places)
listed (Ok u) text places = cond (nat_le (length text) (length places)) (Ok (length text), text ++ drop (length text) places) (Err BufferTooShort, places)
