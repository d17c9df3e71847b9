-- The walk has climbed to level k, and its listing is that level's.
use Rattle.std.proofs.Common.{◌≡◌, Ok, Err, MatchResult, arith, rules}
use Rattle.listing.specs.declared.listings.ListingFault.TheVariants.{BufferTooShort}
use Rattle.listing.proofs.Answering.{same_text, listed_as, listed_after}
use Rattle.listing.proofs.listings.list_level.Goals as goal

pub returns : goal.returns
returns c =
    let out = c.in_ok-walk.ensures in
    let same = same_text _ _ _ _ _ (c.climb.ensures _ _ _ _ out.1 (omega arith)) in
    let m : MatchResult c.list.result (λ n. c.map_err.result ≡ Ok n) (λ _. c.map_err.result ≡ Err BufferTooShort) = search rules in
    record {
      answers = listed_as _ out.0 _ _ same _ c.list.new.out c.list.result c.map_err.result m c.list.ensures.answers;
      writes = listed_after _ out.0 _ _ same _ c.list.new.out c.list.ensures.writes;
    }
