-- What the call for one level answers, from what was written.
use Rattle.std.proofs.Common.{◌≡◌, ℕ, Bool, true, false, cond, leb, List, ◌++◌, length, drop, ℤ, Ok, Err, Result, MatchResult, sym, refl, ap, ◌∙◌, ap₂}
use Rattle.scale_space.specs.declared.passes.Pass.{Pass}
use Rattle.samples.specs.declared.refusals.Refusal.{Refusal}
use Rattle.levels.specs.declared.walks.Walk.{Walk}
use Rattle.levels.specs.Walks.{come_to, At}
use Rattle.sheets.specs.declared.faults.SheetFault.{SheetFault}
use Rattle.sheets.specs.declared.faults.SheetFault.TheVariants.{BufferTooShort as TooShort}
use Rattle.sheets.specs.Lines.{answer}
use Rattle.sheets.proofs.Basics.{clash}
use Rattle.listing.specs.declared.listings.ListingFault.{ListingFault}
use Rattle.listing.specs.declared.listings.ListingFault.TheVariants.{BufferTooShort}
use Rattle.listing.specs.Listing.{listing}
use Rattle.listing.specs.Listings.{level_text, listed}

-- the level that a walk has come to is level k
pub same_text : (w : Walk) (ps : List Pass) (last k : ℕ) (hs : List ℤ) → At w ps last k hs → listing w.level (come_to w) ≡ level_text ps k hs
same_text w ps last k hs a = ap₂ listing a.so_far a.holds

module _ (a : Result (Unit {0}) Refusal) (drawn : a ≡ Ok tt) (text here : List ℕ) (same : here ≡ text) (was after : List ℕ) where
  -- a decision t on whether the text has room
  told_ok : (t : Bool) (n : ℕ) → Ok n ≡ (cond {A = Result ℕ SheetFault × List ℕ} t (Ok (length here), here ++ drop (length here) was) (Err TooShort, was)).0 → Ok n ≡ (cond {A = Result ℕ ListingFault × List ℕ} t (Ok (length here), here ++ drop (length here) was) (Err BufferTooShort, was)).0
  told_ok true n e = cc
  told_ok false n e = clash cc

  told_err : (t : Bool) (x : SheetFault) → Err x ≡ (cond {A = Result ℕ SheetFault × List ℕ} t (Ok (length here), here ++ drop (length here) was) (Err TooShort, was)).0 → Err BufferTooShort ≡ (cond {A = Result ℕ ListingFault × List ℕ} t (Ok (length here), here ++ drop (length here) was) (Err BufferTooShort, was)).0
  told_err true x e = clash cc
  told_err false x e = refl

  told_same : (t : Bool) → (cond {A = Result ℕ SheetFault × List ℕ} t (Ok (length here), here ++ drop (length here) was) (Err TooShort, was)).1 ≡ (cond {A = Result ℕ ListingFault × List ℕ} t (Ok (length here), here ++ drop (length here) was) (Err BufferTooShort, was)).1
  told_same true = refl
  told_same false = refl

  listed_is : listed (Ok tt) here was ≡ listed a text was
  listed_is = ap₂ (λ x y. listed x y was) (sym drawn) same

  listed_ok : (n : ℕ) → Ok n ≡ (answer (Ok here) was).0 → Ok n ≡ (listed a text was).0
  listed_ok n e = told_ok (leb (length here) (length was)) n e ∙ ap (λ x. x.0) listed_is

  listed_err : (x : SheetFault) → Err x ≡ (answer (Ok here) was).0 → Err BufferTooShort ≡ (listed a text was).0
  listed_err x e = told_err (leb (length here) (length was)) x e ∙ ap (λ x. x.0) listed_is

  -- the call's answer, where any fault of the writing tells that the text has no room
  pub listed_as : (r : Result ℕ SheetFault) (q : Result ℕ ListingFault) → MatchResult r (λ n. q ≡ Ok n) (λ _. q ≡ Err BufferTooShort) → r ≡ (answer (Ok here) was).0 → q ≡ (listed a text was).0
  listed_as (Ok n) q m e = m ∙ listed_ok n e
  listed_as (Err x) q m e = m ∙ listed_err x e

  pub listed_after : after ≡ (answer (Ok here) was).1 → after ≡ (listed a text was).1
  listed_after e = e ∙ told_same (leb (length here) (length was)) ∙ ap (λ x. x.1) listed_is
