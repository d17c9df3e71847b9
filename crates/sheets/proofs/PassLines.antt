-- What one value line of a schedule gives.
use Rattle.std.proofs.Common.{◌≡◌, ℕ, ◌+◌, ◌^◌, ◌≤◌, Bool, true, false, cond, ◌&&◌, leb, List, [], ◌∷◌, ◌++◌, map, length, Some, None, Ok, Err, Option, Result, sym, refl, ap, ◌∙◌, ⊎_elim, arith}
use Rattle.std.specs.Option.{option_map, ok_or}
use Rattle.std.specs.List.{AllByRecursion}
use Rattle.std.proofs.lemmas.List.{length_push}
use Rattle.std.proofs.lemmas.Bool.{leb-true, cond-false, cases_Bool}
use Rattle.std.proofs.lemmas.Bool.Decides.{nat_tests}
use Rattle.scale_space.specs.declared.passes.Pass.{Pass}
use Rattle.scale_space.specs.declared.passes.Pass.TheVariants.{Pair, Triple}
use Rattle.scale_space.specs.Passes.{weights, product}
use Rattle.samples.specs.declared.refusals.Refusal.{Refusal}
use Rattle.samples.specs.declared.refusals.Refusal.TheVariants.{TooManyPasses, ScaleTooLarge}
use Rattle.schedule.specs.Tests.{in_range}
use Rattle.schedule.specs.Making.{made}
use Rattle.schedule.specs.Calls.{added, replaced, stands, refused, Ends}
use Rattle.schedule.proofs.Meaning.{range_means}
use Rattle.sheets.specs.declared.faults.SheetFault.{SheetFault}
use Rattle.sheets.specs.declared.faults.SheetFault.TheVariants.{Malformed, Refused}
use Rattle.sheets.specs.Numbers.{capped}
use Rattle.sheets.specs.Lines.{cut}
use Rattle.sheets.specs.ScheduleSheets.{pass_of, told, joining, with_pass, capped_pass}
use Rattle.sheets.proofs.Cuts.{cut_some}
use Rattle.std.specs.Result.{IsOk, IsErr}
use Rattle.sheets.proofs.Basics.{clash}

-- ---- what was added
pub replaced_is : (ps ws : List Pass) (n : ℕ) → (replaced ps ws).answer ≡ Ok n → (n ≡ length ws) × (length ws ≤ 24) × (product ws ≤ 2 ^ 40) × ((replaced ps ws).after ≡ ws)
replaced_is ps ws n e = go (leb (length ws) 24) (leb (product ws) (2 ^ 40)) (leb-true (length ws) 24) (leb-true (product ws) (2 ^ 40)) e
  where
    go : (s t : Bool) → (s ≡ true → length ws ≤ 24) → (t ≡ true → product ws ≤ 2 ^ 40) → (cond s (cond t (stands ws) (refused ScaleTooLarge ps)) (refused TooManyPasses ps)).answer ≡ Ok n → (n ≡ length ws) × (length ws ≤ 24) × (product ws ≤ 2 ^ 40) × ((cond s (cond t (stands ws) (refused ScaleTooLarge ps)) (refused TooManyPasses ps)).after ≡ ws)
    go true true h k f = let x : length ws ≡ n = cc in (sym x, h refl, k refl, refl)
    go true false h k f = clash cc
    go false t h k f = clash cc

added_is : (ps : List Pass) (m : Result Pass Refusal) (n : ℕ) → (added ps m).answer ≡ Ok n → (n ≡ length ps + 1) × (n ≡ length (added ps m).after) × (n ≤ 24)
added_is ps (Err why) n e = clash cc
added_is ps (Ok p) n e =
    let r = replaced_is ps (ps ++ p ∷ []) n e in
    (r.0 ∙ length_push ps p, r.0 ∙ ap length (sym r.3), omega (arith, r.0, r.1))

-- ---- the fields

pub pass_more : (l n r a s b t x y : List ℕ) → cut 44 l ≡ n ∷ cut 44 r → cut 44 r ≡ a ∷ cut 44 s → cut 44 s ≡ b ∷ cut 44 t → cut 44 t ≡ x ∷ cut 44 y → pass_of (cut 44 l) ≡ None
pass_more l n r a s b t x y e f g h =
    let k = cut_some 44 y in
    ap pass_of (e ∙ ap (λ q. n ∷ q) (f ∙ ap (λ q. a ∷ q) (g ∙ ap (λ q. b ∷ q) (h ∙ ap (λ q. x ∷ q) k.2))))

abbrev pub PassLine : List ℕ → ℕ → Result Pass SheetFault
PassLine l k = ok_or (option_map capped_pass (pass_of (cut 44 l))) (Malformed k)

-- ---- no test sees the cap

-- a weight past the cap is out of range, and so is the cap
capped_range : (ws : List ℕ) → in_range (map capped ws) ≡ in_range ws
capped_range [] = refl
capped_range (w ∷ ws) = (λ i. one i && capped_range ws i)
  where
    one : leb (capped w) 1000 ≡ leb w 1000
    one = grind (arith, nat_tests)

capped_weights : (p : Pass) → weights (capped_pass p) ≡ map capped (weights p)
capped_weights (Pair a b) = refl
capped_weights (Triple a b c) = refl

capped_small : (p : Pass) → AllByRecursion (λ w. w ≤ 1000) (weights p) → capped_pass p ≡ p
capped_small (Pair a b) h =
    let x : capped a ≡ a = omega (arith, h.0) in
    let y : capped b ≡ b = omega (arith, h.1.0) in
    λ i. Pair (x i) (y i)
capped_small (Triple a b c) h =
    let x : capped a ≡ a = omega (arith, h.0) in
    let y : capped b ≡ b = omega (arith, h.1.0) in
    let z : capped c ≡ c = omega (arith, h.1.1.0) in
    λ i. Triple (x i) (y i) (z i)

pub made_capped : (p : Pass) → made (capped_pass p) ≡ made p
made_capped p =
    let t : in_range (weights (capped_pass p)) ≡ in_range (weights p) = ap in_range (capped_weights p) ∙ capped_range (weights p) in
    ⊎_elim
    (λ (h : in_range (weights p) ≡ true). ap made (capped_small p (range_means (weights p) h)))
    (λ (h : in_range (weights p) ≡ false). cond-false _ _ _ (t ∙ h) ∙ sym (cond-false _ _ _ h))
    (cases_Bool (in_range (weights p)))

-- ---- one value line, added

from_ok : (o : Option Pass) (e : SheetFault) (p : Pass) → Ok p ≡ ok_or (option_map capped_pass o) e → (q : Pass) × (o ≡ Some q) × (p ≡ capped_pass q)
from_ok None e p h = clash cc
from_ok (Some q) e p h = (q, refl, cc)

module _ (l : List ℕ) (k : ℕ) (ps qs : List Pass) where
  abbrev pub After : Pass → Result ℕ Refusal → Type 0
  After p r = Ends (added ps (made p)) r qs

  is_joining : (p : Pass) → Ok p ≡ PassLine l (k + 2) → with_pass k ps (cut 44 l) ≡ joining k ps (Some p)
  is_joining p e =
      let f = from_ok (pass_of (cut 44 l)) (Malformed (k + 2)) p e in
      ap (joining k ps) f.1 ∙ ap (λ m. told k (added ps m).answer (added ps m).after) (sym (made_capped f.0) ∙ ap made (sym f.2))

  -- the line gives a pass, and the call on it ended with r
  pub line_added : (p : Pass) (r : Result ℕ Refusal) → IsOk r → Ok p ≡ PassLine l (k + 2) → k ≡ length ps → After p r → (with_pass k ps (cut 44 l) ≡ Ok qs) × (length qs ≡ k + 1)
  line_added p (Ok n) t e h a =
      let g = added_is ps (made p) n (sym a.answer) in
      (is_joining p e ∙ (λ i. told k (sym a.answer i) (sym a.after i)), omega (arith, g.0, g.1, ap length a.after))
  line_added p (Err why) t e h a = clash cc

  pub line_refused : (p : Pass) (r : Result ℕ Refusal) → IsErr r → Ok p ≡ PassLine l (k + 2) → After p r → with_pass k ps (cut 44 l) ≡ Err (Refused (k + 2))
  line_refused p (Ok n) t e a = clash cc
  line_refused p (Err why) t e a = is_joining p e ∙ (λ i. told k (sym a.answer i) (sym a.after i))

pub line_malformed : (l : List ℕ) (k : ℕ) (ps : List Pass) (y : SheetFault) → Err y ≡ PassLine l (k + 2) → with_pass k ps (cut 44 l) ≡ Err y
line_malformed l k ps y e = go (pass_of (cut 44 l)) e
  where
    go : (o : Option Pass) → Err y ≡ ok_or (option_map capped_pass o) (Malformed (k + 2)) → joining k ps o ≡ Err y
    go None f = let x : y ≡ Malformed (k + 2) = cc in ap Err (sym x)
    go (Some p) f = clash cc
