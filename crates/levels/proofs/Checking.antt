-- What the checks let through, and what is then drawn.
use Rattle.std.proofs.Common.{◌≡◌, ℕ, ◌-◌, ◌<◌, ◌≤◌, true, List, ◌++◌, length, take, drop, ℤ, Ok, refl, ap, ◌∙◌, ap₂, arith}
use Rattle.std.proofs.lemmas.List.{take_at, drop_at}
use Rattle.std.proofs.lemmas.Bool.Decides.{nat_tests}
use Rattle.scale_space.specs.declared.passes.Pass.{Pass}
use Rattle.scale_space.specs.Passes.{reach, level}
use Rattle.levels.specs.declared.draw.Drawn.{Drawn}
use Rattle.levels.specs.Drawing.{heights_lawful, allowed, shape, shaped, drawn, laid}
use Rattle.levels.proofs.Laying.{laid_before}

pub record Passed (ps : List Pass) (k : ℕ) (hs : List ℤ) (room : ℕ) : Type 0 where
  pub inside : k ≤ length ps
  pub short : length hs ≤ 2048
  pub lawful : heights_lawful hs ≡ true
  pub long : reach (take k ps) < length hs
  pub room_for : length hs ≤ room

pub passed : (ps : List Pass) (k : ℕ) (hs : List ℤ) (room : ℕ) (u : Unit {0}) → Ok u ≡ allowed ps k hs room → Passed ps k hs room
passed ps k hs room u e = record {
  inside = grind (arith, nat_tests);
  short = grind (arith, nat_tests);
  lawful = grind (arith, nat_tests);
  long = grind (arith, nat_tests);
  room_for = grind (arith, nat_tests);
}

-- `new` is the buffer `old` once the profile is at its front
module _ (ps : List Pass) (k : ℕ) (hs old new : List ℤ) (same : new ≡ hs ++ drop (length hs) old) where
  abbrev first : List Pass
  first = take (k - 0) ps

  pub first_is : first ≡ take k ps
  first_is = ap (λ j. take j ps) (let e : k - 0 ≡ k = omega arith in e)

  pub front_is : take (length hs) new ≡ hs
  front_is = ap (take (length hs)) same ∙ take_at hs (drop (length hs) old) (length hs) refl

  pub rest_is : drop (length hs) new ≡ drop (length hs) old
  rest_is = ap (drop (length hs)) same ∙ drop_at hs (drop (length hs) old) (length hs) refl

  pub drawn_is : (u : Unit {0}) (d : Drawn) → Ok u ≡ allowed ps k hs (length old) → d ≡ shape (level first (take (length hs) new)) → Ok d ≡ drawn ps k hs (length old)
  drawn_is u d ok e = ap Ok (e ∙ ap₂ (λ qs xs. shape (level qs xs)) first_is front_is) ∙ ap (λ r. shaped r (level (take k ps) hs)) ok

  pub places_are : (work : List ℤ) → work ≡ laid (length (take (length hs) new)) (level first (take (length hs) new)).numerators (take (length hs) new) → work ++ drop (length hs) new ≡ laid (length hs) (level (take k ps) hs).numerators old
  places_are work e =
      let drawn_places : work ≡ laid (length hs) (level (take k ps) hs).numerators hs = e ∙ ap₂ (λ qs xs. laid (length xs) (level qs xs).numerators xs) first_is front_is in
      ap₂ ◌++◌ drawn_places rest_is ∙ laid_before (level (take k ps) hs).numerators hs (drop (length hs) old)
