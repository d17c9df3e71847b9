-- From one level to the next: shape, sizes, and what the buffer holds.
use Rattle.std.proofs.Common.{◌≡◌, ℕ, zero, suc, ◌+◌, ◌-◌, ◌*◌, ◌^◌, ◌<◌, ◌≤◌, true, List, [], ◌∷◌, length, get_or, take, drop, ℤ, pos, negsuc, sym, refl, ap, ◌∙◌, subst, ap₂, mul-le-mul_left, arith}
use Rattle.std.specs.List.{AllByRecursion, sum_by}
use Rattle.std.proofs.ByRecursion.{All-drop, All-get_or}
use Rattle.std.proofs.lemmas.List.{at_drop_more}
use Rattle.std.proofs.lemmas.List.Sums.{fold_more, sum_by-cons}
use Rattle.scale_space.specs.declared.passes.Pass.{Pass}
use Rattle.scale_space.specs.declared.passes.Pass.TheVariants.{Pair, Triple}
use Rattle.scale_space.specs.Taps.{windows, scale}
use Rattle.scale_space.specs.Levels.{Level, ground, weighed}
use Rattle.scale_space.specs.Passes.{weights, Proper, reach, product, level}
use Rattle.scale_space.proofs.Windows.{windows_length}
use Rattle.scale_space.proofs.Piles.{weights_some, product_some, level_is, level_length}
use Rattle.scale_space.proofs.Calm.{levels_calm}
use Rattle.levels.specs.declared.draw.Drawn.{Drawn}
use Rattle.levels.specs.Drawing.{heights_lawful, shape, laid, Light}
use Rattle.levels.proofs.Sizes.{lawful_within, within_light}
use Rattle.levels.proofs.Laying.{take_laid, laid_laid}

-- ---- the first passes and the others
pub reach_split : (i : ℕ) (ps : List Pass) → reach (take i ps) + reach (drop i ps) ≡ reach ps
reach_split zero ps = omega arith
reach_split (suc i) [] = refl
reach_split (suc i) (p ∷ ps) = omega (arith, reach_split i ps)

pub reach_sum : (ps : List Pass) → sum_by (λ p. length (weights p) - 1) ps ≡ reach ps
reach_sum [] = refl
reach_sum (p ∷ ps) = sum_by-cons (λ p. length (weights p) - 1) p ps ∙ ap (λ n. (length (weights p) - 1) + n) (reach_sum ps)

-- the pass at a place
abbrev pub pass_at : List Pass → ℕ → Pass
pass_at ps i = get_or ps i (Pair 0 0)

pub reach_at : (ps : List Pass) (i : ℕ) → i < length ps → reach (drop i ps) ≡ (length (weights (pass_at ps i)) - 1) + reach (drop (i + 1) ps)
reach_at ps i h = at_drop_more reach ps i (Pair 0 0) h

product_split : (i : ℕ) (ps : List Pass) → product (take i ps) * product (drop i ps) ≡ product ps
product_split zero ps = omega arith
product_split (suc i) [] = refl
product_split (suc i) (p ∷ ps) = omega (arith, ap (λ z. scale (weights p) * z) (product_split i ps))

product_at : (ps : List Pass) (i : ℕ) → i < length ps → product (drop i ps) ≡ scale (weights (pass_at ps i)) * product (drop (i + 1) ps)
product_at ps i h = at_drop_more product ps i (Pair 0 0) h

pub product_first : (k : ℕ) (ps : List Pass) → AllByRecursion Proper ps → product (take k ps) ≤ product ps
product_first k ps proper = omega (arith, product_split k ps, mul-le-mul_left (product (take k ps)) (product_some (drop k ps) (All-drop Proper k ps proper)))

part_le : (a s r whole : ℕ) → 0 < r → a * (s * r) ≡ whole → a * s ≤ whole
part_le a s r whole h e = omega (arith, mul-le-mul_left (a * s) h)

pub pass_count : (p : Pass) (xs : List ℤ) → length (weights p) ≤ length xs → length (windows (weights p) xs) + length (weights p) ≡ length xs + 1
pass_count (Pair a b) xs h = omega (arith, windows_length a (b ∷ []) xs)
pass_count (Triple a b c) xs h = omega (arith, windows_length a (b ∷ c ∷ []) xs)

-- ---- pass i on the level that the first i left
-- the passes ps can all be laid on the heights old
pub record Ready (ps : List Pass) (old : List ℤ) : Type 0 where
  pub proper : AllByRecursion Proper ps
  pub bounded : product ps ≤ 2 ^ 40
  pub long : reach ps < length old
  pub lawful : heights_lawful old ≡ true

module _ (ps : List Pass) (old : List ℤ) (ready : Ready ps old) (i : ℕ) (inside : i < length ps) where
  abbrev p : Pass
  p = pass_at ps i

  abbrev here : Level
  here = level (take i ps) old

  count : length here.numerators + reach (take i ps) ≡ length old
  count = level_length (take i ps) old (omega (arith, ready.long, reach_split i ps))

  pub step_heavy : 1 ≤ scale (weights p)
  step_heavy = (All-get_or Proper ps i (Pair 0 0) inside ready.proper).some

  pub step_long : length (weights p) ≤ length here.numerators
  step_long = omega (arith, count, ready.long, reach_split i ps, reach_at ps i inside, weights_some p)

  pub step_room : length here.numerators ≤ length old
  step_room = omega (arith, count)

  pub step_bounded : here.scale * scale (weights p) ≤ 2 ^ 40
  step_bounded =
      let e : here.scale ≡ product (take i ps) = ap (λ m. m.scale) (level_is (take i ps) old) in
      let whole : product (take i ps) * (scale (weights p) * product (drop (i + 1) ps)) ≡ product ps = ap (λ z. product (take i ps) * z) (sym (product_at ps i inside)) ∙ product_split i ps in
      let part = part_le (product (take i ps)) (scale (weights p)) (product (drop (i + 1) ps)) (product ps) (product_some (drop (i + 1) ps) (All-drop Proper (i + 1) ps ready.proper)) whole in
      omega (arith, ready.bounded, ap (λ z. z * scale (weights p)) e)

  light : Light (scale (weights p)) here.numerators
  light = within_light here (scale (weights p)) step_bounded ((levels_calm ps ready.proper old).exact i (negsuc 99999) (pos 100000) (lawful_within old ready.lawful))

  next : level (take (i + 1) ps) old ≡ weighed (weights p) here
  next = fold_more (λ m q. weighed (weights q) m) (ground old) ps i (Pair 0 0) inside

  pub step_shape : (last r : Drawn) → last ≡ shape here → r.length + length (weights p) ≡ last.length + 1 → r.scale ≡ last.scale * scale (weights p) → r ≡ shape (level (take (i + 1) ps) old)
  step_shape last r e shorter larger =
      let a : r.length ≡ length (windows (weights p) here.numerators) = omega (arith, ap (λ d. d.length) e, pass_count p here.numerators step_long) in
      let b : r.scale ≡ here.scale * scale (weights p) = larger ∙ ap (λ d. d.scale * scale (weights p)) e in
      (λ j. record { length = a j; scale = b j }) ∙ ap shape (sym next)

  pub step_places : (last : Drawn) (work after : List ℤ) → last ≡ shape here → work ≡ laid (length old) here.numerators old → after ≡ laid last.length (windows (weights p) (take last.length work)) work → after ≡ laid (length old) (level (take (i + 1) ps) old).numerators old
  step_places last work after e f g =
      let xs = here.numerators in
      g
      ∙ ap₂ (λ m v. laid m (windows (weights p) (take m v)) v) (ap (λ d. d.length) e) f
      ∙ ap (λ v. laid (length xs) (windows (weights p) v) (laid (length old) xs old)) (take_laid (length old) xs old)
      ∙ laid_laid (length old) xs (windows (weights p) xs) old (omega (arith, pass_count p xs step_long, weights_some p)) step_room
      ∙ ap (λ m. laid (length old) m.numerators old) (sym next)

  pub step_light : (last : Drawn) (work : List ℤ) → last ≡ shape here → work ≡ laid (length old) here.numerators old → Light (scale (weights p)) (take last.length work)
  step_light last work e f = subst (Light (scale (weights p))) (sym (ap₂ (λ d v. take d.length v) e f ∙ take_laid (length old) here.numerators old)) light
