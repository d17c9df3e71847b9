-- Walks: what the passes ahead still allow, and what one of them leaves.
use Rattle.std.proofs.Common.{◌≡◌, ℕ, ◌+◌, ◌*◌, ◌^◌, ◌<◌, ◌≤◌, Bool, true, List, ◌∷◌, ◌++◌, length, get_or, take, drop, ℤ, pos, negsuc, Ok, sym, refl, ap, ◌∙◌, subst, ap₂, mul-le-mul_left, mul-pos, arith}
use Rattle.std.specs.List.{AllByRecursion}
use Rattle.std.proofs.ByRecursion.{All-take, All-drop}
use Rattle.std.proofs.lemmas.List.{drop_more, get_or-take, length-take-le}
use Rattle.std.proofs.lemmas.List.Sums.{fold_more}
use Rattle.std.proofs.lemmas.Bool.{lt-ltb, le-leb, and_from, cond-true}
use Rattle.scale_space.specs.declared.passes.Pass.{Pass}
use Rattle.scale_space.specs.declared.passes.Pass.TheVariants.{Pair}
use Rattle.scale_space.specs.Taps.{windows, scale}
use Rattle.scale_space.specs.Levels.{Level, ground, weighed, Within}
use Rattle.scale_space.specs.Passes.{weights, Proper, reach, product, level}
use Rattle.scale_space.proofs.Piles.{weights_some, product_some}
use Rattle.scale_space.proofs.Calm.{admitted_smooth}
use Rattle.samples.specs.Answers.{scale_lawful, heights_fit}
use Rattle.schedule.specs.declared.schedules.Schedule.{Schedule}
use Rattle.schedule.specs.Calls.{passes}
use Rattle.schedule.proofs.Standing.{standing}
use Rattle.levels.specs.declared.draw.Drawn.{Drawn}
use Rattle.levels.specs.declared.walks.Walk.{Walk}
use Rattle.levels.specs.Drawing.{allowed, laid, Light}
use Rattle.levels.specs.Walks.{come_to, ahead, At, Stepped}
use Rattle.levels.proofs.Sizes.{lawful_within, within_light, fit_within, within_fit}
use Rattle.levels.proofs.Laying.{take_laid}
use Rattle.levels.proofs.Stepping.{pass_at, product_first, pass_count}
use Rattle.levels.proofs.Checking.{passed, front_is}

-- what the fields of a walk owe
abbrev pub Sound : List Pass → ℕ → ℕ → List ℤ → ℕ → ℕ → Type 0
Sound ps last k samples count s = record {
  full : length samples ≡ 2048;
  short : count ≤ 2048;
  inside : last ≤ length ps;
  long : reach (drop k (take last ps)) < count;
  some : 1 ≤ s;
  bounded : s * product (drop k (take last ps)) ≤ 2 ^ 40;
  fit : heights_fit s (take count samples) ≡ true;
}

-- ---- setting out
module _ (sched : Schedule) (last : ℕ) (hs : List ℤ) (ok : allowed (passes sched) last hs (length hs) ≡ Ok tt) (old new : List ℤ) (same : new ≡ hs ++ drop (length hs) old) where
  heights : take (length hs) new ≡ hs
  heights = front_is (passes sched) last hs old new same

  pub begun_sound : length new ≡ 2048 → Sound (passes sched) last 0 new (length hs) 1
  begun_sound full =
      let pass = passed (passes sched) last hs (length hs) tt (sym ok) in
      let small = product_first last (passes sched) (standing sched).each in
      record {
        full = full;
        short = pass.short;
        inside = pass.inside;
        long = pass.long;
        some = omega arith;
        bounded = omega (arith, small, sched.bounded);
        fit = rw heights (within_fit 1 hs (lawful_within hs pass.lawful));
      }

  pub begun_held : record { numerators = take (length hs) new; scale = 1 } ≡ ground hs
  begun_held = λ j. record { numerators = heights j; scale = 1 }

-- ---- the passes ahead
-- those up to the last level
abbrev way : Walk → List Pass
way w = take w.last (passes w.schedule)

way_proper : (w : Walk) → AllByRecursion Proper (way w)
way_proper w = All-take Proper w.last (passes w.schedule) (standing w.schedule).each

-- from a level on their scales have room
room_for : (w : Walk) (k : ℕ) → 1 ≤ product (drop k (way w))
room_for w k = product_some (drop k (way w)) (All-drop Proper k (way w) (way_proper w))

pub scale_is_lawful : (w : Walk) → scale_lawful w.drawn.scale ≡ true
scale_is_lawful w =
    let small : w.drawn.scale ≤ 2 ^ 40 = omega (arith, w.bounded, mul-le-mul_left w.drawn.scale (room_for w w.level)) in
    and_from _ _ (le-leb 1 w.drawn.scale w.some) (le-leb w.drawn.scale (2 ^ 40) small)

-- ---- one of them
module _ (w : Walk) (more : w.level < w.last) (ps : List Pass) (same : ps ≡ passes w.schedule) where
  abbrev p : Pass
  p = pass_at ps w.level

  is : p ≡ ahead w
  is = ap (λ qs. pass_at qs w.level) same

  within : w.level < length (way w)
  within = omega (arith, w.inside, length-take-le w.last (passes w.schedule) w.inside)

  -- it is the first of them
  first : drop w.level (way w) ≡ p ∷ drop (w.level + 1) (way w)
  first = drop_more (way w) w.level (Pair 0 0) within ∙ ap (λ q. q ∷ drop (w.level + 1) (way w)) (get_or-take w.last (passes w.schedule) w.level (Pair 0 0) more ∙ sym is)

  proper : Proper p
  proper = let all : AllByRecursion Proper (p ∷ drop (w.level + 1) (way w)) = rw first at (All-drop Proper w.level (way w) (way_proper w)) in all.0

  pub pass_heavy : 1 ≤ scale (weights p)
  pass_heavy = proper.some

  pub pass_long : length (weights p) ≤ w.drawn.length
  pass_long = omega (arith, w.long, ap reach first, weights_some p)

  room : w.drawn.scale * (scale (weights p) * product (drop (w.level + 1) (way w))) ≤ 2 ^ 40
  room = rw first at w.bounded

  pub pass_bounded : w.drawn.scale * scale (weights p) ≤ 2 ^ 40
  pass_bounded = omega (arith, room, mul-le-mul_left (w.drawn.scale * scale (weights p)) (room_for w (w.level + 1)))

  held : Within (negsuc 99999) (pos 100000) (come_to w)
  held = fit_within w.drawn.scale (take w.drawn.length w.samples) w.fit

  pub pass_light : Light (scale (weights p)) (take w.drawn.length w.samples)
  pass_light = within_light (come_to w) (scale (weights p)) pass_bounded held

  -- laid on the level, it answered r and left `new` in the buffer
  module _ (r : Drawn) (new : List ℤ) (shorter : r.length + length (weights p) ≡ w.drawn.length + 1) (larger : r.scale ≡ w.drawn.scale * scale (weights p)) (places : new ≡ laid w.drawn.length (windows (weights p) (take w.drawn.length w.samples)) w.samples) where
    abbrev next : Level
    next = weighed (weights p) (come_to w)

    count : r.length ≡ length next.numerators
    count =
        let n = length-take-le w.drawn.length w.samples (omega (arith, w.full, w.short)) in
        omega (arith, n, shorter, pass_count p (take w.drawn.length w.samples) (omega (arith, n, pass_long)))

    front : take r.length new ≡ next.numerators
    front = ap₂ take count places ∙ take_laid w.drawn.length next.numerators w.samples

    pub pass_stepped : (v : Walk) → v.schedule ≡ w.schedule → v.last ≡ w.last → v.level ≡ w.level + 1 → come_to v ≡ record { numerators = take r.length new; scale = r.scale } → Stepped w true v
    pass_stepped v by to so_far e = record {
      answer = sym (lt-ltb w.level w.last more);
      by = by;
      to = to;
      so_far = so_far;
      holds = e ∙ (λ j. record { numerators = front j; scale = larger j }) ∙ ap (λ q. weighed (weights q) (come_to w)) is;
    }

    pub pass_sound : length new ≡ length w.samples → Sound (passes w.schedule) w.last (w.level + 1) new r.length r.scale
    pass_sound full =
        let long : reach (drop (w.level + 1) (way w)) < r.length = omega (arith, shorter, w.long, ap reach first, weights_some p) in
        let some : 1 ≤ r.scale = rw larger (mul-pos w.some proper.some) in
        let bounded : r.scale * product (drop (w.level + 1) (way w)) ≤ 2 ^ 40 = rw larger (omega (arith, room)) in
        let smooth = (admitted_smooth p proper.admissible (come_to w) w.some).bounded (negsuc 99999) (pos 100000) held in
        record {
          full = full ∙ w.full;
          short = omega (arith, shorter, w.short, weights_some p);
          inside = w.inside;
          long = long;
          some = some;
          bounded = bounded;
          fit = rw (larger, front) (within_fit _ _ smooth);
        }

-- ---- the law
pub climbs : (w v : Walk) (r : Bool) → Stepped w r v → (ps : List Pass) (last k : ℕ) (hs : List ℤ) → At w ps last k hs → k < last → At v ps last (k + 1) hs
climbs w v r s ps last k hs a h =
    let yes : r ≡ true = s.answer ∙ lt-ltb w.level w.last (omega (arith, a.so_far, a.to)) in
    let inside : k < length ps = omega (arith, a.to, w.inside, ap length a.by) in
    let p : ahead w ≡ get_or ps k (Pair 0 0) = ap₂ (λ qs j. get_or qs j (Pair 0 0)) a.by a.so_far in
    record {
      by = ap passes s.by ∙ a.by;
      to = s.to ∙ a.to;
      so_far = s.so_far ∙ cond-true r _ _ yes ∙ ap (λ n. n + 1) a.so_far;
      holds = s.holds ∙ cond-true r _ _ yes ∙ ap₂ (λ q l. weighed (weights q) l) p a.holds ∙ sym (fold_more (λ m q. weighed (weights q) m) (ground hs) ps k (Pair 0 0) inside);
    }

-- ---- up to the last level

-- from w, v has come to level k
abbrev pub Climbing : Walk → ℕ → Walk → Type 0
Climbing w k v = (ps : List Pass) (last j : ℕ) (hs : List ℤ) → At w ps last j hs → j ≤ last → (k ≤ last) × At v ps last k hs

pub climbing_none : (w : Walk) → Climbing w w.level w
climbing_none w ps last j hs a l = (omega (arith, a.so_far), record { by = a.by; to = a.to; so_far = refl; holds = a.holds ∙ ap (λ n. level (take n ps) hs) (sym a.so_far) })

pub climbing_more : (w v u : Walk) (k : ℕ) → Climbing w k v → k < w.last → ((ps : List Pass) (last k : ℕ) (hs : List ℤ) → At v ps last k hs → k < last → At u ps last (k + 1) hs) → Climbing w (k + 1) u
climbing_more w v u k inv more up ps last j hs a l =
    let less : k < last = omega (arith, a.to) in
    (omega arith, up ps last k hs (inv ps last j hs a l).1 less)

pub climbing_all : (w v : Walk) (k : ℕ) → Climbing w k v → w.last ≤ k → (ps : List Pass) (last j : ℕ) (hs : List ℤ) → At w ps last j hs → j ≤ last → At v ps last last hs
climbing_all w v k inv done ps last j hs a l =
    let here = inv ps last j hs a l in
    let top : k ≡ last = omega (arith, a.to, here.0) in
    subst (λ n. At v ps last n hs) top here.1
