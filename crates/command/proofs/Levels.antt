-- The listings of the levels, put one behind the other.
use Rattle.std.proofs.Common.{◌≡◌, ℕ, suc, ◌+◌, ◌-◌, ◌*◌, ◌<◌, ◌≤◌, true, false, List, [], ◌++◌, length, take, drop, ℤ, sym, ap, ◌∙◌, subst, append_assoc, append-nil, add-one, arith}
use borrow.Rule.Slice.PartMut.{put_mid}
use Rattle.std.proofs.lemmas.List.{length-append, length-take, length-drop, take_at, take_rest, drop_at, drop-drop, drop_all}
use Rattle.std.proofs.lemmas.Bool.{ltb-true, ltb-false}
use Rattle.scale_space.specs.declared.passes.Pass.{Pass}
use Rattle.schedule.proofs.Standing.{standing}
use Rattle.levels.specs.declared.walks.Walk.{Walk}
use Rattle.levels.specs.Walks.{come_to, At, Stepped}
use Rattle.levels.proofs.Walking.{scale_is_lawful}
use Rattle.listing.specs.Listing.{listing}
use Rattle.listing.proofs.Answering.{same_text}
use Rattle.listing.proofs.Bounds.{listing_bound}
use Rattle.command.specs.Answering.{listings}

-- the text of the level that a walk has come to
abbrev pub text : Walk → List ℕ
text w = listing w.level (come_to w)

-- ---- the levels are few, and their texts short
pub last_low : (w : Walk) → w.last ≤ 24
last_low w = omega (arith, w.inside, (standing w.schedule).short)

pub text_short : (w : Walk) → w.level ≤ 24 → length (text w) ≤ 47128
text_short w low =
    let few : length (take w.drawn.length w.samples) ≤ 2048 = omega (arith, length-take w.drawn.length w.samples, w.short) in
    omega (arith, few, listing_bound w.level (come_to w) low few (scale_is_lawful w) w.fit)

-- ---- one level after another

-- the listings of the levels below stand in front of what was there
pub record Below (v : Walk) (ps : List Pass) (hs : List ℤ) (was out : List ℕ) (at : ℕ) : Type 0 where
  pub here : At v ps (length ps) v.level hs
  pub size : at ≡ length (listings ps hs v.level)
  pub bytes : out ≡ listings ps hs v.level ++ drop at was

-- a walk that set out as w has come to v
pub record SoFar (w v : Walk) (was out : List ℕ) (at : ℕ) : Type 0 where
  pub low : v.level ≤ v.last
  pub within : at ≤ 47128 * v.level
  pub law : (ps : List Pass) (hs : List ℤ) → At w ps (length ps) 0 hs → Below v ps hs was out at

pub so_far_none : (w : Walk) (was : List ℕ) → w.level ≡ 0 → SoFar w w was was 0
so_far_none w was start = record {
  low = omega (arith, start);
  within = omega arith;
  law = λ ps hs a. record {
    here = subst (λ k. At w ps (length ps) k hs) (sym start) a;
    size = ap (λ k. length (listings ps hs k)) (sym start);
    bytes = ap (λ k. listings ps hs k ++ was) (sym start);
  };
}

-- the text of the level was put behind the others
record Next (v : Walk) (out : List ℕ) (at : ℕ) (after : List ℕ) (r : ℕ) : Type 0 where
  place : r ≡ at + length (text v)
  bytes : after ≡ take at out ++ (text v ++ drop r out)

next_is : (v : Walk) (out bytes : List ℕ) (at n : ℕ) → n ≡ length (text v) → bytes ≡ text v ++ drop n (take (length out - at) (drop at out)) → Next v out at (put_mid at (length out - at) out bytes) (at + n)
next_is v out bytes at n same e = record {
  place = ap (λ k. at + k) same;
  bytes =
      let none : drop (length out - at) (drop at out) ≡ [] = drop_all (length out - at) (drop at out) (omega (arith, length-drop at out)) in
      ap (λ r. take at out ++ r) (
      (λ j. e j ++ none j)
      ∙ append-nil _
      ∙ ap (λ r. text v ++ r) (ap (drop n) (take_rest out at) ∙ drop-drop n at out)
      );
}

module _ (w v : Walk) (was out : List ℕ) (at : ℕ) (p : SoFar w v was out at) (bytes : List ℕ) (size : ℕ) (same : size ≡ length (text v)) (puts : bytes ≡ text v ++ drop size (take (length out - at) (drop at out))) where
  abbrev after : List ℕ
  after = put_mid at (length out - at) out bytes

  abbrev r : ℕ
  r = at + size

  n : Next v out at after r
  n = next_is v out bytes at size same puts

  module _ (ps : List Pass) (hs : List ℤ) (a : At w ps (length ps) 0 hs) where
    abbrev b : Below v ps hs was out at
    b = p.law ps hs a

    abbrev front : List ℕ
    front = listings ps hs v.level

    both : (m : ℕ) → m ≡ suc v.level → listings ps hs m ≡ front ++ text v
    both m e = ap (listings ps hs) e ∙ ap (λ t. front ++ t) (sym (same_text v ps (length ps) v.level hs b.here))

    pub put_on : (m : ℕ) → m ≡ suc v.level → (r ≡ length (listings ps hs m)) × (after ≡ listings ps hs m ++ drop r was)
    put_on m e =
        let head : take at out ≡ front = ap (take at) b.bytes ∙ take_at front (drop at was) at (sym b.size) in
        let tail : drop at out ≡ drop at was = ap (drop at) b.bytes ∙ drop_at front (drop at was) at (sym b.size) in
        let rest : drop r out ≡ drop r was = ap (λ k. drop k out) n.place ∙ sym (drop-drop (length (text v)) at out) ∙ ap (drop (length (text v))) tail ∙ drop-drop (length (text v)) at was ∙ ap (λ k. drop k was) (sym n.place) in (
          n.place ∙ ap (λ k. k + length (text v)) b.size ∙ sym (length-append front (text v)) ∙ ap length (sym (both m e)),
          n.bytes ∙ (λ j. head j ++ (text v ++ rest j)) ∙ sym (append_assoc front (text v) (drop r was)) ∙ ap (λ l. l ++ drop r was) (sym (both m e)),
        )

  pub so_far_more : (u : Walk) → size ≤ 47128 → Stepped v true u → ((ps : List Pass) (last k : ℕ) (hs : List ℤ) → At v ps last k hs → k < last → At u ps last (k + 1) hs) → SoFar w u was after r
  so_far_more u most s up =
      let more : v.level < v.last = ltb-true v.level v.last (sym s.answer) in
      let next : u.level ≡ v.level + 1 = s.so_far in
      record {
        low = omega (arith, next, s.to, more);
        within = omega (arith, p.within, ap (λ k. 47128 * k) next);
        law = λ ps hs a.
            let on = put_on ps hs a u.level (next ∙ add-one v.level) in
            let q = (p.law ps hs a).here in
            record {
              here = subst (λ k. At u ps (length ps) k hs) (sym next) (up ps (length ps) v.level hs q (omega (arith, more, q.to)));
              size = on.0;
              bytes = on.1;
            };
      }

  pub so_far_all : (u : Walk) → Stepped v false u → (ps : List Pass) (hs : List ℤ) → At w ps (length ps) 0 hs → (r ≡ length (listings ps hs (suc (length ps)))) × (after ≡ listings ps hs (suc (length ps)) ++ drop r was)
  so_far_all u s ps hs a =
      let top : v.last ≤ v.level = ltb-false v.level v.last (sym s.answer) in
      let q = (p.law ps hs a).here in
      put_on ps hs a (suc (length ps)) (ap suc (omega (arith, top, p.low, q.to)))

  pub so_far_less : (u : Walk) → Stepped v true u → u.last - u.level < v.last - v.level
  so_far_less u s = omega (arith, ltb-true v.level v.last (sym s.answer), s.to, s.so_far)

-- there is room for the text of the next level
pub so_far_room : (w v : Walk) (was out : List ℕ) (at : ℕ) → SoFar w v was out at → 1178200 ≤ length out → (v.level ≤ 24) × (at + 47128 ≤ length out)
so_far_room w v was out at p room = (omega (arith, p.low, last_low v), omega (arith, p.within, p.low, last_low v, room))
