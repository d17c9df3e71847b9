-- What is tallied for a schedule sheet that was read, and that the numbers never rise.
use Rattle.std.proofs.Common.{◌≡◌, ℕ, zero, suc, ◌+◌, ◌-◌, ◌<◌, ◌≤◌, List, [], ◌∷◌, ◌++◌, length, get_or, take, drop, ℤ, Ok, Err, Result, sym, refl, ap, ◌∙◌, subst, ⊎_elim, append_assoc, add-one, arith}
use borrow.Rule.Slice.PartMut.{put_mid}
use native.Mathlib.Nat.{sub-zero}
use Rattle.std.proofs.lemmas.List.{length-append, get_or_at}
use Rattle.std.proofs.lemmas.Bool.{le-leb, lt-leb, cond-true, cond-false, cases_lt}
use Rattle.scale_space.specs.declared.passes.Pass.{Pass}
use Rattle.scale_space.specs.Laws.{Calm}
use Rattle.scale_space.specs.Levels.{turn_count}
use Rattle.scale_space.specs.Passes.{level}
use Rattle.scale_space.proofs.Calm.{levels_calm}
use Rattle.samples.specs.declared.refusals.Refusal.{Refusal}
use Rattle.levels.specs.declared.walks.Walk.{Walk}
use Rattle.levels.specs.Drawing.{allowed}
use Rattle.levels.specs.Walks.{At}
use Rattle.sheets.specs.declared.faults.SheetFault.{SheetFault}
use Rattle.sheets.specs.declared.faults.SheetFault.TheVariants.{BufferTooShort}
use Rattle.sheets.specs.Lines.{answer}
use Rattle.sheets.specs.ScheduleSheets.{schedule_of}
use Rattle.sheets.proofs.ExactSchedules.{exact_schedule}
use Rattle.embedding.specs.declared.replies.Obstacle.{Obstacle}
use Rattle.embedding.specs.declared.replies.Obstacle.TheVariants.{Room}
use Rattle.embedding.specs.Replies.{for_room, reply_to}
use Rattle.embedding.specs.Tallies.{turn_counts, put_counts, tallied}

pub length_counts : (ps : List Pass) (hs : List ℤ) (n : ℕ) → length (turn_counts ps hs n) ≡ n
length_counts ps hs zero = omega arith
length_counts ps hs (suc n) = omega (arith, length-append (turn_counts ps hs n) (turn_count (level (take n ps) hs) ∷ []), length_counts ps hs n)

-- ---- what comes out

module _ (s : Result (List Pass) SheetFault) (ps : List Pass) (reads : Ok ps ≡ s) (hs : List ℤ) (places : List ℕ) (last : ℕ) (to : last ≡ length ps) (lawful : allowed ps last hs (length hs) ≡ Ok tt) where
  abbrev all : List ℕ
  all = turn_counts ps hs (suc (length ps))

  is : put_counts (Ok tt) all places ≡ tallied s hs places
  is =
      ap (λ a. put_counts a all places) (sym lawful ∙ ap (λ k. allowed ps k hs (length hs)) to)
      ∙ ap (λ x. tallied x hs places) reads

  pub tallied_short : length places < last + 1 → (Err Room, places) ≡ tallied s hs places
  tallied_short l =
      let no : answer (Ok all) places ≡ (Err BufferTooShort, places) = cond-false _ _ _ (lt-leb (length all) (length places) (omega (arith, to, length_counts ps hs (suc (length ps))))) in
      (λ j. (for_room (sym no j).0, (sym no j).1)) ∙ is

  pub tallied_all : last + 1 ≤ length places → (w : Walk) → At w ps last 0 hs → (put : List ℕ) → ((qs : List Pass) (ks : List ℤ) → At w qs (length qs) 0 ks → put ≡ turn_counts qs ks (suc (length qs))) → (Ok (last + 1), put_mid 0 (last + 1 - 0) places put) ≡ tallied s hs places
  tallied_all l w a put counts =
      let size : last + 1 ≡ length all = omega (arith, to, length_counts ps hs (suc (length ps))) in
      let here : put ≡ all = counts ps hs (subst (λ n. At w ps n 0 hs) to a) in
      let yes : answer (Ok all) places ≡ (Ok (length all), all ++ drop (length all) places) = cond-true _ _ _ (le-leb (length all) (length places) (omega (arith, size, l))) in
      let rest : drop (last + 1 - 0) (drop 0 places) ≡ drop (length all) places = ap (λ k. drop k places) (sub-zero (last + 1) ∙ size) in
      (λ j. (Ok (size j), here j ++ rest j))
      ∙ (λ j. (for_room (sym yes j).0, (sym yes j).1))
      ∙ is

-- ---- the numbers never rise

get_or_counts : (ps : List Pass) (hs : List ℤ) (n k : ℕ) (rest : List ℕ) → k < n → get_or (turn_counts ps hs n ++ rest) k 0 ≡ turn_count (level (take k ps) hs)
get_or_counts ps hs zero k rest l = absurd (omega arith)
get_or_counts ps hs (suc n) k rest l =
    let here = turn_count (level (take n ps) hs) in
    ap (λ xs. get_or xs k 0) (append_assoc (turn_counts ps hs n) (here ∷ []) rest)
    ∙ ⊎_elim
    (λ (lt : k < n). get_or_counts ps hs n k (here ∷ rest) lt)
    (λ (ge : n ≤ k).
    let same : n ≡ k = omega arith in
    get_or_at (turn_counts ps hs n) here rest 0 k (length_counts ps hs n ∙ same) ∙ ap (λ m. turn_count (level (take m ps) hs)) same)
    (cases_lt k n)

-- the first n numbers never rise
abbrev Falling : ℕ → List ℕ → Type 0
Falling n xs = (k : ℕ) → suc k < n → get_or xs (suc k) 0 ≤ get_or xs k 0

counts_fall : (ps : List Pass) (hs : List ℤ) (rest : List ℕ) → Calm ps hs → Falling (suc (length ps)) (turn_counts ps hs (suc (length ps)) ++ rest)
counts_fall ps hs rest calm k l =
    let here = get_or_counts ps hs (suc (length ps)) k rest (omega arith) in
    let next = get_or_counts ps hs (suc (length ps)) (suc k) rest l in
    let less = (calm.stepwise k (omega arith)).turned in
    omega (arith, here, next, less, ap (λ m. turn_count (level (take m ps) hs)) (add-one k))

abbrev Fair : Result ℕ Obstacle × List ℕ → Type 0
Fair o = Falling (reply_to o.0).count o.1

put_falls : (ps : List Pass) (hs : List ℤ) (places : List ℕ) → Calm ps hs → (a : Result (Unit {0}) Refusal) → Fair (put_counts a (turn_counts ps hs (suc (length ps))) places)
put_falls ps hs places calm (Err why) = λ k l. absurd (omega arith)
put_falls ps hs places calm (Ok u) =
    let all = turn_counts ps hs (suc (length ps)) in
    ⊎_elim
    (λ (short : length places < length all).
    let no : answer (Ok all) places ≡ (Err BufferTooShort, places) = cond-false _ _ _ (lt-leb (length all) (length places) short) in
    let none : Falling 0 places = λ k l. absurd (omega arith) in
    subst (λ o. Fair (for_room o.0, o.1)) (sym no) none)
    (λ (long : length all ≤ length places).
    let yes : answer (Ok all) places ≡ (Ok (length all), all ++ drop (length all) places) = cond-true _ _ _ (le-leb (length all) (length places) long) in
    let falls : Falling (length all) (all ++ drop (length all) places) = subst (λ n. Falling n (all ++ drop (length all) places)) (sym (length_counts ps hs (suc (length ps)))) (counts_fall ps hs (drop (length all) places) calm) in
    subst (λ o. Fair (for_room o.0, o.1)) (sym yes) falls)
    (cases_lt (length places) (length all))

tallied_falls : (s : Result (List Pass) SheetFault) (hs : List ℤ) (places : List ℕ) → ((ps : List Pass) → s ≡ Ok ps → Calm ps hs) → Fair (tallied s hs places)
tallied_falls (Err fault) hs places calm = λ k l. absurd (omega arith)
tallied_falls (Ok ps) hs places calm = put_falls ps hs places (calm ps refl) (allowed ps (length ps) hs (length hs))

-- what a sheet gives may stand in a schedule, and so its levels are calm
pub sheet_calm : (bytes : List ℕ) (ps : List Pass) (hs : List ℤ) → schedule_of bytes ≡ Ok ps → Calm ps hs
sheet_calm bytes ps hs e = levels_calm ps (exact_schedule.stands bytes ps e).each hs

pub replied_falls : (bytes : List ℕ) (hs : List ℤ) (places after : List ℕ) (n : ℕ) → n ≡ (reply_to (tallied (schedule_of bytes) hs places).0).count → after ≡ (tallied (schedule_of bytes) hs places).1 → Falling n after
replied_falls bytes hs places after n e f =
    let all = tallied_falls (schedule_of bytes) hs places (λ ps is. sheet_calm bytes ps hs is) in
    subst (λ m. Falling m after) (sym e) (subst (Falling (reply_to (tallied (schedule_of bytes) hs places).0).count) (sym f) all)
