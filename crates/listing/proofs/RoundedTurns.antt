-- Turns whose numerators are replaced by their rounded heights, one after another.
use Rattle.std.proofs.Common.{◌≡◌, ℕ, ◌+◌, ◌-◌, ◌*◌, ◌<◌, ◌≤◌, true, List, [], ◌∷◌, ◌++◌, map, length, get_or, take, drop, set, ℤ, pos, nat_abs, Ok, Err, Result, sym, refl, ap, ◌∙◌, subst, append-nil, arith}
use Rattle.std.specs.List.{flat_map, AllByRecursion}
use Rattle.std.proofs.lemmas.List.Edits.{map_over_more}
use Rattle.std.proofs.ByRecursion.{All-get_or}
use Rattle.std.proofs.lemmas.List.{length-append, length-drop, length-map, length-take-le, get_or_default, get_or-drop, get_or-append_right, take_all, drop_all}
use Rattle.std.proofs.lemmas.Bool.{le-leb, cond-true}
use Rattle.scale_space.specs.declared.turns.Turn.{Turn}
use Rattle.scale_space.specs.declared.turns.TurnKind.TheVariants.{Ridge}
use Rattle.scale_space.specs.Rounding.{rounded}
use Rattle.samples.specs.declared.refusals.Refusal.{Refusal}
use Rattle.samples.specs.Answers.{scale_lawful, rounding_one}
use Rattle.listing.specs.Listing.{turn_line, height_line, turn_rounded}

-- what the checker reads past the end of a table
abbrev pub no_turn : Turn
no_turn = record { kind = Ridge; place = 0; numerator = pos 0 }

-- a turn whose height at the scale s is in range
abbrev pub Small : ℕ → Turn → Type 0
Small s t = nat_abs t.numerator ≤ 100000 * s

rounds : (s : ℕ) (x : ℤ) → scale_lawful s ≡ true → nat_abs x ≤ 100000 * s → rounding_one x s ≡ Ok (rounded s x)
rounds s x e l = cond-true (scale_lawful s) _ _ e ∙ cond-true _ _ _ (le-leb (nat_abs x) (100000 * s) l)

-- the first i turns have their heights
abbrev pub RoundedSoFar : ℕ → List Turn → ℕ → List Turn → Type 0
RoundedSoFar s was i turns = turns ≡ map (turn_rounded s) (take i was) ++ drop i was

module _ (s : ℕ) (was : List Turn) (i : ℕ) (turns : List Turn) (inv : RoundedSoFar s was i turns) where
  module _ (lawful : scale_lawful s ≡ true) (small : AllByRecursion (Small s) was) (d : Turn) (l : i < length was) where
    front : length (map (turn_rounded s) (take i was)) ≡ i
    front = length-map (take i was) (turn_rounded s) ∙ length-take-le i was (omega arith)

    long : length turns ≡ length was
    long = ap length inv ∙ length-append (map (turn_rounded s) (take i was)) (drop i was) ∙ omega (arith, front, length-drop i was)

    still : get_or turns i d ≡ get_or was i d
    still =
        let here : i + (i - i) ≡ i = omega arith in
        ap (λ ts. get_or ts i d) inv
        ∙ get_or-append_right (map (turn_rounded s) (take i was)) (drop i was) i i d front (omega arith)
        ∙ get_or-drop i was (i - i) d ∙ ap (λ n. get_or was n d) here

    height : rounding_one (get_or turns i d).numerator s ≡ Ok (rounded s (get_or turns i d).numerator)
    height = rounds s (get_or turns i d).numerator lawful (subst (Small s) (sym still) (All-get_or (Small s) was i d l small))

    pub round_never : (why : Refusal) → Err why ≡ rounding_one (get_or turns i d).numerator s → ⊥
    round_never why e =
        let f : ◌≡◌ {A = Result ℤ Refusal} (Err why) (Ok (rounded s (get_or turns i d).numerator)) = e ∙ height in
        let z : ◌≡◌ {A = ℕ} 0 1 = cc in
        omega arith

    pub round_more : (h : ℤ) → Ok h ≡ rounding_one (get_or turns i d).numerator s → RoundedSoFar s was (i + 1) (set turns i (record { kind = (get_or turns i d).kind; place = (get_or turns i d).place; numerator = h }))
    round_more h e =
        let t = get_or turns i d in
        let f : ◌≡◌ {A = Result ℤ Refusal} (Ok h) (Ok (rounded s t.numerator)) = e ∙ height in
        let is : h ≡ rounded s t.numerator = cc in
        let m = long in
        ap (λ x. set turns i (record { kind = t.kind; place = t.place; numerator = x })) is
        ∙ map_over_more (turn_rounded s) was turns i t l inv (get_or_default turns i d t (omega arith))

  pub round_all : length was ≤ i → turns ≡ map (turn_rounded s) was
  round_all l = inv ∙ (λ j. map (turn_rounded s) (take_all i was l j) ++ drop_all i was l j) ∙ append-nil (map (turn_rounded s) was)

pub rounded_lines : (k s : ℕ) (ts : List Turn) → flat_map (height_line k) (map (turn_rounded s) ts) ≡ flat_map (turn_line k s) ts
rounded_lines k s [] = refl
rounded_lines k s (t ∷ ts) = ap (λ l. turn_line k s t ++ l) (rounded_lines k s ts)
