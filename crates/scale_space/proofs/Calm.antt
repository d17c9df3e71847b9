-- What obeys the law of taps smooths; roundings and levels are calm.
use Rattle.std.proofs.Common.{◌≡◌, ℕ, ◌*◌, ◌<◌, ◌≤◌, true, List, [], ◌∷◌, map, length, get_or, take, ℤ, pos, ◌*ℤ◌, fold, sym, subst, subst₂, mul-pos, arith}
use borrow.Author.Differences.{ints}
use Rattle.std.specs.List.{AllByRecursion}
use Rattle.std.proofs.ByRecursion.{All-get_or, All-take, All-map, All-weaker}
use Rattle.std.proofs.lemmas.List.Sums.{fold_more}
use Rattle.std.proofs.lemmas.Bool.{leb-true}
use Rattle.scale_space.specs.declared.passes.Pass.{Pass}
use Rattle.scale_space.specs.declared.passes.Pass.TheVariants.{Pair, Triple}
use Rattle.scale_space.specs.Taps.{scale}
use Rattle.scale_space.specs.Crossings.{crossings}
use Rattle.scale_space.specs.Levels.{Level, ground, weighed, mapped, whole, Calmer, Between, Within, Diminishing, Smooths}
use Rattle.scale_space.specs.Passes.{weights, admitted, Proper, level}
use Rattle.scale_space.specs.Laws.{Calm}
use Rattle.scale_space.specs.Rounding.{rounded, Rounds}
use Rattle.scale_space.proofs.Ring.{*ℤ-assoc}
use Rattle.scale_space.proofs.Pairs.{law_of_pair}
use Rattle.scale_space.proofs.Triples.{law_of_triple}
use Rattle.scale_space.proofs.Moves.{diminishing_turns, diminishing_heights}
use Rattle.scale_space.proofs.Rounding.{kept_turns, rounds_crossings, rounds_at_least, rounds_at_most, rounded_rounds}
use Rattle.scale_space.proofs.Bounds.{windows_between}

pub admitted_diminish : (p : Pass) → admitted p ≡ true → Diminishing (weights p)
admitted_diminish (Pair a b) h = law_of_pair a b
admitted_diminish (Triple a b c) h = law_of_triple a b c (leb-true (4 * (a * c)) (b * b) h)

-- bounds that are written in two ways
recast : (low low' high high' : ℤ) (xs : List ℤ) → low ≡ low' → high ≡ high' → AllByRecursion (Between low high) xs → AllByRecursion (Between low' high') xs
recast low low' high high' xs e f h = subst₂ (λ u v. AllByRecursion (Between u v) xs) e f h

pub diminishing_smooths : (ts : List ℕ) → 0 < length ts → Diminishing ts → Smooths ts
diminishing_smooths [] h law l p = absurd (omega arith)
diminishing_smooths (t ∷ ts) h law l p = record {
  turned = diminishing_turns t ts law l.numerators;
  crossed = λ c. diminishing_heights (t ∷ ts) law c l.scale l.numerators;
  bounded = λ low high w. recast _ _ _ _ (weighed (t ∷ ts) l).numerators (*ℤ-assoc low s n) (*ℤ-assoc high s n) (windows_between (low *ℤ s) (high *ℤ s) (t ∷ ts) l.numerators w);
}
  where
    s : ℤ
    s = pos l.scale

    n : ℤ
    n = pos (scale (t ∷ ts))

pub admitted_smooth : (p : Pass) → admitted p ≡ true → Smooths (weights p)
admitted_smooth (Pair a b) h = diminishing_smooths (a ∷ b ∷ []) (omega arith) (admitted_diminish (Pair a b) h)
admitted_smooth (Triple a b c) h = diminishing_smooths (a ∷ b ∷ c ∷ []) (omega arith) (admitted_diminish (Triple a b c) h)

-- ---- roundings
times_one : (x : ℤ) → x ≡ x *ℤ pos 1
times_one x = omega (arith, ints)

pub roundings_calm : (l : Level) (r : ℤ → ℤ) → Rounds l.scale r → Calmer l (mapped r l)
roundings_calm l r k = record {
  turned = kept_turns r k.order l.numerators;
  crossed = λ c. subst (λ h. length (crossings h (map r l.numerators)) ≤ length (crossings (c *ℤ pos l.scale) l.numerators)) (times_one c) (rounds_crossings l.scale r k c l.numerators);
  bounded = λ low high w.
      recast _ _ _ _ (map r l.numerators) (times_one low) (times_one high)
      (All-map (Between low high) r l.numerators
      (All-weaker (Between (low *ℤ pos l.scale) (high *ℤ pos l.scale)) (λ x. Between low high (r x)) (λ x h. (rounds_at_least l.scale r k low x h.0, rounds_at_most l.scale r k high x h.1)) l.numerators w));
}

pub whole_calm : (l : Level) → 1 ≤ l.scale → Calmer l (whole l)
whole_calm l p = roundings_calm l (rounded l.scale) (rounded_rounds l.scale p)

-- ---- levels
abbrev after : Level → List Pass → Level
after l ps = fold (λ m p. weighed (weights p) m) l ps

after_scale : (l : Level) (ps : List Pass) → AllByRecursion Proper ps → 1 ≤ l.scale → 1 ≤ (after l ps).scale
after_scale l [] h k = k
after_scale l (p ∷ ps) h k = after_scale (weighed (weights p) l) ps h.1 (mul-pos k h.0.some)

after_within : (low high : ℤ) (l : Level) (ps : List Pass) → AllByRecursion Proper ps → 1 ≤ l.scale → Within low high l → Within low high (after l ps)
after_within low high l [] h k w = w
after_within low high l (p ∷ ps) h k w = after_within low high (weighed (weights p) l) ps h.1 (mul-pos k h.0.some) ((admitted_smooth p h.0.admissible l k).bounded low high w)

pub levels_calm : (ps : List Pass) → AllByRecursion Proper ps → (hs : List ℤ) → Calm ps hs
levels_calm ps proper hs = record {
  stepwise = λ k lt.
      subst (Calmer (level (take k ps) hs)) (sym (fold_more (λ m q. weighed (weights q) m) (ground hs) ps k (Pair 0 0) lt))
      (admitted_smooth (get_or ps k (Pair 0 0)) (All-get_or Proper ps k (Pair 0 0) lt proper).admissible (level (take k ps) hs) (positive k));
  rounding = λ k. whole_calm (level (take k ps) hs) (positive k);
  exact = exactly;
  rounded = λ k low high w. (whole_calm (level (take k ps) hs) (positive k)).bounded low high (exactly k low high w);
}
  where
    positive : (k : ℕ) → 1 ≤ (level (take k ps) hs).scale
    positive k = after_scale (ground hs) (take k ps) (All-take Proper k ps proper) (omega arith)

    exactly : (k : ℕ) (low high : ℤ) → Within low high (ground hs) → Within low high (level (take k ps) hs)
    exactly k low high w = after_within low high (ground hs) (take k ps) (All-take Proper k ps proper) (omega arith) w
