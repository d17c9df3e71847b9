-- Sign changes counted by a walk that carries the last sign seen, and what a walk can say.
use Rattle.std.proofs.Common.{◌≡◌, ℕ, zero, suc, ◌+◌, ◌≤◌, ◌⊎◌, List, [], ◌∷◌, ℤ, pos, negsuc, sym, refl, ap, ◌∙◌, subst, inl, inr, arith}
use Rattle.scale_space.specs.Signs.{Sign, below, level, above, sign, clash, nonzero, opposites, changes}

-- the last sign seen, after t
abbrev pub next : Sign → Sign → Sign
next s below = below
next s level = s
next s above = above

-- the changes from the last sign seen, s, along the list
unfoldable pub run : Sign → List ℤ → ℕ
run s [] = 0
run s (x ∷ xs) = clash s (sign x) + run (next s (sign x)) xs

zero_plus : (n : ℕ) → 0 + n ≡ n
zero_plus n = omega arith

pub clash_level : (s : Sign) → clash s level ≡ 0
clash_level below = refl
clash_level level = refl
clash_level above = refl

-- the list begins with x, whose sign is s
opposites_run : (s : Sign) (x : ℤ) (xs : List ℤ) → sign x ≡ s → opposites (x ∷ nonzero xs) ≡ run s xs
unfolding run
opposites_run s x [] e = refl
opposites_run s x (pos zero ∷ ys) e = opposites_run s x ys e ∙ omega (arith, clash_level s)
opposites_run s x (pos (suc n) ∷ ys) e = (λ i. clash (e i) above + opposites_run above (pos (suc n)) ys refl i)
opposites_run s x (negsuc n ∷ ys) e = (λ i. clash (e i) below + opposites_run below (negsuc n) ys refl i)

pub changes_run : (xs : List ℤ) → changes xs ≡ run level xs
unfolding changes run
changes_run [] = refl
changes_run (pos zero ∷ xs) = changes_run xs ∙ sym (zero_plus (run level xs))
changes_run (pos (suc n) ∷ xs) = opposites_run above (pos (suc n)) xs refl ∙ sym (zero_plus (run above xs))
changes_run (negsuc n ∷ xs) = opposites_run below (negsuc n) xs refl ∙ sym (zero_plus (run below xs))

-- ys is said along the list by one who walks it, having seen the sign u last, and at any place says a number that is zero or has the last sign seen
pub data Said : Sign → List ℤ → List ℤ → Type 0 where
  stop : {u : Sign} {xs : List ℤ} → Said u xs []
  read : {u : Sign} {x : ℤ} {xs ys : List ℤ} → Said (next u (sign x)) xs ys → Said u (x ∷ xs) ys
  say : {u : Sign} {xs : List ℤ} {y : ℤ} {ys : List ℤ} → (sign y ≡ level) ⊎ (sign y ≡ u) → Said u xs ys → Said u xs (y ∷ ys)

clash_one : (s t : Sign) → clash s t ≤ 1
clash_one below below = omega arith
clash_one below level = omega arith
clash_one below above = omega arith
clash_one level t = omega arith
clash_one above below = omega arith
clash_one above level = omega arith
clash_one above above = omega arith

triangle : (p u t : Sign) → (u ≡ level → p ≡ level) → clash p (next u t) ≤ clash p u + clash u t
triangle p below below f = omega arith
triangle p below level f = omega arith
triangle p below above f = omega (arith, clash_one p above)
triangle p level t f = omega (arith, ap (λ z. clash z (next level t)) (f refl))
triangle p above below f = omega (arith, clash_one p below)
triangle p above level f = omega arith
triangle p above above f = omega arith

same_clash : (u : Sign) → clash u u ≡ 0
same_clash below = refl
same_clash level = refl
same_clash above = refl

next_same : (p u : Sign) → (u ≡ level → p ≡ level) → next p u ≡ u
next_same p below f = refl
next_same p level f = f refl
next_same p above f = refl

next_level : (u t : Sign) → next u t ≡ level → u ≡ level
next_level u below e = absurd (let z : ◌≡◌ {A = ℕ} 0 1 = cc in omega arith)
next_level u level e = e
next_level u above e = absurd (let z : ◌≡◌ {A = ℕ} 0 1 = cc in omega arith)

-- what is said has no more changes than what is read
said_run : {u : Sign} {xs ys : List ℤ} (p : Sign) → Said u xs ys → (u ≡ level → p ≡ level) → run p ys ≤ run u xs + clash p u
unfolding run
said_run p stop f = omega arith
said_run {u} p (read {x = x} d) f =
    let h = said_run p d (λ e. f (next_level u (sign x) e)) in
    omega (arith, triangle p u (sign x) f)
said_run {u} p (say {xs = xs} {y = y} {ys = ys} (inl e) d) f =
    let h = said_run p d f in
    subst (λ t. clash p t + run (next p t) ys ≤ run u xs + clash p u) (sym e) (omega (arith, clash_level p))
said_run {u} p (say {xs = xs} {y = y} {ys = ys} (inr e) d) f =
    let h = said_run u d (λ z. z) in
    let k : clash p u + run (next p u) ys ≤ run u xs + clash p u = rw (next_same p u f) (omega (arith, same_clash u)) in
    subst (λ t. clash p t + run (next p t) ys ≤ run u xs + clash p u) (sym e) k

pub said_changes : (xs ys : List ℤ) → Said level xs ys → changes ys ≤ changes xs
said_changes xs ys d = rw (changes_run ys, changes_run xs) (omega (arith, said_run level d (λ e. e)))

-- u is the last sign seen, where x was read last
abbrev pub Seen : Sign → ℤ → Type 0
Seen u x = (sign x ≡ level) ⊎ (sign x ≡ u)

pub seen_next : (u : Sign) (x : ℤ) → Seen (next u (sign x)) x
seen_next u (pos zero) = inl refl
seen_next u (pos (suc n)) = inr refl
seen_next u (negsuc n) = inr refl

-- a number of the sign of another, or zero, may be said where the other may
pub seen_like : (u : Sign) (x y : ℤ) → sign y ≡ sign x → Seen u x → Seen u y
seen_like u x y e (inl s) = inl (e ∙ s)
seen_like u x y e (inr s) = inr (e ∙ s)
