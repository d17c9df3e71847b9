-- The law of the triple: taps a, b, c with 4ac ≤ b².
-- Between each two samples x and y goes the pair p x y = b x + 2c y. That adds no change, and the triple's window of x, y, z is, 2b times over,
-- 2a (p x y) + (b² − 4ac) y + b (p y z): a blend of three neighbours of the longer list, of which the next window's three share only the last.
use Rattle.std.proofs.Common.{◌≡◌, ℕ, zero, suc, ◌+◌, ◌-◌, ◌*◌, ◌≤◌, ◌⊎◌, List, [], ◌∷◌, ℤ, pos, ◌+ℤ◌, ◌*ℤ◌, sym, refl, ap, ◌∙◌, subst, inl, inr, le_trans, arith}
use lib.IntN.{+ℤ_idr, +ℤ_idl, zero-*ℤ}
use borrow.Author.Differences.{ints}
use Rattle.scale_space.specs.Signs.{Sign, level, sign, changes}
use Rattle.scale_space.specs.Taps.{dot, windows}
use Rattle.scale_space.proofs.Ring.{*ℤ-+ℤ, times_times, times_plus}
use Rattle.scale_space.proofs.Sides.{Either, sign_sum, sign_times, sign_multiple}
use Rattle.scale_space.proofs.Walk.{Said, stop, read, say, next, Seen, seen_next, seen_like, said_changes}
use Rattle.scale_space.proofs.Windows.{windows_cons, windows_short}
use Rattle.scale_space.proofs.Pairs.{sign_blend, say_between}

-- t is level, or one of three signs
abbrev Three : Sign → Sign → Sign → Sign → Type 0
Three v w z t = (t ≡ level) ⊎ ((t ≡ v) ⊎ ((t ≡ w) ⊎ (t ≡ z)))

-- x and then the samples, with p of each two neighbours between them
weave : (ℤ → ℤ → ℤ) → ℤ → List ℤ → List ℤ
weave p x [] = x ∷ []
weave p x (y ∷ ys) = x ∷ p x y ∷ weave p y ys

triple : ℕ → ℕ → ℕ → ℤ → ℤ → ℤ → ℤ
triple a b c x y z = pos a *ℤ x +ℤ (pos b *ℤ y +ℤ pos c *ℤ z)

triple_window : (a b c : ℕ) (x y z : ℤ) (zs : List ℤ) → windows (a ∷ b ∷ c ∷ []) (x ∷ y ∷ z ∷ zs) ≡ triple a b c x y z ∷ windows (a ∷ b ∷ c ∷ []) (y ∷ z ∷ zs)
unfolding dot triple
triple_window a b c x y z zs = windows_cons (a ∷ b ∷ c ∷ []) x (y ∷ z ∷ zs) (omega arith) ∙ ap (λ w. (pos a *ℤ x +ℤ (pos b *ℤ y +ℤ w)) ∷ windows (a ∷ b ∷ c ∷ []) (y ∷ z ∷ zs)) (+ℤ_idr (pos c *ℤ z))

module _ (p : ℤ → ℤ → ℤ) (between : (x y : ℤ) → Either (sign x) (sign y) (sign (p x y))) where
  weave_said : (u : Sign) (x : ℤ) (xs : List ℤ) → Seen u x → Said u xs (weave p x xs)
  unfolding weave
  weave_said u x [] s = say s stop
  weave_said u x (y ∷ ys) s = say s (say_between u x y (p x y) ys (weave p y ys) s (between x y) (weave_said (next u (sign y)) y ys (seen_next u y)))

  weave_changes : (x : ℤ) (xs : List ℤ) → changes (weave p x xs) ≤ changes (x ∷ xs)
  weave_changes x xs = said_changes (x ∷ xs) (weave p x xs) (read (weave_said (next level (sign x)) x xs (seen_next level x)))

  say_among : (u : Sign) (x y z t : ℤ) (zs ts : List ℤ) → Seen u (p x y) → Three (sign (p x y)) (sign y) (sign (p y z)) (sign t) → Said (next (next u (sign y)) (sign (p y z))) zs ts → Said u (y ∷ p y z ∷ zs) (t ∷ ts)
  say_among u x y z t zs ts s (inl e) d = say (inl e) (read (read d))
  say_among u x y z t zs ts s (inr (inl e)) d = say (seen_like u (p x y) t e s) (read (read d))
  say_among u x y z t zs ts s (inr (inr (inl e))) d = read (say (seen_like (next u (sign y)) y t e (seen_next u y)) (read d))
  say_among u x y z t zs ts s (inr (inr (inr e))) d = read (read (say (seen_like (next (next u (sign y)) (sign (p y z))) (p y z) t e (seen_next (next u (sign y)) (p y z))) d))

  module _ (a b c : ℕ) (among : (x y z : ℤ) → Three (sign (p x y)) (sign y) (sign (p y z)) (sign (triple a b c x y z))) where
    -- x and y were read, and what stands between them
    triple_said : (u : Sign) (x y : ℤ) (zs : List ℤ) → Seen u (p x y) → Said u (weave p y zs) (windows (a ∷ b ∷ c ∷ []) (x ∷ y ∷ zs))
    unfolding weave
    triple_said u x y [] s = subst (Said u (y ∷ [])) (sym (windows_short (a ∷ b ∷ c ∷ []) (x ∷ y ∷ []) (omega arith))) stop
    triple_said u x y (z ∷ zs) s =
        subst (Said u (y ∷ p y z ∷ weave p z zs)) (sym (triple_window a b c x y z zs))
        (say_among u x y z (triple a b c x y z) (weave p z zs) (windows (a ∷ b ∷ c ∷ []) (y ∷ z ∷ zs)) s (among x y z)
        (triple_said (next (next u (sign y)) (sign (p y z))) y z zs (seen_next (next u (sign y)) (p y z))))

    triple_changes : (xs : List ℤ) → changes (windows (a ∷ b ∷ c ∷ []) xs) ≤ changes xs
    unfolding weave
    triple_changes [] = said_changes [] (windows (a ∷ b ∷ c ∷ []) []) (subst (Said level []) (sym (windows_short (a ∷ b ∷ c ∷ []) [] (omega arith))) stop)
    triple_changes (x ∷ []) = said_changes (x ∷ []) (windows (a ∷ b ∷ c ∷ []) (x ∷ [])) (subst (Said level (x ∷ [])) (sym (windows_short (a ∷ b ∷ c ∷ []) (x ∷ []) (omega arith))) stop)
    triple_changes (x ∷ y ∷ zs) =
        le_trans (said_changes (x ∷ p x y ∷ weave p y zs) (windows (a ∷ b ∷ c ∷ []) (x ∷ y ∷ zs)) (read (read (triple_said (next (next level (sign x)) (sign (p x y))) x y zs (seen_next (next level (sign x)) (p x y))))))
        (weave_changes x (y ∷ zs))

-- a blend of three numbers by naturals is zero, or has the sign of one of them
sign_blend_three : (a b c : ℕ) (x y z : ℤ) → Three (sign x) (sign y) (sign z) (sign (triple a b c x y z))
unfolding triple
sign_blend_three a b c x y z = go (sign_sum (pos a *ℤ x) (pos b *ℤ y +ℤ pos c *ℤ z)) (sign_times a x) (sign_blend b c y z)
  where
    go : {v w t : Sign} → Either v w t → (v ≡ level) ⊎ (v ≡ sign x) → Either (sign y) (sign z) w → Three (sign x) (sign y) (sign z) t
    go (inl e) f g = inl e
    go (inr (inl e)) (inl f) g = inl (e ∙ f)
    go (inr (inl e)) (inr f) g = inr (inl (e ∙ f))
    go (inr (inr e)) f (inl g) = inl (e ∙ g)
    go (inr (inr e)) f (inr (inl g)) = inr (inr (inl (e ∙ g)))
    go (inr (inr e)) f (inr (inr g)) = inr (inr (inr (e ∙ g)))

pair : ℕ → ℕ → ℤ → ℤ → ℤ
pair b c x y = pos b *ℤ x +ℤ pos (2 * c) *ℤ y

pair_between : (b c : ℕ) (x y : ℤ) → Either (sign x) (sign y) (sign (pair b c x y))
unfolding pair
pair_between b c x y = sign_blend b (2 * c) x y

shuffle : (x p q r z : ℤ) → x +ℤ ((p +ℤ (q +ℤ r)) +ℤ z) ≡ (x +ℤ p) +ℤ (q +ℤ (r +ℤ z))
shuffle x p q r z = omega (arith, ints)

-- 2b times the triple, as a blend of pairs
as_pairs : (a b c d : ℕ) (x y z : ℤ) → b * b ≡ 4 * (a * c) + d → pos (2 * b) *ℤ triple a b c x y z ≡ triple (2 * a) d b (pair b c x y) y (pair b c y z)
unfolding triple pair
as_pairs a b c d x y z e =
    let ex : pos (2 * b * a) *ℤ x ≡ pos (2 * a * b) *ℤ x = ap (λ n. pos n *ℤ x) (omega arith) in
    let ez : pos (2 * b * c) *ℤ z ≡ pos (b * (2 * c)) *ℤ z = ap (λ n. pos n *ℤ z) (omega arith) in
    let ey : pos (2 * b * b) *ℤ y ≡ pos (2 * a * (2 * c)) *ℤ y +ℤ (pos d *ℤ y +ℤ pos (b * b) *ℤ y) =
    times_plus (2 * b * b) (2 * a * (2 * c)) (d + b * b) y (omega arith) ∙ ap (λ w. pos (2 * a * (2 * c)) *ℤ y +ℤ w) (times_plus (d + b * b) d (b * b) y refl)
    in
    simp (*ℤ-+ℤ, times_times) ((λ i. ex i +ℤ (ey i +ℤ ez i)) ∙ shuffle (pos (2 * a * b) *ℤ x) (pos (2 * a * (2 * c)) *ℤ y) (pos d *ℤ y) (pos (b * b) *ℤ y) (pos (b * (2 * c)) *ℤ z))

three_of_left : {v w z t : Sign} → Either v w t → Three v w z t
three_of_left (inl e) = inl e
three_of_left (inr (inl e)) = inr (inl e)
three_of_left (inr (inr e)) = inr (inr (inl e))

three_of_right : {v w z t : Sign} → Either w z t → Three v w z t
three_of_right (inl e) = inl e
three_of_right (inr (inl e)) = inr (inr (inl e))
three_of_right (inr (inr e)) = inr (inr (inr e))

-- b is not 0: between two samples stands their pair
among_pairs : (a b c d : ℕ) (x y z : ℤ) → suc b * suc b ≡ 4 * (a * c) + d → Three (sign (pair (suc b) c x y)) (sign y) (sign (pair (suc b) c y z)) (sign (triple a (suc b) c x y z))
among_pairs a b c d x y z e =
    let two : 2 * suc b ≡ suc (1 + 2 * b) = omega arith in
    let same : sign (triple a (suc b) c x y z) ≡ sign (triple (2 * a) d (suc b) (pair (suc b) c x y) y (pair (suc b) c y z)) =
    sym (sign_multiple (1 + 2 * b) (triple a (suc b) c x y z)) ∙ ap (λ n. sign (pos n *ℤ triple a (suc b) c x y z)) (sym two) ∙ ap sign (as_pairs a (suc b) c d x y z e)
    in
    subst (Three (sign (pair (suc b) c x y)) (sign y) (sign (pair (suc b) c y z))) (sym same) (sign_blend_three (2 * a) d (suc b) (pair (suc b) c x y) y (pair (suc b) c y z))

-- an end tap is 0: between two samples stands the one, or the other
among_right : (b c : ℕ) (x y z : ℤ) → Three (sign y) (sign y) (sign z) (sign (triple 0 b c x y z))
unfolding triple
among_right b c x y z = three_of_right (subst (Either (sign y) (sign z)) (sym (ap sign (ap (λ w. w +ℤ (pos b *ℤ y +ℤ pos c *ℤ z)) (zero-*ℤ x) ∙ +ℤ_idl (pos b *ℤ y +ℤ pos c *ℤ z)))) (sign_blend b c y z))

among_left : (a b : ℕ) (x y z : ℤ) → Three (sign x) (sign y) (sign y) (sign (triple a b 0 x y z))
unfolding triple
among_left a b x y z = three_of_left (subst (Either (sign x) (sign y)) (sym (ap (λ w. sign (pos a *ℤ x +ℤ w)) (ap (λ w. pos b *ℤ y +ℤ w) (zero-*ℤ z) ∙ +ℤ_idr (pos b *ℤ y)))) (sign_blend a b x y))

pub law_of_triple : (a b c : ℕ) → 4 * (a * c) ≤ b * b → (xs : List ℤ) → changes (windows (a ∷ b ∷ c ∷ []) xs) ≤ changes xs
law_of_triple a (suc b) c h xs = triple_changes (pair (suc b) c) (pair_between (suc b) c) a (suc b) c (λ x y z. among_pairs a b c (suc b * suc b - 4 * (a * c)) x y z (omega arith)) xs
law_of_triple zero zero c h xs = triple_changes (λ x y. y) (λ x y. inr (inr refl)) 0 0 c (among_right 0 c) xs
law_of_triple (suc a) zero zero h xs = triple_changes (λ x y. x) (λ x y. inr (inl refl)) (suc a) 0 0 (among_left (suc a) 0) xs
law_of_triple (suc a) zero (suc c) h xs = absurd (omega arith)
