-- The law of the pair.
use Rattle.std.proofs.Common.{◌≡◌, ℕ, ◌≤◌, ◌⊎◌, List, [], ◌∷◌, ℤ, pos, ◌+ℤ◌, ◌*ℤ◌, sym, ap, ◌∙◌, subst, inl, inr, arith}
use lib.IntN.{+ℤ_idr}
use Rattle.scale_space.specs.Signs.{Sign, level, sign, changes}
use Rattle.scale_space.specs.Taps.{dot, windows}
use Rattle.scale_space.proofs.Sides.{Either, sign_sum, sign_times}
use Rattle.scale_space.proofs.Walk.{Said, stop, read, say, next, Seen, seen_next, seen_like, said_changes}
use Rattle.scale_space.proofs.Windows.{windows_cons, windows_short}

-- what the signs of x and y allow
pub either_map : {v w v' w' t : Sign} → (v ≡ level) ⊎ (v ≡ v') → (w ≡ level) ⊎ (w ≡ w') → Either v w t → Either v' w' t
either_map f g (inl e) = inl e
either_map (inl a) g (inr (inl e)) = inl (e ∙ a)
either_map (inr a) g (inr (inl e)) = inr (inl (e ∙ a))
either_map f (inl b) (inr (inr e)) = inl (e ∙ b)
either_map f (inr b) (inr (inr e)) = inr (inr (e ∙ b))

-- a blend of two numbers by naturals is zero, or has the sign of one of them
pub sign_blend : (a b : ℕ) (x y : ℤ) → Either (sign x) (sign y) (sign (pos a *ℤ x +ℤ pos b *ℤ y))
sign_blend a b x y = either_map (sign_times a x) (sign_times b y) (sign_sum (pos a *ℤ x) (pos b *ℤ y))

-- z, of a sign that x and y allow, is said between them or after y, and then the rest
pub say_between : (u : Sign) (x y z : ℤ) (ys zs : List ℤ) → Seen u x → Either (sign x) (sign y) (sign z) → Said (next u (sign y)) ys zs → Said u (y ∷ ys) (z ∷ zs)
say_between u x y z ys zs s (inl e) d = say (inl e) (read d)
say_between u x y z ys zs s (inr (inl e)) d = say (seen_like u x z e s) (read d)
say_between u x y z ys zs s (inr (inr e)) d = read (say (seen_like (next u (sign y)) y z e (seen_next u y)) d)

pub pair_window : (a b : ℕ) (x y : ℤ) (ys : List ℤ) → windows (a ∷ b ∷ []) (x ∷ y ∷ ys) ≡ (pos a *ℤ x +ℤ pos b *ℤ y) ∷ windows (a ∷ b ∷ []) (y ∷ ys)
unfolding dot
pair_window a b x y ys = windows_cons (a ∷ b ∷ []) x (y ∷ ys) (omega arith) ∙ ap (λ z. (pos a *ℤ x +ℤ z) ∷ windows (a ∷ b ∷ []) (y ∷ ys)) (+ℤ_idr (pos b *ℤ y))

pair_said : (a b : ℕ) (u : Sign) (x : ℤ) (xs : List ℤ) → Seen u x → Said u xs (windows (a ∷ b ∷ []) (x ∷ xs))
pair_said a b u x [] s = subst (Said u []) (sym (windows_short (a ∷ b ∷ []) (x ∷ []) (omega arith))) stop
pair_said a b u x (y ∷ ys) s =
    subst (Said u (y ∷ ys)) (sym (pair_window a b x y ys))
    (say_between u x y (pos a *ℤ x +ℤ pos b *ℤ y) ys (windows (a ∷ b ∷ []) (y ∷ ys)) s (sign_blend a b x y) (pair_said a b (next u (sign y)) y ys (seen_next u y)))

pub law_of_pair : (a b : ℕ) (xs : List ℤ) → changes (windows (a ∷ b ∷ []) xs) ≤ changes xs
law_of_pair a b [] = said_changes [] (windows (a ∷ b ∷ []) []) (subst (Said level []) (sym (windows_short (a ∷ b ∷ []) [] (omega arith))) stop)
law_of_pair a b (x ∷ xs) = said_changes (x ∷ xs) (windows (a ∷ b ∷ []) (x ∷ xs)) (read (pair_said a b (next level (sign x)) x xs (seen_next level x)))
