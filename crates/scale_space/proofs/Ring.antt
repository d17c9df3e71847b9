-- Ring laws of the whole numbers that lib.IntN lacks.
use Rattle.std.proofs.Common.{◌≡◌, ℕ, ◌+◌, ◌*◌, ℤ, pos, ◌+ℤ◌, ◌-ℤ◌, ◌*ℤ◌, neg_ℤ, sym, ap, ◌∙◌, arith}
use lib.IntN.{*ℤ_comm}
use borrow.Author.Differences.{up, down, same_in, sum_is_lem, neg_is, product_is}

pub up_mul : (a b : ℤ) → up (a *ℤ b) ≡ up a * up b + down a * down b
up_mul a b = (product_is a b).0

pub down_mul : (a b : ℤ) → down (a *ℤ b) ≡ up a * down b + down a * up b
down_mul a b = (product_is a b).1

pub *ℤ-assoc : (a b c : ℤ) → (a *ℤ b) *ℤ c ≡ a *ℤ (b *ℤ c)
*ℤ-assoc a b c = same_in ((a *ℤ b) *ℤ c) (a *ℤ (b *ℤ c)) (simp (up_mul, down_mul) (omega arith))

pub *ℤ-+ℤ : (a b c : ℤ) → a *ℤ (b +ℤ c) ≡ a *ℤ b +ℤ a *ℤ c
*ℤ-+ℤ a b c =
    let s = sum_is_lem b c in
    let u = ap (λ n. up a * n) s in
    let d = ap (λ n. down a * n) s in
    same_in (a *ℤ (b +ℤ c)) (a *ℤ b +ℤ a *ℤ c) (omega (arith, product_is a (b +ℤ c), sum_is_lem (a *ℤ b) (a *ℤ c), product_is a b, product_is a c))

pub +ℤ-*ℤ : (a b c : ℤ) → (a +ℤ b) *ℤ c ≡ a *ℤ c +ℤ b *ℤ c
+ℤ-*ℤ a b c = *ℤ_comm (a +ℤ b) c ∙ *ℤ-+ℤ c a b ∙ (λ i. *ℤ_comm c a i +ℤ *ℤ_comm c b i)

up_neg : (a : ℤ) → up (neg_ℤ a) ≡ down a
up_neg a = (neg_is a).0

down_neg : (a : ℤ) → down (neg_ℤ a) ≡ up a
down_neg a = (neg_is a).1

pub *ℤ-negℤ : (a b : ℤ) → a *ℤ neg_ℤ b ≡ neg_ℤ (a *ℤ b)
*ℤ-negℤ a b = same_in (a *ℤ neg_ℤ b) (neg_ℤ (a *ℤ b)) (simp (up_neg, down_neg, up_mul, down_mul) (omega arith))

pub times_minus : (n : ℕ) (x y : ℤ) → pos n *ℤ (x -ℤ y) ≡ pos n *ℤ x -ℤ pos n *ℤ y
times_minus n x y = *ℤ-+ℤ (pos n) x (neg_ℤ y) ∙ ap (λ w. pos n *ℤ x +ℤ w) (*ℤ-negℤ (pos n) y)

-- a multiple of a multiple
pub times_times : (m n : ℕ) (x : ℤ) → pos m *ℤ (pos n *ℤ x) ≡ pos (m * n) *ℤ x
times_times m n x = sym (*ℤ-assoc (pos m) (pos n) x)

pub times_plus : (m n k : ℕ) (x : ℤ) → m ≡ n + k → pos m *ℤ x ≡ pos n *ℤ x +ℤ pos k *ℤ x
times_plus m n k x e = ap (λ j. pos j *ℤ x) e ∙ +ℤ-*ℤ (pos n) (pos k) x
