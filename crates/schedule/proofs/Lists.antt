-- Lists of passes: their product, and what is left of them when one is removed.
use Rattle.std.proofs.Common.{◌≡◌, ℕ, zero, suc, ◌+◌, ◌*◌, ◌<◌, ◌≤◌, List, [], ◌∷◌, ◌++◌, length, get_or, take, drop, ap, ◌∙◌, mul-le-mul_left, le-mul_of_pos_right, arith}
use Rattle.std.specs.List.{remove, AllByRecursion}
use Rattle.std.proofs.ByRecursion.{All-append, All-take, All-drop}
use Rattle.std.proofs.lemmas.List.{take-append-drop, take_more}
use Rattle.scale_space.specs.declared.passes.Pass.{Pass}
use Rattle.scale_space.specs.Taps.{scale}
use Rattle.scale_space.specs.Passes.{weights, Proper, product}
use Rattle.scale_space.proofs.Piles.{product_some}

product_append : (xs ys : List Pass) → product (xs ++ ys) ≡ product xs * product ys
product_append [] ys = omega arith
product_append (x ∷ xs) ys = let ih = product_append xs ys in rw ih (omega arith)

product_push : (xs : List Pass) (p : Pass) → product (xs ++ p ∷ []) ≡ product xs * scale (weights p)
product_push xs p = product_append xs (p ∷ []) ∙ omega arith

-- the product, from what was computed of the parts
pub product_of_push : (xs : List Pass) (p : Pass) {a b : ℕ} → a ≡ product xs → b ≡ scale (weights p) → product (xs ++ p ∷ []) ≡ a * b
product_of_push xs p e f = rw (e, f) (product_push xs p)

pub product_of_append : (xs ys : List Pass) {a b : ℕ} → a ≡ product xs → b ≡ product ys → product (xs ++ ys) ≡ a * b
product_of_append xs ys e f = rw (e, f) (product_append xs ys)

-- one more factor
pub product_more : (xs : List Pass) (i : ℕ) (d : Pass) → i < length xs → product (take (i + 1) xs) ≡ product (take i xs) * scale (weights (get_or xs i d))
product_more xs i d h = ap product (take_more xs i d h) ∙ product_push (take i xs) (get_or xs i d)

-- each front has at most the whole product
product_take_le : (xs : List Pass) (i : ℕ) → AllByRecursion Proper xs → product (take i xs) ≤ product xs
product_take_le xs i h =
    let m = le-mul_of_pos_right (product (take i xs)) (product_some (drop i xs) (All-drop Proper i xs h)) in
    omega (arith, m, product_append (take i xs) (drop i xs), ap product (take-append-drop i xs))

-- what one more factor makes stays below a bound of the whole
pub product_more_le : (xs : List Pass) (i b : ℕ) (d : Pass) → i < length xs → AllByRecursion Proper xs → product xs ≤ b → product (take i xs) * scale (weights (get_or xs i d)) ≤ b
product_more_le xs i b d h g bound = omega (arith, product_more xs i d h, product_take_le xs (i + 1) g)

pub removed_proper : (xs : List Pass) (i : ℕ) → AllByRecursion Proper xs → AllByRecursion Proper (remove xs i)
removed_proper xs i h = All-append Proper (take i xs) (drop (suc i) xs) (All-take Proper i xs h) (All-drop Proper (suc i) xs h)

pub removed_product_le : (xs : List Pass) (i : ℕ) → AllByRecursion Proper xs → product (remove xs i) ≤ product xs
removed_product_le [] zero h = omega arith
removed_product_le [] (suc i) h = omega arith
removed_product_le (x ∷ xs) zero h = omega (arith, le-mul_of_pos_right (product xs) h.0.some)
removed_product_le (x ∷ xs) (suc i) h = mul-le-mul_left (scale (weights x)) (removed_product_le xs i h.1)
