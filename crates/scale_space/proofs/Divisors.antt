-- Common divisors and roots: what `common`, `lowest` and `root` are, and what numbers in lowest terms allow.
use Rattle.std.proofs.Common.{◌≡◌, ℕ, zero, suc, ◌+◌, ◌*◌, ◌/◌, ◌%◌, ◌<◌, ◌≤◌, Bool, true, false, eqb, leb, ◌⊎◌, List, [], ◌∷◌, map, sym, refl, ap, ◌∙◌, subst, ap₂, inl, inr, ⊎_elim, mod-lt, mul-le-mul, mul-pos, div-le_self, div-one, arith}
use mathlib.Core.Path.{subst₃}
use Prim.Native.Nat.{◌∣◌}
use native.Mathlib.Nat.{dvd-zero, dvd_trans, dvd_refl, one-dvd, dvd-mod_iff, le_of_dvd, mod-eq-zero_of_dvd, dvd_of_mod-eq-zero, eq-zero_of_zero-dvd, pos_of_dvd_of_pos, mul-div_cancel', mul-div_cancel_left, le_of_mul-le-mul_left, dvd-mul_right, dvd_of_mul-dvd-mul_left, mul-dvd-mul_left, eq-one_of_dvd-one}
use Rattle.std.specs.List.{AllByRecursion}
use Rattle.std.proofs.ByRecursion.{All-weaker, All-map}
use Rattle.std.proofs.lemmas.Bool.{and_parts, and_from, leb-true, le-leb, lt-leb, eqb-true, eq-eqb, cases_eq, cases_Bool, cases_lt}
use Rattle.scale_space.specs.declared.passes.Pass.{Pass}
use Rattle.scale_space.specs.declared.passes.Pass.TheVariants.{Pair, Triple}
use Rattle.scale_space.specs.Taps.{scale, scaled}
use Rattle.scale_space.specs.Divisors.{largest, divides, common, Divides, Greatest, Reduced}
use Rattle.scale_space.specs.Passes.{weights, admitted, lowest, Proper}
use Rattle.scale_space.specs.Primes.{root, Root}

largest_is : (test : ℕ → Bool) (n g : ℕ) → 0 < g → g ≤ n → test g ≡ true → ((d : ℕ) → g < d → test d ≡ false) → largest test n ≡ g
unfolding largest
largest_is test zero g p l h most = absurd (omega arith)
largest_is test (suc n) g p l h most =
    ⊎_elim
    (λ (e : g ≡ suc n). rw (rw e at h) (sym e))
    (λ (ne : g ≡ suc n → ⊥). rw (most (suc n) (omega arith)) (largest_is test n g p (omega arith) h most))
    (cases_eq g (suc n))

-- ---- roots
pub root_is : (d s : ℕ) → Root d s → s ≡ root d
unfolding root largest
root_is d zero (h, k) = ap (λ n. largest (λ s. leb (s * s) n) n) z
  where
    z : 0 ≡ d
    z = omega arith
root_is d (suc s) (h, k) =
    sym (largest_is (λ s. leb (s * s) d) d (suc s) (omega arith) (omega arith) (le-leb (suc s * suc s) d h)
    (λ n l. lt-leb (n * n) d (omega (arith, mul-le-mul l l))))

-- from each number to the next the root stays, or goes one up
some_root : (d : ℕ) → (s : ℕ) × Root d s
some_root zero = (0, (omega arith, omega arith))
some_root (suc d) = next (some_root d)
  where
    next : ((s : ℕ) × Root d s) → (s : ℕ) × Root (suc d) s
    next (s, (low, high)) = by (cases_lt (suc d) ((s + 1) * (s + 1)))
      where
        by : (suc d < (s + 1) * (s + 1)) ⊎ ((s + 1) * (s + 1) ≤ suc d) → (s : ℕ) × Root (suc d) s
        by (inl h) = (s, (omega arith, h))
        by (inr h) = (s + 1, (h, omega arith))

pub root_root : (d : ℕ) → Root d (root d)
root_root d = let r = some_root d in subst (Root d) (root_is d r.0 r.1) r.1

-- ---- divisors of a list
pub dvd_from : (g k n : ℕ) → g * k ≡ n → g ∣ n
dvd_from g k n e = subst (λ z. g ∣ z) e (dvd-mul_right g k)

-- the test says what divisibility says
divides_said : (d : ℕ) (ws : List ℕ) → divides d ws ≡ true → Divides d ws
divides_said d [] h = tt
divides_said d (w ∷ ws) h =
    let p = and_parts (eqb (w % d) 0) (divides d ws) h in
    (dvd_of_mod-eq-zero d (eqb-true (w % d) 0 p.0), divides_said d ws p.1)

divides_test : (d : ℕ) (ws : List ℕ) → Divides d ws → divides d ws ≡ true
divides_test d [] h = refl
divides_test d (w ∷ ws) h =
    and_from (eqb (w % d) 0) (divides d ws) (eq-eqb (w % d) 0 (mod-eq-zero_of_dvd d h.0)) (divides_test d ws h.1)

zero_divides : (ws : List ℕ) → scale ws ≡ 0 → Divides 0 ws
unfolding scale
zero_divides [] e = tt
zero_divides (w ∷ ws) e = let z : w ≡ 0 = omega arith in (rw z (dvd-zero 0), zero_divides ws (omega arith))

-- a divisor of numbers that are not all 0 is positive, and at most their sum
divisor_bounds : (ws : List ℕ) (g : ℕ) → Divides g ws → 0 < scale ws → (0 < g) × (g ≤ scale ws)
unfolding scale
divisor_bounds [] g h p = absurd (omega arith)
divisor_bounds (w ∷ ws) g h p =
    ⊎_elim
    (λ (l : 0 < w). let k = le_of_dvd l h.0 in (pos_of_dvd_of_pos h.0 l, omega arith))
    (λ (l : w ≤ 0). let k = divisor_bounds ws g h.1 (omega arith) in (k.0, omega arith))
    (cases_lt 0 w)

pub common_is : (ws : List ℕ) (g : ℕ) → Greatest ws g → g ≡ common ws
unfolding common largest
common_is ws g h = ⊎_elim some none (cases_lt 0 (scale ws))
  where
    some : 0 < scale ws → g ≡ common ws
    some p =
        let b = divisor_bounds ws g h.each p in
        sym (largest_is (λ d. divides d ws) (scale ws) g b.0 b.1 (divides_test g ws h.each)
        (λ d l. ⊎_elim
        (λ (t : divides d ws ≡ true). let k = le_of_dvd b.0 (h.most d (divides_said d ws t)) in absurd (omega arith))
        (λ (f : divides d ws ≡ false). f)
        (cases_Bool (divides d ws))))

    none : scale ws ≤ 0 → g ≡ common ws
    none z = let e : scale ws ≡ 0 = omega arith in eq-zero_of_zero-dvd (h.most 0 (zero_divides ws e)) ∙ rw e

-- Euclid's steps keep it, and end with it
pub greatest_end : (a : ℕ) → Greatest (a ∷ 0 ∷ []) a
greatest_end a = record { each = (dvd_refl a, (dvd-zero a, tt)); most = λ d h. h.0 }

pub greatest_step : (a b g : ℕ) → Greatest (b ∷ a % b ∷ []) g → Greatest (a ∷ b ∷ []) g
greatest_step a b g h = record {
  each = ((dvd-mod_iff g h.each.0).0 h.each.1.0, (h.each.0, tt));
  most = λ d k. h.most d (k.1.0, ((dvd-mod_iff d k.1.0).1 k.0, tt));
}

-- one number more
pub greatest_cons : (w : ℕ) (ws : List ℕ) (h g : ℕ) → Greatest ws h → Greatest (w ∷ h ∷ []) g → Greatest (w ∷ ws) g
greatest_cons w ws h g H G = record {
  each = (G.each.0, All-weaker (λ v. h ∣ v) (λ v. g ∣ v) (λ v k. dvd_trans g G.each.1.0 k) ws H.each);
  most = λ d k. G.most d (k.0, (H.most d k.1, tt));
}

-- so there is one; n bounds the number of steps
two_greatest : (n a b : ℕ) → b ≤ n → (g : ℕ) × Greatest (a ∷ b ∷ []) g
two_greatest n a zero l = (a, greatest_end a)
two_greatest zero a (suc b) l = absurd (omega arith)
two_greatest (suc n) a (suc b) l =
    let m : a % suc b < suc b = mod-lt a (omega arith) in
    let r = two_greatest n (suc b) (a % suc b) (omega arith) in
    (r.0, greatest_step a (suc b) r.0 r.1)

some_greatest : (ws : List ℕ) → (g : ℕ) × Greatest ws g
some_greatest [] = (0, record { each = tt; most = λ d h. dvd-zero d })
some_greatest (w ∷ ws) =
    let x = some_greatest ws in
    let r = two_greatest x.0 w x.0 (omega arith) in
    (r.0, greatest_cons w ws x.0 r.0 x.1 r.1)

pub common_greatest : (ws : List ℕ) → Greatest ws (common ws)
common_greatest ws = let x = some_greatest ws in subst (Greatest ws) (common_is ws x.0 x.1) x.1

pub common_some : (ws : List ℕ) → 0 < scale ws → 0 < common ws
common_some ws p = (divisor_bounds ws (common ws) (common_greatest ws).each p).0

-- ---- multiples
scaled_divides : (m d : ℕ) (ws : List ℕ) → Divides d ws → Divides (m * d) (scaled m ws)
scaled_divides m d ws h = All-map (λ w. m * d ∣ w) (λ w. m * w) ws (All-weaker (λ w. d ∣ w) (λ w. m * d ∣ m * w) (λ w. mul-dvd-mul_left d m) ws h)

divides_scaled : (m d : ℕ) (ws : List ℕ) → 0 < m → Divides (m * d) (scaled m ws) → Divides d ws
divides_scaled m d [] p h = tt
divides_scaled m d (w ∷ ws) p h = (dvd_of_mul-dvd-mul_left d p h.0, divides_scaled m d ws p h.1)

ones_divide : (ws : List ℕ) → Divides 1 ws
ones_divide [] = tt
ones_divide (w ∷ ws) = (one-dvd w, ones_divide ws)

-- the greatest common divisor of multiples is the multiple of the greatest common divisor
pub scaled_greatest : (m : ℕ) (ws : List ℕ) (g : ℕ) → Greatest ws g → Greatest (scaled m ws) (m * g)
scaled_greatest m ws g h = record { each = scaled_divides m g ws h.each; most = λ d k. ⊎_elim (most d k) (λ z. subst (λ n. d ∣ n) (sym (none z)) (dvd-zero d)) (cases_lt 0 m) }
  where
    none : m ≤ 0 → m * g ≡ 0
    none z = let e : m ≡ 0 = omega arith in rw e (omega arith)

    most : (d : ℕ) → Divides d (scaled m ws) → 0 < m → d ∣ m * g
    most d k p =
        let G = common_greatest (scaled m ws) in
        let c : ℕ = common (scaled m ws) in
        let one : m * 1 ≡ m = omega arith in
        let e : m * (c / m) ≡ c = mul-div_cancel' m (G.most m (subst (λ n. Divides n (scaled m ws)) one (scaled_divides m 1 ws (ones_divide ws)))) in
        let f : c / m ∣ g = h.most (c / m) (divides_scaled m (c / m) ws p (subst (λ n. Divides n (scaled m ws)) (sym e) G.each)) in
        dvd_trans d (G.most d k) (subst (λ n. n ∣ m * g) e (mul-dvd-mul_left (c / m) m f))

-- ---- lowest terms
pub reduced_some : (ws : List ℕ) → Reduced ws → 0 < scale ws
reduced_some ws red =
    ⊎_elim (λ (p : 0 < scale ws). p)
    (λ (z : scale ws ≤ 0). let bad : ◌≡◌ {A = ℕ} 0 1 = red 0 (zero_divides ws (omega arith)) in absurd (omega arith))
    (cases_lt 0 (scale ws))

reduced_greatest : (ws : List ℕ) → Reduced ws → Greatest ws 1
reduced_greatest ws red = record { each = ones_divide ws; most = λ d h. subst (λ n. n ∣ 1) (sym (red d h)) (dvd_refl 1) }

pub common_scaled : (m : ℕ) (ws : List ℕ) → Reduced ws → m ≡ common (scaled m ws)
common_scaled m ws red = subst (λ n. n ≡ common (scaled m ws)) (omega arith) (common_is (scaled m ws) (m * 1) (scaled_greatest m ws 1 (reduced_greatest ws red)))

-- what divides each multiple of n divides n
pub common_factor : (ws : List ℕ) → Reduced ws → (d n : ℕ) → Divides d (scaled n ws) → d ∣ n
common_factor ws red d n h = subst (λ k. d ∣ k) (omega arith) ((scaled_greatest n ws 1 (reduced_greatest ws red)).most d h)

-- numbers divided by g
abbrev pub over : ℕ → List ℕ → List ℕ
over g ws = map (λ w. w / g) ws

over_scaled : (g : ℕ) (ws : List ℕ) → 0 < g → over g (scaled g ws) ≡ ws
over_scaled g [] p = refl
over_scaled g (w ∷ ws) p = ap₂ {C = List ℕ} ◌∷◌ (mul-div_cancel_left w p) (over_scaled g ws p)

scaled_over : (g : ℕ) (ws : List ℕ) → Divides g ws → scaled g (over g ws) ≡ ws
scaled_over g [] h = refl
scaled_over g (w ∷ ws) h = ap₂ {C = List ℕ} ◌∷◌ (mul-div_cancel' g h.0) (scaled_over g ws h.1)

-- proportional lists in lowest terms are equal
pub same_multiple : (us vs : List ℕ) (m n : ℕ) → Reduced us → Reduced vs → 0 < m → scaled m us ≡ scaled n vs → us ≡ vs
same_multiple us vs m n red red' p e =
    let same : m ≡ n = common_scaled m us red ∙ ap common e ∙ sym (common_scaled n vs red') in
    sym (over_scaled m us p) ∙ ap₂ over same e ∙ over_scaled n vs (subst (λ k. 0 < k) same p)

pub over_exact : (ws : List ℕ) → AllByRecursion (λ w. common ws * (w / common ws) ≡ w) ws
over_exact ws = All-weaker (λ w. common ws ∣ w) (λ w. common ws * (w / common ws) ≡ w) (λ w h. mul-div_cancel' (common ws) h) ws (common_greatest ws).each

pub over_reduced : (ws : List ℕ) → 0 < scale ws → Reduced (over (common ws) ws)
over_reduced ws p d h =
    let g : ℕ = common ws in
    let G = common_greatest ws in
    let k : g * d ∣ g * 1 = subst (λ n. g * d ∣ n) (omega arith) (G.most (g * d) (subst (Divides (g * d)) (scaled_over g ws G.each) (scaled_divides g d (over g ws) h))) in
    eq-one_of_dvd-one (dvd_of_mul-dvd-mul_left d (common_some ws p) k)

-- ---- passes in lowest terms
lowest_weights : (p : Pass) → over (common (weights p)) (weights p) ≡ weights (lowest p)
lowest_weights (Pair a b) = refl
lowest_weights (Triple a b c) = refl

pub lowest_reduced : (p : Pass) → 0 < scale (weights p) → Reduced (weights (lowest p))
lowest_reduced p some = subst Reduced (lowest_weights p) (over_reduced (weights p) some)

pub lowest_scaled : (p : Pass) → scaled (common (weights p)) (weights (lowest p)) ≡ weights p
lowest_scaled p = ap (scaled (common (weights p))) (sym (lowest_weights p)) ∙ scaled_over (common (weights p)) (weights p) (common_greatest (weights p)).each

-- a pass is what its weights say
pub weights_apart : (p q : Pass) → weights p ≡ weights q → p ≡ q
weights_apart (Pair a b) (Pair d e) h = cc
weights_apart (Pair a b) (Triple d e f) h = cc
weights_apart (Triple a b c) (Pair d e) h = cc
weights_apart (Triple a b c) (Triple d e f) h = cc

-- what is in lowest terms stays
pub lowest_is : (p : Pass) → Reduced (weights p) → lowest p ≡ p
lowest_is p red = weights_apart (lowest p) p (sym (lowest_weights p) ∙ ap (λ g. over g (weights p)) (sym (common_is (weights p) 1 (reduced_greatest (weights p) red))) ∙ over_one (weights p))
  where
    over_one : (ws : List ℕ) → over 1 ws ≡ ws
    over_one [] = refl
    over_one (w ∷ ws) = ap₂ {C = List ℕ} ◌∷◌ (div-one w) (over_one ws)

over_small : (g : ℕ) (ws : List ℕ) → AllByRecursion (λ w. w ≤ 1000) ws → AllByRecursion (λ w. w ≤ 1000) (over g ws)
over_small g ws h = All-map (λ w. w ≤ 1000) (λ w. w / g) ws (All-weaker (λ w. w ≤ 1000) (λ w. w / g ≤ 1000) (λ w l. omega (arith, div-le_self w g)) ws h)

multiple_admitted : (g x y z : ℕ) → 0 < g → admitted (Triple (g * x) (g * y) (g * z)) ≡ true → admitted (Triple x y z) ≡ true
multiple_admitted g x y z p h =
    let l : 4 * (g * x * (g * z)) ≤ g * y * (g * y) = leb-true (4 * (g * x * (g * z))) (g * y * (g * y)) h in
    le-leb (4 * (x * z)) (y * y) (le_of_mul-le-mul_left {m = 4 * (x * z)} {n = y * y} {k = g * g} (omega arith) (mul-pos p p))

lowest_admitted : (p : Pass) → 0 < scale (weights p) → admitted p ≡ true → admitted (lowest p) ≡ true
lowest_admitted (Pair a b) some h = refl
lowest_admitted (Triple a b c) some h =
    let ws : List ℕ = a ∷ b ∷ c ∷ [] in
    let g : ℕ = common ws in
    let e = over_exact ws in
    multiple_admitted g (a / g) (b / g) (c / g) (common_some ws some) (subst₃ (λ a b c. admitted (Triple a b c) ≡ true) (sym e.0) (sym e.1.0) (sym e.1.1.0) h)

pub lowest_proper : (p : Pass) → AllByRecursion (λ w. w ≤ 1000) (weights p) → 0 < scale (weights p) → admitted p ≡ true → Proper (lowest p)
lowest_proper p small some adm = record {
  small = subst (AllByRecursion (λ w. w ≤ 1000)) (lowest_weights p) (over_small (common (weights p)) (weights p) small);
  some = reduced_some (weights (lowest p)) (lowest_reduced p some);
  reduced = lowest_reduced p some;
  admissible = lowest_admitted p some adm;
}
