-- Commutative semirings, and the adjunction of a square root.
use Rattle.std.proofs.Common.{◌≡◌, ℕ, ◌+◌, ◌*◌, sym, refl, ap, ◌∙◌, ap₂, arith}

pub record Semiring : Type 1 where
  pub R : Type 0
  pub add : R → R → R
  pub mul : R → R → R
  pub nat : ℕ → R
  pub add_assoc : (x y z : R) → add (add x y) z ≡ add x (add y z)
  pub add_comm : (x y : R) → add x y ≡ add y x
  pub mul_assoc : (x y z : R) → mul (mul x y) z ≡ mul x (mul y z)
  pub mul_comm : (x y : R) → mul x y ≡ mul y x
  pub mul_add : (x y z : R) → mul x (add y z) ≡ add (mul x y) (mul x z)
  pub add_zero : (x : R) → add x (nat 0) ≡ x
  pub mul_zero : (x : R) → mul x (nat 0) ≡ nat 0
  pub mul_one : (x : R) → mul x (nat 1) ≡ x
  pub nat_add : (m n : ℕ) → nat (m + n) ≡ add (nat m) (nat n)
  pub nat_mul : (m n : ℕ) → nat (m * n) ≡ mul (nat m) (nat n)

module _ (S : Semiring) where
  open S use {R, add, mul, nat, add_assoc, add_comm, mul_assoc, mul_comm, mul_add, add_zero, mul_zero, mul_one, nat_add, nat_mul}

  pub mul_swap : (x y z : R) → mul x (mul y z) ≡ mul y (mul x z)
  mul_swap x y z = sym (mul_assoc x y z) ∙ ap (λ w. mul w z) (mul_comm x y) ∙ mul_assoc y x z

  pub add_swap : (x y z : R) → add x (add y z) ≡ add y (add x z)
  add_swap x y z = sym (add_assoc x y z) ∙ ap (λ w. add w z) (add_comm x y) ∙ add_assoc y x z

  pub add_mul : (x y z : R) → mul (add x y) z ≡ add (mul x z) (mul y z)
  add_mul x y z = mul_comm (add x y) z ∙ mul_add z x y ∙ ap₂ add (mul_comm z x) (mul_comm z y)

  pub add_four : (a b c d : R) → add (add a b) (add c d) ≡ add (add a c) (add b d)
  add_four a b c d = add_assoc a b (add c d) ∙ ap (add a) (add_swap b c d) ∙ sym (add_assoc a c (add b d))

  pub zero_mul : (x : R) → mul (nat 0) x ≡ nat 0
  zero_mul x = mul_comm (nat 0) x ∙ mul_zero x

  pub zero_add : (x : R) → add (nat 0) x ≡ x
  zero_add x = add_comm (nat 0) x ∙ add_zero x

  pub assoc_first : (d u v u' v' u'' v'' : R) →
      add (mul (add (mul u u') (mul d (mul v v'))) u'') (mul d (mul (add (mul u v') (mul v u')) v'')) ≡ add (mul u (add (mul u' u'') (mul d (mul v' v'')))) (mul d (mul v (add (mul u' v'') (mul v' u''))))
  assoc_first d u v u' v' u'' v'' = simp (mul_add, add_mul, mul_assoc, mul_swap, add_assoc, add_comm, add_swap)

  pub assoc_second : (d u v u' v' u'' v'' : R) →
      add (mul (add (mul u u') (mul d (mul v v'))) v'') (mul (add (mul u v') (mul v u')) u'') ≡ add (mul u (add (mul u' v'') (mul v' u''))) (mul v (add (mul u' u'') (mul d (mul v' v''))))
  assoc_second d u v u' v' u'' v'' = simp (mul_add, add_mul, mul_assoc, mul_swap, add_assoc, add_comm, add_swap)

  pub distrib : (d u v u' v' u'' v'' : R) →
      add (mul u (add u' u'')) (mul d (mul v (add v' v''))) ≡ add (add (mul u u') (mul d (mul v v'))) (add (mul u u'') (mul d (mul v v'')))
  distrib d u v u' v' u'' v'' = simp (mul_add, add_assoc, add_swap)

  -- with m for -1: the norm of u + v√d, times u' or v', is made of the two parts of the product with u' + v'√d, but for what vanishes
  pub norm_first : (m d u v u' v' : R) →
      add (mul u (add (mul u u') (mul d (mul v v')))) (mul (mul m (mul d v)) (add (mul u v') (mul v u')))
      ≡ add (mul (add (mul u u) (mul m (mul d (mul v v)))) u') (add (mul d (mul u (mul v v'))) (mul m (mul d (mul u (mul v v')))))
  norm_first m d u v u' v' = simp (mul_add, add_mul, mul_assoc, mul_swap, add_assoc, add_comm, add_swap)

  pub norm_second : (m d u v u' v' : R) →
      add (mul u (add (mul u v') (mul v u'))) (mul (mul m v) (add (mul u u') (mul d (mul v v'))))
      ≡ add (mul (add (mul u u) (mul m (mul d (mul v v)))) v') (add (mul u (mul v u')) (mul m (mul u (mul v u'))))
  norm_second m d u v u' v' = simp (mul_add, add_mul, mul_assoc, mul_swap, add_assoc, add_comm, add_swap)

  abbrev pub Two : Type 0
  Two = R × R

  abbrev pub addP : Two → Two → Two
  addP x y = (add x.0 y.0, add x.1 y.1)

  -- u + v√d as the pair (u, v)
  abbrev pub mulP : R → Two → Two → Two
  mulP d x y = (add (mul x.0 y.0) (mul d (mul x.1 y.1)), add (mul x.0 y.1) (mul x.1 y.0))

  abbrev pub natP : ℕ → Two
  natP n = (nat n, nat 0)

  pub both : (x y : Two) → x.0 ≡ y.0 → x.1 ≡ y.1 → x ≡ y
  both x y e f = λ i. (e i, f i)

  abbrev pub adjoin : R → Semiring
  adjoin d = record {
    R = Two;
    add = addP;
    mul = mulP d;
    nat = natP;
    add_assoc = λ x y z. both _ _ (add_assoc _ _ _) (add_assoc _ _ _);
    add_comm = λ x y. both _ _ (add_comm _ _) (add_comm _ _);
    mul_assoc = λ x y z. both _ _ (assoc_first d x.0 x.1 y.0 y.1 z.0 z.1) (assoc_second d x.0 x.1 y.0 y.1 z.0 z.1);
    mul_comm = λ x y. both _ _ (ap₂ (λ a b. add a (mul d b)) (mul_comm x.0 y.0) (mul_comm x.1 y.1)) (add_comm (mul x.0 y.1) (mul x.1 y.0) ∙ ap₂ add (mul_comm x.1 y.0) (mul_comm x.0 y.1));
    mul_add = λ x y z. both _ _ (distrib d x.0 x.1 y.0 y.1 z.0 z.1) (ap₂ add (mul_add x.0 y.1 z.1) (mul_add x.1 y.0 z.0) ∙ add_four (mul x.0 y.1) (mul x.0 z.1) (mul x.1 y.0) (mul x.1 z.0));
    add_zero = λ x. both _ _ (add_zero x.0) (add_zero x.1);
    mul_zero = λ x. both _ _ (simp (mul_zero, add_zero)) (simp (mul_zero, add_zero));
    mul_one = λ x. both _ _ (simp (mul_zero, mul_one, add_zero)) (simp (mul_zero, mul_one, zero_add));
    nat_add = λ m n. both _ _ (nat_add m n) (sym (add_zero (nat 0)));
    nat_mul = λ m n. both _ _ (nat_mul m n ∙ simp (mul_zero, add_zero)) (simp (mul_zero, zero_mul, add_zero));
  }

abbrev pub naturals : Semiring
naturals = record {
  R = ℕ;
  add = ◌+◌;
  mul = ◌*◌;
  nat = λ n. n;
  add_assoc = λ x y z. omega arith;
  add_comm = λ x y. omega arith;
  mul_assoc = λ x y z. omega arith;
  mul_comm = λ x y. omega arith;
  mul_add = λ x y z. omega arith;
  add_zero = λ x. omega arith;
  mul_zero = λ x. omega arith;
  mul_one = λ x. omega arith;
  nat_add = λ m n. refl;
  nat_mul = λ m n. refl;
}

-- (p, q) is p - q
abbrev pub differences : Semiring
differences = adjoin naturals 1

-- ((p, q), (r, s)) is (p - q) + (r - s)√d
abbrev pub surds : ℕ → Semiring
surds d = adjoin differences (d, 0)
