-- Numbers that are small enough for 64 bits.
use Rattle.std.proofs.Common.{◌≡◌, ℕ, ◌^◌, ◌≤◌, true, ℤ, pos, ◌*ℤ◌, sym, ◌∙◌, subst, ap₂, arith, lit<, w64, SFits, to_z, of_z}
use Rattle.std.proofs.lemmas.Int.{to_z-of_z, to_z_pos, fits_signed_mul}
use Rattle.std.proofs.lemmas.Bool.{and_parts, leb-true}
use Rattle.samples.specs.Answers.{scale_lawful, height_lawful}

pub scale_most : (s : ℕ) → scale_lawful s ≡ true → s ≤ 2 ^ 40
scale_most s e = leb-true s (2 ^ 40) (and_parts _ _ e).1

-- a whole height times the scale, as the code computes it
height_is : (c : ℤ) (s : ℕ) → SFits w64 c → scale_lawful s ≡ true → to_z w64 (of_z w64 c) *ℤ to_z w64 s ≡ c *ℤ pos s
height_is c s f e = ap₂ ◌*ℤ◌ (to_z-of_z w64 c f) (to_z_pos w64 s (omega (arith, scale_most s e)))

pub height_fits : (c : ℤ) (s : ℕ) → SFits w64 c → scale_lawful s ≡ true → height_lawful c ≡ true → SFits w64 (to_z w64 (of_z w64 c) *ℤ to_z w64 s)
height_fits c s f e h = subst (SFits w64) (sym (height_is c s f e)) (fits_signed_mul w64 c (pos s) 100000 (2 ^ 40) (leb-true _ _ h) (scale_most s e) (lit< tt))

pub height_read : (c : ℤ) (s : ℕ) → SFits w64 c → scale_lawful s ≡ true → height_lawful c ≡ true → to_z w64 (of_z w64 (to_z w64 (of_z w64 c) *ℤ to_z w64 s)) ≡ c *ℤ pos s
height_read c s f e h = to_z-of_z w64 _ (height_fits c s f e h) ∙ height_is c s f e
