-- The two pairs that a triple is split into, from what was computed of each.
use Rattle.std.proofs.Common.{◌≡◌, ℕ, ◌+◌, ◌*◌, ◌<◌, List, [], ◌∷◌, sym, subst, arith}
use Rattle.scale_space.specs.declared.passes.Pass.{Pass}
use Rattle.scale_space.specs.Taps.{scale}
use Rattle.scale_space.specs.Divisors.{Reduced}
use Rattle.scale_space.specs.Primes.{halves, Factored}
use Rattle.scale_space.proofs.Divisors.{reduced_some}
use Rattle.scale_space.proofs.Factors.{halves_factored}

-- where c is 0, a and b are not both 0
pub end_some : (a b c : ℕ) → Reduced (a ∷ b ∷ c ∷ []) → c ≡ 0 → 0 < a + b
unfolding scale
end_some a b c red z = omega (arith, reduced_some (a ∷ b ∷ c ∷ []) red)

pub factored : (ps : List Pass) (a b c s : ℕ) → Reduced (a ∷ b ∷ c ∷ []) → s * s + 4 * (a * c) ≡ b * b → ps ≡ halves a b c s → Factored ps (a ∷ b ∷ c ∷ [])
factored ps a b c s red is e = subst (λ qs. Factored qs (a ∷ b ∷ c ∷ [])) (sym e) (halves_factored a b c s red is)
