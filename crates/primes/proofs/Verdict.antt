-- What equal tables say of two lists of passes.
use Rattle.std.proofs.Common.{◌≡◌, ℕ, ◌↔◌, List, refl, arith}
use Rattle.scale_space.specs.declared.passes.Pass.{Pass}
use Rattle.scale_space.specs.Equality.{SameTable, SameLevels, SameSamples}
use Rattle.scale_space.proofs.Equality.{tables_decide}
use Rattle.schedule.specs.Standing.{Standing}
use Rattle.primes.specs.declared.comparing.Comparison.{Comparison}
use Rattle.primes.specs.declared.comparing.Comparison.TheVariants.{Equal, Different}

-- all that `compare` says of its answer
pub record Says (ps qs : List Pass) (r : Comparison) : Type 0 where
  pub tables : (r ≡ Equal) ↔ SameTable ps qs
  pub levels : (r ≡ Equal) ↔ SameLevels ps qs
  pub samples : (r ≡ Equal) ↔ SameSamples ps qs

follow : {A B C : Type 0} → A ↔ B → B ↔ C → A ↔ C
follow f g = (λ a. g.0 (f.0 a), λ c. f.1 (g.1 c))

never : Different ≡ Equal → ⊥
never e = let z : ◌≡◌ {A = ℕ} 0 1 = cc in omega arith

module _ (ps qs : List Pass) (s : Standing ps) (t : Standing qs) where
  says : (r : Comparison) → (r ≡ Equal) ↔ SameTable ps qs → Says ps qs r
  says r e =
      let d = tables_decide ps qs s.short t.short s.each t.each in
      record { tables = e; levels = follow e d.levels; samples = follow e d.samples }

  pub says_equal : SameTable ps qs → Says ps qs Equal
  says_equal e = says Equal (λ _. e, λ _. refl)

  pub says_different : (SameTable ps qs → ⊥) → Says ps qs Different
  says_different n = says Different (λ e. absurd (never e), λ e. absurd (n e))
