-- The order of passes is strict and total.
use Rattle.std.proofs.Common.{◌≡◌, true, false, sym, refl, arith}
use Rattle.std.proofs.lemmas.Bool.{false≢true}
use Rattle.std.proofs.lemmas.Bool.Decides.{nat_tests}
use Rattle.scale_space.specs.declared.passes.Pass.{Pass}
use Rattle.scale_space.specs.declared.passes.Pass.TheVariants.{Pair, Triple}
use Rattle.scale_space.specs.Primes.{same}
use Rattle.scale_space.specs.Tables.{before}

pub before_trans : (p q r : Pass) → before p q ≡ true → before q r ≡ true → before p r ≡ true
before_trans (Pair a b) (Pair d e) (Pair g h) i j = grind (arith, nat_tests)
before_trans (Pair a b) (Pair d e) (Triple g h k) i j = refl
before_trans (Pair a b) (Triple d e f) (Pair g h) i j = absurd (false≢true j)
before_trans (Pair a b) (Triple d e f) (Triple g h k) i j = refl
before_trans (Triple a b c) (Pair d e) r i j = absurd (false≢true i)
before_trans (Triple a b c) (Triple d e f) (Pair g h) i j = absurd (false≢true j)
before_trans (Triple a b c) (Triple d e f) (Triple g h k) i j = grind (arith, nat_tests)

pub before_apart : (p q : Pass) → before p q ≡ true → same p q ≡ false
before_apart (Pair a b) (Pair d e) i = grind (arith, nat_tests)
before_apart (Pair a b) (Triple d e f) i = refl
before_apart (Triple a b c) (Pair d e) i = refl
before_apart (Triple a b c) (Triple d e f) i = grind (arith, nat_tests)

pub before_total : (p q : Pass) → before p q ≡ false → same p q ≡ false → before q p ≡ true
before_total (Pair a b) (Pair d e) i j = grind (arith, nat_tests)
before_total (Pair a b) (Triple d e f) i j = absurd (false≢true (sym i))
before_total (Triple a b c) (Pair d e) i j = refl
before_total (Triple a b c) (Triple d e f) i j = grind (arith, nat_tests)
