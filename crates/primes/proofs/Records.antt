-- The test that two records of a prime table are the same decides just that.
use Rattle.std.proofs.Common.{◌≡◌, true, Decides, refl, subst}
use Rattle.std.proofs.lemmas.Bool.{and_parts, and_from}
use Rattle.std.proofs.lemmas.Bool.Decides.{Decides-eqb}
use Rattle.scale_space.specs.declared.primes.PrimeCount.{PrimeCount}
use Rattle.scale_space.specs.Tables.{same_record}
use Rattle.scale_space.proofs.Reorder.{same_true, same_self}

pub same_record_decides : (r s : PrimeCount) → Decides (same_record r s) (r ≡ s)
same_record_decides r s = (
  λ t.
      let h = and_parts _ _ t in
      let prime = same_true r.prime s.prime h.0 in
      let count = (Decides-eqb r.count s.count).0 h.1 in
      (λ j. record { prime = prime j; count = count j }),
  λ e. subst (λ z. same_record r z ≡ true) e (and_from _ _ (same_self r.prime) ((Decides-eqb r.count r.count).1 refl)),
)
