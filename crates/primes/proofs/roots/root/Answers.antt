-- The square tried fits 64 bits, and the last that is not above d is that of the root.
use Rattle.std.proofs.Common.{ℕ, ◌+◌, ◌*◌, ◌^◌, ◌<◌, ◌≤◌, ⊎_elim, mul-le-mul, arith}
use Rattle.std.proofs.lemmas.Bool.{cases_lt}
use Rattle.primes.proofs.roots.root.Goals as goal

small : (s d : ℕ) → s * s ≤ d → d < 2 ^ 32 → s < 65536
small s d h k = ⊎_elim (λ (l : s < 65536). l) (λ (l : 65536 ≤ s). absurd (omega (arith, mul-le-mul l l))) (cases_lt s 65536)

pub overflow_add-next : goal.overflow_add-next
overflow_add-next c = omega (arith, small c.loop-next.s c.args.d c.loop-next.invariant (omega arith))

pub overflow_mul-next : goal.overflow_mul-next
overflow_mul-next c =
    let l : c.loop-next.s + 1 ≤ 65536 = omega (arith, small c.loop-next.s c.args.d c.loop-next.invariant (omega arith)) in
    omega (arith, mul-le-mul l l)
