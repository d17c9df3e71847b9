-- Diffusion steps: one in range is its triple, whose test is that 2p is at most q.
use Rattle.std.proofs.Common.{◌≡◌, ℕ, ◌+◌, ◌-◌, ◌*◌, ◌<◌, ◌≤◌, leb, Result, sym, ◌∙◌, ⊎_elim, mul-le-mul, arith}
use Rattle.std.proofs.lemmas.Bool.{le-leb, lt-leb, cases_lt}
use Rattle.scale_space.specs.Passes.{admitted}
use Rattle.scale_space.specs.declared.passes.Pass.{Pass}
use Rattle.samples.specs.declared.refusals.Refusal.{Refusal}
use Rattle.schedule.specs.Making.{made, step_pass, step_made}

-- squares keep the order
squares_le : (m n : ℕ) → m ≤ n → m * m ≤ n * n
squares_le m n h = mul-le-mul h h

squares_lt : (m n : ℕ) → m < n → m * m < n * n
squares_lt m n h = let k : (m + 1) * (m + 1) ≤ n * n = squares_le (m + 1) n (omega arith) in omega arith

pub step_test : (p q : ℕ) → p ≤ q → admitted (step_pass p q) ≡ leb (2 * p) q
step_test p q h =
    let m : ℕ = 2 * q - 2 * p in
    ⊎_elim
    (λ (l : q < 2 * p). lt-leb (4 * (p * p)) (m * m) (let s = squares_lt m (2 * p) (omega arith) in omega arith) ∙ sym (lt-leb (2 * p) q l))
    (λ (l : 2 * p ≤ q). le-leb (4 * (p * p)) (m * m) (let s = squares_le (2 * p) m (omega arith) in omega arith) ∙ sym (le-leb (2 * p) q l))
    (cases_lt q (2 * p))

pub step_is : (p q : ℕ) (r : Result Pass Refusal) → 1 ≤ q → q ≤ 500 → p ≤ q → r ≡ made (step_pass p q) → r ≡ step_made p q
step_is p q r some most l e = rw (le-leb 1 q some, le-leb q 500 most, le-leb p q l) e
