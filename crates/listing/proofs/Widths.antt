-- How many bytes a number takes.
use Rattle.std.proofs.Common.{◌≡◌, ℕ, zero, suc, ◌+◌, ◌*◌, ◌/◌, ◌%◌, ◌^◌, ◌<◌, ◌≤◌, Some, None, Option, MatchOption, length, decimal, ap, sym, ◌∙◌, add-one, arith}
use native.Mathlib.Nat.{pow-succ', one-le-pow}
use Rattle.std.proofs.lemmas.Fmt.{decimal_digit, decimal_step, decimal_nonempty, length-decimal-le}
use Rattle.std.proofs.lemmas.List.{length_push}
use Rattle.std.specs.Option.{IfNone, IfSome}

more_digits : (n : ℕ) → 10 ≤ n → n < 2 ^ 64 → length (decimal n) ≡ length (decimal (n / 10)) + 1
more_digits n l f = ap length (decimal_step n l f) ∙ length_push (decimal (n / 10)) (48 + n % 10)

width_least : (k n : ℕ) → 10 ^ k ≤ n → n < 2 ^ 64 → k < length (decimal n)
width_least zero n l f = decimal_nonempty n f
width_least (suc k) n l f =
    let p = 10 ^ k in
    let ten : 10 * p ≤ n = rw (sym (pow-succ' 10 k)) l in
    let some : 1 ≤ p = one-le-pow k 10 (omega arith) in
    omega (arith, width_least k (n / 10) (omega arith) (omega arith), more_digits n (omega arith) f)

-- the digits of n, from its logarithm
pub width_is : (k n : ℕ) → 10 ^ k ≤ n → n < 10 * 10 ^ k → n < 2 ^ 64 → length (decimal n) ≡ k + 1
width_is k n low high f =
    let next : 10 ^ (k + 1) ≡ 10 * 10 ^ k = ap (λ m. 10 ^ m) (add-one k) ∙ pow-succ' 10 k in
    omega (arith, width_least k n low f, length-decimal-le (k + 1) n (omega arith) (omega arith) f)

pub width_of : (n r : ℕ) (log : Option ℕ) → n < 2 ^ 64 → IfNone log (n ≡ 0) → IfSome log (λ k. 10 ^ k ≤ n) → IfSome log (λ k. n < 10 * 10 ^ k) → MatchOption log (r ≡ 1) (λ k. r ≡ k + 1) → r ≡ length (decimal n)
width_of n r None f z low high e = e ∙ sym (ap length (decimal_digit n (omega arith)))
width_of n r (Some k) f z low high e = e ∙ sym (width_is k n low high f)
