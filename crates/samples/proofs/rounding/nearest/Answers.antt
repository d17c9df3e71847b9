-- Nothing wraps, so the quotient is the one of the rule.
use Rattle.std.proofs.Common.{◌≡◌, ◌*◌, ◌+ℤ◌, ◌*ℤ◌, pos, arith, to_z, of_z, w64}
use borrow.Author.Differences.{ints}
use Rattle.std.proofs.lemmas.Grind.{common_steps}
use Rattle.scale_space.specs.Rounding.{rounded}
use Rattle.samples.proofs.Sizes.{scale_most}
use Rattle.samples.proofs.rounding.nearest.Goals as goal

pub returns : goal.returns
unfolding rounded
returns c =
    let n = c.args.numerator in
    let s = c.args.scale in
    let most = scale_most s c.requires.lawful in
    let above : to_z w64 (of_z w64 (to_z w64 (of_z w64 (pos 2 *ℤ to_z w64 (of_z w64 n))) +ℤ to_z w64 s)) ≡ pos 2 *ℤ n +ℤ pos s = omega (arith, ints) in
    let under : to_z w64 (of_z w64 (pos 2 *ℤ to_z w64 s)) ≡ pos (2 * s) = omega (arith, ints) in
    grind (arith, common_steps)
