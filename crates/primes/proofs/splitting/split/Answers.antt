-- The two pairs are the halves, which piled give the triple.
use Rattle.std.proofs.Common.{◌≡◌, [], ◌∷◌, rules}
use Rattle.scale_space.specs.declared.passes.Pass.TheVariants.{Pair}
use Rattle.scale_space.specs.Primes.{halves}
use Rattle.primes.proofs.Halves.{factored}
use Rattle.primes.proofs.splitting.split.Goals as goal

pub returns-then-c-eq0-clause-piled : goal.returns-then-c-eq0-clause-piled
returns-then-c-eq0-clause-piled c =
    let x = c.args in
    let is : (Pair 1 0 ∷ c.reduced_pair.result ∷ []) ≡ halves x.a x.b x.c x.s = search rules in
    factored _ x.a x.b x.c x.s c.requires.reduced c.requires.square is

pub returns-else-c-eq0-clause-piled : goal.returns-else-c-eq0-clause-piled
returns-else-c-eq0-clause-piled c =
    let x = c.args in
    let is : (c.reduced_pair-else-c-eq0.result ∷ c.reduced_pair-else-c-eq0-2.result ∷ []) ≡ halves x.a x.b x.c x.s = search rules in
    factored _ x.a x.b x.c x.s c.requires.reduced c.requires.square is
