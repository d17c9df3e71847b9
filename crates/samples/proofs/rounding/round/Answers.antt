-- The law of rounding is one of scale_space.
use Rattle.scale_space.proofs.Calm.{whole_calm}
use Rattle.samples.proofs.rounding.round.Goals as goal

pub returns-then-not-is_scale-clause-calm : goal.returns-then-not-is_scale-clause-calm
returns-then-not-is_scale-clause-calm c = whole_calm

pub returns-then-numerators-out-clause-calm : goal.returns-then-numerators-out-clause-calm
returns-then-numerators-out-clause-calm c = whole_calm

pub returns-then-not-are_within-clause-calm : goal.returns-then-not-are_within-clause-calm
returns-then-not-are_within-clause-calm c = whole_calm

pub returns-clause-calm : goal.returns-clause-calm
returns-clause-calm c = whole_calm
