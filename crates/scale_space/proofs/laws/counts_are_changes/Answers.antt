use Rattle.scale_space.proofs.Ascending.{places_ascend}
use Rattle.scale_space.proofs.Counts.{turns_count, crossings_count}
use Rattle.scale_space.proofs.CrossingPlaces.{crossings_are_these}
use Rattle.scale_space.proofs.TurnPlaces.{turns_are_these}
use Rattle.scale_space.proofs.laws.counts_are_changes.Goals as goal

pub returns : goal.returns
returns c = record { turns = turns_count; crossings = crossings_count; ridges = turns_are_these; heights = crossings_are_these; ordered = places_ascend }
