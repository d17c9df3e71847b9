-- The taps that are laid are the smoother's, and its laws make it smooth.
use Rattle.std.proofs.Common.{◌≡◌}
use Rattle.scale_space.proofs.Calm.{diminishing_smooths}
use Rattle.smoother.specs.TapLists.{shown}
use Rattle.smoother.proofs.Places.{applied_as, written_as}
use Rattle.smoother.proofs.apply.apply.Goals as goal

pub returns : goal.returns
returns g c =
    let s = c.args.s.now in
    let same : shown c.show.result ≡ g.S.Smoother.taps s = c.show.ensures in
    record {
      answer = applied_as _ _ _ _ _ same c.lay.ensures.answer;
      places = written_as _ _ _ c.args.out.now _ c.lay.result same c.lay.ensures.places;
      calm = diminishing_smooths _ (g.met.S.Smoother.some s) (g.met.S.Smoother.diminishing s);
    }
