use Rattle.std.proofs.Common.{◌≡◌, ◌*◌, true, leb, sym, ◌∙◌, rules}
use Rattle.scale_space.specs.Passes.{admitted}
use Rattle.scale_space.proofs.Calm.{admitted_diminish, admitted_smooth}
use Rattle.scale_space.proofs.passes.Pass.is_admitted.Goals as goal

pub returns-in-Pair : goal.returns-in-Pair
returns-in-Pair c =
    let p = c.args.self.now in
    let e : true ≡ admitted p = search rules in
    record { is = e; diminishing = λ h. admitted_diminish p (sym e); smooths = λ h. admitted_smooth p (sym e) }

pub returns-in-Triple : goal.returns-in-Triple
returns-in-Triple c =
    let p = c.args.self.now in
    let e : leb (4 * (c.in-Triple.a * c.in-Triple.c)) (c.in-Triple.b * c.in-Triple.b) ≡ admitted p = search rules in
    record { is = e; diminishing = λ h. admitted_diminish p (sym e ∙ h); smooths = λ h. admitted_smooth p (sym e ∙ h) }
