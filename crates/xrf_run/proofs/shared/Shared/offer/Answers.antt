use Rattle.std.proofs.Common.{◌≡◌, ◌+◌, Some, sym, subst}
use Rattle.xrf_run.specs.Offering.{due}
use Rattle.xrf_run.specs.Threaded.{Progress}
use Rattle.xrf_run.specs.Turns.{MayFollow, IsRefused}
use Rattle.xrf_run.proofs.Turns.{offer_follows, was_refused, refused-enabled}
use Rattle.xrf_run.proofs.shared.Shared.offer.Goals as goal

pub add-requires-clause-follows : goal.add-requires-clause-follows
add-requires-clause-follows g c =
    subst (λ (p : Progress). MayFollow g.N.RunName.scenario g.N.RunName.may p c.args.choice (c.add.inside.offered + 1)) c.add.view_is
    (offer_follows g.N.RunName.scenario g.N.RunName.may _ c.args.choice c.add.invariant.0 c.add.invariant.1.scen
    (subst (λ (p : Progress). due g.N.RunName.scenario p.trace p.offered ≡ Some c.args.choice) (sym c.add.view_is) c.requires.due))

pub pass_line-requires : goal.pass_line-requires
pass_line-requires g c =
    let none = was_refused c.args.self.now c.add-2.new.self c.args.choice (c.add.inside.offered + 1) _ c.add-2.result c.add-2.ensures c.if-add.false in
    subst (λ (p : Progress). IsRefused g.N.RunName.scenario p) (sym none.2) (c.args.choice, c.requires.due, refused-enabled g.N.RunName.scenario c.args.self.now.trace c.args.choice none.0 none.1)
