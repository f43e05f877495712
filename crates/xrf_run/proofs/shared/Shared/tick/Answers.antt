use Rattle.std.proofs.Common.{◌≡◌, true, None, sym, subst}
use Rattle.xrf_setup.specs.declared.choice.Choice.TheVariants.{Tick}
use Rattle.xrf_run.specs.Offering.{due}
use Rattle.xrf_run.specs.Pacing.{steps_made, may_tick}
use Rattle.xrf_run.specs.Threaded.{Progress}
use Rattle.xrf_run.specs.Turns.{MayFollow}
use Rattle.xrf_run.proofs.Turns.{tick_follows}
use Rattle.xrf_run.proofs.shared.Shared.tick.Goals as goal

pub add-requires-clause-follows : goal.add-requires-clause-follows
add-requires-clause-follows g c =
    subst (λ (p : Progress). MayFollow g.N.RunName.scenario g.N.RunName.may p Tick c.add.inside.offered) c.add.view_is
    (tick_follows g.N.RunName.scenario g.N.RunName.may _ c.add.invariant.0 c.add.invariant.1.within
    (subst (λ (p : Progress). due g.N.RunName.scenario p.trace p.offered ≡ None) (sym c.add.view_is) c.requires.none_due)
    (subst (λ (p : Progress). may_tick g.N.RunName.scenario p.trace (steps_made p.choices) ≡ true) (sym c.add.view_is) (sym c.if-not-may_tick.ensures)))
