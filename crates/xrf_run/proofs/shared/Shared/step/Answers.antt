use Rattle.std.proofs.Common.{◌≡◌, true, ap, sym, subst}
use Rattle.xrf_setup.specs.declared.choice.Choice.TheVariants.{Step}
use Rattle.xrf_run.specs.Pacing.{steps_of, steps_made, is_in_pace}
use Rattle.xrf_run.specs.Threaded.{Progress}
use Rattle.xrf_run.specs.Turns.{MayFollow}
use Rattle.xrf_run.proofs.Turns.{step_follows, was_stepped}
use Rattle.xrf_run.proofs.shared.Shared.step.Goals as goal

pub add-requires-clause-follows : goal.add-requires-clause-follows
add-requires-clause-follows g c =
    subst (λ (p : Progress). MayFollow g.N.RunName.scenario g.N.RunName.may p (Step c.args.site) c.add.inside.offered) c.add.view_is
    (step_follows g.N.RunName.scenario g.N.RunName.may _ c.args.phase c.args.site c.add.invariant.0 c.add.invariant.1.within
    (subst (λ (p : Progress). is_in_pace c.args.phase g.N.RunName.scenario p.trace (steps_of (steps_made p.choices) c.args.site) ≡ true) (sym c.add.view_is) (sym c.if-not-is_in_pace.ensures)))

pub returns-then-add : goal.returns-then-add
returns-then-add g c =
    was_stepped c.args.phase g.N.RunName.scenario c.args.self.now c.add-2.new.self c.args.site c.add.inside.offered c.add-2.result (sym c.if-not-is_in_pace.ensures) (ap (λ (p : Progress). p.offered) c.add.view_is) c.add-2.ensures c.if-add.true
