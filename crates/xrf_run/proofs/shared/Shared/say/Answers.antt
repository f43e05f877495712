use Rattle.std.proofs.Common.{reverse, length, refl, ap, sym, subst, ◌<◌, ◌∙◌, [], ◌∷◌}
use Rattle.std.proofs.lemmas.List.{reverse-append}
use Rattle.xrf_setup.specs.declared.choice.Choice.TheVariants.{Exit}
use Rattle.xrf_setup.specs.declared.ranges.TheConstants.{CHOICES_MOST}
use Rattle.xrf_run.specs.Threaded.{Progress}
use Rattle.xrf_run.specs.Turns.{Adds}
use Rattle.xrf_run.proofs.Turns.{was_made, adds_made, adds_view, exit_follows}
use Rattle.xrf_run.proofs.shared.Shared.say.Goals as goal

pub invariant_of-self : goal.invariant_of-self
invariant_of-self g c =
    let old = c.self.inside in
    adds_made g.N.RunName.scenario g.N.RunName.may old.world c.exit_said.new.self (reverse old.choices.items) (reverse c.push_reserved.new.self.items) old.offered old.offered (Exit c.args.site c.args.answer) old.steps c.after-self-inside.result old.pace old.ticks old.plan.items _ _
    c.self.invariant
    (was_made old.world c.exit_said.new.self _ _ c.exit_said.ensures.said refl)
    (exit_follows g.N.RunName.scenario g.N.RunName.may _ c.args.site c.args.answer c.self.invariant.0 c.self.invariant.1.within c.requires.may)
    (subst (λ (p : Progress). length p.trace < CHOICES_MOST) (sym c.self.view_is) c.requires.room)
    c.after-self-inside.ensures
    (ap reverse c.push_reserved.ensures.items ∙ reverse-append old.choices.items (Exit c.args.site c.args.answer ∷ []))
    c.push_reserved.ensures.capacity

pub returns : goal.returns
returns g c =
    let old = c.self.inside in
    let items = c.push_reserved.new.self.items in
    subst (λ (p : Progress). Adds g.N.RunName.scenario p (Exit c.args.site c.args.answer) p.offered (record { trace = c.exit_said.new.self.trace; choices = reverse items; offered = old.offered })) c.self.view_is
    (adds_view g.N.RunName.scenario old.world c.exit_said.new.self (reverse old.choices.items) (reverse items) old.offered (Exit c.args.site c.args.answer) c.self.invariant.1.scenario_is
    (was_made old.world c.exit_said.new.self _ _ c.exit_said.ensures.said refl)
    (ap reverse c.push_reserved.ensures.items ∙ reverse-append old.choices.items (Exit c.args.site c.args.answer ∷ [])))
