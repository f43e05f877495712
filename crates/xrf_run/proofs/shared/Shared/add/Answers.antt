use Rattle.std.proofs.Common.{reverse, length, ap, sym, subst, ◌<◌, ◌∙◌, [], ◌∷◌}
use Rattle.std.proofs.lemmas.List.{reverse-append}
use Rattle.xrf_setup.specs.declared.ranges.TheConstants.{CHOICES_MOST}
use Rattle.xrf_run.specs.Threaded.{Progress}
use Rattle.xrf_run.specs.Turns.{MayFollow}
use Rattle.xrf_run.proofs.Turns.{was_made, adds_made}
use Rattle.xrf_run.proofs.shared.Shared.add.Goals as goal

pub invariant_of-self-2 : goal.invariant_of-self-2
invariant_of-self-2 g c =
    let old = c.self.inside in
    adds_made g.N.RunName.scenario g.N.RunName.may old.world c.apply.new.self (reverse old.choices.items) (reverse c.push_reserved.new.self.items) old.offered c.args.offered c.args.choice old.steps c.after-self-inside.result old.pace old.ticks old.plan.items _ _
    c.self.invariant
    (was_made old.world c.apply.new.self _ c.apply.result c.apply.ensures.applied (sym c.if-is_err.ensures.value))
    (subst (λ (p : Progress). MayFollow g.N.RunName.scenario g.N.RunName.may p c.args.choice c.args.offered) (sym c.self.view_is) c.requires.follows)
    (subst (λ (p : Progress). length p.trace < CHOICES_MOST) (sym c.self.view_is) c.requires.room)
    c.after-self-inside.ensures
    (ap reverse c.push_reserved.ensures.items ∙ reverse-append old.choices.items (c.args.choice ∷ []))
    c.push_reserved.ensures.capacity
