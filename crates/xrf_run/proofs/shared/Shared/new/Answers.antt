use Rattle.std.proofs.Common.{reverse, ap, sym, subst, arith, ◌∙◌}
use Rattle.std.proofs.lemmas.Grind.{common_steps}
use Rattle.xrf_setup.specs.Scenario.{Scen, IsScen}
use Rattle.xrf_world.specs.Runs.{Run}
use Rattle.xrf_run.proofs.Turns.{begins}
use Rattle.xrf_run.proofs.shared.Shared.new.Goals as goal

pub invariant_of-result : goal.invariant_of-result
invariant_of-result g c =
    begins g.N.RunName.scenario g.N.RunName.may c.in_ok-world.world.trace (reverse c.in_ok-choices.choices.items) c.in_ok-world.world.scenario c.pace.result c.ticks.result c.in_ok-plan.plan.items _
    (subst (λ (s : Scen). IsScen s) (sym c.requires.scenario) c.pace.ensures.scenario)
    (ap (λ (w : Run). w.trace) c.in_ok-world.ensures.world)
    (ap reverse c.in_ok-choices.ensures.items)
    (ap (λ (w : Run). w.scenario) c.in_ok-world.ensures.world ∙ sym c.requires.scenario)
    (c.pace.ensures.pace ∙ ap (λ (s : Scen). s.settings.pace) (sym c.requires.scenario))
    (c.ticks.ensures.ticks ∙ ap (λ (s : Scen). s.settings.ticks) (sym c.requires.scenario))
    (c.in_ok-plan.ensures.items ∙ (c.plan.ensures.plan ∙ ap (λ (s : Scen). s.plan) (sym c.requires.scenario)))
    (grind (arith, common_steps))
