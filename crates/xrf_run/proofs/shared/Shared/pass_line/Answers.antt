use Rattle.std.proofs.Common.{reverse, sym, subst}
use Rattle.xrf_run.specs.Threaded.{Progress}
use Rattle.xrf_run.specs.Turns.{IsRefused}
use Rattle.xrf_run.proofs.Turns.{passes}
use Rattle.xrf_run.proofs.shared.Shared.pass_line.Goals as goal

pub invariant_of-self : goal.invariant_of-self
invariant_of-self g c =
    let old = c.self.inside in
    passes g.N.RunName.scenario g.N.RunName.may (record { trace = old.world.trace; choices = reverse old.choices.items; offered = old.offered }) old.world.scenario old.steps old.pace old.ticks old.plan.items _ c.self.invariant
    (subst (λ (x : Progress). IsRefused g.N.RunName.scenario x) (sym c.self.view_is) c.requires)
