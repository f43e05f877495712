use Rattle.std.proofs.Common.{◌≡◌, slice_get, ap, subst, ◌∙◌}
use Rattle.xrf_trace.specs.Words.{now}
use Rattle.xrf_run.specs.Offering.{due_of, due}
use Rattle.xrf_run.specs.Threaded.{Progress}
use Rattle.xrf_run.proofs.shared.Shared.due.Goals as goal

pub returns : goal.returns
returns g c =
    let old = c.self.inside in
    subst (λ (p : Progress). c.due_in.result ≡ due g.N.RunName.scenario p.trace p.offered) c.self.view_is
    (c.due_in.ensures ∙ (ap (λ n. due_of n (slice_get c.as_slice.result.now old.offered)) c.now.ensures ∙ ap (λ xs. due_of (now old.world.trace) (slice_get xs old.offered)) (c.as_slice.ensures.value ∙ c.self.invariant.1.plan_is)))
