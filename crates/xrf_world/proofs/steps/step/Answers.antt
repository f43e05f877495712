use Rattle.std.proofs.Common.{◌≡◌, ◌∙◌, false, is_some, ap, refl, sym}
use Rattle.xrf_trace.specs.Jobs.{hist}
use Rattle.xrf_trace.specs.Scenario.{settings}
use Rattle.xrf_trace.specs.Words.{reserve_is_free}
use Rattle.xrf_world.specs.Wants.{may_make}
use Rattle.xrf_world.proofs.ActLaws.{step-refused}
use Rattle.xrf_world.proofs.WantLaws.{none-wanted}
use Rattle.xrf_world.proofs.steps.step.Goals as goal

pub returns-then-not-has_job : goal.returns-then-not-has_job
returns-then-not-has_job c = λ t stands g free.
    let s = c.args.middle.now.scenario in
    let x = c.args.site in
    let none : is_some (hist s t x) ≡ false = sym (c.has_job.ensures (settings s x) (hist s t x) stands.place.seat) ∙ c.if-not-has_job.true in
    (step-refused s t x (ap (may_make (reserve_is_free t)) (none-wanted s t x none)), refl, refl)
