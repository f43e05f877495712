use Rattle.std.proofs.Common.{subst}
use Rattle.xrf_history.specs.Answers.{place_of}
use Rattle.xrf_history.specs.Next.{next}
use Rattle.xrf_job.specs.declared.stage.Stage.{Stage}
use Rattle.xrf_job.specs.Stages.{Within}
use Rattle.xrf_active.proofs.active.Active.record_handed.Goals as goal

pub returns-in-FileRead-clause-stands : goal.returns-in-FileRead-clause-stands
returns-in-FileRead-clause-stands c = λ h s fitting.
    let p = c.args.self.now.settings in
    let within = subst (λ (x : Stage). Within x p h) c.in-FileRead.is s.shared.within in
    c.record_read.ensures.stands h (place_of (next p h)) s within.0 within.1 within.2
