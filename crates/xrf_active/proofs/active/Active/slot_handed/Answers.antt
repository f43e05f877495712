use Rattle.std.proofs.Common.{subst}
use Rattle.xrf_history.specs.Answers.{place_of}
use Rattle.xrf_history.specs.Next.{next}
use Rattle.xrf_active.specs.declared.due.Due.{Due}
use Rattle.xrf_active.specs.Dues.{Begins}
use Rattle.xrf_active.proofs.active.Active.slot_handed.Goals as goal

pub returns-in-Drain-clause-stands : goal.returns-in-Drain-clause-stands
returns-in-Drain-clause-stands c = λ h s fitting.
    let p = c.args.self.now.settings in
    let begins = subst (λ (x : Due). Begins x p h) c.in-Drain.is (c.due.ensures.begins h s) in
    c.slot_drained.ensures.stands h (place_of (next p h)) s begins.0 begins.1
