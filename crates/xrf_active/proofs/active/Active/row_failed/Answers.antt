use Rattle.std.proofs.Common.{◌∙◌, sym, ap, subst, refl, false}
use Rattle.xrf_history.specs.declared.want.Want.{Want}
use Rattle.xrf_history.specs.Next.{next, or_boundary}
use Rattle.xrf_job.specs.Stages.{inside_of}
use Rattle.xrf_active.specs.declared.due.Due.{Due}
use Rattle.xrf_active.specs.Dues.{act_of, Begins}
use Rattle.xrf_active.specs.Failing.{IsQuiet}
use Rattle.xrf_active.proofs.Failures.{is_backout, quiet-backout, failed-act}
use Rattle.xrf_active.proofs.active.Active.row_failed.Goals as goal

pub returns-in-Scan-clause-stands : goal.returns-in-Scan-clause-stands
returns-in-Scan-clause-stands c = λ h at s fails.
    let p = c.args.self.now.settings in
    let begins = subst (λ (x : Due). Begins x p h) c.in-Scan.is (c.due.ensures.begins h s) in
    let none = ap (or_boundary p h) (sym (ap inside_of c.requires.boundary) ∙ s.shared.stage) in
    let act = sym (ap (act_of p) c.in-Scan.is) ∙ c.due.ensures.act h s ∙ none in
    c.quiet_failed.ensures.stands h (next p h) at s begins.1 (subst (λ (w : Want). IsQuiet w false) act refl)

pub returns-in-Keypoint-clause-stands : goal.returns-in-Keypoint-clause-stands
returns-in-Keypoint-clause-stands c = λ h at s fails.
    let p = c.args.self.now.settings in
    let begins = subst (λ (x : Due). Begins x p h) c.in-Keypoint.is (c.due.ensures.begins h s) in
    let none = ap (or_boundary p h) (sym (ap inside_of c.requires.boundary) ∙ s.shared.stage) in
    let act = sym (ap (act_of p) c.in-Keypoint.is) ∙ c.due.ensures.act h s ∙ none in
    c.quiet_failed-in-Keypoint.ensures.stands h (next p h) at s begins.2 (subst (λ (w : Want). IsQuiet w false) act refl)

pub returns-in-Backout-clause-stands : goal.returns-in-Backout-clause-stands
returns-in-Backout-clause-stands c = λ h at s fails.
    let p = c.args.self.now.settings in
    let begins = subst (λ (x : Due). Begins x p h) c.in-Backout.is (c.due.ensures.begins h s) in
    let none = ap (or_boundary p h) (sym (ap inside_of c.requires.boundary) ∙ s.shared.stage) in
    let act = c.due.ensures.act h s ∙ none in
    c.quiet_failed-in-Backout.ensures.stands h (next p h) at s begins.granted (subst (λ (w : Want). IsQuiet w false) act (quiet-backout p c.due.result (ap is_backout c.in-Backout.is)))

pub returns-in-Drain-clause-stands : goal.returns-in-Drain-clause-stands
returns-in-Drain-clause-stands c = λ h at s fails.
    let p = c.args.self.now.settings in
    let begins = subst (λ (x : Due). Begins x p h) c.in-Drain.is (c.due.ensures.begins h s) in
    let none = ap (or_boundary p h) (sym (ap inside_of c.requires.boundary) ∙ s.shared.stage) in
    let act = sym (ap (act_of p) c.in-Drain.is) ∙ c.due.ensures.act h s ∙ none in
    failed-act _ h at _ _ act (c.slot_failed.ensures.stands h _ at s begins.2)

pub returns-in-Message-clause-stands : goal.returns-in-Message-clause-stands
returns-in-Message-clause-stands c = λ h at s fails.
    let p = c.args.self.now.settings in
    let begins = subst (λ (x : Due). Begins x p h) c.in-Message.is (c.due.ensures.begins h s) in
    let none = ap (or_boundary p h) (sym (ap inside_of c.requires.boundary) ∙ s.shared.stage) in
    let act = sym (ap (act_of p) c.in-Message.is) ∙ c.due.ensures.act h s ∙ none in
    failed-act _ h at _ _ act (c.slot_failed-in-Message.ensures.stands h _ at s begins.2)

pub returns-in-Undo-clause-stands : goal.returns-in-Undo-clause-stands
returns-in-Undo-clause-stands c = λ h at s fails.
    let p = c.args.self.now.settings in
    let begins = subst (λ (x : Due). Begins x p h) c.in-Undo.is (c.due.ensures.begins h s) in
    let none = ap (or_boundary p h) (sym (ap inside_of c.requires.boundary) ∙ s.shared.stage) in
    let act = sym (ap (act_of p) c.in-Undo.is) ∙ c.due.ensures.act h s ∙ none in
    failed-act _ h at _ _ act (c.undo_failed.ensures.stands h _ _ at s begins.1)
