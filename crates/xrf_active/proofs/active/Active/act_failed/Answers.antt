use Rattle.std.proofs.Common.{◌≡◌, ◌∙◌, sym, ap, subst, refl, true, false, Option}
use Rattle.xrf_history.specs.declared.want.Want.{Want}
use Rattle.xrf_history.specs.Next.{next, or_boundary}
use Rattle.xrf_job.specs.declared.stage.Stage.{Stage}
use Rattle.xrf_job.specs.Stages.{inside_of, Within}
use Rattle.xrf_history.specs.Holding.{is_restarted}
use Rattle.xrf_active.proofs.Failures.{failed-act}
use Rattle.xrf_active.specs.Failing.{IsQuiet}
use Rattle.xrf_active.proofs.active.Active.act_failed.Goals as goal

pub returns-in-MsgClose-clause-stands : goal.returns-in-MsgClose-clause-stands
returns-in-MsgClose-clause-stands c = λ h at s fails.
    let p = c.args.self.now.settings in
    let is = sym c.stage.ensures ∙ c.in-MsgClose.is in
    let within = subst (λ (x : Stage). Within x p h) is s.shared.within in
    let act = sym (ap inside_of is) ∙ s.shared.stage in
    c.quiet_failed.ensures.stands h (next p h) at s within.1 (subst (λ (o : Option Want). IsQuiet (or_boundary p h o) true) act refl)

pub returns-in-MsgBody-clause-stands : goal.returns-in-MsgBody-clause-stands
returns-in-MsgBody-clause-stands c = λ h at s fails.
    let p = c.args.self.now.settings in
    let is = sym c.stage.ensures ∙ c.in-MsgBody.is in
    let within = subst (λ (x : Stage). Within x p h) is s.shared.within in
    let act = sym (ap inside_of is) ∙ s.shared.stage in
    c.quiet_failed-in-MsgBody.ensures.stands h (next p h) at s within (subst (λ (o : Option Want). IsQuiet (or_boundary p h o) true) act refl)

pub returns-in-LogLook-clause-stands : goal.returns-in-LogLook-clause-stands
returns-in-LogLook-clause-stands c = λ h at s fails.
    let p = c.args.self.now.settings in
    let is = sym c.stage.ensures ∙ c.in-LogLook.is in
    let within = subst (λ (x : Stage). Within x p h) is s.shared.within in
    let act = sym (ap inside_of is) ∙ s.shared.stage in
    c.quiet_failed-in-LogLook.ensures.stands h (next p h) at s within.granted (subst (λ (o : Option Want). IsQuiet (or_boundary p h o) false) act refl)

pub returns-in-LogClose-clause-stands : goal.returns-in-LogClose-clause-stands
returns-in-LogClose-clause-stands c = λ h at s fails.
    let p = c.args.self.now.settings in
    let is = sym c.stage.ensures ∙ c.in-LogClose.is in
    let within = subst (λ (x : Stage). Within x p h) is s.shared.within in
    let act = sym (ap inside_of is) ∙ s.shared.stage in
    c.quiet_failed-in-LogClose.ensures.stands h (next p h) at s within.granted (subst (λ (o : Option Want). IsQuiet (or_boundary p h o) false) act refl)

pub returns-in-LogBody-clause-stands : goal.returns-in-LogBody-clause-stands
returns-in-LogBody-clause-stands c = λ h at s fails.
    let p = c.args.self.now.settings in
    let is = sym c.stage.ensures ∙ c.in-LogBody.is in
    let within = subst (λ (x : Stage). Within x p h) is s.shared.within in
    let act = sym (ap inside_of is) ∙ s.shared.stage in
    c.quiet_failed-in-LogBody.ensures.stands h (next p h) at s within.granted (subst (λ (o : Option Want). IsQuiet (or_boundary p h o) false) act refl)

pub returns-in-KpClose-clause-stands : goal.returns-in-KpClose-clause-stands
returns-in-KpClose-clause-stands c = λ h at s fails.
    let p = c.args.self.now.settings in
    let is = sym c.stage.ensures ∙ c.in-KpClose.is in
    let within = subst (λ (x : Stage). Within x p h) is s.shared.within in
    let act = sym (ap inside_of is) ∙ s.shared.stage in
    c.quiet_failed-in-KpClose.ensures.stands h (next p h) at s within.2 (subst (λ (o : Option Want). IsQuiet (or_boundary p h o) false) act refl)

pub returns-in-KpBody-clause-stands : goal.returns-in-KpBody-clause-stands
returns-in-KpBody-clause-stands c = λ h at s fails.
    let p = c.args.self.now.settings in
    let is = sym c.stage.ensures ∙ c.in-KpBody.is in
    let within = subst (λ (x : Stage). Within x p h) is s.shared.within in
    let act = sym (ap inside_of is) ∙ s.shared.stage in
    c.quiet_failed-in-KpBody.ensures.stands h (next p h) at s within.2 (subst (λ (o : Option Want). IsQuiet (or_boundary p h o) false) act refl)

pub returns-in-FileRead-clause-stands : goal.returns-in-FileRead-clause-stands
returns-in-FileRead-clause-stands c = λ h at s fails.
    let p = c.args.self.now.settings in
    let is = sym c.stage.ensures ∙ c.in-FileRead.is in
    let within = subst (λ (x : Stage). Within x p h) is s.shared.within in
    let act = sym (ap inside_of is) ∙ s.shared.stage in
    c.quiet_failed-in-FileRead.ensures.stands h (next p h) at s within.2 (subst (λ (o : Option Want). IsQuiet (or_boundary p h o) false) act refl)

pub returns-in-FileWrite-clause-stands : goal.returns-in-FileWrite-clause-stands
returns-in-FileWrite-clause-stands c = λ h at s fails.
    let p = c.args.self.now.settings in
    let is = sym c.stage.ensures ∙ c.in-FileWrite.is in
    let within = subst (λ (x : Stage). Within x p h) is s.shared.within in
    let act = sym (ap inside_of is) ∙ s.shared.stage in
    c.quiet_failed-in-FileWrite.ensures.stands h (next p h) at s within (subst (λ (o : Option Want). IsQuiet (or_boundary p h o) false) act refl)

pub returns-in-MsgOpen-clause-stands : goal.returns-in-MsgOpen-clause-stands
returns-in-MsgOpen-clause-stands c = λ h at s fails.
    let p = c.args.self.now.settings in
    let is = sym c.stage.ensures ∙ c.in-MsgOpen.is in
    let within = subst (λ (x : Stage). Within x p h) is s.shared.within in
    let act = sym (ap inside_of is) ∙ s.shared.stage in
    failed-act _ h at _ _ (ap (or_boundary p h) act) (c.message_failed.ensures.stands h _ at s within)

pub returns-in-KpOpen-clause-stands : goal.returns-in-KpOpen-clause-stands
returns-in-KpOpen-clause-stands c = λ h at s fails.
    let p = c.args.self.now.settings in
    let is = sym c.stage.ensures ∙ c.in-KpOpen.is in
    let within = subst (λ (x : Stage). Within x p h) is s.shared.within in
    let act = sym (ap inside_of is) ∙ s.shared.stage in
    failed-act _ h at _ _ (ap (or_boundary p h) act) (c.key_failed.ensures.stands h _ at s within.2 within.0 within.1)

pub returns-in-Undo-clause-stands : goal.returns-in-Undo-clause-stands
returns-in-Undo-clause-stands c = λ h at s fails.
    let p = c.args.self.now.settings in
    let is = sym c.stage.ensures ∙ c.in-Undo.is in
    let within = subst (λ (x : Stage). Within x p h) is s.shared.within in
    let act = sym (ap inside_of is) ∙ s.shared.stage in
    failed-act _ h at _ _ (ap (or_boundary p h) act) (c.undo_failed.ensures.stands h _ _ at s within.2)

pub returns-then-self-clause-stands : goal.returns-then-self-clause-stands
returns-then-self-clause-stands c = λ h at s fails.
    let p = c.args.self.now.settings in
    let is = sym c.stage.ensures ∙ c.in-LogOpen.is in
    let within = subst (λ (x : Stage). Within x p h) is s.shared.within in
    let act = sym (ap inside_of is) ∙ s.shared.stage in
    let restarted : is_restarted h ≡ true = cc (s.restarted) in
    failed-act _ h at _ _ (ap (or_boundary p h) act) (c.record_failed.ensures.stands h _ at s within.granted restarted within)

pub returns-else-self-clause-stands : goal.returns-else-self-clause-stands
returns-else-self-clause-stands c = λ h at s fails.
    let p = c.args.self.now.settings in
    let is = sym c.stage.ensures ∙ c.in-LogOpen.is in
    let within = subst (λ (x : Stage). Within x p h) is s.shared.within in
    let act = sym (ap inside_of is) ∙ s.shared.stage in
    let running : is_restarted h ≡ false = cc (s.restarted) in
    failed-act _ h at _ _ (ap (or_boundary p h) act) (c.backout_failed.ensures.stands h _ at s within.granted running within)
