use Rattle.std.proofs.Common.{◌∙◌, refl, sym}
use Rattle.xrf_standby.proofs.Acts.{no-stage}
use Rattle.xrf_standby.proofs.alternate.Alternate.done.Goals as goal

pub returns-in-MsgClose-clause-stands : goal.returns-in-MsgClose-clause-stands
returns-in-MsgClose-clause-stands c = λ h s alt plain. absurd (no-stage c.args.self.now.settings h _ _ (sym c.stage.ensures ∙ c.in-MsgClose.is) s.shared.stage s.was refl)

pub returns-in-MsgBody-clause-stands : goal.returns-in-MsgBody-clause-stands
returns-in-MsgBody-clause-stands c = λ h s alt plain. absurd (no-stage c.args.self.now.settings h _ _ (sym c.stage.ensures ∙ c.in-MsgBody.is) s.shared.stage s.was refl)

pub returns-in-MsgOpen-clause-stands : goal.returns-in-MsgOpen-clause-stands
returns-in-MsgOpen-clause-stands c = λ h s alt plain. absurd (no-stage c.args.self.now.settings h _ _ (sym c.stage.ensures ∙ c.in-MsgOpen.is) s.shared.stage s.was refl)

pub returns-in-LogClose-clause-stands : goal.returns-in-LogClose-clause-stands
returns-in-LogClose-clause-stands c = λ h s alt plain. absurd (no-stage c.args.self.now.settings h _ _ (sym c.stage.ensures ∙ c.in-LogClose.is) s.shared.stage s.was refl)

pub returns-in-LogBody-clause-stands : goal.returns-in-LogBody-clause-stands
returns-in-LogBody-clause-stands c = λ h s alt plain. absurd (no-stage c.args.self.now.settings h _ _ (sym c.stage.ensures ∙ c.in-LogBody.is) s.shared.stage s.was refl)

pub returns-in-LogOpen-clause-stands : goal.returns-in-LogOpen-clause-stands
returns-in-LogOpen-clause-stands c = λ h s alt plain. absurd (no-stage c.args.self.now.settings h _ _ (sym c.stage.ensures ∙ c.in-LogOpen.is) s.shared.stage s.was refl)

pub returns-in-KpClose-clause-stands : goal.returns-in-KpClose-clause-stands
returns-in-KpClose-clause-stands c = λ h s alt plain. absurd (no-stage c.args.self.now.settings h _ _ (sym c.stage.ensures ∙ c.in-KpClose.is) s.shared.stage s.was refl)

pub returns-in-KpBody-clause-stands : goal.returns-in-KpBody-clause-stands
returns-in-KpBody-clause-stands c = λ h s alt plain. absurd (no-stage c.args.self.now.settings h _ _ (sym c.stage.ensures ∙ c.in-KpBody.is) s.shared.stage s.was refl)

pub returns-in-KpOpen-clause-stands : goal.returns-in-KpOpen-clause-stands
returns-in-KpOpen-clause-stands c = λ h s alt plain. absurd (no-stage c.args.self.now.settings h _ _ (sym c.stage.ensures ∙ c.in-KpOpen.is) s.shared.stage s.was refl)

pub returns-in-FileWrite-clause-stands : goal.returns-in-FileWrite-clause-stands
returns-in-FileWrite-clause-stands c = λ h s alt plain. absurd (no-stage c.args.self.now.settings h _ _ (sym c.stage.ensures ∙ c.in-FileWrite.is) s.shared.stage s.was refl)

pub returns-in-Undo-clause-stands : goal.returns-in-Undo-clause-stands
returns-in-Undo-clause-stands c = λ h s alt plain. absurd (no-stage c.args.self.now.settings h _ _ (sym c.stage.ensures ∙ c.in-Undo.is) s.shared.stage s.was refl)
