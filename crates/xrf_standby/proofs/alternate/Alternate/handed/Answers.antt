use Rattle.std.proofs.Common.{◌≡◌, true, refl, subst}
use Rattle.xrf_history.specs.declared.answer.Answer.{Answer}
use Rattle.xrf_history.specs.Accepting.{may_take}
use Rattle.xrf_history.specs.Answers.{place_of}
use Rattle.xrf_history.specs.Next.{next}
use Rattle.xrf_standby.proofs.Acts.{next_act}
use Rattle.xrf_standby.proofs.Answering.{failed-act, fails_reading, refused, taken}
use Rattle.xrf_standby.proofs.alternate.Alternate.handed.Goals as goal

pub returns-in-MsgSlot-clause-stands : goal.returns-in-MsgSlot-clause-stands
returns-in-MsgSlot-clause-stands c = λ h s alt can.
    let p = c.args.self.now.settings in
    taken _ p h _ _ c.in-MsgSlot.is (c.slot_read.ensures.stands h (place_of (next p h)) s alt)

pub returns-in-Failed-clause-stands : goal.returns-in-Failed-clause-stands
returns-in-Failed-clause-stands c = λ h s alt can.
    let p = c.args.self.now.settings in
    let fails = subst (λ (a : Answer). may_take p h a ≡ true) c.in-Failed.is can.fitting in
    let read = fails_reading (next p h) (next_act p h s.was alt) fails in
    taken _ p h _ _ c.in-Failed.is (failed-act _ h _ _ _ read.1 (c.read_failed.ensures.stands h read.0 _ s alt))

pub returns-in-LogBlock-clause-stands : goal.returns-in-LogBlock-clause-stands
returns-in-LogBlock-clause-stands c = λ h s alt can. absurd (refused c.args.self.now.settings h _ _ c.in-LogBlock.is s.was alt refl can.fitting)

pub returns-in-Anchored-clause-stands : goal.returns-in-Anchored-clause-stands
returns-in-Anchored-clause-stands c = λ h s alt can. absurd (refused c.args.self.now.settings h _ _ c.in-Anchored.is s.was alt refl can.fitting)

pub returns-in-Gate-clause-stands : goal.returns-in-Gate-clause-stands
returns-in-Gate-clause-stands c = λ h s alt can. absurd (refused c.args.self.now.settings h _ _ c.in-Gate.is s.was alt refl can.fitting)

pub returns-in-FileSlot-clause-stands : goal.returns-in-FileSlot-clause-stands
returns-in-FileSlot-clause-stands c = λ h s alt can. absurd (refused c.args.self.now.settings h _ _ c.in-FileSlot.is s.was alt refl can.fitting)

pub returns-in-Item-clause-stands : goal.returns-in-Item-clause-stands
returns-in-Item-clause-stands c = λ h s alt can. absurd (refused c.args.self.now.settings h _ _ c.in-Item.is s.was alt refl can.fitting)

pub returns-in-Exit-clause-stands : goal.returns-in-Exit-clause-stands
returns-in-Exit-clause-stands c = λ h s alt can. absurd (refused c.args.self.now.settings h _ _ c.in-Exit.is s.was alt refl can.fitting)
