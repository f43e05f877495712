-- The next act is that of the phase.
use Rattle.std.proofs.Common.{if◌then◌else◌, List, arith, true, ◌≡◌, None, Option, Some, refl, Bool, false, ◌∷◌, ap, sym, ◌∙◌, subst, []}
use Rattle.std.proofs.lemmas.Grind.{common_steps}
use Rattle.xrf_ctl.specs.declared.parts.OwnerState.{OwnerState}
use Rattle.xrf_ctl.specs.Control.{ControlRecord}
use Rattle.xrf_exit.specs.declared.Notice.{Notice}
use Rattle.xrf_history.specs.Events.{Event, Abended, Commanded, ControlRead, ControlWritten, Exited, Given, KeyLooked, LogClosed, LogLooked, LogOpened, MessageClosed, MessageRead, RecordRead, RecordUndone, Released, Replied, Reserved, StartedActive, StartedStandby, Ticked, ActFailed, BlockRead, DecisionMade, EndedAs, FirstBlockRead, KeyBodied, KeyClosed, KeyOpened, LineIssued, LogBodied, Looked1, Looked2, MessageBodied, MessageOpened, RecordWritten, RestartDeclared, Signalled1, Signalled2}
use Rattle.xrf_history.specs.declared.settings.Settings.{Settings}
use Rattle.xrf_history.specs.Rows.{alternate_next, owner_works, owner_row, boundary}
use Rattle.xrf_history.proofs.Phases.{is_outside, is_inner_of, is_worked, is_work, is_end_of, Fresh, HasRead, HasWritten, Held, NextIn, Outside, Over, Phase, phase, passes, released, is_inner, is_end, IsWrite, may_release, may_reserve}
use Rattle.xrf_history.specs.Holding.{is_owner}
use Rattle.xrf_history.specs.Notices.{notice}
use Rattle.xrf_history.specs.Reserving.{sign_off_due}
use Rattle.xrf_history.specs.Next.{inside, write_next, next, or_boundary, after_control_read, after_release, record_for}
use Rattle.xrf_history.specs.declared.want.Want.{Want}
use Rattle.xrf_history.specs.Answers.{may_fail}
use Rattle.xrf_history.proofs.Histories.{Comes, is_started, IsHistory}
use Rattle.xrf_history.specs.declared.want.Want.TheVariants as want

-- an alternate's act at a boundary is none under the reserve
alternate_next-outside : (p : Settings) (h : List Event) → is_outside (alternate_next p h) ≡ true
alternate_next-outside p h = grind (arith, common_steps)

-- nor is that of an owner at work
owner_works-outside : (p : Settings) (h : List Event) → is_outside (owner_works p h) ≡ true
owner_works-outside p h = grind (arith, common_steps)

-- nor is an owner's act
owner_row-outside : (p : Settings) (h : List Event) (state : Option OwnerState) (told : Option Notice) → is_outside (owner_row p h state told) ≡ true
owner_row-outside p h (Some state) told = refl
owner_row-outside p h None (Some told) = refl
owner_row-outside p h None None = owner_works-outside p h

-- no act at a boundary is one under the reserve
pub boundary-outside : (p : Settings) (h : List Event) → is_outside (boundary p h) ≡ true
boundary-outside p h = by (is_owner h)
  where
    by : (b : Bool) → is_outside (if b then owner_row p h (sign_off_due h) (notice h) else alternate_next p h) ≡ true
    by true = owner_row-outside p h (sign_off_due h) (notice h)
    by false = alternate_next-outside p h

-- what follows work inside a sequence is inner
inner-after : (p : Settings) (h : List Event) (e : Event) → is_worked e ≡ true → is_inner_of (inside p (e ∷ h)) ≡ true
inner-after p h (MessageRead place slot) worked = grind (arith, common_steps)
inner-after p h (MessageClosed place) worked = grind (arith, common_steps)
inner-after p h (LogLooked place gate) worked = grind (arith, common_steps)
inner-after p h (LogClosed place) worked = grind (arith, common_steps)
inner-after p h (LogOpened place rec) worked = grind (arith, common_steps)
inner-after p h (KeyLooked place gate) worked = grind (arith, common_steps)
inner-after p h (RecordRead rrn slot) worked = grind (arith, common_steps)
inner-after p h (RecordUndone rrn before) worked = grind (arith, common_steps)
inner-after p h (Given item) worked = grind (arith, common_steps)
inner-after p h Ticked worked = absurd (cc)
inner-after p h Abended worked = absurd (cc)
inner-after p h (Replied go at) worked = absurd (cc)
inner-after p h (Commanded command at) worked = absurd (cc)
inner-after p h (Exited answer at) worked = absurd (cc)
inner-after p h StartedActive worked = absurd (cc)
inner-after p h StartedStandby worked = absurd (cc)
inner-after p h Reserved worked = absurd (cc)
inner-after p h (ControlRead held known) worked = absurd (cc)
inner-after p h (ControlWritten written) worked = absurd (cc)
inner-after p h Released worked = absurd (cc)
inner-after p h _ worked = refl

-- after a CTLREAD comes no work
read-works : (p : Settings) (h : List Event) (o : Option ControlRecord) → is_work (write_next o) ≡ true → ⊥
read-works p h None work = absurd (cc)
read-works p h (Some written) work = absurd (cc)

-- the act inside a sequence is the next one
pub next-inside : (p : Settings) (h : List Event) (w : Want) → inside p h ≡ Some w → next p h ≡ w
next-inside p h w is = ap (or_boundary p h) is

-- before ENDED comes no work
ends-works : (p : Settings) (h : List Event) (o : Option Want) → is_end_of o ≡ true → is_work (or_boundary p h o) ≡ true → ⊥
ends-works p h o ends work = grind (arith, common_steps)

-- work is done outside the reserve alone
pub works-outside : (p : Settings) (h : List Event) (f : Phase) → NextIn p h f → is_work (next p h) ≡ true → f ≡ Outside
works-outside p h Fresh at work = absurd (cc (sym (ap is_work (next-inside p h want.Reserve at)) ∙ work))
works-outside p h Outside at work = refl
works-outside p h Held at work = absurd (cc (sym (ap is_work (next-inside p h want.CtlRead at)) ∙ work))
works-outside p h HasRead at work =
    absurd
    (read-works p h (record_for p h) (sym (ap is_work (next-inside p h (after_control_read p h) at)) ∙ work))
works-outside p h HasWritten at work = absurd (cc (sym (ap is_work (next-inside p h want.Release at)) ∙ work))
works-outside p h Over at work = absurd (ends-works p h (inside p h) at work)

-- after an act that is work the job is outside the reserve, as before
after-work : (p : Settings) (h : List Event) (e : Event) (w : Want) → NextIn p h (phase p h) → next p h ≡ w → is_work w ≡ true
    → is_worked e ≡ true → NextIn p (e ∷ h) (phase p h)
after-work p h e w at is work worked = subst (NextIn p (e ∷ h)) (sym (works-outside p h (phase p h) at (ap is_work is ∙ work))) (inner-after p h e worked)

-- they leave the act inside the sequence
inside-passes : (p : Settings) (h : List Event) (e : Event) → passes e ≡ true → inside p (e ∷ h) ≡ inside p h
inside-passes p h Ticked passing = refl
inside-passes p h Abended passing = refl
inside-passes p h (Replied go at) passing = refl
inside-passes p h (Commanded command at) passing = refl
inside-passes p h (Exited answer at) passing = refl
inside-passes p h _ passing = absurd (cc)

-- and what follows a CTLREAD
read-passes : (p : Settings) (h : List Event) (e : Event) → passes e ≡ true → after_control_read p (e ∷ h) ≡ after_control_read p h
read-passes p h Ticked passing = refl
read-passes p h Abended passing = refl
read-passes p h (Replied go at) passing = refl
read-passes p h (Commanded command at) passing = refl
read-passes p h (Exited answer at) passing = refl
read-passes p h _ passing = absurd (cc)

-- so the next act stays that of the phase
leaves-phase : (p : Settings) (h : List Event) (e : Event) (f : Phase) → passes e ≡ true → NextIn p h f → NextIn p (e ∷ h) f
leaves-phase p h e Fresh passing at = inside-passes p h e passing ∙ at
leaves-phase p h e Outside passing at = ap is_inner_of (inside-passes p h e passing) ∙ at
leaves-phase p h e Held passing at = inside-passes p h e passing ∙ at
leaves-phase p h e HasRead passing at = inside-passes p h e passing ∙ at ∙ sym (ap (λ (w : Want). Some w) (read-passes p h e passing))
leaves-phase p h e HasWritten passing at = inside-passes p h e passing ∙ at
leaves-phase p h e Over passing at = ap is_end_of (inside-passes p h e passing) ∙ at

-- an act that may fail is work
pub fails-work : (w : Want) → may_fail w ≡ true → is_work w ≡ true
fails-work w may = grind (arith, common_steps)

-- after a RELEASE the job is outside, or ENDED follows
release-next : (p : Settings) (h : List Event) → NextIn p (Released ∷ h) (released (after_release p h))
release-next p h = grind (arith, common_steps)

-- each event that comes keeps that the next act is that of the phase
phase-step : (p : Settings) (h : List Event) (e : Event) → Comes p h e → NextIn p h (phase p h) → NextIn p (e ∷ h) (phase p (e ∷ h))
phase-step p h StartedActive comes at = absurd comes
phase-step p h StartedStandby comes at = absurd comes
phase-step p h Ticked comes at = leaves-phase p h Ticked (phase p h) refl at
phase-step p h Abended comes at = leaves-phase p h Abended (phase p h) refl at
phase-step p h (Replied go n) comes at = leaves-phase p h (Replied go n) (phase p h) refl at
phase-step p h (Commanded command n) comes at = leaves-phase p h (Commanded command n) (phase p h) refl at
phase-step p h (Exited answer n) comes at = leaves-phase p h (Exited answer n) (phase p h) refl at
phase-step p h Reserved comes at = refl
phase-step p h (ControlRead held known) comes at = refl
phase-step p h (ControlWritten written) comes at = refl
phase-step p h Released comes at = release-next p h
phase-step p h (Signalled1 signal) comes at = after-work p h (Signalled1 signal) (want.Signal1 signal) at comes refl refl
phase-step p h (Signalled2 signal) comes at = after-work p h (Signalled2 signal) (want.Signal2 signal) at comes refl refl
phase-step p h (Looked1 held signal) comes at = after-work p h (Looked1 held signal) want.Look1 at comes refl refl
phase-step p h (Looked2 signal n) comes at = after-work p h (Looked2 signal n) want.Look2 at comes refl refl
phase-step p h (DecisionMade known n decision) comes at = after-work p h (DecisionMade known n decision) want.Decide at comes.0 refl refl
phase-step p h (MessageRead k slot) comes at = after-work p h (MessageRead k slot) (want.MsgRead k) at comes refl refl
phase-step p h (MessageClosed k) comes at = after-work p h (MessageClosed k) (want.MsgClose k) at comes refl refl
phase-step p h (MessageBodied k message) comes at = after-work p h (MessageBodied k message) (want.MsgBody k message) at comes refl refl
phase-step p h (MessageOpened k message) comes at = after-work p h (MessageOpened k message) (want.MsgOpen k message) at comes refl refl
phase-step p h (FirstBlockRead block keys) comes at = after-work p h (FirstBlockRead block keys) (want.LogRead comes.0) at comes.1 refl refl
phase-step p h (BlockRead block) comes at = after-work p h (BlockRead block) (want.LogRead comes.0) at comes.1 refl refl
phase-step p h (LogLooked k gate) comes at = after-work p h (LogLooked k gate) (want.LogLook k) at comes refl refl
phase-step p h (LogClosed k) comes at = after-work p h (LogClosed k) (want.LogClose k) at comes refl refl
phase-step p h (LogBodied k rec) comes at = after-work p h (LogBodied k rec) (want.LogBody k rec) at comes refl refl
phase-step p h (LogOpened k rec) comes at = after-work p h (LogOpened k rec) (want.LogOpen k rec) at comes refl refl
phase-step p h (KeyLooked k gate) comes at = after-work p h (KeyLooked k gate) (want.KpRead k) at comes refl refl
phase-step p h (KeyClosed k) comes at = after-work p h (KeyClosed k) (want.KpClose k) at comes refl refl
phase-step p h (KeyBodied k keypoint) comes at = after-work p h (KeyBodied k keypoint) (want.KpBody k keypoint) at comes refl refl
phase-step p h (KeyOpened k keypoint) comes at = after-work p h (KeyOpened k keypoint) (want.KpOpen k keypoint) at comes refl refl
phase-step p h (RecordRead k slot) comes at = after-work p h (RecordRead k slot) (want.FileRead k) at comes refl refl
phase-step p h (RecordWritten unit k value) comes at = after-work p h (RecordWritten unit k value) (want.FileWrite unit k value) at comes refl refl
phase-step p h (RecordUndone k before) comes at = after-work p h (RecordUndone k before) (want.Undo k before) at comes refl refl
phase-step p h (Given item) comes at = after-work p h (Given item) want.Item at comes refl refl
phase-step p h (LineIssued line) comes at = after-work p h (LineIssued line) (want.Clt line) at comes refl refl
phase-step p h RestartDeclared comes at = after-work p h RestartDeclared want.Restarted at comes refl refl
phase-step p h (EndedAs reason) comes at = absurd comes
phase-step p h (ActFailed tried n) comes at = after-work p h (ActFailed tried n) tried at comes.0 (fails-work tried comes.1) refl

-- after a START comes RESERVE
phase-start : (p : Settings) (e : Event) → is_started e ≡ true → NextIn p (e ∷ []) (phase p (e ∷ []))
phase-start p StartedActive started = refl
phase-start p StartedStandby started = refl
phase-start p _ started = absurd (cc)

-- the next act is that of the phase
pub phase-next : (p : Settings) (h : List Event) → IsHistory p h → NextIn p h (phase p h)
phase-next p [] is = absurd is
phase-next p (e ∷ []) is = phase-start p e is
phase-next p (e ∷ d ∷ h) is = phase-step p (d ∷ h) e is.1 (phase-next p (d ∷ h) is.0)

-- an inner act is none under the reserve
inner-outside : (w : Want) → is_inner w ≡ true → is_outside w ≡ true
inner-outside w inner = grind (arith, common_steps)

-- nor is the next act outside
or_boundary-outside : (p : Settings) (h : List Event) (o : Option Want) → is_inner_of o ≡ true → is_outside (or_boundary p h o) ≡ true
or_boundary-outside p h None outside = boundary-outside p h
or_boundary-outside p h (Some w) outside = inner-outside w outside

-- after a CTLREAD a CTLWRITE comes where there is a record to write
write-or-release : (o : Option ControlRecord) (w : ControlRecord) → write_next o ≡ want.CtlWrite w → o ≡ Some w
write-or-release None w is = absurd (cc)
write-or-release (Some written) w is = grind (arith, common_steps)

-- after a CTLREAD comes no CTLREAD
write-no-read : (o : Option ControlRecord) → write_next o ≡ want.CtlRead → ⊥
write-no-read None is = absurd (cc)
write-no-read (Some written) is = absurd (cc)

-- where ENDED is due nothing else comes
ends-outside : (p : Settings) (h : List Event) (o : Option Want) → is_end_of o ≡ true → is_end (or_boundary p h o) ≡ false → ⊥
ends-outside p h o ends is = grind (arith, common_steps)

-- a CTLREAD comes right after RESERVE
read-held : (p : Settings) (h : List Event) (f : Phase) → NextIn p h f → next p h ≡ want.CtlRead → f ≡ Held
read-held p h Fresh at is = absurd (cc (next-inside p h want.Reserve at))
read-held p h Outside at is = absurd (cc (or_boundary-outside p h (inside p h) at))
read-held p h Held at is = refl
read-held p h HasRead at is =
    absurd
    (write-no-read (record_for p h) (sym (next-inside p h (after_control_read p h) at) ∙ is))
read-held p h HasWritten at is = absurd (cc (next-inside p h want.Release at))
read-held p h Over at is = absurd (ends-outside p h (inside p h) at (ap is_end is))

-- a CTLWRITE comes after CTLREAD
write-read : (p : Settings) (h : List Event) (f : Phase) (w : ControlRecord) → NextIn p h f → next p h ≡ want.CtlWrite w → IsWrite p h w f
write-read p h Fresh w at is = absurd (cc (next-inside p h want.Reserve at))
write-read p h Outside w at is = absurd (cc (or_boundary-outside p h (inside p h) at))
write-read p h Held w at is = absurd (cc (next-inside p h want.CtlRead at))
write-read p h HasRead w at is =
    (refl, write-or-release (record_for p h) w (sym (next-inside p h (after_control_read p h) at) ∙ is))
write-read p h HasWritten w at is = absurd (cc (next-inside p h want.Release at))
write-read p h Over w at is = absurd (ends-outside p h (inside p h) at (ap is_end is))

-- a RELEASE comes after CTLREAD or CTLWRITE
release-phase : (p : Settings) (h : List Event) (f : Phase) → NextIn p h f → next p h ≡ want.Release → may_release f ≡ true
release-phase p h Fresh at is = absurd (cc (next-inside p h want.Reserve at))
release-phase p h Outside at is = absurd (cc (or_boundary-outside p h (inside p h) at))
release-phase p h Held at is = absurd (cc (next-inside p h want.CtlRead at))
release-phase p h HasRead at is = refl
release-phase p h HasWritten at is = refl
release-phase p h Over at is = absurd (ends-outside p h (inside p h) at (ap is_end is))

-- after a CTLREAD comes no RESERVE
reserve-read : (o : Option ControlRecord) → write_next o ≡ want.Reserve → ⊥
reserve-read None is = absurd (cc)
reserve-read (Some written) is = absurd (cc)

-- a RESERVE comes first, or outside the reserve
reserves-phase : (p : Settings) (h : List Event) (f : Phase) → NextIn p h f → next p h ≡ want.Reserve → may_reserve f ≡ true
reserves-phase p h Fresh at is = refl
reserves-phase p h Outside at is = refl
reserves-phase p h Held at is = absurd (cc (next-inside p h want.CtlRead at))
reserves-phase p h HasRead at is =
    absurd
    (reserve-read (record_for p h) (sym (next-inside p h (after_control_read p h) at) ∙ is))
reserves-phase p h HasWritten at is = absurd (cc (next-inside p h want.Release at))
reserves-phase p h Over at is = absurd (ends-outside p h (inside p h) at (ap is_end is))

-- of a history: where RESERVE comes next the job may reserve
pub reserve-phase : (p : Settings) (h : List Event) → IsHistory p h → next p h ≡ want.Reserve → may_reserve (phase p h) ≡ true
reserve-phase p h is reserves = reserves-phase p h (phase p h) (phase-next p h is) reserves

-- where work comes next the job is outside
pub work-phase : (p : Settings) (h : List Event) → IsHistory p h → is_work (next p h) ≡ true → phase p h ≡ Outside
work-phase p h is work = works-outside p h (phase p h) (phase-next p h is) work

-- where CTLREAD comes next the job has reserved
pub read-phase : (p : Settings) (h : List Event) → IsHistory p h → next p h ≡ want.CtlRead → phase p h ≡ Held
read-phase p h is reads = read-held p h (phase p h) (phase-next p h is) reads

-- where CTLWRITE comes next the job has read, and the record is the one of its purpose
pub write-phase : (p : Settings) (h : List Event) (w : ControlRecord) → IsHistory p h → next p h ≡ want.CtlWrite w → IsWrite p h w (phase p h)
write-phase p h w is writes = write-read p h (phase p h) w (phase-next p h is) writes

-- where RELEASE comes next the job may release
pub releases-phase : (p : Settings) (h : List Event) → IsHistory p h → next p h ≡ want.Release → may_release (phase p h) ≡ true
releases-phase p h is releases = release-phase p h (phase p h) (phase-next p h is) releases

-- where RELEASE follows a CTLREAD there is nothing to write
pub releases-none : (o : Option ControlRecord) → write_next o ≡ want.Release → o ≡ None
releases-none None is = refl
releases-none (Some w) is = absurd (cc)
