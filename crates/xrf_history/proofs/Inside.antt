-- The acts inside a sequence, and so the next act after any event.
use Rattle.std.proofs.Common.{IfSome, Option, Bool, false, true, nat_le, ℕ, List, [], ◌∷◌, None, Some, ◌==◌, ◌≡◌, ap, refl, ◌+◌}
use Rattle.xrf_base.specs.declared.items.UnitId.{UnitId}
use Rattle.xrf_ctl.specs.Control.{ControlRecord}
use Rattle.xrf_cavm.specs.declared.known.Known.{Known}
use Rattle.xrf_gated.specs.declared.gated.TheConstants.{OPEN}
use Rattle.xrf_logrec.specs.declared.records.LogRec.{LogRec}
use Rattle.xrf_logrec.specs.declared.records.LogRec.TheVariants.{Backout, Commit, Put}
use Rattle.xrf_logrec.specs.declared.records.Undo.{Undo}
use Rattle.xrf_file.specs.declared.answers.Plan.{Plan}
use Rattle.xrf_file.specs.declared.answers.Plan.TheVariants as plans
use Rattle.xrf_msg.specs.declared.messages.Message.{Message}
use Rattle.xrf_history.specs.Events.{Abended, Commanded, ControlRead, ControlWritten, Event, Exited, Looked1, Looked2, MessageBodied, MessageClosed, MessageRead, Released, Replied, Reserved, Signalled1, Signalled2, StartedActive, StartedStandby, Ticked, Given, KeyLooked, LogClosed, LogLooked, LogOpened, RecordRead, RecordUndone}
use Rattle.xrf_history.proofs.Boundary.{IsCalm, Cases, boundary-by, IsPlain, calm-plain}
use Rattle.xrf_history.specs.declared.want.Want.{Want}
use Rattle.xrf_history.specs.declared.settings.Settings.{Settings}
use Rattle.xrf_history.specs.Rows.{log_write, boundary, rounds, signal_of}
use Rattle.xrf_history.specs.Next.{roll_next, after_item, after_file_read, after_undo, if_working, after_log_open, after_log_look, after_log_close, inside, record_at_hand, or_boundary, next, write_next, end_next, after_message_read, gate_of, after_message_close, message_at_hand, end_for}
use Rattle.xrf_history.specs.Working.{rolled_left, last_plan, next_keypoint}
use Rattle.xrf_history.specs.Holding.{is_restarted, number}
use Rattle.xrf_history.specs.Notices.{epoch_number}
use Rattle.xrf_history.specs.Reserving.{purpose, record_by_purpose}
use Rattle.xrf_history.specs.declared.want.EndWhy.{EndWhy}
use Rattle.xrf_history.specs.declared.want.Want.TheVariants as want

-- an event after which the next act is one on the log, the keypoints or the file, or one at a boundary
abbrev pub IsQuiet : Event → Type 0
IsQuiet (MessageRead place slot) = ⊥
IsQuiet (MessageClosed place) = ⊥
IsQuiet (MessageBodied place message) = ⊥
IsQuiet Ticked = ⊥
IsQuiet Abended = ⊥
IsQuiet (Replied go at) = ⊥
IsQuiet (Commanded command at) = ⊥
IsQuiet (Exited answer at) = ⊥
IsQuiet StartedActive = ⊥
IsQuiet StartedStandby = ⊥
IsQuiet Reserved = ⊥
IsQuiet (ControlRead held known) = ⊥
IsQuiet (ControlWritten written) = ⊥
IsQuiet Released = ⊥
IsQuiet (Signalled1 signal) = ⊥
IsQuiet (Signalled2 signal) = ⊥
IsQuiet (Looked1 held signal) = ⊥
IsQuiet (Looked2 signal at) = ⊥
IsQuiet _ = Unit {0}

-- the act inside, if there is one, is on the log, the keypoints or the file
abbrev CalmIf : Option Want → Type 0
CalmIf o = IfSome o IsCalm

-- a CLOSE or a BODY, by a gate
gate-calm : (b : Bool) (close body : Want) → IsCalm close → IsCalm body → IsCalm (elim b [ true ↦ close | false ↦ body ])
gate-calm true close body c d = c
gate-calm false close body c d = d

-- the writing of a log record begins with a LOGLOOK or a LOGBODY
write_log-calm : (p : Settings) (place : ℕ) (rec : LogRec) → IsCalm (log_write p place rec)
write_log-calm p place rec = by (nat_le p.limits.log place)
  where
    by : (b : Bool) → IsCalm (elim b [ true ↦ want.LogLook place | false ↦ want.LogBody place rec ])
    by true = tt
    by false = tt

-- a ROLL goes on with a FILEWRITE or its Backout
roll-calm : (p : Settings) (unit : UnitId) (place : ℕ) (rows : List Undo) → IsCalm (roll_next p unit place rows)
roll-calm p unit place [] = write_log-calm p place (Backout unit)
roll-calm p unit place (row ∷ rows) = tt

-- what follows an ITEM
item-calm : (p : Settings) (h : List Event) (plan : Plan) → CalmIf (after_item p h plan)
item-calm p h (plans.Answer answer) = tt
item-calm p h (plans.Put unit rrn value place) = tt
item-calm p h (plans.Get rrn) = tt
item-calm p h (plans.Commit unit place) = write_log-calm p place (Commit unit)
item-calm p h (plans.Roll unit place) = roll-calm p unit place (rolled_left p unit h)

-- what follows a FILEREAD
read-calm : (p : Settings) (slot : List ℕ) (plan : Plan) → CalmIf (after_file_read p slot plan)
read-calm p slot (plans.Put unit rrn value place) = write_log-calm p place (Put unit rrn slot)
read-calm p slot _ = tt

-- what follows an UNDO
undo-calm : (p : Settings) (h : List Event) (plan : Plan) (b : Bool) → CalmIf (if_working b (after_undo p h plan))
undo-calm p h plan false = tt
undo-calm p h (plans.Roll unit place) true = roll-calm p unit place (rolled_left p unit h)
undo-calm p h _ true = tt

-- what follows a LOGOPEN
open-calm : (rec : LogRec) (plan : Plan) (b : Bool) → CalmIf (if_working b (after_log_open rec plan))
open-calm rec plan false = tt
open-calm (Put unit rrn before) (plans.Put u k value place) true = tt
open-calm _ _ true = tt

-- what follows a LOGLOOK
look-calm : (place gate : ℕ) (o : Option LogRec) → CalmIf (after_log_look place gate o)
look-calm place gate None = tt
look-calm place gate (Some rec) = gate-calm (gate == OPEN) (want.LogClose place) (want.LogBody place rec) tt tt

-- what follows a LOGCLOSE
close-calm : (place : ℕ) (o : Option LogRec) → CalmIf (after_log_close place o)
close-calm place None = tt
close-calm place (Some rec) = tt

-- what follows a quiet event inside its sequence is calm
inside-calm : (p : Settings) (h : List Event) (e : Event) → IsQuiet e → CalmIf (inside p (e ∷ h))
inside-calm p h (MessageRead place slot) is = absurd is
inside-calm p h (MessageClosed place) is = absurd is
inside-calm p h (MessageBodied place message) is = absurd is
inside-calm p h Ticked is = absurd is
inside-calm p h Abended is = absurd is
inside-calm p h (Replied go at) is = absurd is
inside-calm p h (Commanded command at) is = absurd is
inside-calm p h (Exited answer at) is = absurd is
inside-calm p h StartedActive is = absurd is
inside-calm p h StartedStandby is = absurd is
inside-calm p h Reserved is = absurd is
inside-calm p h (ControlRead held known) is = absurd is
inside-calm p h (ControlWritten written) is = absurd is
inside-calm p h Released is = absurd is
inside-calm p h (Signalled1 signal) is = absurd is
inside-calm p h (Signalled2 signal) is = absurd is
inside-calm p h (Looked1 held signal) is = absurd is
inside-calm p h (Looked2 signal at) is = absurd is
inside-calm p h (LogLooked place gate) is = look-calm place gate (record_at_hand p h)
inside-calm p h (LogClosed place) is = close-calm place (record_at_hand p h)
inside-calm p h (LogOpened place rec) is = open-calm rec (last_plan p h) (is_restarted h)
inside-calm p h (KeyLooked place gate) is = gate-calm (gate == OPEN) (want.KpClose place) (want.KpBody place (next_keypoint p h)) tt tt
inside-calm p h (RecordRead rrn slot) is = read-calm p slot (last_plan p h)
inside-calm p h (RecordUndone rrn before) is = undo-calm p (RecordUndone rrn before ∷ h) (last_plan p h) (is_restarted h)
inside-calm p h (Given item) is = item-calm p (Given item ∷ h) (last_plan p (Given item ∷ h))
inside-calm p h _ is = tt

-- of a calm act inside, or else of the boundary
calm-or : (P : Want → Type 0) (p : Settings) (h : List Event) (o : Option Want) → CalmIf o → ((w : Want) → IsCalm w → P w) → Cases p h P → P (or_boundary p h o)
calm-or P p h None calm inner cases = boundary-by P p h cases
calm-or P p h (Some w) calm inner cases = inner w calm

-- after a quiet event the next act is calm, or one at a boundary
pub quiet-next : (P : Want → Type 0) (p : Settings) (h : List Event) (e : Event) → IsQuiet e → ((w : Want) → IsCalm w → P w) → Cases p (e ∷ h) P
    → P (next p (e ∷ h))
quiet-next P p h e is inner cases = calm-or P p (e ∷ h) (inside p (e ∷ h)) (inside-calm p h e is) inner cases

-- after a CTLREAD comes a CTLWRITE or a RELEASE
pub control-next : (P : Want → Type 0) (p : Settings) (h : List Event) (held : ControlRecord) (known : Known)
    → ((written : ControlRecord) → P (want.CtlWrite written)) → P want.Release
    → P (next p (ControlRead held known ∷ h))
control-next P p h held known writes releases = by (record_by_purpose p (purpose h) (number h) (epoch_number h) held known)
  where
    by : (o : Option ControlRecord) → P (write_next o)
    by None = releases
    by (Some written) = writes written

-- after a RELEASE comes ENDED, or an act at a boundary
pub released-next : (P : Want → Type 0) (p : Settings) (h : List Event) → ((why : EndWhy) → P (want.Ended why)) → Cases p (Released ∷ h) P
    → P (next p (Released ∷ h))
released-next P p h ends cases = by (end_for p h)
  where
    by : (o : Option EndWhy) → P (or_boundary p (Released ∷ h) (end_next o))
    by None = boundary-by P p (Released ∷ h) cases
    by (Some why) = ends why

-- an event that may come inside a sequence, and leaves it as it is
abbrev pub IsPassing : Event → Type 0
IsPassing Ticked = Unit {0}
IsPassing Abended = Unit {0}
IsPassing (Replied go at) = Unit {0}
IsPassing (Commanded command at) = Unit {0}
IsPassing (Exited answer at) = Unit {0}
IsPassing _ = ⊥

-- an act that may come inside a sequence
abbrev pub IsInner : Want → Type 0
IsInner want.Restarted = ⊥
IsInner want.Item = ⊥
IsInner _ = Unit {0}

-- a calm act may come inside a sequence
calm-inner : (w : Want) → IsCalm w → IsInner w
calm-inner want.Restarted calm = absurd calm
calm-inner want.Item calm = absurd calm
calm-inner _ calm = tt

-- and so may one that is there
calm_if-inner : (o : Option Want) → CalmIf o → IfSome o IsInner
calm_if-inner None calm = tt
calm_if-inner (Some w) calm = calm-inner w calm

-- what follows a MSGREAD is no ITEM and no RESTARTED
read-inner : (k : ℕ) (slot : List ℕ) (o : Option Message) → IfSome (after_message_read k slot o) IsInner
read-inner k slot None = tt
read-inner k slot (Some m) = by (gate_of slot == OPEN)
  where
    by : (b : Bool) → IsInner (elim b [ true ↦ want.MsgClose k | false ↦ want.MsgBody k m ])
    by true = tt
    by false = tt

-- nor what follows a MSGCLOSE
close-inner : (k : ℕ) (o : Option Message) → IfSome (after_message_close k o) IsInner
close-inner k None = tt
close-inner k (Some m) = tt

-- nor what follows a CTLREAD
control-inner : (o : Option ControlRecord) → IfSome (Some (write_next o)) IsInner
control-inner None = tt
control-inner (Some written) = tt

-- nor what follows a RELEASE
end-inner : (o : Option EndWhy) → IfSome (end_next o) IsInner
end-inner None = tt
end-inner (Some why) = tt

-- no ITEM and no RESTARTED comes inside a sequence
pub inside-inner : (p : Settings) (h : List Event) → IfSome (inside p h) IsInner
inside-inner p [] = tt
inside-inner p (Ticked ∷ h) = inside-inner p h
inside-inner p (Abended ∷ h) = inside-inner p h
inside-inner p (Replied go at ∷ h) = inside-inner p h
inside-inner p (Commanded command at ∷ h) = inside-inner p h
inside-inner p (Exited answer at ∷ h) = inside-inner p h
inside-inner p (MessageRead k slot ∷ h) = read-inner k slot (message_at_hand p h)
inside-inner p (MessageClosed k ∷ h) = close-inner k (message_at_hand p h)
inside-inner p (MessageBodied k m ∷ h) = tt
inside-inner p (StartedActive ∷ h) = tt
inside-inner p (StartedStandby ∷ h) = tt
inside-inner p (Reserved ∷ h) = tt
inside-inner p (ControlRead held known ∷ h) = control-inner (record_by_purpose p (purpose h) (number h) (epoch_number h) held known)
inside-inner p (ControlWritten written ∷ h) = tt
inside-inner p (Released ∷ h) = end-inner (end_for p h)
inside-inner p (Signalled1 signal ∷ h) = tt
inside-inner p (Signalled2 signal ∷ h) = tt
inside-inner p (Looked1 held signal ∷ h) = tt
inside-inner p (Looked2 signal at ∷ h) = tt
inside-inner p (e ∷ h) = calm_if-inner (inside p (e ∷ h)) (inside-calm p h e tt)

-- what is said of the act inside the sequence that goes on
abbrev pub Before : (Want → Type 0) → Settings → List Event → Type 0
Before P p h = (w : Want) → next p h ≡ w → IsInner w → P w

-- of the act that goes on, or else of the boundary
passing-or : (P : Want → Type 0) (p : Settings) (h later : List Event) → Before P p h → (next p h ≡ boundary p h → Cases p later P)
    → P (or_boundary p later (inside p h))
passing-or P p h later before cases = by (inside p h) refl (inside-inner p h)
  where
    by : (o : Option Want) → inside p h ≡ o → IfSome o IsInner → P (or_boundary p later o)
    by None is inner = boundary-by P p later (cases (ap (or_boundary p h) is))
    by (Some w) is inner = before w (ap (or_boundary p h) is) inner

-- after an event that passes the next act is the one before, or one at a boundary, where the one before was one at a
-- boundary too
pub passing-inside : (P : Want → Type 0) (p : Settings) (h : List Event) (e : Event) → IsPassing e → Before P p h
    → (next p h ≡ boundary p h → Cases p (e ∷ h) P) → P (next p (e ∷ h))
passing-inside P p h Ticked is before cases = passing-or P p h (Ticked ∷ h) before cases
passing-inside P p h Abended is before cases = passing-or P p h (Abended ∷ h) before cases
passing-inside P p h (Replied go at) is before cases = passing-or P p h (Replied go at ∷ h) before cases
passing-inside P p h (Commanded command at) is before cases = passing-or P p h (Commanded command at ∷ h) before cases
passing-inside P p h (Exited answer at) is before cases = passing-or P p h (Exited answer at ∷ h) before cases
passing-inside P p h _ is before cases = absurd is

-- after an event that passes the next act is the one before, or one at a boundary
pub passing-next : (P : Want → Type 0) (p : Settings) (h : List Event) (e : Event) → IsPassing e → Before P p h → Cases p (e ∷ h) P → P (next p (e ∷ h))
passing-next P p h e is before cases = passing-inside P p h e is before (λ _. cases)

-- an event that is not on messages, but for a MSGOPEN, which ends its sequence
abbrev pub IsOff : Event → Type 0
IsOff (MessageRead place slot) = ⊥
IsOff (MessageClosed place) = ⊥
IsOff (MessageBodied place message) = ⊥
IsOff _ = Unit {0}

-- after an event that is not on messages the next act is the one before, or plain, or one at a boundary
pub off-next : (P : Want → Type 0) (p : Settings) (h : List Event) (e : Event) → IsOff e → (IsPassing e → Before P p h)
    → ((w : Want) → IsPlain w → P w) → Cases p (e ∷ h) P → P (next p (e ∷ h))
off-next P p h (MessageRead place slot) is before plain cases = absurd is
off-next P p h (MessageClosed place) is before plain cases = absurd is
off-next P p h (MessageBodied place message) is before plain cases = absurd is
off-next P p h Ticked is before plain cases = passing-next P p h Ticked tt (before tt) cases
off-next P p h Abended is before plain cases = passing-next P p h Abended tt (before tt) cases
off-next P p h (Replied go at) is before plain cases = passing-next P p h (Replied go at) tt (before tt) cases
off-next P p h (Commanded command at) is before plain cases = passing-next P p h (Commanded command at) tt (before tt) cases
off-next P p h (Exited answer at) is before plain cases = passing-next P p h (Exited answer at) tt (before tt) cases
off-next P p h StartedActive is before plain cases = plain want.Reserve tt
off-next P p h StartedStandby is before plain cases = plain want.Reserve tt
off-next P p h Reserved is before plain cases = plain want.CtlRead tt
off-next P p h (ControlRead held known) is before plain cases =
    control-next P p h held known (λ written. plain (want.CtlWrite written) tt) (plain want.Release tt)
off-next P p h (ControlWritten written) is before plain cases = plain want.Release tt
off-next P p h Released is before plain cases = released-next P p h (λ why. plain (want.Ended why) tt) cases
off-next P p h (Signalled1 signal) is before plain cases = plain (want.Signal2 (signal_of h (rounds h + 1))) tt
off-next P p h (Signalled2 signal) is before plain cases = plain want.Look1 tt
off-next P p h (Looked1 held signal) is before plain cases = plain want.Look2 tt
off-next P p h (Looked2 signal at) is before plain cases = plain want.Decide tt
off-next P p h e is before plain cases = quiet-next P p h e tt (λ w calm. plain w (calm-plain w calm)) cases
