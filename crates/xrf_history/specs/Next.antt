-- The next act of a job.
use Rattle.std.specs.Prelude.{ℕ, ◌+◌, Bool, true, false, ◌==◌, List, [], ◌∷◌, Option, Some, None}
use Rattle.xrf_base.specs.declared.items.UnitId.{UnitId}
use Rattle.xrf_gated.specs.declared.gated.TheConstants.{OPEN}
use Rattle.xrf_ctl.specs.Control.{ControlRecord}
use Rattle.xrf_logrec.specs.declared.records.LogRec.{LogRec}
use Rattle.xrf_logrec.specs.declared.records.LogRec.TheVariants.{Put, Commit, Backout}
use Rattle.xrf_logrec.specs.declared.records.Undo.{Undo}
use Rattle.xrf_msg.specs.declared.messages.Message.{Message}
use Rattle.xrf_file.specs.declared.answers.Plan.{Plan}
use Rattle.xrf_file.specs.declared.answers.Plan.TheVariants as plans
use Rattle.xrf_history.specs.declared.settings.Settings.{Settings}
use Rattle.xrf_history.specs.declared.want.Want.{Want}
use Rattle.xrf_history.specs.declared.want.Want.TheVariants as want
use Rattle.xrf_history.specs.declared.want.EndWhy.{EndWhy}
use Rattle.xrf_history.specs.Events.{Event, StartedActive, StartedStandby, Ticked, Abended, Replied, Commanded, Exited, Reserved, ControlRead, ControlWritten, Released, Signalled1, Signalled2, Looked1, Looked2, MessageRead, MessageClosed, MessageBodied, LogLooked, LogClosed, LogBodied, LogOpened, KeyLooked, KeyClosed, KeyBodied, RecordRead, RecordUndone, Given}
use Rattle.xrf_history.specs.Holding.{number, is_restarted}
use Rattle.xrf_history.specs.Reserving.{purpose, record_read, known_read, record_by_purpose, end_by_purpose}
use Rattle.xrf_history.specs.Notices.{epoch_number}
use Rattle.xrf_history.specs.Restarting.{backouts_left}
use Rattle.xrf_history.specs.Working.{last_plan, rolled_left, next_keypoint}
use Rattle.xrf_history.specs.Sending.{message_due}
use Rattle.xrf_history.specs.Rows.{rounds, signal_of, log_write, boundary}

-- Under the reserve: what is written, if anything is, and how the job ends after the RELEASE, if it does.
abbrev pub write_next : Option ControlRecord → Want
write_next (Some written) = want.CtlWrite written
write_next None = want.Release

abbrev pub record_for : Settings → List Event → Option ControlRecord
record_for p h = record_by_purpose p (purpose h) (number h) (epoch_number h) (record_read h) (known_read h)

abbrev pub after_control_read : Settings → List Event → Want
after_control_read p h = write_next (record_for p h)

abbrev pub end_next : Option EndWhy → Option Want
end_next (Some reason) = Some (want.Ended reason)
end_next None = None

abbrev pub end_for : Settings → List Event → Option EndWhy
end_for p h = end_by_purpose p (purpose h) (number h) (record_read h) (known_read h)

abbrev pub after_release : Settings → List Event → Option Want
after_release p h = end_next (end_for p h)

-- A slot is closed before it is written over exactly where its gate is open. What a read of its gate, and
-- the close, is followed by:
abbrev pub after_gate : ℕ → (close body : Want) → Want
after_gate gate close body = elim (gate == OPEN) [ true ↦ close | false ↦ body ]

-- the gate of a slot of 64 bytes; that of no bytes is never asked
abbrev pub gate_of : List ℕ → ℕ
gate_of [] = 0
gate_of (gate ∷ body) = gate

-- The message of a MSGREAD of an active that is restarted is the message due; the others read for a message.
abbrev pub after_message_read : (place : ℕ) → List ℕ → Option Message → Option Want
after_message_read place slot (Some message) = Some (after_gate (gate_of slot) (want.MsgClose place) (want.MsgBody place message))
after_message_read place slot None = None

abbrev pub message_at_hand : Settings → List Event → Option Message
message_at_hand p h = elim (is_restarted h) [ true ↦ message_due p h | false ↦ None ]

abbrev pub after_message_close : (place : ℕ) → Option Message → Option Want
after_message_close place (Some message) = Some (want.MsgBody place message)
after_message_close place None = None

-- The log record that is being written: in a restart the Backout of the first unit that is left, else that of
-- the item taken last, whose put keeps the slot that was read.
abbrev pub slot_read : List Event → List ℕ
slot_read [] = []
slot_read (RecordRead rrn slot ∷ h) = slot
slot_read (_ ∷ h) = slot_read h

abbrev pub record_of_plan : Plan → List ℕ → Option LogRec
record_of_plan (plans.Put unit rrn value place) slot = Some (Put unit rrn slot)
record_of_plan (plans.Commit unit place) slot = Some (Commit unit)
record_of_plan (plans.Roll unit place) slot = Some (Backout unit)
record_of_plan _ slot = None

abbrev pub record_of_restart : List UnitId → Option LogRec
record_of_restart [] = None
record_of_restart (unit ∷ units) = Some (Backout unit)

abbrev pub record_at_hand : Settings → List Event → Option LogRec
record_at_hand p h = elim (is_restarted h) [ true ↦ record_of_plan (last_plan p h) (slot_read h) | false ↦ record_of_restart (backouts_left p h) ]

abbrev pub after_log_look : (place : ℕ) → ℕ → Option LogRec → Option Want
after_log_look place gate (Some rec) = Some (after_gate gate (want.LogClose place) (want.LogBody place rec))
after_log_look place gate None = None

abbrev pub after_log_close : (place : ℕ) → Option LogRec → Option Want
after_log_close place (Some rec) = Some (want.LogBody place rec)
after_log_close place None = None

-- The acts of an item. A ROLL writes the undo rows that are left, and then its Backout.
abbrev pub roll_next : Settings → UnitId → (place : ℕ) → List Undo → Want
roll_next p unit place [] = log_write p place (Backout unit)
roll_next p unit place (row ∷ rows) = want.Undo row.rrn row.before

abbrev pub after_item : Settings → List Event → Plan → Option Want
after_item p h (plans.Answer answer) = None
after_item p h (plans.Put unit rrn value place) = Some (want.FileRead rrn)
after_item p h (plans.Get rrn) = Some (want.FileRead rrn)
after_item p h (plans.Commit unit place) = Some (log_write p place (Commit unit))
after_item p h (plans.Roll unit place) = Some (roll_next p unit place (rolled_left p unit h))

abbrev pub after_file_read : Settings → List ℕ → Plan → Option Want
after_file_read p slot (plans.Put unit rrn value place) = Some (log_write p place (Put unit rrn slot))
after_file_read p slot _ = None

abbrev pub after_undo : Settings → List Event → Plan → Option Want
after_undo p h (plans.Roll unit place) = Some (roll_next p unit place (rolled_left p unit h))
after_undo p h _ = None

abbrev pub after_log_open : LogRec → Plan → Option Want
after_log_open (Put unit rrn before) (plans.Put u k value place) = Some (want.FileWrite u k value)
after_log_open _ _ = None

-- what the item makes of it, once the restart is done
abbrev pub if_working : Bool → Option Want → Option Want
if_working true next_act = next_act
if_working false next_act = None

-- Inside a sequence the next act is the next of the sequence; none at a boundary. A tick, ABEND, REPLY, CEBT
-- and EXIT may come inside a sequence and leave it as it is.
abbrev pub inside : Settings → List Event → Option Want
inside p [] = None
inside p (StartedActive ∷ h) = Some want.Reserve
inside p (StartedStandby ∷ h) = Some want.Reserve
inside p (Ticked ∷ h) = inside p h
inside p (Abended ∷ h) = inside p h
inside p (Replied go at ∷ h) = inside p h
inside p (Commanded command at ∷ h) = inside p h
inside p (Exited answer at ∷ h) = inside p h
inside p (Reserved ∷ h) = Some want.CtlRead
inside p (ControlRead held known ∷ h) = Some (after_control_read p (ControlRead held known ∷ h))
inside p (ControlWritten written ∷ h) = Some want.Release
inside p (Released ∷ h) = after_release p h
inside p (Signalled1 signal ∷ h) = Some (want.Signal2 (signal_of h (rounds h + 1)))
inside p (Signalled2 signal ∷ h) = Some want.Look1
inside p (Looked1 held signal ∷ h) = Some want.Look2
inside p (Looked2 signal at ∷ h) = Some want.Decide
inside p (MessageRead place slot ∷ h) = after_message_read place slot (message_at_hand p h)
inside p (MessageClosed place ∷ h) = after_message_close place (message_at_hand p h)
inside p (MessageBodied place message ∷ h) = Some (want.MsgOpen place message)
inside p (LogLooked place gate ∷ h) = after_log_look place gate (record_at_hand p h)
inside p (LogClosed place ∷ h) = after_log_close place (record_at_hand p h)
inside p (LogBodied place rec ∷ h) = Some (want.LogOpen place rec)
inside p (LogOpened place rec ∷ h) = if_working (is_restarted h) (after_log_open rec (last_plan p h))
inside p (KeyLooked place gate ∷ h) = Some (after_gate gate (want.KpClose place) (want.KpBody place (next_keypoint p h)))
inside p (KeyClosed place ∷ h) = Some (want.KpBody place (next_keypoint p h))
inside p (KeyBodied place keypoint ∷ h) = Some (want.KpOpen place keypoint)
inside p (RecordRead rrn slot ∷ h) = after_file_read p slot (last_plan p h)
inside p (RecordUndone rrn before ∷ h) = if_working (is_restarted h) (after_undo p (RecordUndone rrn before ∷ h) (last_plan p h))
inside p (Given item ∷ h) = after_item p (Given item ∷ h) (last_plan p (Given item ∷ h))
inside p (_ ∷ h) = None

abbrev pub or_boundary : Settings → List Event → Option Want → Want
or_boundary p h (Some act) = act
or_boundary p h None = boundary p h

-- the next act
abbrev pub next : Settings → List Event → Want
next p h = or_boundary p h (inside p h)
