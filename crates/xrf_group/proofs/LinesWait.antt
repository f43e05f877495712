-- A line of the command list is issued by a waiting alternate alone.
use Rattle.std.proofs.Common.{IfSome, Option, Bool, false, true, nat_le, nat_lt, ℕ, List, [], ◌∷◌, None, Some, ◌==◌, ◌≡◌, refl, ◌+◌, ◌%◌, if◌then◌else◌, subst}
use Rattle.std.proofs.lemmas.Bool.{and_parts}
use Rattle.xrf_base.specs.declared.items.UnitId.{UnitId}
use Rattle.xrf_ctl.specs.declared.parts.Cause.{Cause}
use Rattle.xrf_ctl.specs.declared.parts.OwnerState.{OwnerState}
use Rattle.xrf_ctl.specs.Control.{ControlRecord}
use Rattle.xrf_exit.specs.declared.Notice.{Notice}
use Rattle.xrf_gated.specs.declared.gated.TheConstants.{OPEN}
use Rattle.xrf_logrec.specs.declared.records.LogRec.{LogRec}
use Rattle.xrf_logrec.specs.declared.records.LogRec.TheVariants.{Backout, Commit, Put}
use Rattle.xrf_logrec.specs.declared.records.Undo.{Undo}
use Rattle.xrf_file.specs.declared.answers.Plan.{Plan}
use Rattle.xrf_file.specs.declared.answers.Plan.TheVariants as plans
use Rattle.xrf_msg.specs.declared.messages.Message.{Message}
use Rattle.xrf_msg.specs.Messages.{number_of}
use Rattle.xrf_history.specs.Events.{Abended, Commanded, ControlRead, Event, Exited, MessageClosed, MessageRead, Released, Replied, Ticked, LogLooked, LogClosed, LogOpened, KeyLooked, RecordRead, RecordUndone, Given}
use Rattle.xrf_history.specs.Holding.{is_owner, is_restarted, is_waiting, number}
use Rattle.xrf_history.specs.Next.{inside, or_boundary, next, write_next, end_next, after_message_read, gate_of, after_message_close, message_at_hand, end_for, after_log_look, after_log_close, record_at_hand, if_working, after_log_open, after_file_read, after_undo, after_item, roll_next}
use Rattle.xrf_history.specs.Notices.{epoch_number, notice}
use Rattle.xrf_history.specs.Reserving.{purpose, record_by_purpose, sign_off_due, drop_due, leaves, start_due, through_due}
use Rattle.xrf_history.specs.Restarting.{scan, rows_left, backouts_left, next_record}
use Rattle.xrf_history.specs.Rows.{boundary, owner_row, owner_works, alternate_next, alternate_row, alternate_starts, alternate_tracks, active_next, restart_next, undo_next, backout_next, log_write, lines_left, lines_issued, round_due, reading_due, reading_place, signal_of, rounds}
use Rattle.xrf_history.specs.Sending.{may_write, message_due}
use Rattle.xrf_history.specs.Taking.{is_draining}
use Rattle.xrf_history.specs.Working.{keypoint_due, next_keypoint, last_plan, rolled_left}
use Rattle.xrf_history.specs.declared.settings.Settings.{Settings}
use Rattle.xrf_history.specs.declared.want.EndWhy.{EndWhy}
use Rattle.xrf_history.specs.declared.want.EndWhy.TheVariants as end
use Rattle.xrf_history.specs.declared.want.Want.{Want}
use Rattle.xrf_history.specs.declared.want.Want.TheVariants as want

-- where the act is a line of the command list, the job is waiting
abbrev pub WaitsIf : Bool → Want → Type 0
WaitsIf waiting (want.Clt k) = waiting ≡ true
WaitsIf waiting _ = Unit {0}

-- of a CLOSE and a BODY
gate-waits : (b waiting : Bool) (close body : Want) → WaitsIf waiting close → WaitsIf waiting body → WaitsIf waiting (elim b [ true ↦ close | false ↦ body ])
gate-waits true waiting close body c d = c
gate-waits false waiting close body c d = d

write-waits : (waiting : Bool) (p : Settings) (place : ℕ) (rec : LogRec) → WaitsIf waiting (log_write p place rec)
write-waits waiting p place rec = gate-waits (nat_le p.limits.log place) waiting (want.LogLook place) (want.LogBody place rec) tt tt

-- inside a sequence no line of the command list comes
abbrev Inner : Bool → Option Want → Type 0
Inner waiting o = IfSome o (WaitsIf waiting)

read-inner : (waiting : Bool) (k : ℕ) (slot : List ℕ) (o : Option Message) → Inner waiting (after_message_read k slot o)
read-inner waiting k slot None = tt
read-inner waiting k slot (Some m) = gate-waits (gate_of slot == OPEN) waiting (want.MsgClose k) (want.MsgBody k m) tt tt

close-inner : (waiting : Bool) (k : ℕ) (o : Option Message) → Inner waiting (after_message_close k o)
close-inner waiting k None = tt
close-inner waiting k (Some m) = tt

control-inner : (waiting : Bool) (o : Option ControlRecord) → WaitsIf waiting (write_next o)
control-inner waiting None = tt
control-inner waiting (Some written) = tt

end-inner : (waiting : Bool) (o : Option EndWhy) → Inner waiting (end_next o)
end-inner waiting None = tt
end-inner waiting (Some why) = tt

look-inner : (waiting : Bool) (k gate : ℕ) (o : Option LogRec) → Inner waiting (after_log_look k gate o)
look-inner waiting k gate None = tt
look-inner waiting k gate (Some rec) = gate-waits (gate == OPEN) waiting (want.LogClose k) (want.LogBody k rec) tt tt

log_close-inner : (waiting : Bool) (k : ℕ) (o : Option LogRec) → Inner waiting (after_log_close k o)
log_close-inner waiting k None = tt
log_close-inner waiting k (Some rec) = tt

open-inner : (waiting : Bool) (rec : LogRec) (plan : Plan) (working : Bool) → Inner waiting (if_working working (after_log_open rec plan))
open-inner waiting rec plan false = tt
open-inner waiting (Put unit rrn before) (plans.Put u k value place) true = tt
open-inner waiting _ _ true = tt

roll-inner : (waiting : Bool) (p : Settings) (unit : UnitId) (place : ℕ) (rows : List Undo) → WaitsIf waiting (roll_next p unit place rows)
roll-inner waiting p unit place [] = write-waits waiting p place (Backout unit)
roll-inner waiting p unit place (row ∷ rows) = tt

item-inner : (waiting : Bool) (p : Settings) (h : List Event) (plan : Plan) → Inner waiting (after_item p h plan)
item-inner waiting p h (plans.Answer answer) = tt
item-inner waiting p h (plans.Put unit rrn value place) = tt
item-inner waiting p h (plans.Get rrn) = tt
item-inner waiting p h (plans.Commit unit place) = write-waits waiting p place (Commit unit)
item-inner waiting p h (plans.Roll unit place) = roll-inner waiting p unit place (rolled_left p unit h)

file-inner : (waiting : Bool) (p : Settings) (slot : List ℕ) (plan : Plan) → Inner waiting (after_file_read p slot plan)
file-inner waiting p slot (plans.Put unit rrn value place) = write-waits waiting p place (Put unit rrn slot)
file-inner waiting p slot _ = tt

undo-inner : (waiting : Bool) (p : Settings) (h : List Event) (plan : Plan) (working : Bool) → Inner waiting (if_working working (after_undo p h plan))
undo-inner waiting p h plan false = tt
undo-inner waiting p h (plans.Roll unit place) true = roll-inner waiting p unit place (rolled_left p unit h)
undo-inner waiting p h _ true = tt

inside-inner : (waiting : Bool) (p : Settings) (h : List Event) → Inner waiting (inside p h)
inside-inner waiting p [] = tt
inside-inner waiting p (Ticked ∷ h) = inside-inner waiting p h
inside-inner waiting p (Abended ∷ h) = inside-inner waiting p h
inside-inner waiting p (Replied go at ∷ h) = inside-inner waiting p h
inside-inner waiting p (Commanded command at ∷ h) = inside-inner waiting p h
inside-inner waiting p (Exited answer at ∷ h) = inside-inner waiting p h
inside-inner waiting p (MessageRead k slot ∷ h) = read-inner waiting k slot (message_at_hand p h)
inside-inner waiting p (MessageClosed k ∷ h) = close-inner waiting k (message_at_hand p h)
inside-inner waiting p (ControlRead held known ∷ h) = control-inner waiting (record_by_purpose p (purpose h) (number h) (epoch_number h) held known)
inside-inner waiting p (Released ∷ h) = end-inner waiting (end_for p h)
inside-inner waiting p (LogLooked k gate ∷ h) = look-inner waiting k gate (record_at_hand p h)
inside-inner waiting p (LogClosed k ∷ h) = log_close-inner waiting k (record_at_hand p h)
inside-inner waiting p (LogOpened k rec ∷ h) = open-inner waiting rec (last_plan p h) (is_restarted h)
inside-inner waiting p (KeyLooked k gate ∷ h) = gate-waits (gate == OPEN) waiting (want.KpClose k) (want.KpBody k (next_keypoint p h)) tt tt
inside-inner waiting p (RecordRead rrn slot ∷ h) = file-inner waiting p slot (last_plan p h)
inside-inner waiting p (RecordUndone rrn before ∷ h) = undo-inner waiting p (RecordUndone rrn before ∷ h) (last_plan p h) (is_restarted h)
inside-inner waiting p (Given item ∷ h) = item-inner waiting p (Given item ∷ h) (last_plan p (Given item ∷ h))
inside-inner waiting p (e ∷ h) = tt

-- of either of two
either : (b waiting : Bool) (one other : Want) → WaitsIf waiting one → WaitsIf waiting other → WaitsIf waiting (if b then one else other)
either true waiting one other c d = c
either false waiting one other c d = d

-- an owner issues none
backout-waits : (waiting : Bool) (p : Settings) (h : List Event) (units : List UnitId) → WaitsIf waiting (backout_next p h units)
backout-waits waiting p h [] = tt
backout-waits waiting p h (unit ∷ units) = write-waits waiting p (next_record p h) (Backout unit)

undos-waits : (waiting : Bool) (p : Settings) (h : List Event) (rows : List Undo) → WaitsIf waiting (undo_next p h rows)
undos-waits waiting p h [] = backout-waits waiting p h (backouts_left p h)
undos-waits waiting p h (row ∷ rows) = tt

restart-waits : (waiting : Bool) (p : Settings) (h : List Event) → WaitsIf waiting (restart_next p h)
restart-waits waiting p h = by (scan p h).ended
  where
    by : (b : Bool) → WaitsIf waiting (elim b [ false ↦ want.LogRead (scan p h).block | true ↦ undo_next p h (rows_left p h) ])
    by false = tt
    by true = undos-waits waiting p h (rows_left p h)

message-waits : (waiting : Bool) (p : Settings) (h : List Event) (o : Option Message) → WaitsIf waiting (active_next p h o)
message-waits waiting p h (Some m) = gate-waits (may_write p h) waiting (want.MsgRead (number_of m % p.limits.ring)) want.Nothing tt tt
message-waits waiting p h None = gate-waits (keypoint_due p h) waiting (want.KpRead ((next_keypoint p h).number % 2)) want.Item tt tt

works-waits : (waiting : Bool) (p : Settings) (h : List Event) → WaitsIf waiting (owner_works p h)
works-waits waiting p h =
    either (drop_due h) waiting want.Reserve
    (if round_due h then want.Signal1 (signal_of h (rounds h + 1)) else (if is_draining h then want.MsgRead (reading_place p h)
    else (if is_restarted h then active_next p h (message_due p h) else restart_next p h))) tt
    (either (round_due h) waiting (want.Signal1 (signal_of h (rounds h + 1)))
    (if is_draining h then want.MsgRead (reading_place p h) else (if is_restarted h then active_next p h (message_due p h) else restart_next p h)) tt
    (either (is_draining h) waiting (want.MsgRead (reading_place p h)) (if is_restarted h then active_next p h (message_due p h) else restart_next p h) tt
    (either (is_restarted h) waiting (active_next p h (message_due p h)) (restart_next p h) (message-waits waiting p h (message_due p h)) (restart-waits waiting p h))))

owner-waits : (waiting : Bool) (p : Settings) (h : List Event) (state : Option OwnerState) (told : Option Notice) → WaitsIf waiting (owner_row p h state told)
owner-waits waiting p h (Some state) told = tt
owner-waits waiting p h None (Some told) = tt
owner-waits waiting p h None None = works-waits waiting p h

-- nor does an alternate by any other row than its first
tracks-waits : (waiting : Bool) (p : Settings) (h : List Event) → WaitsIf waiting (alternate_tracks p h)
tracks-waits waiting p h =
    either (through_due h) waiting want.Reserve
    (if round_due h then want.Signal1 (signal_of h (rounds h + 1)) else (if reading_due h then want.MsgRead (reading_place p h) else want.Nothing)) tt
    (either (round_due h) waiting (want.Signal1 (signal_of h (rounds h + 1))) (if reading_due h then want.MsgRead (reading_place p h) else want.Nothing) tt
    (either (reading_due h) waiting (want.MsgRead (reading_place p h)) want.Nothing tt tt))

starts-waits : (waiting : Bool) (p : Settings) (h : List Event) (cause : Option Cause) → WaitsIf waiting (alternate_starts p h cause)
starts-waits waiting p h (Some cause) = tt
starts-waits waiting p h None = tracks-waits waiting p h

row-waits : (waiting : Bool) (p : Settings) (h : List Event) (reason : Option EndWhy) → WaitsIf waiting (alternate_row p h reason)
row-waits waiting p h None = starts-waits waiting p h (start_due h)
row-waits waiting p h (Some end.Dropped) = tt
row-waits waiting p h (Some _) = tt

alternate-waits : (p : Settings) (h : List Event) → WaitsIf (is_waiting h) (alternate_next p h)
alternate-waits p h = by (lines_left p h) refl
  where
    by : (b : Bool) → lines_left p h ≡ b → WaitsIf (is_waiting h) (if b then want.Clt (lines_issued h + 1) else alternate_row p h (leaves h))
    by true left = (and_parts (is_waiting h) (nat_lt (lines_issued h) p.clt_lines) left).0
    by false left = row-waits (is_waiting h) p h (leaves h)

boundary-waits : (p : Settings) (h : List Event) → WaitsIf (is_waiting h) (boundary p h)
boundary-waits p h =
    either (is_owner h) (is_waiting h) (owner_row p h (sign_off_due h) (notice h)) (alternate_next p h) (owner-waits (is_waiting h) p h (sign_off_due h) (notice h))
    (alternate-waits p h)

-- a line of the command list is wanted by a waiting alternate alone
pub lines-wait : (p : Settings) (h : List Event) (k : ℕ) → next p h ≡ want.Clt k → is_waiting h ≡ true
lines-wait p h k is = subst (WaitsIf (is_waiting h)) is (by (inside p h) (inside-inner (is_waiting h) p h))
  where
    by : (o : Option Want) → Inner (is_waiting h) o → WaitsIf (is_waiting h) (or_boundary p h o)
    by None inner = boundary-waits p h
    by (Some w) inner = inner
