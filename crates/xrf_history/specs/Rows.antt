-- The rows of the step table: what a job does next at a boundary. The first row that applies gives the act.
use Rattle.std.specs.Prelude.{ℕ, ◌+◌, ◌%◌, Bool, true, false, ◌&&◌, not, nat_lt, nat_le, if◌then◌else◌, List, [], ◌∷◌, Option, Some, None}
use Rattle.xrf_base.specs.declared.items.UnitId.{UnitId}
use Rattle.xrf_ctl.specs.Signal.{SignalRecord, of_numbers}
use Rattle.xrf_ctl.specs.declared.parts.OwnerState.{OwnerState}
use Rattle.xrf_ctl.specs.declared.parts.Cause.{Cause}
use Rattle.xrf_exit.specs.declared.Notice.{Notice}
use Rattle.xrf_logrec.specs.declared.records.LogRec.{LogRec}
use Rattle.xrf_logrec.specs.declared.records.LogRec.TheVariants.{Backout}
use Rattle.xrf_logrec.specs.declared.records.Undo.{Undo}
use Rattle.xrf_msg.specs.declared.messages.Message.{Message}
use Rattle.xrf_msg.specs.Messages.{number_of}
use Rattle.xrf_history.specs.declared.settings.Settings.{Settings}
use Rattle.xrf_history.specs.declared.want.Want.{Want}
use Rattle.xrf_history.specs.declared.want.Want.TheVariants as want
use Rattle.xrf_history.specs.declared.want.EndWhy.{EndWhy}
use Rattle.xrf_history.specs.declared.want.EndWhy.TheVariants as end
use Rattle.xrf_cavm.specs.declared.decisions.Decision.TheVariants as decision
use Rattle.xrf_cavm.specs.declared.decisions.Waiting.TheVariants as waiting
use Rattle.xrf_cavm.specs.declared.decisions.Decided.{Decided}
use Rattle.xrf_cavm.specs.declared.decisions.Decided.TheVariants.{Alternate, Waiting}
use Rattle.xrf_history.specs.Events.{Event, Ticked, Signalled1, DecisionMade, MessageRead, LineIssued, ActFailed}
use Rattle.xrf_history.specs.Holding.{number, is_granted, is_owner, is_waiting, is_restarted}
use Rattle.xrf_history.specs.Taking.{expected, gives, is_draining}
use Rattle.xrf_history.specs.Reserving.{sign_off_due, drop_due, start_due, through_due, leaves}
use Rattle.xrf_history.specs.Notices.{notice}
use Rattle.xrf_history.specs.Restarting.{scan, rows_left, backouts_left, next_record}
use Rattle.xrf_history.specs.Working.{keypoint_due, next_keypoint}
use Rattle.xrf_history.specs.Sending.{may_write, message_due}

-- the SIGNAL1s that it has made, and whether one was made in the present tick
abbrev pub rounds : List Event → ℕ
rounds [] = 0
rounds (Signalled1 signal ∷ h) = rounds h + 1
rounds (_ ∷ h) = rounds h

abbrev pub has_signalled : List Event → Bool
has_signalled [] = false
has_signalled (Signalled1 signal ∷ h) = true
has_signalled (Ticked ∷ h) = false
has_signalled (_ ∷ h) = has_signalled h

-- a round is due where it holds an incarnation and has made no SIGNAL1 in the present tick
abbrev pub round_due : List Event → Bool
round_due h = is_granted h && not (has_signalled h)

-- Its signal of a round: the counter is 1 in its first round and rises by 1, and the cursor is the number of
-- the message that it takes next in an alternate, else 0.
abbrev pub cursor_shown : List Event → ℕ
cursor_shown h = elim (is_owner h) [ true ↦ 0 | false ↦ expected h ]

abbrev pub signal_of : List Event → (counter : ℕ) → SignalRecord
signal_of h counter = of_numbers (number h) counter (cursor_shown h)

-- the message slot in which it reads next
abbrev pub reading_place : Settings → List Event → ℕ
reading_place p h = expected h % p.limits.ring

-- a log record is written over where its slot was used before: the gate is looked at first
abbrev pub log_write : Settings → (place : ℕ) → LogRec → Want
log_write p place rec = elim (nat_le p.limits.log place) [ true ↦ want.LogLook place | false ↦ want.LogBody place rec ]

-- An owner's restart: the scan of the log from block 0 on, the undo rows, the Backouts, RESTARTED. Nothing of
-- it is left once RESTARTED is made.
abbrev pub backout_next : Settings → List Event → List UnitId → Want
backout_next p h [] = want.Restarted
backout_next p h (unit ∷ units) = log_write p (next_record p h) (Backout unit)

abbrev pub undo_next : Settings → List Event → List Undo → Want
undo_next p h [] = backout_next p h (backouts_left p h)
undo_next p h (row ∷ rows) = want.Undo row.rrn row.before

abbrev pub restart_next : Settings → List Event → Want
restart_next p h =
    elim (scan p h).ended [
      | false ↦ want.LogRead (scan p h).block
      | true ↦ undo_next p h (rows_left p h)
    ]

-- A message is due and may be written, or it waits for the cursor. Else a keypoint is due, or the next item.
abbrev pub message_next : Settings → List Event → Message → Want
message_next p h message = elim (may_write p h) [ true ↦ want.MsgRead (number_of message % p.limits.ring) | false ↦ want.Nothing ]

abbrev pub work_next : Settings → List Event → Want
work_next p h =
    elim (keypoint_due p h) [
      | true ↦ want.KpRead ((next_keypoint p h).number % 2)
      | false ↦ want.Item
    ]

abbrev pub active_next : Settings → List Event → Option Message → Want
active_next p h (Some message) = message_next p h message
active_next p h None = work_next p h

-- AN OWNER: the first row that applies.
abbrev pub owner_works : Settings → List Event → Want
owner_works p h =
    if drop_due h then want.Reserve  -- the drop of the alternate
    else (if round_due h then want.Signal1 (signal_of h (rounds h + 1))  -- a round
    else (if is_draining h then want.MsgRead (reading_place p h)  -- the messages that are left to take
    else (if is_restarted h then active_next p h (message_due p h)  -- messages to send, keypoints, items
    else restart_next p h)))  -- the restart

abbrev pub owner_row : Settings → List Event → Option OwnerState → Option Notice → Want
owner_row p h (Some state) pending = want.Reserve  -- the sign-off
owner_row p h None (Some told) = want.Exit told  -- a notice
owner_row p h None None = owner_works p h

-- reading is due where the last decision is NOTHING, ASK or WAIT, and no MSGREAD after it gave none
abbrev pub lets_read : Decided → Bool
lets_read (Alternate decision.Nothing) = true
lets_read (Alternate decision.Ask) = true
lets_read (Waiting waiting.Wait) = true
lets_read _ = false

abbrev pub reading_due : List Event → Bool
reading_due [] = false
reading_due (DecisionMade known at decision ∷ h) = lets_read decision
reading_due (MessageRead place slot ∷ h) = reading_due h && gives slot h
reading_due (ActFailed (want.MsgRead place) at ∷ h) = false
reading_due (_ ∷ h) = reading_due h

-- the lines of the command list that it has issued
abbrev pub lines_issued : List Event → ℕ
lines_issued [] = 0
lines_issued (LineIssued line ∷ h) = lines_issued h + 1
lines_issued (_ ∷ h) = lines_issued h

-- AN ALTERNATE: the first row that applies.
abbrev pub alternate_tracks : Settings → List Event → Want
alternate_tracks p h =
    if through_due h then want.Reserve  -- the through
    else (if round_due h then want.Signal1 (signal_of h (rounds h + 1))  -- a round
    else (if reading_due h then want.MsgRead (reading_place p h)  -- messages to take
    else want.Nothing))

abbrev pub alternate_starts : Settings → List Event → Option Cause → Want
alternate_starts p h (Some cause) = want.Reserve  -- the start of the takeover
alternate_starts p h None = alternate_tracks p h

abbrev pub alternate_row : Settings → List Event → Option EndWhy → Want
alternate_row p h (Some end.Dropped) = want.Ended end.Dropped  -- the end of one that was dropped
alternate_row p h (Some reason) = want.Reserve  -- its leave
alternate_row p h None = alternate_starts p h (start_due h)

abbrev pub lines_left : Settings → List Event → Bool
lines_left p h = is_waiting h && nat_lt (lines_issued h) p.clt_lines

abbrev pub alternate_next : Settings → List Event → Want
alternate_next p h =
    if lines_left p h then want.Clt (lines_issued h + 1)  -- the command list, once the takeover is started
    else alternate_row p h (leaves h)

-- the act at a boundary
abbrev pub boundary : Settings → List Event → Want
boundary p h = if is_owner h then owner_row p h (sign_off_due h) (notice h) else alternate_next p h
