-- The units of a job, what its items are answered, and its keypoints.
use Rattle.std.specs.Prelude.{ℕ, ◌+◌, ◌-◌, ◌/◌, Bool, true, false, ◌&&◌, nat_le, nat_lt, List, [], ◌∷◌, drop, Option, Some, None}
use Rattle.xrf_base.specs.declared.items.UnitId.{UnitId}
use Rattle.xrf_base.specs.declared.items.Item.{Item}
use Rattle.xrf_base.specs.declared.items.Item.TheVariants as items
use Rattle.xrf_base.specs.declared.items.ItemAnswer.{ItemAnswer}
use Rattle.xrf_base.specs.declared.items.ItemAnswer.TheVariants.{Done, Got, Empty}
use Rattle.xrf_base.specs.Values.{slot_reading}
use Rattle.xrf_logrec.specs.declared.records.LogRec.{LogRec}
use Rattle.xrf_logrec.specs.declared.records.LogRec.TheVariants.{Put, Commit, Backout}
use Rattle.xrf_logrec.specs.declared.records.Undo.{Undo}
use Rattle.xrf_logrec.specs.declared.keypoints.Keypoint.{Keypoint}
use Rattle.xrf_file.specs.Ledger.{Ledger, fresh, started, planned, logged, ended, keyed, plan_of, oldest, undo_rows}
use Rattle.xrf_file.specs.declared.answers.Plan.{Plan}
use Rattle.xrf_file.specs.declared.answers.Plan.TheVariants as plans
use Rattle.xrf_history.specs.declared.settings.Settings.{Settings}
use Rattle.xrf_history.specs.declared.want.Want.TheVariants as want
use Rattle.xrf_history.specs.Events.{Event, LogOpened, KeyOpened, RecordRead, RecordWritten, RecordUndone, Given, RestartDeclared, ActFailed}
use Rattle.xrf_history.specs.Holding.{number, is_restarted}
use Rattle.xrf_history.specs.Restarting.{next_record, start_record, last_keypoint}
use Rattle.xrf_history.specs.Terminals.{terminal_answer, table}

-- What a job knows of its units: with RESTARTED it begins, with no unit. An item opens and closes units, a
-- LOGOPEN logs a put or the end of a unit, and a KPOPEN moves the start.
abbrev pub after_record : LogRec → Ledger → Ledger
after_record (Put unit rrn before) l = logged l unit rrn before
after_record (Commit unit) l = ended l unit
after_record (Backout unit) l = ended l unit

abbrev pub ledger : Settings → List Event → Ledger
ledger p [] = fresh p.limits.log p.limits.file
ledger p (RestartDeclared ∷ h) = started (fresh p.limits.log p.limits.file) (number h) (next_record p h) (start_record p h)
ledger p (Given item ∷ h) = planned (ledger p h) item
ledger p (LogOpened place rec ∷ h) = after_record rec (ledger p h)
ledger p (KeyOpened place keypoint ∷ h) = keyed (ledger p h) keypoint.start
ledger p (ActFailed (want.LogOpen place rec) at ∷ h) = after_record rec (ledger p h)
ledger p (ActFailed (want.KpOpen place keypoint) at ∷ h) = keyed (ledger p h) keypoint.start
ledger p (_ ∷ h) = ledger p h

-- what the item taken last makes the job do; before the first it is never asked
abbrev pub last_plan : Settings → List Event → Plan
last_plan p [] = plans.Answer Done
last_plan p (Given item ∷ h) = plan_of (ledger p h) item
last_plan p (_ ∷ h) = last_plan p h

-- the UNDOs made since the last ITEM, and the undo rows of the unit of a ROLL that are left
abbrev pub undone_of_item : List Event → ℕ
undone_of_item [] = 0
undone_of_item (Given item ∷ h) = 0
undone_of_item (RecordUndone rrn before ∷ h) = undone_of_item h + 1
undone_of_item (ActFailed (want.Undo rrn before) at ∷ h) = undone_of_item h + 1
undone_of_item (_ ∷ h) = undone_of_item h

abbrev pub rolled_left : Settings → UnitId → List Event → List Undo
rolled_left p unit h = drop (undone_of_item h) (undo_rows unit (ledger p h))

-- The answer that an item gets at its ITEM, if it is answered there.
abbrev pub answer_of_plan : Plan → Option ItemAnswer
answer_of_plan (plans.Answer answer) = Some answer
answer_of_plan _ = None

abbrev pub answer_at_once : Settings → List Event → Item → Option ItemAnswer
answer_at_once p h (items.Begin name) = answer_of_plan (plan_of (ledger p h) (items.Begin name))
answer_at_once p h (items.Put name rrn value) = answer_of_plan (plan_of (ledger p h) (items.Put name rrn value))
answer_at_once p h (items.Get name rrn) = answer_of_plan (plan_of (ledger p h) (items.Get name rrn))
answer_at_once p h (items.Commit name) = answer_of_plan (plan_of (ledger p h) (items.Commit name))
answer_at_once p h (items.Roll name) = answer_of_plan (plan_of (ledger p h) (items.Roll name))
answer_at_once p h item = Some (terminal_answer item (table p h)).answer

-- the answer of a GET by the slot that it read
abbrev pub answer_of_slot : Option (Option (List ℕ)) → ItemAnswer
answer_of_slot (Some (Some value)) = Got value
answer_of_slot (Some None) = Empty
answer_of_slot None = Empty

abbrev pub answer_of_read : Plan → List ℕ → Option ItemAnswer
answer_of_read (plans.Get rrn) slot = Some (answer_of_slot (slot_reading slot))
answer_of_read _ slot = None

-- the end of a unit that is opened in the log answers its COMMIT or ROLL
abbrev pub answer_of_record : LogRec → Option ItemAnswer
answer_of_record (Put unit rrn before) = None
answer_of_record (Commit unit) = Some Done
answer_of_record (Backout unit) = Some Done

-- The answer that the newest event gives to the item taken last, if it is the item's last act: of an item
-- that is not answered at ITEM, FILEREAD for GET, FILEWRITE for PUT, LOGOPEN for COMMIT and ROLL.
abbrev pub item_answer : Settings → List Event → Option ItemAnswer
item_answer p [] = None
item_answer p (Given item ∷ h) = answer_at_once p h item
item_answer p (RecordRead rrn slot ∷ h) = answer_of_read (last_plan p h) slot
item_answer p (RecordWritten unit rrn value ∷ h) = Some Done
item_answer p (LogOpened place rec ∷ h) = elim (is_restarted h) [ true ↦ answer_of_record rec | false ↦ None ]
item_answer p (_ ∷ h) = None

-- A keypoint is due where RESTARTED was made, next less start is at least LOG / 2, and the least number of a
-- put of an open unit, or next where there is none, is greater than start.
abbrev pub keypoint_due : Settings → List Event → Bool
keypoint_due p h =
    let l = ledger p h in
    is_restarted h && nat_le (p.limits.log / 2) (l.next - l.start) && nat_lt l.start (oldest l)

-- the due keypoint: one more than the keypoint in force, with that least number as its start
abbrev pub next_keypoint : Settings → List Event → Keypoint
next_keypoint p h = record { number = (last_keypoint p h).number + 1; start = oldest (ledger p h) }
