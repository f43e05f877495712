-- The acts on the file of a job are of the plan of its item.
use Rattle.std.proofs.Common.{nat_le, ℕ, List, [], ◌∷◌, IfSome, refl, Bool, false, true, None, Option, Some, ◌==◌}
use Rattle.xrf_base.specs.declared.items.UnitId.{UnitId}
use Rattle.xrf_ctl.specs.Control.{ControlRecord}
use Rattle.xrf_gated.specs.declared.gated.TheConstants.{OPEN}
use Rattle.xrf_logrec.specs.declared.records.LogRec.{LogRec}
use Rattle.xrf_logrec.specs.declared.records.LogRec.TheVariants.{Backout, Commit, Put}
use Rattle.xrf_logrec.specs.declared.records.Undo.{Undo}
use Rattle.xrf_file.specs.declared.answers.Plan.{Plan}
use Rattle.xrf_msg.specs.declared.messages.Message.{Message}
use Rattle.xrf_history.specs.declared.settings.Settings.{Settings}
use Rattle.xrf_history.specs.Rows.{log_write, backout_next, undo_next, restart_next, boundary}
use Rattle.xrf_history.specs.Next.{roll_next, after_item, after_file_read, after_undo, if_working, after_log_open, write_next, end_next, after_message_read, gate_of, after_message_close, after_log_look, after_log_close, inside, message_at_hand, record_at_hand, next, or_boundary}
use Rattle.xrf_history.specs.Events.{Event, Replied, Commanded, Exited, ControlRead, MessageRead, MessageClosed, Abended, Given, KeyLooked, LogClosed, LogLooked, LogOpened, RecordRead, RecordUndone, Released, Ticked}
use Rattle.xrf_history.specs.Working.{rolled_left, last_plan, next_keypoint, keypoint_due}
use Rattle.xrf_history.specs.declared.want.EndWhy.{EndWhy}
use Rattle.xrf_history.specs.Holding.{is_restarted}
use Rattle.xrf_history.specs.declared.want.Want.{Want}
use Rattle.xrf_history.specs.Restarting.{backouts_left, rows_left, scan}
use Rattle.xrf_log_law.specs.Serving.{OfPlan}
use Rattle.xrf_log_law.proofs.Tests.{choose}
use Rattle.xrf_log_law.specs.Jobs.{Idle}
use Rattle.xrf_log_law.proofs.Boundaries.{boundary-data}
use Rattle.xrf_file.specs.declared.answers.Plan.TheVariants as plans
use Rattle.xrf_history.specs.declared.want.Want.TheVariants as want

-- a record that is written is no act on the file
log_write-of : (plan : Plan) (p : Settings) (place : ℕ) (rec : LogRec) → OfPlan plan (log_write p place rec)
log_write-of plan p place rec = choose (OfPlan plan) (nat_le p.limits.log place) _ _ (λ e. tt) (λ e. tt)

-- nor is a roll
roll-of : (plan : Plan) (p : Settings) (unit : UnitId) (place : ℕ) (rows : List Undo) → OfPlan plan (roll_next p unit place rows)
roll-of plan p unit place [] = log_write-of plan p place (Backout unit)
roll-of plan p unit place (row ∷ rows) = tt

-- what comes after an ITEM is of its plan
item-of : (p : Settings) (h : List Event) (plan : Plan) → IfSome (after_item p h plan) (OfPlan plan)
item-of p h (plans.Answer a) = tt
item-of p h (plans.Get k) = refl
item-of p h (plans.Put u k value place) = refl
item-of p h (plans.Commit u place) = log_write-of (plans.Commit u place) p place (Commit u)
item-of p h (plans.Roll u place) = roll-of (plans.Roll u place) p u place (rolled_left p u h)

-- what comes after a FILEREAD is of the plan
read-of : (p : Settings) (slot : List ℕ) (plan : Plan) → IfSome (after_file_read p slot plan) (OfPlan plan)
read-of p slot (plans.Put u k value place) = log_write-of (plans.Put u k value place) p place (Put u k slot)
read-of p slot (plans.Answer a) = tt
read-of p slot (plans.Get k) = tt
read-of p slot (plans.Commit u place) = tt
read-of p slot (plans.Roll u place) = tt

-- what comes after an UNDO is
undo-of : (p : Settings) (h : List Event) (working : Bool) (plan : Plan) → IfSome (if_working working (after_undo p h plan)) (OfPlan plan)
undo-of p h false plan = tt
undo-of p h true (plans.Roll u place) = roll-of (plans.Roll u place) p u place (rolled_left p u h)
undo-of p h true (plans.Put u k value place) = tt
undo-of p h true (plans.Answer a) = tt
undo-of p h true (plans.Get k) = tt
undo-of p h true (plans.Commit u place) = tt

-- the write that follows the Put of a plan is the plan's
open-of : (rec : LogRec) (working : Bool) (plan : Plan) → IfSome (if_working working (after_log_open rec plan)) (OfPlan plan)
open-of rec false plan = tt
open-of (Put unit rrn before) true (plans.Put u k value place) = (refl, refl, refl)
open-of (Put unit rrn before) true (plans.Roll u place) = tt
open-of (Put unit rrn before) true (plans.Answer a) = tt
open-of (Put unit rrn before) true (plans.Get k) = tt
open-of (Put unit rrn before) true (plans.Commit u place) = tt
open-of (Commit unit) true plan = tt
open-of (Backout unit) true plan = tt

-- a CTLWRITE is no act on the file
write-of : (plan : Plan) (o : Option ControlRecord) → OfPlan plan (write_next o)
write-of plan None = tt
write-of plan (Some written) = tt

-- nor is an end
end-of : (plan : Plan) (o : Option EndWhy) → IfSome (end_next o) (OfPlan plan)
end-of plan None = tt
end-of plan (Some reason) = tt

-- nor what comes after a MSGREAD
message-of : (plan : Plan) (k : ℕ) (slot : List ℕ) (o : Option Message) → IfSome (after_message_read k slot o) (OfPlan plan)
message-of plan k slot None = tt
message-of plan k slot (Some message) = choose (OfPlan plan) (gate_of slot == OPEN) _ _ (λ e. tt) (λ e. tt)

-- nor what comes after a MSGCLOSE
closed-of : (plan : Plan) (k : ℕ) (o : Option Message) → IfSome (after_message_close k o) (OfPlan plan)
closed-of plan k None = tt
closed-of plan k (Some message) = tt

-- nor what comes after a LOGLOOK
look-of : (plan : Plan) (place gate : ℕ) (o : Option LogRec) → IfSome (after_log_look place gate o) (OfPlan plan)
look-of plan place gate None = tt
look-of plan place gate (Some rec) = choose (OfPlan plan) (gate == OPEN) _ _ (λ e. tt) (λ e. tt)

-- nor what comes after a LOGCLOSE
close-of : (plan : Plan) (place : ℕ) (o : Option LogRec) → IfSome (after_log_close place o) (OfPlan plan)
close-of plan place None = tt
close-of plan place (Some rec) = tt

-- so each act inside a sequence is of the plan
pub inside-of : (p : Settings) (h : List Event) → IfSome (inside p h) (OfPlan (last_plan p h))
inside-of p [] = tt
inside-of p (Ticked ∷ h) = inside-of p h
inside-of p (Abended ∷ h) = inside-of p h
inside-of p (Replied go at ∷ h) = inside-of p h
inside-of p (Commanded command at ∷ h) = inside-of p h
inside-of p (Exited answer at ∷ h) = inside-of p h
inside-of p (ControlRead held known ∷ h) = write-of (last_plan p h) _
inside-of p (Released ∷ h) = end-of (last_plan p h) _
inside-of p (MessageRead place slot ∷ h) = message-of (last_plan p h) place slot (message_at_hand p h)
inside-of p (MessageClosed place ∷ h) = closed-of (last_plan p h) place (message_at_hand p h)
inside-of p (LogLooked place gate ∷ h) = look-of (last_plan p h) place gate (record_at_hand p h)
inside-of p (LogClosed place ∷ h) = close-of (last_plan p h) place (record_at_hand p h)
inside-of p (LogOpened place rec ∷ h) = open-of rec (is_restarted h) (last_plan p h)
inside-of p (KeyLooked place gate ∷ h) =
    choose (OfPlan (last_plan p h)) (gate == OPEN) (want.KpClose place) (want.KpBody place (next_keypoint p h)) (λ e. tt) (λ e. tt)
inside-of p (RecordRead rrn slot ∷ h) = read-of p slot (last_plan p h)
inside-of p (RecordUndone rrn before ∷ h) = undo-of p (RecordUndone rrn before ∷ h) (is_restarted h) (last_plan p h)
inside-of p (Given item ∷ h) = item-of p (Given item ∷ h) (last_plan p (Given item ∷ h))
inside-of p (_ ∷ h) = tt

-- and at a boundary there is none
idle-of : (plan : Plan) (w : Want) → Idle w → OfPlan plan w
idle-of plan (want.FileRead rrn) idle = absurd (cc)
idle-of plan (want.FileWrite unit rrn value) idle = absurd (cc)
idle-of plan _ idle = tt

-- a Backout of a restart is no act on the file of a plan
backout-of : (plan : Plan) (p : Settings) (h : List Event) (units : List UnitId) → OfPlan plan (backout_next p h units)
backout-of plan p h [] = tt
backout-of plan p h (unit ∷ units) = log_write-of plan p _ (Backout unit)

-- nor are its undo rows
rows-of : (plan : Plan) (p : Settings) (h : List Event) (rows : List Undo) → OfPlan plan (undo_next p h rows)
rows-of plan p h [] = backout-of plan p h (backouts_left p h)
rows-of plan p h (row ∷ rows) = tt

-- nor is any act of a restart
restart-of : (plan : Plan) (p : Settings) (h : List Event) → OfPlan plan (restart_next p h)
restart-of plan p h = choose (OfPlan plan) (scan p h).ended _ _ (λ e. rows-of plan p h (rows_left p h)) (λ e. tt)

-- nor is any act at a boundary
boundary-of : (plan : Plan) (p : Settings) (h : List Event) → OfPlan plan (boundary p h)
boundary-of plan p h = boundary-data p h (OfPlan plan) (record {
  idle = λ w idle. idle-of plan w idle;
  restarts = λ owner none going. restart-of plan p h;
  works = λ owner none working. choose (OfPlan plan) (keypoint_due p h) _ _ (λ e. tt) (λ e. tt);
})

-- the next act is of the plan of the item taken last
pub next-of : (p : Settings) (h : List Event) → OfPlan (last_plan p h) (next p h)
next-of p h = by (inside p h) (inside-of p h)
  where
    by : (o : Option Want) → IfSome o (OfPlan (last_plan p h)) → OfPlan (last_plan p h) (or_boundary p h o)
    by None inner = boundary-of (last_plan p h) p h
    by (Some w) inner = inner
