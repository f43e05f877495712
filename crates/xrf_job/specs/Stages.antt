-- The acts of the stages of a job, and what is known at a stage.
use Rattle.std.specs.Prelude.{◌≡◌, true, List, Option, Some, None}
use Rattle.xrf_logrec.specs.declared.records.LogRec.{LogRec}
use Rattle.xrf_file.specs.Ledger.{IsPending}
use Rattle.xrf_history.specs.declared.settings.Settings.{Settings}
use Rattle.xrf_history.specs.declared.want.Want.{Want}
use Rattle.xrf_history.specs.declared.want.Want.TheVariants as want
use Rattle.xrf_history.specs.Events.{Event}
use Rattle.xrf_history.specs.Holding.{is_granted, is_restarted}
use Rattle.xrf_history.specs.Reserving.{Purpose, SignOnActive, SignOnStandby, SignOff, DropAlternate, Leave, StartTakeover, GoThrough}
use Rattle.xrf_history.specs.Restarting.{scan}
use Rattle.xrf_history.specs.Working.{ledger, last_plan, next_keypoint}
use Rattle.xrf_history.specs.Next.{record_for, record_at_hand, message_at_hand}
use Rattle.xrf_job.specs.declared.stage.Stage.{Stage}
use Rattle.xrf_job.specs.declared.stage.Stage.TheVariants as stages
use Rattle.xrf_job.specs.declared.purpose.Purpose.{Purpose as Kept}
use Rattle.xrf_job.specs.declared.purpose.Purpose.TheVariants as kept

-- the act of a stage, none at a boundary
abbrev pub inside_of : Stage → Option Want
inside_of stages.Boundary = None
inside_of stages.Reserve = Some want.Reserve
inside_of stages.CtlRead = Some want.CtlRead
inside_of (stages.CtlWrite written) = Some (want.CtlWrite written)
inside_of stages.Release = Some want.Release
inside_of (stages.Ended reason) = Some (want.Ended reason)
inside_of (stages.Signal2 signal) = Some (want.Signal2 signal)
inside_of stages.Look1 = Some want.Look1
inside_of stages.Look2 = Some want.Look2
inside_of stages.Decide = Some want.Decide
inside_of (stages.MsgClose place message) = Some (want.MsgClose place)
inside_of (stages.MsgBody place message) = Some (want.MsgBody place message)
inside_of (stages.MsgOpen place message) = Some (want.MsgOpen place message)
inside_of (stages.LogLook place rec) = Some (want.LogLook place)
inside_of (stages.LogClose place rec) = Some (want.LogClose place)
inside_of (stages.LogBody place rec) = Some (want.LogBody place rec)
inside_of (stages.LogOpen place rec) = Some (want.LogOpen place rec)
inside_of (stages.KpClose place keypoint) = Some (want.KpClose place)
inside_of (stages.KpBody place keypoint) = Some (want.KpBody place keypoint)
inside_of (stages.KpOpen place keypoint) = Some (want.KpOpen place keypoint)
inside_of (stages.FileRead rrn) = Some (want.FileRead rrn)
inside_of (stages.FileWrite unit rrn value) = Some (want.FileWrite unit rrn value)
inside_of (stages.Undo undo) = Some (want.Undo undo.rrn undo.before)

-- a purpose that is kept
abbrev pub purpose_of : Kept → Purpose
purpose_of kept.SignOnActive = SignOnActive
purpose_of kept.SignOnStandby = SignOnStandby
purpose_of (kept.SignOff state) = SignOff state
purpose_of kept.DropAlternate = DropAlternate
purpose_of (kept.Leave reason) = Leave reason
purpose_of (kept.StartTakeover cause) = StartTakeover cause
purpose_of kept.GoThrough = GoThrough

-- the log record that is being written is the one at hand, and where it is of an item, the item's plan waits
pub record AtHand (p : Settings) (h : List Event) (rec : LogRec) : Type 0 where
  pub at_hand : record_at_hand p h ≡ Some rec
  pub pending : is_restarted h ≡ true → IsPending (ledger p h) (last_plan p h)
  pub scanned : (scan p h).ended ≡ true
  pub granted : is_granted h ≡ true

-- What is known at a stage: what is written is what is at hand, an item's plan waits until its record is in
-- the log, and only a job that is granted works.
abbrev pub Within : Stage → Settings → List Event → Type 0
Within (stages.CtlWrite written) p h = record_for p h ≡ Some written
Within (stages.MsgClose place message) p h = (message_at_hand p h ≡ Some message) × (is_granted h ≡ true)
Within (stages.MsgBody place message) p h = is_granted h ≡ true
Within (stages.MsgOpen place message) p h = is_granted h ≡ true
Within (stages.LogLook place rec) p h = AtHand p h rec
Within (stages.LogClose place rec) p h = AtHand p h rec
Within (stages.LogBody place rec) p h = AtHand p h rec
Within (stages.LogOpen place rec) p h = AtHand p h rec
Within (stages.KpClose place keypoint) p h = (is_restarted h ≡ true) × (keypoint ≡ next_keypoint p h) × (is_granted h ≡ true)
Within (stages.KpBody place keypoint) p h = (is_restarted h ≡ true) × (keypoint ≡ next_keypoint p h) × (is_granted h ≡ true)
Within (stages.KpOpen place keypoint) p h = (is_restarted h ≡ true) × (keypoint ≡ next_keypoint p h) × (is_granted h ≡ true)
Within (stages.FileRead rrn) p h = (is_restarted h ≡ true) × IsPending (ledger p h) (last_plan p h) × (is_granted h ≡ true)
Within (stages.FileWrite unit rrn value) p h = is_granted h ≡ true
Within (stages.Undo undo) p h = (is_restarted h ≡ true) × IsPending (ledger p h) (last_plan p h) × (is_granted h ≡ true)
Within (stages.Signal2 signal) p h = is_granted h ≡ true
Within stages.Look1 p h = is_granted h ≡ true
Within stages.Look2 p h = is_granted h ≡ true
Within stages.Decide p h = is_granted h ≡ true
Within _ p h = Unit {0}
