-- What makes a job reserve the control data set, what it writes there, and how it goes on from there.
use Rattle.std.specs.Prelude.{ℕ, Bool, true, false, ◌&&◌, ◌||◌, not, is_some, is_none, if◌then◌else◌, List, [], ◌∷◌, Option, Some, None}
use Rattle.xrf_base.specs.declared.items.Item.{Item}
use Rattle.xrf_base.specs.declared.items.Item.TheVariants as items
use Rattle.xrf_ctl.specs.declared.parts.OwnerState.{OwnerState}
use Rattle.xrf_ctl.specs.declared.parts.OwnerState.TheVariants.{OffNormal, OffAbend, OffTakeover}
use Rattle.xrf_ctl.specs.declared.parts.Cause.{Cause}
use Rattle.xrf_ctl.specs.Control.{ControlRecord, empty}
use Rattle.xrf_cavm.specs.declared.known.Known.{Known}
use Rattle.xrf_cavm.specs.declared.grants.Grant.{Grant}
use Rattle.xrf_cavm.specs.declared.grants.Grant.TheVariants as grant
use Rattle.xrf_cavm.specs.declared.writes.Dropping.{Dropping}
use Rattle.xrf_cavm.specs.declared.writes.Dropping.TheVariants as dropping
use Rattle.xrf_cavm.specs.declared.decisions.Why.{Why}
use Rattle.xrf_cavm.specs.declared.decisions.Why.TheVariants as why
use Rattle.xrf_cavm.specs.declared.decisions.Decision.TheVariants as decision
use Rattle.xrf_cavm.specs.declared.decisions.Waiting.TheVariants as waiting
use Rattle.xrf_cavm.specs.declared.decisions.Decided.{Decided}
use Rattle.xrf_cavm.specs.declared.decisions.Decided.TheVariants.{Alternate, Waiting}
use Rattle.xrf_cavm.specs.Grants.{grant_active, grant_standby}
use Rattle.xrf_cavm.specs.Writes.{sign_off, start_takeover, let_through, leave, drop_alternate}
use Rattle.xrf_exit.specs.declared.ExitAnswer.TheVariants as exit
use Rattle.xrf_history.specs.declared.settings.Settings.{Settings}
use Rattle.xrf_history.specs.declared.want.EndWhy.{EndWhy}
use Rattle.xrf_history.specs.declared.want.EndWhy.TheVariants as end
use Rattle.xrf_history.specs.declared.want.Want.{Want}
use Rattle.xrf_history.specs.declared.want.Want.TheVariants as want
use Rattle.xrf_history.specs.Events.{Event, Abended, Exited, Reserved, ControlRead, ControlWritten, DecisionMade, Given, ActFailed}
use Rattle.xrf_history.specs.Holding.{starts_active, is_granted, number, is_owner}
use Rattle.xrf_history.specs.Taking.{is_draining}

-- the state in which an item signs the owner off
abbrev pub state_by_item : Item → Option OwnerState
state_by_item items.Shutdown = Some OffNormal
state_by_item items.ShutdownTakeover = Some OffTakeover
state_by_item _ = None

-- the first of two, and the second where it is none
abbrev pub or_else : {X : Type 0} → Option X → Option X → Option X
or_else (Some first) later = Some first
or_else None later = later

-- an act on a message slot
abbrev pub is_on_message : Want → Bool
is_on_message (want.MsgRead place) = true
is_on_message (want.MsgClose place) = true
is_on_message (want.MsgBody place message) = true
is_on_message (want.MsgOpen place message) = true
is_on_message _ = false

-- a failed act of an owner on a message that it sends; all its other acts that may fail are on the log, the
-- keypoints and the file, or read a message that it drains
abbrev pub fails_sending : Bool → List Event → Bool
fails_sending on_message h = is_owner h && on_message && not (is_draining h)

abbrev pub fails_owner : Bool → List Event → Bool
fails_owner on_message h = is_owner h && not (fails_sending on_message h)

-- A sign-off is due where it has ABEND, EXIT ABEND, a failed act of an owner other than one on a message
-- that it sends, or an ITEM of CEMT. The first of these gives the state.
abbrev pub sign_off_due : List Event → Option OwnerState
sign_off_due [] = None
sign_off_due (Abended ∷ h) = or_else (sign_off_due h) (Some OffAbend)
sign_off_due (Exited exit.Abend at ∷ h) = or_else (sign_off_due h) (Some OffAbend)
sign_off_due (Given item ∷ h) = or_else (sign_off_due h) (state_by_item item)
sign_off_due (ActFailed tried at ∷ h) = or_else (sign_off_due h) (if fails_owner (is_on_message tried) h then Some OffAbend else None)
sign_off_due (_ ∷ h) = sign_off_due h

-- a drop is due where an EXIT DROP, or a failed act on a message that it sends, has no RESERVE after it
abbrev pub drop_due : List Event → Bool
drop_due [] = false
drop_due (Reserved ∷ h) = false
drop_due (Exited exit.Drop at ∷ h) = true
drop_due (ActFailed tried at ∷ h) = drop_due h || fails_sending (is_on_message tried) h
drop_due (_ ∷ h) = drop_due h

-- the last decision
abbrev pub last_decision : List Event → Option Decided
last_decision [] = None
last_decision (DecisionMade known at decision ∷ h) = Some decision
last_decision (_ ∷ h) = last_decision h

-- the last decision, where no RESERVE follows it
abbrev pub open_decision : List Event → Option Decided
open_decision [] = None
open_decision (Reserved ∷ h) = None
open_decision (DecisionMade known at decision ∷ h) = Some decision
open_decision (_ ∷ h) = open_decision h

-- a start is due where the last decision is START and no RESERVE follows it
abbrev pub start_in : Option Decided → Option Cause
start_in (Some (Alternate (decision.Start cause))) = Some cause
start_in _ = None

abbrev pub start_due : List Event → Option Cause
start_due h = start_in (open_decision h)

-- a through is due where the last decision is THROUGH and no RESERVE follows it
abbrev pub is_through_decision : Option Decided → Bool
is_through_decision (Some (Waiting waiting.Through)) = true
is_through_decision _ = false

abbrev pub through_due : List Event → Bool
through_due h = is_through_decision (open_decision h)

-- how an alternate ends that decided to leave
abbrev pub end_by : Why → EndWhy
end_by why.Shutdown = end.Shutdown
end_by why.Dropped = end.Dropped
end_by why.Normal = end.Normal

abbrev pub end_in : Decided → Option EndWhy
end_in (Alternate (decision.Leave w)) = Some (end_by w)
end_in _ = None

-- why it leaves, if it does: by a decision, or by a failed MSGREAD of an alternate
abbrev pub leaves : List Event → Option EndWhy
leaves [] = None
leaves (DecisionMade known at decision ∷ h) = end_in decision
leaves (ActFailed tried at ∷ h) = if is_owner h then leaves h else Some end.MsgError
leaves (_ ∷ h) = leaves h

-- what a job reserves the control data set for
pub data Purpose : Type 0 where
  SignOnActive : Purpose
  SignOnStandby : Purpose
  SignOff : (state : OwnerState) → Purpose
  DropAlternate : Purpose
  Leave : (reason : EndWhy) → Purpose
  StartTakeover : (cause : Cause) → Purpose
  GoThrough : Purpose

-- what is due of a job at a RESERVE
abbrev pub purpose_of_owner : Option OwnerState → Purpose
purpose_of_owner (Some state) = SignOff state
purpose_of_owner None = DropAlternate

abbrev pub purpose_of_alternate : Option EndWhy → Option Cause → Purpose
purpose_of_alternate (Some w) start = Leave w
purpose_of_alternate None (Some cause) = StartTakeover cause
purpose_of_alternate None None = GoThrough

abbrev pub purpose_now : List Event → Purpose
purpose_now h =
    elim (is_granted h) [
      | false ↦ elim (starts_active h) [ true ↦ SignOnActive | false ↦ SignOnStandby ]
      | true ↦ elim (is_owner h) [ true ↦ purpose_of_owner (sign_off_due h) | false ↦ purpose_of_alternate (leaves h) (start_due h) ]
    ]

-- what the last RESERVE was made for; before the first it is never asked
abbrev pub purpose : List Event → Purpose
purpose [] = SignOnActive
purpose (Reserved ∷ h) = purpose_now h
purpose (_ ∷ h) = purpose h

-- the record of the last CTLREAD, and what of it is confirmed; before the first neither is ever asked
abbrev pub record_read : List Event → ControlRecord
record_read [] = empty
record_read (ControlRead held known ∷ h) = held
record_read (_ ∷ h) = record_read h

abbrev pub known_read : List Event → Known
known_read [] = record { owner = false; alt = false }
known_read (ControlRead held known ∷ h) = known
known_read (_ ∷ h) = known_read h

-- the record that a grant, and a drop, gives
abbrev pub granted : Grant → Option ControlRecord
granted (grant.Granted written) = Some written
granted _ = None

abbrev pub dropped : Dropping → Option ControlRecord
dropped (dropping.Write written) = Some written
dropped _ = None

-- what a job of this incarnation and this epoch writes for a purpose, by what it read
abbrev pub record_by_purpose : Settings → Purpose → (me : ℕ) → (epoch : ℕ) → ControlRecord → Known → Option ControlRecord
record_by_purpose p SignOnActive me epoch held known = granted (grant_active held p.site known p.level)
record_by_purpose p SignOnStandby me epoch held known = granted (grant_standby held p.site known p.level)
record_by_purpose p (SignOff state) me epoch held known = sign_off held me state
record_by_purpose p DropAlternate me epoch held known = dropped (drop_alternate held epoch)
record_by_purpose p (Leave w) me epoch held known = leave held me
record_by_purpose p (StartTakeover cause) me epoch held known = or_else (start_takeover held me cause) (leave held me)
record_by_purpose p GoThrough me epoch held known = let_through held me known p.level

-- how a job ends whose sign-on was not granted
abbrev pub end_of_grant : Grant → Option EndWhy
end_of_grant (grant.Granted written) = None
end_of_grant (grant.Present inc) = Some (end.Refused inc)
end_of_grant grant.NoActive = Some end.NoActive
end_of_grant grant.Format = Some end.Format

-- a start is abandoned where the record that was read under the reserve does not let it be made
abbrev pub abandons : Purpose → (me : ℕ) → ControlRecord → Bool
abandons (StartTakeover cause) me held = is_none (start_takeover held me cause)
abandons _ me held = false

-- how a job ends after the RELEASE, if it does
abbrev pub end_by_purpose : Settings → Purpose → (me : ℕ) → ControlRecord → Known → Option EndWhy
end_by_purpose p SignOnActive me held known = end_of_grant (grant_active held p.site known p.level)
end_by_purpose p SignOnStandby me held known = end_of_grant (grant_standby held p.site known p.level)
end_by_purpose p (SignOff state) me held known = Some end.SignedOff
end_by_purpose p DropAlternate me held known = None
end_by_purpose p (Leave w) me held known = Some w
end_by_purpose p (StartTakeover cause) me held known = if is_none (start_takeover held me cause) then Some end.Abandoned else None
end_by_purpose p GoThrough me held known = None

-- leaving: it leaves, or the CTLREAD of its start abandoned it
abbrev pub has_abandoned : List Event → Bool
has_abandoned [] = false
has_abandoned (DecisionMade known at decision ∷ h) = false
has_abandoned (ControlRead held known ∷ h) = abandons (purpose h) (number h) held || has_abandoned h
has_abandoned (_ ∷ h) = has_abandoned h

abbrev pub is_leaving : List Event → Bool
is_leaving h = is_some (leaves h) || has_abandoned h

-- starting: from DECIDE START to the CTLWRITE that follows
abbrev pub is_start : Decided → Bool
is_start (Alternate (decision.Start cause)) = true
is_start _ = false

abbrev pub is_starting : List Event → Bool
is_starting [] = false
is_starting (DecisionMade known at decision ∷ h) = is_start decision
is_starting (ControlWritten written ∷ h) = false
is_starting (_ ∷ h) = is_starting h
