-- Where a job stands towards the control data set, and the next act by it.
use Rattle.std.proofs.Common.{Bool, false, true, List, Some, ◌≡◌, None, Option, [], ◌∷◌}
use Rattle.xrf_ctl.specs.Control.{ControlRecord}
use Rattle.xrf_history.specs.declared.want.Want.{Want}
use Rattle.xrf_history.specs.Events.{ControlRead, ControlWritten, Event, Released, Reserved, StartedActive, StartedStandby, Abended, Commanded, Exited, Replied, Ticked}
use Rattle.xrf_history.specs.declared.settings.Settings.{Settings}
use Rattle.xrf_history.specs.Next.{after_release, after_control_read, inside, record_for}
use Rattle.xrf_history.specs.declared.want.Want.TheVariants as want

-- From START to the first RESERVE; outside the reserve; from RESERVE, from CTLREAD and from CTLWRITE on; and
-- after a RELEASE that ENDED follows.
pub data Phase : Type 0 where
  Fresh : Phase
  Outside : Phase
  Held : Phase
  HasRead : Phase
  HasWritten : Phase
  Over : Phase

-- the phase after a RELEASE: over where ENDED follows
abbrev pub released : Option Want → Phase
released None = Outside
released (Some w) = Over

-- where a job stands towards the control data set
abbrev pub phase : Settings → List Event → Phase
phase p [] = Outside
phase p (StartedActive ∷ h) = Fresh
phase p (StartedStandby ∷ h) = Fresh
phase p (Reserved ∷ h) = Held
phase p (ControlRead held known ∷ h) = HasRead
phase p (ControlWritten written ∷ h) = HasWritten
phase p (Released ∷ h) = released (after_release p h)
phase p (_ ∷ h) = phase p h

-- no act under the reserve; and one that can stand inside a sequence there
abbrev pub is_outside : Want → Bool
is_outside want.CtlRead = false
is_outside (want.CtlWrite written) = false
is_outside want.Release = false
is_outside _ = true

-- an act that can stand inside a sequence outside the reserve
abbrev pub is_inner : Want → Bool
is_inner want.Reserve = false
is_inner (want.Signal1 signal) = false
is_inner (want.MsgRead place) = false
is_inner want.Item = false
is_inner want.Restarted = false
is_inner w = is_outside w

-- such an act, or none
abbrev pub is_inner_of : Option Want → Bool
is_inner_of None = true
is_inner_of (Some w) = is_inner w

-- ENDED
abbrev pub is_end : Want → Bool
is_end (want.Ended reason) = true
is_end _ = false

-- ENDED is there
abbrev pub is_end_of : Option Want → Bool
is_end_of None = false
is_end_of (Some w) = is_end w

-- the next act by the phase
abbrev pub NextIn : Settings → List Event → Phase → Type 0
NextIn p h Fresh = inside p h ≡ Some want.Reserve
NextIn p h Outside = is_inner_of (inside p h) ≡ true
NextIn p h Held = inside p h ≡ Some want.CtlRead
NextIn p h HasRead = inside p h ≡ Some (after_control_read p h)
NextIn p h HasWritten = inside p h ≡ Some want.Release
NextIn p h Over = is_end_of (inside p h) ≡ true

-- the phases in which it holds the reserve
abbrev pub has_reserve : Phase → Bool
has_reserve Held = true
has_reserve HasRead = true
has_reserve HasWritten = true
has_reserve _ = false

-- the phases from RESERVE to CTLWRITE
abbrev pub before_write : Phase → Bool
before_write Held = true
before_write HasRead = true
before_write _ = false

-- the acts but those on the control data set and ENDED
abbrev pub is_work : Want → Bool
is_work want.Reserve = false
is_work want.CtlRead = false
is_work (want.CtlWrite written) = false
is_work want.Release = false
is_work (want.Ended reason) = false
is_work _ = true

-- the events of work: not those of the control data set, and none that passes inside a sequence
abbrev pub is_worked : Event → Bool
is_worked Ticked = false
is_worked Abended = false
is_worked (Replied go at) = false
is_worked (Commanded command at) = false
is_worked (Exited answer at) = false
is_worked StartedActive = false
is_worked StartedStandby = false
is_worked Reserved = false
is_worked (ControlRead held known) = false
is_worked (ControlWritten written) = false
is_worked Released = false
is_worked _ = true

-- a tick, and a choice that reaches the job
abbrev pub passes : Event → Bool
passes Ticked = true
passes Abended = true
passes (Replied go at) = true
passes (Commanded command at) = true
passes (Exited answer at) = true
passes _ = false

-- a CTLWRITE comes next: it has read, and the record is the one of its purpose
abbrev pub IsWrite : Settings → List Event → ControlRecord → Phase → Type 0
IsWrite p h w f = (f ≡ HasRead) × (record_for p h ≡ Some w)

-- the phases in which RELEASE may come next
abbrev pub may_release : Phase → Bool
may_release HasRead = true
may_release HasWritten = true
may_release _ = false

-- the phases in which RESERVE may come next
abbrev pub may_reserve : Phase → Bool
may_reserve Fresh = true
may_reserve Outside = true
may_reserve _ = false
