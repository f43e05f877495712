-- The cause by which a tracking alternate starts its takeover, and what else it decides, in words of news: said
-- apart from how a job finds it (`cause` of Deciding).
use Rattle.std.specs.Prelude.{ℕ, ◌&&◌, ◌||◌, not, if◌then◌else◌, Bool, true, false, List, [], ◌∷◌, Option, Some, None}
use Rattle.xrf_base.specs.declared.site.Takeovr.{Takeovr}
use Rattle.xrf_base.specs.declared.site.Takeovr.TheVariants.{Auto, Manual, Command}
use Rattle.xrf_ctl.specs.declared.parts.OwnerState.TheVariants.{Running, OffNormal, OffAbend, OffTakeover}
use Rattle.xrf_ctl.specs.declared.parts.Cause.{Cause}
use Rattle.xrf_ctl.specs.declared.parts.Cause.TheVariants as start
use Rattle.xrf_ctl.specs.Control.{ControlRecord}
use Rattle.xrf_cavm.specs.declared.decisions.Why.TheVariants as why
use Rattle.xrf_cavm.specs.declared.decisions.Decision.{Decision}
use Rattle.xrf_cavm.specs.declared.decisions.Decision.TheVariants as decision
use Rattle.xrf_cavm.specs.Record.{is_alt, owner_is}
use Rattle.xrf_history.specs.declared.settings.Settings.{Settings}
use Rattle.xrf_history.specs.Events.{Event, Replied, DecisionMade}
use Rattle.xrf_history.specs.Holding.{number}
use Rattle.xrf_history.specs.Deciding.{takeovr, surveillance, takeover_commanded, shutdown_commanded, is_ask}
use Rattle.xrf_history.specs.News.{has_news}

-- GO is given: a REPLY GO, and no DECIDE after it with news within ADI ticks
abbrev pub go_given : (adi : ℕ) → List Event → Bool
go_given adi [] = false
go_given adi (DecisionMade known at decided ∷ h) = go_given adi h && not (has_news adi at h)
go_given adi (Replied go at ∷ h) = go_given adi h || go
go_given adi (_ ∷ h) = go_given adi h

-- the operator is asked: a DECIDE ASK, and after it no REPLY IGNORE and no other DECIDE with news within ADI ticks
abbrev pub ask_made : (adi : ℕ) → List Event → Bool
ask_made adi [] = false
ask_made adi (DecisionMade known at decided ∷ h) = is_ask decided || (ask_made adi h && not (has_news adi at h))
ask_made adi (Replied go at ∷ h) = ask_made adi h && go
ask_made adi (_ ∷ h) = ask_made adi h

-- a Running owner of which there is no news within ADI ticks, while it is watched
abbrev pub is_missed : Settings → List Event → (now : ℕ) → ControlRecord → Bool
is_missed p h now r = owner_is r Running && surveillance h && not (has_news p.adi now h)

-- The cause of a start at a DECIDE, by the record looked at: it names the job as alternate, no shutdown was commanded,
-- and its owner did not sign off normally. Then a command; or outside COMMAND mode a sign-off that was abnormal or
-- for a takeover, or an owner that is missed, under AUTO or with GO.
abbrev pub unless_command : Takeovr → Option Cause → Option Cause
unless_command Command found = None
unless_command Auto found = found
unless_command Manual found = found

abbrev pub may_go : Takeovr → (go : Bool) → Bool
may_go Auto go = true
may_go Manual go = go
may_go Command go = false

abbrev pub cause_of_owner : Settings → List Event → (now : ℕ) → ControlRecord → Option Cause
cause_of_owner p h now r =
    if owner_is r OffAbend then unless_command (takeovr p h) (Some start.Abend) else
    (if owner_is r OffTakeover then unless_command (takeovr p h) (Some start.Shutdown) else
    (if is_missed p h now r && may_go (takeovr p h) (go_given p.adi h) then Some start.Lost else None))

abbrev pub start_cause : Settings → List Event → (now : ℕ) → ControlRecord → Option Cause
start_cause p h now r =
    if shutdown_commanded h || not (is_alt r (number h)) || owner_is r OffNormal then None else
    (if takeover_commanded h then Some start.Command else cause_of_owner p h now r)

-- The decision. It leaves after a shutdown, where the record names another alternate or none, and beside an owner
-- that signed off normally. It starts by the cause of a start. Under MANUAL it asks, once, where the owner is missed.
-- Else it does nothing.
abbrev pub asks : Takeovr → Bool
asks Manual = true
asks _ = false

abbrev pub ask_if : Bool → Decision
ask_if true = decision.Ask
ask_if false = decision.Nothing

abbrev pub start_or : Option Cause → Decision → Decision
start_or (Some cause) other = decision.Start cause
start_or None other = other

abbrev pub tracking_decision : Settings → List Event → (now : ℕ) → ControlRecord → Decision
tracking_decision p h now r =
    if shutdown_commanded h then decision.Leave why.Shutdown
    else (if not (is_alt r (number h)) then decision.Leave why.Dropped
    else (if owner_is r OffNormal then decision.Leave why.Normal
    else start_or (start_cause p h now r) (ask_if (is_missed p h now r && asks (takeovr p h) && not (ask_made p.adi h)))))
