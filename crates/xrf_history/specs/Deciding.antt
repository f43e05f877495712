-- The cause of a decision: the first row of its table that applies, in an alternate that is not waiting, in
-- one that is waiting, or in an owner.
use Rattle.std.specs.Prelude.{ℕ, Bool, true, false, ◌&&◌, ◌||◌, not, List, [], ◌∷◌}
use Rattle.xrf_base.specs.declared.site.Takeovr.{Takeovr}
use Rattle.xrf_cavm.specs.declared.known.Known.{Known}
use Rattle.xrf_cavm.specs.declared.decisions.Mode.{Mode}
use Rattle.xrf_cavm.specs.declared.decisions.Decision.TheVariants as decision
use Rattle.xrf_cavm.specs.declared.decisions.Decided.{Decided}
use Rattle.xrf_cavm.specs.declared.decisions.Decided.TheVariants.{Alternate, Waiting, Owner}
use Rattle.xrf_cavm.specs.Decisions.{decide, decide_waiting, decide_active}
use Rattle.xrf_cebt.specs.declared.commands.Cebt.{Cebt}
use Rattle.xrf_cebt.specs.declared.commands.Cebt.TheVariants.{PerformTakeover, PerformShutdown, SetTakeover, SetSurveillance}
use Rattle.xrf_history.specs.declared.settings.Settings.{Settings}
use Rattle.xrf_history.specs.Events.{Event, Replied, Commanded, DecisionMade}
use Rattle.xrf_history.specs.Holding.{number, is_owner, is_waiting}
use Rattle.xrf_history.specs.Notices.{epoch}
use Rattle.xrf_history.specs.Looking.{record_seen, change, lost_at}

-- a shutdown, and a takeover, was commanded by a CEBT PERFORM that was made while not waiting
abbrev pub is_shutdown : Cebt → Bool
is_shutdown PerformShutdown = true
is_shutdown _ = false

abbrev pub is_takeover : Cebt → Bool
is_takeover PerformTakeover = true
is_takeover _ = false

abbrev pub shutdown_commanded : List Event → Bool
shutdown_commanded [] = false
shutdown_commanded (Commanded command at ∷ h) = shutdown_commanded h || (is_shutdown command && not (is_waiting h))
shutdown_commanded (_ ∷ h) = shutdown_commanded h

abbrev pub takeover_commanded : List Event → Bool
takeover_commanded [] = false
takeover_commanded (Commanded command at ∷ h) = takeover_commanded h || (is_takeover command && not (is_waiting h))
takeover_commanded (_ ∷ h) = takeover_commanded h

-- TAKEOVR is that of the last CEBT SET TAKEOVER, else the scenario's
abbrev pub takeovr_by : Cebt → Takeovr → Takeovr
takeovr_by (SetTakeover mode) before = mode
takeovr_by _ before = before

abbrev pub takeovr : Settings → List Event → Takeovr
takeovr p [] = p.takeovr
takeovr p (Commanded command at ∷ h) = takeovr_by command (takeovr p h)
takeovr p (_ ∷ h) = takeovr p h

-- surveillance is that of the last CEBT SET SURVEILLANCE, else ON
abbrev pub surveillance_by : Cebt → Bool → Bool
surveillance_by (SetSurveillance on) before = on
surveillance_by _ before = before

abbrev pub surveillance : List Event → Bool
surveillance [] = true
surveillance (Commanded command at ∷ h) = surveillance_by command (surveillance h)
surveillance (_ ∷ h) = surveillance h

abbrev pub is_ask : Decided → Bool
is_ask (Alternate decision.Ask) = true
is_ask _ = false

-- asked: of DECIDE ASK, REPLY IGNORE and DECIDE without `lost`, there is a last one and it is a DECIDE ASK
abbrev pub is_asked : Settings → List Event → Bool
is_asked p [] = false
is_asked p (DecisionMade known at decision ∷ h) = is_ask decision || (is_asked p h && lost_at p h at)
is_asked p (Replied go at ∷ h) = is_asked p h && go
is_asked p (_ ∷ h) = is_asked p h

-- GO is given: of REPLY GO and DECIDE without `lost`, there is a last one and it is a REPLY GO
abbrev pub has_go : Settings → List Event → Bool
has_go p [] = false
has_go p (DecisionMade known at decision ∷ h) = has_go p h && lost_at p h at
has_go p (Replied go at ∷ h) = has_go p h || go
has_go p (_ ∷ h) = has_go p h

-- what a tracking alternate goes by
abbrev pub mode_of : Settings → List Event → Mode
mode_of p h = record {
  takeovr = takeovr p h;
  adi = p.adi;
  surveillance = surveillance h;
  commanded = takeover_commanded h;
  shutdown = shutdown_commanded h;
  asked = is_asked p h;
  go = has_go p h;
}

-- the decision at a DECIDE that is handed what is confirmed and its tick
abbrev pub cause : Settings → List Event → Known → ℕ → Decided
cause p h known at =
    elim (is_owner h) [
      | true ↦ Owner (decide_active (change h) (record_seen h) (epoch h) p.pdi at)
      | false ↦ elim (is_waiting h) [
        | true ↦ Waiting (decide_waiting (record_seen h) known)
        | false ↦ Alternate (decide (change h) (record_seen h) (number h) (mode_of p h) at)
      ]
    ]
