-- An alternate is not drained, and has no epoch.
use Rattle.std.proofs.Common.{Bool, false, not, refl, true, ◌≡◌, ◌||◌, ◌&&◌, List, [], ◌∷◌, None, ℕ, Option, if◌then◌else◌, subst, sym, Some}
use Rattle.xrf_base.specs.declared.site.Site.{Site}
use Rattle.xrf_cavm.specs.Record.{is_owner as names_owner}
use Rattle.xrf_cavm.specs.declared.decisions.Decided.TheVariants.{Alternate, Owner, Waiting}
use Rattle.xrf_cavm.specs.declared.known.Known.{Known}
use Rattle.xrf_cavm.specs.Decisions.{decide, decide_active, decide_waiting}
use Rattle.xrf_cavm.specs.declared.decisions.Decided.{Decided}
use Rattle.xrf_history.specs.Events.{ActFailed, ControlWritten, Event, MessageRead, DecisionMade, Released, StartedActive, StartedStandby}
use Rattle.xrf_history.specs.Taking.{gives, is_drained}
use Rattle.xrf_history.specs.Holding.{is_owner, number, starts_active, is_waiting}
use Rattle.xrf_history.specs.Notices.{epoch, epoch_in, drop_is_made}
use Rattle.xrf_history.specs.declared.settings.Settings.{Settings}
use Rattle.xrf_history.specs.Deciding.{cause, mode_of}
use Rattle.xrf_history.specs.Looking.{change, record_seen}
use Rattle.xrf_history.proofs.Histories.{Comes, IsHistory, induct}
use Rattle.xrf_history.specs.declared.want.Want.TheVariants as want
use Rattle.xrf_trace.specs.declared.entry.Entry.{Entry}
use Rattle.xrf_trace.proofs.Short.{IsShort}
use Rattle.xrf_trace.specs.Scenario.{Scen, settings}
use Rattle.xrf_trace.specs.Jobs.{hist}
use Rattle.xrf_trace.proofs.Paths.{history-at}
use Rattle.xrf_message_law.proofs.Tests.{neither-left}

-- a MSGREAD of an alternate does not drain it
read-undrained : (d o a g : Bool) → d ≡ false → o ≡ false → (d || (o && not a && not g)) ≡ false
read-undrained false false a g drained owner = refl
read-undrained true o a g drained owner = absurd (cc)
read-undrained false true a g drained owner = absurd (cc)

-- nor does a failed one
failed-undrained : (d o a : Bool) → d ≡ false → o ≡ false → (d || (o && not a)) ≡ false
failed-undrained false false a drained owner = refl
failed-undrained true o a drained owner = absurd (cc)
failed-undrained false true a drained owner = absurd (cc)

-- an alternate is not drained
pub undrained : (h : List Event) → is_owner h ≡ false → is_drained h ≡ false
undrained [] alternate = refl
undrained (ControlWritten written ∷ h) alternate = undrained h (neither-left (is_owner h) (names_owner written (number (ControlWritten written ∷ h))) alternate)
undrained (MessageRead k slot ∷ h) alternate = read-undrained (is_drained h) (is_owner h) (starts_active h) (gives slot h) (undrained h alternate) alternate
undrained (ActFailed (want.MsgRead k) at ∷ h) alternate = failed-undrained (is_drained h) (is_owner h) (starts_active h) (undrained h alternate) alternate
undrained (_ ∷ h) alternate = undrained h alternate

-- nor has it an epoch
abbrev pub NoEpoch : List Event → Type 0
NoEpoch h = is_owner h ≡ false → epoch h ≡ None

-- a decision of an alternate gives it no epoch
pub decided-none : (p : Settings) (h : List Event) (known : Known) (at : ℕ) → is_owner h ≡ false → epoch h ≡ None
    → epoch_in (cause p h known at) (epoch h) ≡ None
decided-none p h known at alternate none = by (is_owner h) alternate
  where
    waiting : (b : Bool)
        → epoch_in (elim b [
          | true ↦ Waiting (decide_waiting (record_seen h) known)
          | false ↦ Alternate (decide (change h) (record_seen h) (number h)
              (mode_of p h) at)
        ]) (epoch h) ≡ None
    waiting true = none
    waiting false = none

    by : (b : Bool) → b ≡ false
        → epoch_in (elim b [
          | true ↦ Owner (decide_active (change h) (record_seen h) (epoch h) p.pdi at)
          | false ↦ elim
              (is_waiting h) [
                | true ↦ Waiting (decide_waiting (record_seen h) known)
                | false ↦ Alternate (decide (change h) (record_seen h) (number h)
                    (mode_of p h) at)
              ]
        ]) (epoch h) ≡ None
    by true is = absurd (cc)
    by false is = waiting (is_waiting h)

-- a RELEASE gives none
pub released-none : (b : Bool) (o : Option ℕ) → o ≡ None → (if b then None else o) ≡ None
released-none true o none = refl
released-none false o none = none

-- an event that comes
pub no_epoch-step : (p : Settings) (h : List Event) (e : Event) → Comes p h e → NoEpoch h → NoEpoch (e ∷ h)
no_epoch-step p h StartedActive comes before alternate = absurd comes
no_epoch-step p h StartedStandby comes before alternate = absurd comes
no_epoch-step p h (ControlWritten written) comes before alternate =
    before (neither-left (is_owner h) (names_owner written (number (ControlWritten written ∷ h))) alternate)
no_epoch-step p h Released comes before alternate = released-none (drop_is_made h) (epoch h) (before alternate)
no_epoch-step p h (DecisionMade known at d) comes before alternate =
    subst (λ (one : Decided). epoch_in one (epoch h) ≡ None) (sym comes.1) (decided-none p h known at alternate (before alternate))
no_epoch-step p h _ comes before alternate = before alternate

-- an alternate has no epoch
pub no_epoch : (p : Settings) (h : List Event) → IsHistory p h → NoEpoch h
no_epoch p h is = induct (λ p h. NoEpoch h) (λ p alternate. refl) (λ p alternate. refl) (λ p h e is comes. no_epoch-step p h e comes) p h is

-- in every run
pub epoch-none : (s : Scen) (t : List Entry) → IsShort s t → (x : Site) (h : List Event) → hist s t x ≡ Some h → is_owner h ≡ false → epoch h ≡ None
epoch-none s t is x h there = no_epoch (settings s x) h (history-at s t x h is.run there)
