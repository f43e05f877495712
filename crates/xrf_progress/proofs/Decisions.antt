-- What an alternate decides that is served beside an owner that is over.
use Rattle.std.proofs.Common.{◌≡◌, ℕ, ◌+◌, ◌≤◌, ◌<◌, Bool, true, false, ◌⊎◌, ◌&&◌, ◌||◌, inl, inr, List, ◌∷◌, is_some, refl, ap, ◌∙◌, arith}
use Rattle.std.proofs.lemmas.Grind.{common_steps}
use Rattle.xrf_base.specs.declared.site.Takeovr.{Takeovr}
use Rattle.xrf_base.specs.declared.site.Takeovr.TheVariants.{Auto, Manual, Command}
use Rattle.xrf_ctl.specs.declared.parts.OwnerState.TheVariants.{Running, OffNormal, OffAbend, OffTakeover}
use Rattle.xrf_ctl.specs.declared.parts.Cause.{Cause}
use Rattle.xrf_ctl.specs.declared.parts.Cause.TheVariants as start
use Rattle.xrf_ctl.specs.Control.{ControlRecord}
use Rattle.xrf_cavm.specs.declared.known.Known.{Known}
use Rattle.xrf_cavm.specs.declared.decisions.Mode.{Mode}
use Rattle.xrf_cavm.specs.declared.decisions.Decision.{Decision}
use Rattle.xrf_cavm.specs.declared.decisions.Decision.TheVariants as decision
use Rattle.xrf_cavm.specs.declared.decisions.Waiting.TheVariants as waiting
use Rattle.xrf_cavm.specs.declared.decisions.Decided.TheVariants.{Alternate, Waiting}
use Rattle.xrf_cavm.specs.Record.{is_alt, owner_is, owner_may_run}
use Rattle.xrf_cavm.specs.Decisions.{decide, is_auto, is_manual, starts_itself}
use Rattle.xrf_cavm.specs.Watch.{is_lost}
use Rattle.xrf_history.specs.declared.settings.Settings.{Settings}
use Rattle.xrf_history.specs.Events.{Event, DecisionMade}
use Rattle.xrf_history.specs.Holding.{number, is_owner, is_granted, has_started_takeover}
use Rattle.xrf_history.specs.Deciding.{cause, mode_of, is_ask, is_asked}
use Rattle.xrf_history.specs.Looking.{change, record_seen}
use Rattle.xrf_progress.proofs.Course.{Way, ByItself, Commanded, Given, Asking, Ground, leads_way, IsSet, IsSoon}

-- who asks
abbrev pub is_asking : Way → Bool
is_asking Asking = true
is_asking _ = false

-- who waits until the owner is lost
abbrev pub is_patient : Way → Bool
is_patient ByItself = true
is_patient Asking = true
is_patient _ = false

-- a START by its cause; or nothing, and that only of a patient one, while the owner may not be missed yet; or where it asks, the operator is asked
abbrev pub Starts : Way → (asked : Bool) → Decision → (now late adi : ℕ) → Type 0
Starts way asked d now late adi =
    ((why : Cause) × (d ≡ decision.Start why))
    ⊎ (((d ≡ decision.Nothing) × (is_patient way ≡ true) × (now < late + adi)) ⊎ ((is_asking way ≡ true) × (asked ≡ true)))

-- what may not be missed yet changed less than ADI ticks ago
not-lost : (changed late adi now : ℕ) → changed ≤ late → is_lost changed adi now ≡ false → now < late + adi
not-lost changed late adi now by_then is = grind (arith, common_steps)

-- what has not changed for ADI ticks is lost
is-lost : (changed late adi now : ℕ) → changed ≤ late → late + adi ≤ now → is_lost changed adi now ≡ true
is-lost changed late adi now by_then is = grind (arith, common_steps)

-- an owner of a record is in one of four states
state-runs : (r : ControlRecord) → is_some r.owner ≡ true → owner_is r OffNormal ≡ false → owner_is r OffAbend ≡ false → owner_is r OffTakeover ≡ false
    → owner_is r Running ≡ true
state-runs r owned not_normal no_abend no_takeover = grind (arith, common_steps)

-- commanded, it starts
decides-command : (changed me now : ℕ) (r : ControlRecord) (mode : Mode) → mode.shutdown ≡ false → is_alt r me ≡ true → owner_is r OffNormal ≡ false
    → mode.commanded ≡ true → decide changed r me mode now ≡ decision.Start start.Command
decides-command changed me now r mode stays named not_normal commanded = grind (arith, common_steps)

-- beside an owner that signed off abnormally it starts, unless it waits for a command
decides-abend : (changed me now : ℕ) (r : ControlRecord) (mode : Mode) → mode.shutdown ≡ false → is_alt r me ≡ true → owner_is r OffNormal ≡ false
    → mode.commanded ≡ false → starts_itself mode.takeovr ≡ true → owner_is r OffAbend ≡ true → decide changed r me mode now ≡ decision.Start start.Abend
decides-abend changed me now r mode stays named not_normal no_command itself off = grind (arith, common_steps)

-- and beside one that signed off for a takeover
decides-takeover : (changed me now : ℕ) (r : ControlRecord) (mode : Mode) → mode.shutdown ≡ false → is_alt r me ≡ true → owner_is r OffNormal ≡ false
    → mode.commanded ≡ false → starts_itself mode.takeovr ≡ true → owner_is r OffAbend ≡ false → owner_is r OffTakeover ≡ true
    → decide changed r me mode now ≡ decision.Start start.Shutdown
decides-takeover changed me now r mode stays named not_normal no_command itself no_abend off = grind (arith, common_steps)

-- under AUTO it starts where the owner is lost
decides-lost : (changed me now : ℕ) (r : ControlRecord) (mode : Mode) → mode.shutdown ≡ false → is_alt r me ≡ true → owner_is r OffNormal ≡ false
    → mode.commanded ≡ false → mode.takeovr ≡ Auto → mode.surveillance ≡ true → owner_is r OffAbend ≡ false → owner_is r OffTakeover ≡ false
    → owner_is r Running ≡ true → is_lost changed mode.adi now ≡ true → decide changed r me mode now ≡ decision.Start start.Lost
decides-lost changed me now r mode stays named not_normal no_command auto watches no_abend no_takeover runs lost = grind (arith, common_steps)

-- under MANUAL it does so with GO
decides-go : (changed me now : ℕ) (r : ControlRecord) (mode : Mode) → mode.shutdown ≡ false → is_alt r me ≡ true → owner_is r OffNormal ≡ false
    → mode.commanded ≡ false → mode.takeovr ≡ Manual → mode.surveillance ≡ true → owner_is r OffAbend ≡ false → owner_is r OffTakeover ≡ false
    → owner_is r Running ≡ true → is_lost changed mode.adi now ≡ true → mode.go ≡ true → decide changed r me mode now ≡ decision.Start start.Lost
decides-go changed me now r mode stays named not_normal no_command manual watches no_abend no_takeover runs lost go = grind (arith, common_steps)

-- and without it asks, once
decides-ask : (changed me now : ℕ) (r : ControlRecord) (mode : Mode) → mode.shutdown ≡ false → is_alt r me ≡ true → owner_is r OffNormal ≡ false
    → mode.commanded ≡ false → mode.takeovr ≡ Manual → mode.surveillance ≡ true → owner_is r OffAbend ≡ false → owner_is r OffTakeover ≡ false
    → owner_is r Running ≡ true → is_lost changed mode.adi now ≡ true → mode.go ≡ false → mode.asked ≡ false → decide changed r me mode now ≡ decision.Ask
decides-ask changed me now r mode stays named not_normal no_command manual watches no_abend no_takeover runs lost go asked = grind (arith, common_steps)

-- while the owner may not be missed yet nothing is done
decides-nothing : (changed me now : ℕ) (r : ControlRecord) (mode : Mode) → mode.shutdown ≡ false → is_alt r me ≡ true → owner_is r OffNormal ≡ false
    → mode.commanded ≡ false → owner_is r OffAbend ≡ false → owner_is r OffTakeover ≡ false → is_lost changed mode.adi now ≡ false
    → decide changed r me mode now ≡ decision.Nothing
decides-nothing changed me now r mode stays named not_normal no_command no_abend no_takeover lost = grind (arith, common_steps)

-- what is not commanded is under AUTO, and watched
auto-watches : (commanded : Bool) (takeovr : Takeovr) (watches : Bool) → commanded ≡ false → (commanded || (is_auto takeovr && watches)) ≡ true
    → (takeovr ≡ Auto) × (watches ≡ true)
auto-watches false Auto true c will = (refl, refl)
auto-watches false Auto false c will = absurd (cc)
auto-watches false Manual watches c will = absurd (cc)
auto-watches false Command watches c will = absurd (cc)
auto-watches true takeovr watches c will = absurd (cc)

-- what is under MANUAL and watched
manual-watches : (takeovr : Takeovr) (watches : Bool) → (is_manual takeovr && watches) ≡ true → (takeovr ≡ Manual) × (watches ≡ true)
manual-watches Manual true will = (refl, refl)
manual-watches Manual false will = absurd (cc)
manual-watches Auto watches will = absurd (cc)
manual-watches Command watches will = absurd (cc)

-- and has GO
manual-goes : (takeovr : Takeovr) (watches go : Bool) → (is_manual takeovr && watches && go) ≡ true → ((is_manual takeovr && watches) ≡ true) × (go ≡ true)
manual-goes Manual true true will = (refl, refl)
manual-goes Manual true false will = absurd (cc)
manual-goes Manual false go will = absurd (cc)
manual-goes Auto watches go will = absurd (cc)
manual-goes Command watches go will = absurd (cc)

-- what is asked after the decision
abbrev asked_after : Mode → Decision → (lost : Bool) → Bool
asked_after mode d lost = is_ask (Alternate d) || (mode.asked && lost)

-- who was asked, and still misses the owner, is asked
or-last : (a b c : Bool) → b ≡ true → c ≡ true → (a || (b && c)) ≡ true
or-last true b c first second = refl
or-last false true true first second = refl
or-last false false c first second = absurd (cc)
or-last false true false first second = absurd (cc)

-- by itself it starts, or does nothing while the owner may not be missed yet
decides-itself : (changed me now late : ℕ) (r : ControlRecord) (mode : Mode) → mode.shutdown ≡ false
    → (mode.commanded || (is_auto mode.takeovr && mode.surveillance)) ≡ true
    → is_alt r me ≡ true → is_some r.owner ≡ true → owner_is r OffNormal ≡ false → changed ≤ late
    → Starts ByItself (asked_after mode (decide changed r me mode now) (is_lost changed mode.adi now)) (decide changed r me mode now) now late mode.adi
decides-itself changed me now late r mode stays will named owned not_normal by_then =
    by mode.commanded (owner_is r OffAbend) (owner_is r OffTakeover) (is_lost changed mode.adi now) refl refl refl refl
  where
    wills : mode.commanded ≡ false → (mode.takeovr ≡ Auto) × (mode.surveillance ≡ true)
    wills c = auto-watches mode.commanded mode.takeovr mode.surveillance c will

    by : (commanded abend takeover lost : Bool) → mode.commanded ≡ commanded → owner_is r OffAbend ≡ abend → owner_is r OffTakeover ≡ takeover
        → is_lost changed mode.adi now ≡ lost
        → Starts ByItself (asked_after mode (decide changed r me mode now) (is_lost changed mode.adi now)) (decide changed r me mode now) now late mode.adi
    by true abend takeover lost c a t l = inl (start.Command, decides-command changed me now r mode stays named not_normal c)
    by false true takeover lost c a t l = inl (start.Abend, decides-abend changed me now r mode stays named not_normal c (ap starts_itself (wills c).0) a)
    by false false true lost c a t l = inl (start.Shutdown, decides-takeover changed me now r mode stays named not_normal c (ap starts_itself (wills c).0) a t)
    by false false false true c a t l =
        inl (start.Lost, decides-lost changed me now r mode stays named not_normal c (wills c).0 (wills c).1 a t (state-runs r owned not_normal a t) l)
    by false false false false c a t l =
        inr (inl (decides-nothing changed me now r mode stays named not_normal c a t l, refl, not-lost changed late mode.adi now by_then l))

-- under MANUAL it starts too, or the operator is asked
decides-manual : (changed me now late : ℕ) (r : ControlRecord) (mode : Mode) → mode.shutdown ≡ false → (is_manual mode.takeovr && mode.surveillance) ≡ true
    → is_alt r me ≡ true → is_some r.owner ≡ true → owner_is r OffNormal ≡ false → changed ≤ late
    → Starts Asking (asked_after mode (decide changed r me mode now) (is_lost changed mode.adi now)) (decide changed r me mode now) now late mode.adi
decides-manual changed me now late r mode stays will named owned not_normal by_then =
    by mode.commanded (owner_is r OffAbend) (owner_is r OffTakeover) (is_lost changed mode.adi now) mode.go mode.asked refl refl refl refl refl refl
  where
    manual : mode.takeovr ≡ Manual
    manual = (manual-watches mode.takeovr mode.surveillance will).0

    watches : mode.surveillance ≡ true
    watches = (manual-watches mode.takeovr mode.surveillance will).1

    by : (commanded abend takeover lost go asked : Bool) → mode.commanded ≡ commanded → owner_is r OffAbend ≡ abend → owner_is r OffTakeover ≡ takeover
        → is_lost changed mode.adi now ≡ lost → mode.go ≡ go → mode.asked ≡ asked
        → Starts Asking (asked_after mode (decide changed r me mode now) (is_lost changed mode.adi now)) (decide changed r me mode now) now late mode.adi
    by true abend takeover lost go asked c a t l g k = inl (start.Command, decides-command changed me now r mode stays named not_normal c)
    by false true takeover lost go asked c a t l g k = inl (start.Abend, decides-abend changed me now r mode stays named not_normal c (ap starts_itself manual) a)
    by false false true lost go asked c a t l g k =
        inl (start.Shutdown, decides-takeover changed me now r mode stays named not_normal c (ap starts_itself manual) a t)
    by false false false false go asked c a t l g k =
        inr (inl (decides-nothing changed me now r mode stays named not_normal c a t l, refl, not-lost changed late mode.adi now by_then l))
    by false false false true true asked c a t l g k =
        inl (start.Lost, decides-go changed me now r mode stays named not_normal c manual watches a t (state-runs r owned not_normal a t) l g)
    by false false false true false false c a t l g k =
        inr (inr (
          refl,
          ap (λ (d : Decision). is_ask (Alternate d) || (mode.asked && is_lost changed mode.adi now))
              (decides-ask changed me now r mode stays named not_normal c manual watches a t (state-runs r owned not_normal a t) l g k),
        ))
    by false false false true false true c a t l g k =
        inr (inr (refl, or-last (is_ask (Alternate (decide changed r me mode now))) mode.asked (is_lost changed mode.adi now) k l))

-- with GO it starts, where the owner is lost already
decides-given : (changed me now late : ℕ) (r : ControlRecord) (mode : Mode) → mode.shutdown ≡ false
    → (is_manual mode.takeovr && mode.surveillance && mode.go) ≡ true → late + mode.adi ≤ now
    → is_alt r me ≡ true → is_some r.owner ≡ true → owner_is r OffNormal ≡ false → changed ≤ late
    → (why : Cause) × (decide changed r me mode now ≡ decision.Start why)
decides-given changed me now late r mode stays will gone named owned not_normal by_then =
    by mode.commanded (owner_is r OffAbend) (owner_is r OffTakeover) refl refl refl
  where
    goes : ((is_manual mode.takeovr && mode.surveillance) ≡ true) × (mode.go ≡ true)
    goes = manual-goes mode.takeovr mode.surveillance mode.go will

    manual : mode.takeovr ≡ Manual
    manual = (manual-watches mode.takeovr mode.surveillance goes.0).0

    watches : mode.surveillance ≡ true
    watches = (manual-watches mode.takeovr mode.surveillance goes.0).1

    by : (commanded abend takeover : Bool) → mode.commanded ≡ commanded → owner_is r OffAbend ≡ abend → owner_is r OffTakeover ≡ takeover
        → (why : Cause) × (decide changed r me mode now ≡ decision.Start why)
    by true abend takeover c a t = (start.Command, decides-command changed me now r mode stays named not_normal c)
    by false true takeover c a t = (start.Abend, decides-abend changed me now r mode stays named not_normal c (ap starts_itself manual) a)
    by false false true c a t = (start.Shutdown, decides-takeover changed me now r mode stays named not_normal c (ap starts_itself manual) a t)
    by false false false c a t = (
      start.Lost,
      decides-go changed me now r mode stays named not_normal c manual watches a t (state-runs r owned not_normal a t)
          (is-lost changed late mode.adi now by_then gone) goes.1,
    )

-- so it decides by each way
decides-so : (way : Way) (changed me now : ℕ) (g : Ground) (r : ControlRecord) (mode : Mode) → mode.shutdown ≡ false → leads_way way mode ≡ true
    → IsSoon mode.adi g way → g.from ≤ now → is_alt r me ≡ true → is_some r.owner ≡ true → owner_is r OffNormal ≡ false → changed ≤ g.late
    → Starts way (asked_after mode (decide changed r me mode now) (is_lost changed mode.adi now)) (decide changed r me mode now) now g.late mode.adi
decides-so ByItself changed me now g r mode stays will soon from named owned not_normal by_then =
    decides-itself changed me now g.late r mode stays will named owned not_normal by_then
decides-so Commanded changed me now g r mode stays will soon from named owned not_normal by_then =
    inl (start.Command, decides-command changed me now r mode stays named not_normal will)
decides-so Given changed me now g r mode stays will soon from named owned not_normal by_then =
    inl (decides-given changed me now g.late r mode stays will (omega (arith, soon, from)) named owned not_normal by_then)
decides-so Asking changed me now g r mode stays will soon from named owned not_normal by_then =
    decides-manual changed me now g.late r mode stays will named owned not_normal by_then

-- the decision of an alternate that tracks is by its mode
pub cause-tracks : (p : Settings) (h : List Event) (known : Known) (now : ℕ) → is_owner h ≡ false → has_started_takeover h ≡ false
    → cause p h known now ≡ Alternate (decide (change h) (record_seen h) (number h) (mode_of p h) now)
cause-tracks p h known now no_owner not_started = grind (arith, common_steps)

-- **what is lost is noticed**: what a served alternate decides that tracks
pub tracking-starts : (p : Settings) (g : Ground) (h : List Event) (known : Known) (now : ℕ) → is_owner h ≡ false → has_started_takeover h ≡ false
    → number h ≡ g.me → IsSet p g (mode_of p h) → change h ≤ g.late → g.from ≤ now
    → is_alt (record_seen h) g.me ≡ true → is_some (record_seen h).owner ≡ true → owner_is (record_seen h) OffNormal ≡ false
    → (d : Decision) × (cause p h known now ≡ Alternate d) × Starts g.way (is_asked p (DecisionMade known now (Alternate d) ∷ h)) d now g.late p.adi
tracking-starts p g h known now no_owner not_started mine set by_then from named owned not_normal = (
  decide (change h) (record_seen h) (number h) (mode_of p h) now,
  cause-tracks p h known now no_owner not_started,
  decides-so g.way (change h) (number h) now g (record_seen h) (mode_of p h) set.stays set.will set.soon from
      (ap (is_alt (record_seen h)) mine ∙ named) owned not_normal by_then,
)

-- **what is over is let through**: an alternate that waits decides THROUGH by a record whose owner may not run
pub waiting-goes : (p : Settings) (h : List Event) (known : Known) (now : ℕ) → is_owner h ≡ false → is_granted h ≡ true → has_started_takeover h ≡ true
    → owner_may_run (record_seen h) known ≡ false → cause p h known now ≡ Waiting waiting.Through
waiting-goes p h known now no_owner granted started over = grind (arith, common_steps)

-- and by one whose owner may run it waits on
pub waiting-waits : (p : Settings) (h : List Event) (known : Known) (now : ℕ) → is_owner h ≡ false → is_granted h ≡ true → has_started_takeover h ≡ true
    → owner_may_run (record_seen h) known ≡ true → cause p h known now ≡ Waiting waiting.Wait
waiting-waits p h known now no_owner granted started runs = grind (arith, common_steps)
