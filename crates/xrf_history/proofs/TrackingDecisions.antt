-- What a tracking alternate decides, in words of news.
use Rattle.std.proofs.Common.{◌≡◌, ℕ, Bool, true, false, ◌&&◌, ◌||◌, not, if◌then◌else◌, List, ◌∷◌, Option, Some, None, refl, ◌∙◌, ap, arith}
use Rattle.std.proofs.lemmas.Grind.{common_steps}
use Rattle.xrf_ctl.specs.declared.parts.OwnerState.TheVariants.{Running, OffNormal, OffAbend, OffTakeover}
use Rattle.xrf_ctl.specs.declared.parts.Cause.{Cause}
use Rattle.xrf_ctl.specs.declared.parts.Cause.TheVariants as start
use Rattle.xrf_ctl.specs.Control.{ControlRecord}
use Rattle.xrf_cavm.specs.declared.known.Known.{Known}
use Rattle.xrf_cavm.specs.declared.decisions.Decision.{Decision}
use Rattle.xrf_cavm.specs.declared.decisions.Decision.TheVariants as decision
use Rattle.xrf_cavm.specs.declared.decisions.Decided.TheVariants.{Alternate}
use Rattle.xrf_cavm.specs.declared.decisions.Mode.{Mode}
use Rattle.xrf_cavm.specs.declared.decisions.Why.TheVariants as why
use Rattle.xrf_cavm.specs.Record.{is_owner as names_owner, is_alt, owner_is}
use Rattle.xrf_cavm.specs.Decisions.{decide}
use Rattle.xrf_cavm.specs.Watch.{is_lost}
use Rattle.xrf_history.specs.declared.settings.Settings.{Settings}
use Rattle.xrf_history.specs.declared.want.Want.TheVariants as want
use Rattle.xrf_history.specs.Events.{Event, StartedActive, StartedStandby, Replied, ControlWritten, DecisionMade}
use Rattle.xrf_history.specs.Holding.{number, is_owner, is_tracking}
use Rattle.xrf_history.specs.Looking.{record_seen, change, lost_at}
use Rattle.xrf_history.specs.Deciding.{cause, mode_of, has_go, is_ask, is_asked}
use Rattle.xrf_history.specs.Reserving.{start_in}
use Rattle.xrf_history.specs.News.{has_news}
use Rattle.xrf_history.specs.Causes.{go_given, ask_made, unless_command, may_go, start_cause, asks, ask_if, start_or, tracking_decision}
use Rattle.xrf_history.specs.Next.{next}
use Rattle.xrf_history.proofs.Histories.{Comes, IsHistory, induct}
use Rattle.xrf_history.proofs.News.{lost-is, or-none}

-- GO, in words of news
abbrev IsGo : Settings → List Event → Type 0
IsGo p h = is_owner h ≡ false → has_go p h ≡ go_given p.adi h

-- each event keeps it
go-step : (p : Settings) (h : List Event) (e : Event) → IsHistory p h → Comes p h e → IsGo p h → IsGo p (e ∷ h)
go-step p h (DecisionMade known n decided) is comes go = λ no_owner.
    ap (λ (b : Bool). b && lost_at p h n) (go no_owner) ∙ ap (λ (b : Bool). go_given p.adi h && b) (lost-is p h n is comes.0 no_owner)
go-step p h (Replied given n) is comes go = λ no_owner. ap (λ (b : Bool). b || given) (go no_owner)
go-step p h (ControlWritten w) is comes go = λ no_owner. go (or-none (is_owner h) (names_owner w (number (ControlWritten w ∷ h))) no_owner)
go-step p h StartedActive is comes go = absurd comes
go-step p h StartedStandby is comes go = absurd comes
go-step p h _ is comes go = go

-- GO is given as the words of news say
pub go-given : (p : Settings) (h : List Event) → IsHistory p h → is_owner h ≡ false → has_go p h ≡ go_given p.adi h
go-given p h is = induct IsGo (λ p. λ no_owner. refl) (λ p. λ no_owner. refl) go-step p h is

-- the question to the operator, in words of news
abbrev IsAsked : Settings → List Event → Type 0
IsAsked p h = is_owner h ≡ false → is_asked p h ≡ ask_made p.adi h

-- each event keeps it
ask-step : (p : Settings) (h : List Event) (e : Event) → IsHistory p h → Comes p h e → IsAsked p h → IsAsked p (e ∷ h)
ask-step p h (DecisionMade known n decided) is comes asked = λ no_owner.
    ap (λ (b : Bool). is_ask decided || (b && lost_at p h n)) (asked no_owner)
    ∙ ap (λ (b : Bool). is_ask decided || (ask_made p.adi h && b)) (lost-is p h n is comes.0 no_owner)
ask-step p h (Replied given n) is comes asked = λ no_owner. ap (λ (b : Bool). b && given) (asked no_owner)
ask-step p h (ControlWritten w) is comes asked = λ no_owner. asked (or-none (is_owner h) (names_owner w (number (ControlWritten w ∷ h))) no_owner)
ask-step p h StartedActive is comes asked = absurd comes
ask-step p h StartedStandby is comes asked = absurd comes
ask-step p h _ is comes asked = asked

-- the operator is asked as the words of news say
pub asked-made : (p : Settings) (h : List Event) → IsHistory p h → is_owner h ≡ false → is_asked p h ≡ ask_made p.adi h
asked-made p h is = induct IsAsked (λ p. λ no_owner. refl) (λ p. λ no_owner. refl) ask-step p h is

-- the cause of a start by the mode that the job goes by, its news and GO
abbrev cause_by : Mode → (news go : Bool) → ℕ → ControlRecord → Option Cause
cause_by mode news go n r =
    if mode.shutdown || not (is_alt r n) || owner_is r OffNormal then None else
    (if mode.commanded then Some start.Command else
    (if owner_is r OffAbend then unless_command mode.takeovr (Some start.Abend) else
    (if owner_is r OffTakeover then unless_command mode.takeovr (Some start.Shutdown) else
    (if (owner_is r Running && mode.surveillance && not news) && may_go mode.takeovr go then Some start.Lost else None))))

-- and the decision by them
abbrev decision_by : Mode → (news go asked : Bool) → ℕ → ControlRecord → Decision
decision_by mode news go asked n r =
    if mode.shutdown then decision.Leave why.Shutdown
    else (if not (is_alt r n) then decision.Leave why.Dropped
    else (if owner_is r OffNormal then decision.Leave why.Normal
    else start_or (cause_by mode news go n r) (ask_if ((owner_is r Running && mode.surveillance && not news) && asks mode.takeovr && not asked))))

-- what is decided by the mode is decided by them
decides-by : (changed : ℕ) (r : ControlRecord) (n : ℕ) (mode : Mode) (now : ℕ) (news go asked : Bool) → is_lost changed mode.adi now ≡ not news
    → mode.go ≡ go → mode.asked ≡ asked → decide changed r n mode now ≡ decision_by mode news go asked n r
decides-by changed r n mode now news go asked lost given same = grind (arith, common_steps)

-- a tracking alternate decides by its mode, and is no owner
mode-decides : (p : Settings) (h : List Event) (known : Known) (now : ℕ) → is_tracking h ≡ true
    → (cause p h known now ≡ Alternate (decide (change h) (record_seen h) (number h) (mode_of p h) now)) × (is_owner h ≡ false)
mode-decides p h known now tracking = grind (arith, common_steps)

-- **a tracking alternate decides as the words of news say**
pub decides-tracking : (p : Settings) (h : List Event) (known : Known) (now : ℕ) → IsHistory p h → next p h ≡ want.Decide → is_tracking h ≡ true
    → cause p h known now ≡ Alternate (tracking_decision p h now (record_seen h))
decides-tracking p h known now is comes tracking =
    let by = mode-decides p h known now tracking in
    by.0
    ∙ ap (λ (d : Decision). Alternate d) (decides-by (change h) (record_seen h) (number h) (mode_of p h) now (has_news p.adi now h) (go_given p.adi h)
    (ask_made p.adi h) (lost-is p h now is comes by.1) (go-given p h is by.1) (asked-made p h is by.1))

-- it is a START exactly where the cause of one stands, and by it
pub starts-by : (p : Settings) (h : List Event) (now : ℕ) (r : ControlRecord)
    → start_in (Some (Alternate (tracking_decision p h now r))) ≡ start_cause p h now r
starts-by p h now r = grind (arith, common_steps)
