-- What an open decision and a purpose tell of waiting.
use Rattle.std.proofs.Common.{Bool, None, Option, false, is_some, true, ◌≡◌, List, Some, arith, ℕ, ap, refl, sym, ◌∷◌, ◌∙◌}
use Rattle.std.proofs.lemmas.Grind.{common_steps}
use Rattle.xrf_ctl.specs.declared.parts.Cause.{Cause}
use Rattle.xrf_cavm.specs.declared.decisions.Decided.{Decided}
use Rattle.xrf_cavm.specs.declared.known.Known.{Known}
use Rattle.xrf_history.proofs.Phases.{Phase, has_reserve, phase, released, is_work, before_write}
use Rattle.xrf_history.specs.Reserving.{is_through_decision, start_in, open_decision, leaves, start_due, GoThrough, purpose_now, through_due, StartTakeover, Purpose, purpose}
use Rattle.xrf_history.specs.Events.{Event, ControlRead, ControlWritten, DecisionMade, Released, Reserved, StartedActive, StartedStandby}
use Rattle.xrf_history.specs.declared.settings.Settings.{Settings}
use Rattle.xrf_history.specs.Holding.{is_waiting, is_granted, is_owner}
use Rattle.xrf_history.specs.Deciding.{cause}
use Rattle.xrf_history.specs.declared.want.Want.{Want}
use Rattle.xrf_history.proofs.Histories.{Comes, IsHistory, induct}
use Rattle.xrf_history.specs.Next.{after_release, next}
use Rattle.xrf_history.proofs.PhaseLaws.{read-phase, work-phase, write-phase}
use Rattle.xrf_history.proofs.Purposes.{start-boundary}
use Rattle.xrf_history.specs.declared.want.Want.TheVariants as want

-- under the reserve no decision is open; one to start was made by a job that does not wait, one to go through by one
-- that waits
pub record Opened (f : Phase) (o : Option Decided) (waiting : Bool) : Type 0 where
  pub none : has_reserve f ≡ true → o ≡ None
  pub starts : is_some (start_in o) ≡ true → waiting ≡ false
  pub goes : is_through_decision o ≡ true → waiting ≡ true

-- the same of a history
abbrev IsOpened : Settings → List Event → Type 0
IsOpened p h = Opened (phase p h) (open_decision h) (is_waiting h)

-- who decides to start does not wait
cause-starts : (p : Settings) (h : List Event) (known : Known) (n : ℕ) (decision : Decided) → decision ≡ cause p h known n
    → is_some (start_in (Some decision)) ≡ true → is_waiting h ≡ false
cause-starts p h known n decision made is = grind (arith, common_steps)

-- who decides to go through waits
cause-goes : (p : Settings) (h : List Event) (known : Known) (n : ℕ) (decision : Decided) → decision ≡ cause p h known n
    → is_through_decision (Some decision) ≡ true → is_waiting h ≡ true
cause-goes p h known n decision made is = grind (arith, common_steps)

-- after a RELEASE the reserve is not held
not-reserved : (o : Option Want) → has_reserve (released o) ≡ true → ⊥
not-reserved None is = absurd (cc)
not-reserved (Some w) is = absurd (cc)

-- each event keeps it
opened-step : (p : Settings) (h : List Event) (e : Event) → IsHistory p h → Comes p h e → IsOpened p h → IsOpened p (e ∷ h)
opened-step p h StartedActive is comes opened = absurd comes
opened-step p h StartedStandby is comes opened = absurd comes
opened-step p h Reserved is comes opened = record { none = λ holds. refl; starts = λ is. absurd (cc); goes = λ is. absurd (cc) }
opened-step p h (ControlRead held known) is comes opened = record {
  none = λ holds. opened.none (ap has_reserve (read-phase p h is comes));
  starts = opened.starts;
  goes = opened.goes;
}
opened-step p h (ControlWritten w) is comes opened =
    let none = opened.none (ap has_reserve (write-phase p h w is comes).0) in
    record {
      none = λ holds. none;
      starts = λ starts. absurd (cc (sym (ap (λ (o : Option Decided). is_some (start_in o)) none) ∙ starts));
      goes = λ goes. absurd (cc (sym (ap is_through_decision none) ∙ goes));
    }
opened-step p h Released is comes opened =
    record { none = λ holds. absurd (not-reserved (after_release p h) holds); starts = opened.starts; goes = opened.goes }
opened-step p h (DecisionMade known n decision) is comes opened = record {
  none = λ holds. absurd (cc (sym (ap has_reserve (work-phase p h is (ap is_work comes.0))) ∙ holds));
  starts = cause-starts p h known n decision comes.1;
  goes = cause-goes p h known n decision comes.1;
}
opened-step p h _ is comes opened = opened

-- what an open decision tells of waiting
pub opened : (p : Settings) (h : List Event) → IsHistory p h → IsOpened p h
opened p h is =
    induct IsOpened (λ p. record { none = λ holds. refl; starts = λ is. absurd (cc); goes = λ is. absurd (cc) })
    (λ p. record { none = λ holds. refl; starts = λ is. absurd (cc); goes = λ is. absurd (cc) }) opened-step p h is

-- a purpose to go through
pub record Going (h : List Event) : Type 0 where
  pub granted : is_granted h ≡ true
  pub no_owner : is_owner h ≡ false
  pub stays : leaves h ≡ None
  pub no_start : start_due h ≡ None

-- a RESERVE to go through is of an alternate that does not leave
pub going-now : (h : List Event) → purpose_now h ≡ GoThrough → Going h
going-now h is =
    record {
      granted = grind (arith, common_steps);
      no_owner = grind (arith, common_steps);
      stays = grind (arith, common_steps);
      no_start = grind
          (arith, common_steps);
    }

-- a RESERVE to go through follows DECIDE THROUGH
pub going-due : (p : Settings) (h : List Event) → IsHistory p h → next p h ≡ want.Reserve → purpose_now h ≡ GoThrough → through_due h ≡ true
going-due p h is comes purposed =
    let going = going-now h purposed in start-boundary p h is comes going.granted going.no_owner going.stays going.no_start

-- a RESERVE to start a takeover follows DECIDE START
starting-due : (h : List Event) (why : Cause) → purpose_now h ≡ StartTakeover why → is_some (start_due h) ≡ true
starting-due h why is = grind (arith, common_steps)

-- a purpose to start a takeover
abbrev pub is_start : Purpose → Bool
is_start (StartTakeover why) = true
is_start _ = false

-- a purpose to go through
abbrev pub is_go : Purpose → Bool
is_go GoThrough = true
is_go _ = false

-- until it writes
abbrev Purposed : Settings → List Event → Type 0
Purposed p h = before_write (phase p h) ≡ true → (is_start (purpose h) ≡ true → is_waiting h ≡ false) × (is_go (purpose h) ≡ true → is_waiting h ≡ true)

-- who reserves to start a takeover does not wait
start-waits : (p : Settings) (h : List Event) (q : Purpose) → IsHistory p h → purpose_now h ≡ q → is_start q ≡ true → is_waiting h ≡ false
start-waits p h (StartTakeover why) is purposed start = (opened p h is).starts (starting-due h why purposed)
start-waits p h _ is purposed start = absurd (cc)

-- who reserves to go through waits
go-waits : (p : Settings) (h : List Event) (q : Purpose) → IsHistory p h → next p h ≡ want.Reserve → purpose_now h ≡ q → is_go q ≡ true → is_waiting h ≡ true
go-waits p h GoThrough is comes purposed go = (opened p h is).goes (going-due p h is comes purposed)
go-waits p h _ is comes purposed go = absurd (cc)

-- after a RELEASE nothing is to be written
not-early : (o : Option Want) → before_write (released o) ≡ true → ⊥
not-early None is = absurd (cc)
not-early (Some w) is = absurd (cc)

-- each event keeps it
purposed-step : (p : Settings) (h : List Event) (e : Event) → IsHistory p h → Comes p h e → Purposed p h → Purposed p (e ∷ h)
purposed-step p h StartedActive is comes purposed = absurd comes
purposed-step p h StartedStandby is comes purposed = absurd comes
purposed-step p h Reserved is comes purposed = λ early. (start-waits p h (purpose_now h) is refl, go-waits p h (purpose_now h) is comes refl)
purposed-step p h (ControlRead held known) is comes purposed = λ early. purposed (ap before_write (read-phase p h is comes))
purposed-step p h (ControlWritten w) is comes purposed = λ early. absurd (cc)
purposed-step p h Released is comes purposed = λ early. absurd (not-early (after_release p h) early)
purposed-step p h _ is comes purposed = purposed

-- what a purpose tells of waiting
pub purposed : (p : Settings) (h : List Event) → IsHistory p h → Purposed p h
purposed p h is = induct Purposed (λ p. λ early. absurd (cc)) (λ p. λ early. absurd (cc)) purposed-step p h is
