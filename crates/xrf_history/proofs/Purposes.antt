-- What the purpose of a job tells of its history.
use Rattle.std.proofs.Common.{List, arith, false, ◌≡◌, None, Option, Some, ◌∷◌, refl, true, ap, [], ◌∙◌, sym, subst, Bool}
use Rattle.std.proofs.lemmas.Grind.{common_steps}
use Rattle.xrf_ctl.specs.declared.parts.Cause.{Cause}
use Rattle.xrf_ctl.specs.declared.parts.OwnerState.{OwnerState}
use Rattle.xrf_cavm.specs.declared.decisions.Decided.{Decided}
use Rattle.xrf_history.specs.Reserving.{DropAlternate, GoThrough, Leave, Purpose, SignOff, SignOnActive, SignOnStandby, StartTakeover, purpose_now, purpose, last_decision, open_decision, is_through_decision, start_in, leaves, start_due, through_due, purpose_of_alternate, purpose_of_owner, sign_off_due}
use Rattle.xrf_history.specs.Events.{Event, ControlRead, ControlWritten, Released, Reserved, StartedActive, StartedStandby, DecisionMade}
use Rattle.xrf_history.specs.Holding.{is_granted, is_owner, starts_active}
use Rattle.xrf_history.proofs.Phases.{Fresh, phase, released, before_write, is_inner, is_inner_of, NextIn, Outside, Phase, may_reserve, has_reserve, is_work}
use Rattle.xrf_history.specs.declared.settings.Settings.{Settings}
use Rattle.xrf_history.proofs.Histories.{Comes, IsHistory, induct}
use Rattle.xrf_history.specs.declared.want.Want.{Want}
use Rattle.xrf_history.specs.Next.{after_release, or_boundary, inside, next}
use Rattle.xrf_history.proofs.PhaseLaws.{read-phase, phase-next, reserve-phase, work-phase, write-phase}
use Rattle.xrf_history.specs.Rows.{boundary}
use Rattle.xrf_history.specs.declared.want.EndWhy.{EndWhy}
use Rattle.xrf_history.specs.declared.want.Want.TheVariants as want

-- what a job is, by the purpose for which it reserved
abbrev pub Suits : Purpose → (granted owner : Bool) → Type 0
Suits SignOnActive granted owner = granted ≡ false
Suits SignOnStandby granted owner = granted ≡ false
Suits (SignOff state) granted owner = owner ≡ true
Suits DropAlternate granted owner = owner ≡ true
Suits (Leave reason) granted owner = (granted ≡ true) × (owner ≡ false)
Suits (StartTakeover cause) granted owner = (granted ≡ true) × (owner ≡ false)
Suits GoThrough granted owner = (granted ≡ true) × (owner ≡ false)

-- a purpose to sign off
abbrev pub is_sign_off : Purpose → Bool
is_sign_off (SignOff state) = true
is_sign_off _ = false

-- what a RESERVE is made for suits what the job is
pub suits-now : (h : List Event) → Suits (purpose_now h) (is_granted h) (is_owner h)
suits-now h = grind (arith, common_steps)

-- a job that is fresh holds no number
abbrev IsFree : Settings → List Event → Type 0
IsFree p h = phase p h ≡ Fresh → is_granted h ≡ false

-- each event keeps that a job before its first RESERVE holds no number
free-step : (p : Settings) (h : List Event) (e : Event) → IsHistory p h → Comes p h e → IsFree p h → IsFree p (e ∷ h)
free-step p h (ControlWritten w) is comes free = λ fresh. absurd (cc)
free-step p h (ControlRead held known) is comes free = λ fresh. absurd (cc)
free-step p h Reserved is comes free = λ fresh. absurd (cc)
free-step p h Released is comes free = λ fresh. absurd (not-fresh (after_release p h) fresh)
  where
    not-fresh : (o : Option Want) → released o ≡ Fresh → ⊥
    not-fresh None same = absurd (cc)
    not-fresh (Some w) same = absurd (cc)
free-step p h StartedActive is comes free = absurd comes
free-step p h StartedStandby is comes free = absurd comes
free-step p h _ is comes free = free

-- a job before its first RESERVE holds no number
fresh-free : (p : Settings) (h : List Event) → IsHistory p h → phase p h ≡ Fresh → is_granted h ≡ false
fresh-free p h is = induct IsFree (λ p. λ fresh. refl) (λ p. λ fresh. refl) free-step p h is

-- its purpose suits what it is, until it writes
abbrev IsSuited : Settings → List Event → Type 0
IsSuited p h = before_write (phase p h) ≡ true → Suits (purpose h) (is_granted h) (is_owner h)

-- each event keeps that the purpose suits
suited-step : (p : Settings) (h : List Event) (e : Event) → IsHistory p h → Comes p h e → IsSuited p h → IsSuited p (e ∷ h)
suited-step p h (ControlWritten w) is comes suited = λ early. absurd (cc)
suited-step p h (ControlRead held known) is comes suited = λ early. suited (ap before_write (read-phase p h is comes))
suited-step p h Reserved is comes suited = λ early. suits-now h
suited-step p h Released is comes suited = λ early. absurd (not-early (after_release p h) early)
  where
    not-early : (o : Option Want) → before_write (released o) ≡ true → ⊥
    not-early None same = absurd (cc)
    not-early (Some w) same = absurd (cc)
suited-step p h StartedActive is comes suited = absurd comes
suited-step p h StartedStandby is comes suited = absurd comes
suited-step p h _ is comes suited = suited

-- until a job writes, its purpose suits what it is
pub suited : (p : Settings) (h : List Event) → IsHistory p h → before_write (phase p h) ≡ true → Suits (purpose h) (is_granted h) (is_owner h)
suited p h is = induct IsSuited (λ p. λ early. absurd (cc)) (λ p. λ early. absurd (cc)) suited-step p h is

-- a job that holds no number reserves to sign on, as it was started
sign-on-now : (h : List Event) → is_granted h ≡ false → purpose_now h ≡ elim (starts_active h) [ true ↦ SignOnActive | false ↦ SignOnStandby ]
sign-on-now h fresh =
    ap (λ (g : Bool). elim g [
      | false ↦ elim (starts_active h) [ true ↦ SignOnActive | false ↦ SignOnStandby ]
      | true ↦ elim (is_owner h) [ true ↦ purpose_of_owner (sign_off_due h) | false ↦ purpose_of_alternate (leaves h) (start_due h) ]
    ]) fresh

-- until it writes its purpose is to sign on so
abbrev SignsOn : Settings → List Event → Type 0
SignsOn p h = before_write (phase p h) ≡ true → is_granted h ≡ false → purpose h ≡ elim (starts_active h) [ true ↦ SignOnActive | false ↦ SignOnStandby ]

-- each event keeps it
signs-step : (p : Settings) (h : List Event) (e : Event) → IsHistory p h → Comes p h e → SignsOn p h → SignsOn p (e ∷ h)
signs-step p h StartedActive is comes signs = absurd comes
signs-step p h StartedStandby is comes signs = absurd comes
signs-step p h Reserved is comes signs = λ early fresh. sign-on-now h fresh
signs-step p h (ControlRead held known) is comes signs = λ early. signs (ap before_write (read-phase p h is comes))
signs-step p h (ControlWritten w) is comes signs = λ early. absurd (cc)
signs-step p h Released is comes signs = λ early. absurd (not-early (after_release p h) early)
  where
    not-early : (o : Option Want) → before_write (released o) ≡ true → ⊥
    not-early None same = absurd (cc)
    not-early (Some w) same = absurd (cc)
signs-step p h _ is comes signs = signs

-- **until a job that holds no number writes, its purpose is to sign on as it was started**
pub signs-on : (p : Settings) (h : List Event) → IsHistory p h → SignsOn p h
signs-on p h is = induct SignsOn (λ p. λ early. absurd (cc)) (λ p. λ early. absurd (cc)) signs-step p h is

-- a purpose to sign on as active is of a job that was started so
pub active-of : (active : Bool) → elim active [ true ↦ SignOnActive | false ↦ SignOnStandby ] ≡ SignOnActive → active ≡ true
active-of true is = refl
active-of false is = absurd (cc)

-- a decision that is open is the last one
open-last : (h : List Event) (d : Decided) → open_decision h ≡ Some d → last_decision h ≡ Some d
open-last [] d is = absurd (cc)
open-last (Reserved ∷ h) d is = absurd (cc)
open-last (DecisionMade known n decision ∷ h) d is = is
open-last (_ ∷ h) d is = open-last h d is

-- what a takeover is started for, and a through is made for, is the last decision
abbrev pub IsCalled : List Event → Purpose → Type 0
IsCalled h GoThrough = is_through_decision (last_decision h) ≡ true
IsCalled h (StartTakeover cause) = start_in (last_decision h) ≡ Some cause
IsCalled h _ = Unit {0}

-- what is read of an open decision is read of the last one
last-of : {X : Type 0} (f : Option Decided → X) (h : List Event) (v : X) → (f None ≡ v → ⊥) → f (open_decision h) ≡ v → f (last_decision h) ≡ v
last-of f h v none = by (open_decision h) refl
  where
    by : (o : Option Decided) → open_decision h ≡ o → f o ≡ v → f (last_decision h) ≡ v
    by None is same = absurd (none same)
    by (Some d) is same = ap f (open-last h d is) ∙ same

-- where nothing inner is due a RESERVE is one of the boundary
inner-none : (p : Settings) (h : List Event) (o : Option Want) → is_inner_of o ≡ true → or_boundary p h o ≡ want.Reserve → boundary p h ≡ want.Reserve
inner-none p h None inner is = is
inner-none p h (Some w) inner is = absurd (cc (sym (ap is_inner is) ∙ inner))

-- a RESERVE of an alternate that neither leaves nor starts is for a through
boundary-through : (p : Settings) (h : List Event) → boundary p h ≡ want.Reserve → is_owner h ≡ false → leaves h ≡ None → start_due h ≡ None
    → through_due h ≡ true
boundary-through p h is no_owner stays no_start = grind (arith, common_steps)

-- a RESERVE of a job that holds a number is one of the boundary
outside-boundary : (p : Settings) (h : List Event) (f : Phase) → IsHistory p h → phase p h ≡ f → may_reserve f ≡ true → is_granted h ≡ true
    → next p h ≡ want.Reserve
    → boundary p h ≡ want.Reserve
outside-boundary p h Fresh is at may granted reserves = absurd (cc (sym (fresh-free p h is at) ∙ granted))
outside-boundary p h Outside is at may granted reserves = inner-none p h (inside p h) (subst (NextIn p h) at (phase-next p h is)) reserves
outside-boundary p h _ is at may granted reserves = absurd (cc)

-- a RESERVE of an alternate that neither leaves nor starts follows DECIDE THROUGH
through-now : (p : Settings) (h : List Event) → IsHistory p h → next p h ≡ want.Reserve → is_granted h ≡ true → is_owner h ≡ false → leaves h ≡ None
    → start_due h ≡ None
    → is_through_decision (last_decision h) ≡ true
through-now p h is reserves granted no_owner stays no_start =
    let may = reserve-phase p h is reserves in
    last-of is_through_decision h true (λ same. absurd (cc))
    (boundary-through p h (outside-boundary p h (phase p h) is refl may granted reserves) no_owner stays no_start)

-- what an alternate reserves for is called for by its last decision
called-alternate : (p : Settings) (h : List Event) (l : Option EndWhy) (start : Option Cause) → IsHistory p h → next p h ≡ want.Reserve
    → is_granted h ≡ true → is_owner h ≡ false
    → leaves h ≡ l → start_due h ≡ start → IsCalled h (purpose_of_alternate l start)
called-alternate p h (Some w) start is reserves granted no_owner stays due = tt
called-alternate p h None (Some cause) is reserves granted no_owner stays due = last-of start_in h (Some cause) (λ same. absurd (cc)) due
called-alternate p h None None is reserves granted no_owner stays due = through-now p h is reserves granted no_owner stays due

-- what an owner reserves for needs no decision
called-owner : (h : List Event) (o : Option OwnerState) → IsCalled h (purpose_of_owner o)
called-owner h None = tt
called-owner h (Some state) = tt

-- nor does a sign-on
called-sign_on : (h : List Event) (b : Bool) → IsCalled h (elim b [ true ↦ SignOnActive | false ↦ SignOnStandby ])
called-sign_on h true = tt
called-sign_on h false = tt

-- what a RESERVE is made for is called for by the last decision
called-now : (p : Settings) (h : List Event) → IsHistory p h → next p h ≡ want.Reserve → IsCalled h (purpose_now h)
called-now p h is reserves = by (is_granted h) (is_owner h) refl refl
  where
    by : (g o : Bool) → is_granted h ≡ g → is_owner h ≡ o → IsCalled h (elim g [
      | false ↦ elim (starts_active h) [ true ↦ SignOnActive | false ↦ SignOnStandby ]
      | true ↦ elim o [ true ↦ purpose_of_owner (sign_off_due h) | false ↦ purpose_of_alternate (leaves h) (start_due h) ]
    ])
    by false o granted owner = called-sign_on h (starts_active h)
    by true true granted owner = called-owner h (sign_off_due h)
    by true false granted owner = called-alternate p h (leaves h) (start_due h) is reserves granted owner refl refl

-- while it holds the reserve
abbrev AreCalled : Settings → List Event → Type 0
AreCalled p h = has_reserve (phase p h) ≡ true → IsCalled h (purpose h)

-- a purpose stays called for while the last decision stays
keeps-called : (e : Event) (h : List Event) (q : Purpose) → last_decision (e ∷ h) ≡ last_decision h → IsCalled h q → IsCalled (e ∷ h) q
keeps-called e h GoThrough same called = ap is_through_decision same ∙ called
keeps-called e h (StartTakeover cause) same called = ap start_in same ∙ called
keeps-called e h _ same called = tt

-- each event keeps it
called-step : (p : Settings) (h : List Event) (e : Event) → IsHistory p h → Comes p h e → AreCalled p h → AreCalled p (e ∷ h)
called-step p h (DecisionMade known n decision) is comes called = λ holds. absurd (cc (sym (ap has_reserve (work-phase p h is (ap is_work comes.0))) ∙ holds))
called-step p h Reserved is comes called = λ holds. keeps-called Reserved h (purpose_now h) refl (called-now p h is comes)
called-step p h (ControlRead held known) is comes called =
    λ holds. keeps-called (ControlRead held known) h (purpose h) refl (called (ap has_reserve (read-phase p h is comes)))
called-step p h (ControlWritten w) is comes called =
    λ holds. keeps-called (ControlWritten w) h (purpose h) refl (called (ap has_reserve (write-phase p h w is comes).0))
called-step p h Released is comes called = λ holds. absurd (not-held (after_release p h) holds)
  where
    not-held : (o : Option Want) → has_reserve (released o) ≡ true → ⊥
    not-held None same = absurd (cc)
    not-held (Some w) same = absurd (cc)
called-step p h StartedActive is comes called = absurd comes
called-step p h StartedStandby is comes called = absurd comes
called-step p h e is comes called = λ holds. keeps-called e h (purpose h) refl (called holds)

-- while a job holds the reserve, its purpose is called for by its last decision
pub called : (p : Settings) (h : List Event) → IsHistory p h → has_reserve (phase p h) ≡ true → IsCalled h (purpose h)
called p h is = induct AreCalled (λ p. λ holds. absurd (cc)) (λ p. λ holds. absurd (cc)) called-step p h is

-- an alternate that reserves, and neither leaves nor starts, has a through due
pub start-boundary : (p : Settings) (h : List Event) → IsHistory p h → next p h ≡ want.Reserve → is_granted h ≡ true → is_owner h ≡ false
    → leaves h ≡ None → start_due h ≡ None
    → through_due h ≡ true
start-boundary p h is reserves granted no_owner stays no_start =
    let may = reserve-phase p h is reserves in
    boundary-through p h (outside-boundary p h (phase p h) is refl may granted reserves) no_owner stays no_start
