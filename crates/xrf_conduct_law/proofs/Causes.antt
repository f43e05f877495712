-- What a job that holds a number reserves for: something of it is due, and it is no leave of one that was dropped.
use Rattle.std.proofs.Common.{◌≡◌, ◌+◌, Bool, true, false, ◌||◌, is_some, List, ◌∷◌, Option, Some, None, refl, sym, ap, ◌∙◌, subst, arith, if◌then◌else◌}
use Rattle.std.proofs.lemmas.Grind.{common_steps}
use Rattle.xrf_exit.specs.declared.Notice.{Notice}
use Rattle.xrf_ctl.specs.declared.parts.OwnerState.{OwnerState}
use Rattle.xrf_ctl.specs.declared.parts.Cause.{Cause}
use Rattle.xrf_history.specs.declared.settings.Settings.{Settings}
use Rattle.xrf_history.specs.declared.want.EndWhy.{EndWhy}
use Rattle.xrf_history.specs.declared.want.EndWhy.TheVariants as end
use Rattle.xrf_history.specs.declared.want.Want.{Want}
use Rattle.xrf_history.specs.declared.want.Want.TheVariants as want
use Rattle.xrf_history.specs.Events.{Event, StartedActive, StartedStandby, Reserved, ControlRead, ControlWritten, Released}
use Rattle.xrf_history.specs.Holding.{is_owner, is_granted, starts_active}
use Rattle.xrf_history.specs.Notices.{notice}
use Rattle.xrf_history.specs.Reserving.{Purpose, SignOnActive, SignOnStandby, Leave, purpose, purpose_now, purpose_of_owner, purpose_of_alternate, sign_off_due, drop_due, leaves, start_due, through_due}
use Rattle.xrf_history.specs.Rows.{boundary, owner_row, owner_works, alternate_next, alternate_row, alternate_starts, alternate_tracks, lines_left, lines_issued}
use Rattle.xrf_history.specs.Next.{inside, next, after_release}
use Rattle.xrf_history.proofs.Histories.{IsHistory, Comes, induct}
use Rattle.xrf_history.proofs.Phases.{Phase, Fresh, Outside, NextIn, phase, released, may_reserve}
use Rattle.xrf_history.proofs.PhaseLaws.{phase-next, reserve-phase}
use Rattle.xrf_history.proofs.Rounds.{inner-none}
use Rattle.xrf_trace.specs.ByPurpose.{has_cause}

-- a RELEASE does not begin a job anew
not-fresh : (o : Option Want) → released o ≡ Fresh → ⊥
not-fresh None same = absurd (cc)
not-fresh (Some w) same = absurd (cc)

-- before its first RESERVE a job holds no number
abbrev IsFree : Settings → List Event → Type 0
IsFree p h = phase p h ≡ Fresh → is_granted h ≡ false

-- each event keeps it
free-step : (p : Settings) (h : List Event) (e : Event) → IsHistory p h → Comes p h e → IsFree p h → IsFree p (e ∷ h)
free-step p h (ControlWritten w) is comes free = λ fresh. absurd (cc)
free-step p h (ControlRead held known) is comes free = λ fresh. absurd (cc)
free-step p h Reserved is comes free = λ fresh. absurd (cc)
free-step p h Released is comes free = λ fresh. absurd (not-fresh (after_release p h) fresh)
free-step p h StartedActive is comes free = absurd comes
free-step p h StartedStandby is comes free = absurd comes
free-step p h _ is comes free = free

-- so it is of each history
fresh-free : (p : Settings) (h : List Event) → IsHistory p h → phase p h ≡ Fresh → is_granted h ≡ false
fresh-free p h is = induct IsFree (λ p. λ fresh. refl) (λ p. λ fresh. refl) free-step p h is

-- so a RESERVE of a job that holds a number is one of the boundary
phase-reserves : (p : Settings) (h : List Event) (f : Phase) → IsHistory p h → phase p h ≡ f → may_reserve f ≡ true → is_granted h ≡ true
    → next p h ≡ want.Reserve
    → boundary p h ≡ want.Reserve
phase-reserves p h Fresh is at may granted reserves = absurd (cc (sym (fresh-free p h is at) ∙ granted))
phase-reserves p h Outside is at may granted reserves =
    inner-none p h (inside p h) want.Reserve (subst (NextIn p h) at (phase-next p h is)) reserves refl
phase-reserves p h _ is at may granted reserves = absurd (cc)

-- the same of a history
reserves-at : (p : Settings) (h : List Event) → IsHistory p h → is_granted h ≡ true → next p h ≡ want.Reserve → boundary p h ≡ want.Reserve
reserves-at p h is granted reserves = phase-reserves p h (phase p h) is refl (reserve-phase p h is reserves) granted reserves

-- RESERVE
abbrev is_reserve : Want → Bool
is_reserve want.Reserve = true
is_reserve _ = false

-- an owner at work reserves for a drop that is due
works-cause : (p : Settings) (h : List Event) (b : Bool) → drop_due h ≡ b → is_reserve (owner_works p h) ≡ true → b ≡ true
works-cause p h true drop reserves = refl
works-cause p h false drop reserves = grind (arith, common_steps)

-- an owner reserves for a sign-off or a drop that is due
owner-cause : (p : Settings) (h : List Event) (state : Option OwnerState) (told : Option Notice) → is_reserve (owner_row p h state told) ≡ true
    → (is_some state || drop_due h) ≡ true
owner-cause p h (Some state) told reserves = refl
owner-cause p h None (Some told) reserves = absurd (cc)
owner-cause p h None None reserves = works-cause p h (drop_due h) refl reserves

-- an alternate that neither leaves nor starts reserves for a through that is due
tracks-cause : (p : Settings) (h : List Event) (b : Bool) → through_due h ≡ b → is_reserve (alternate_tracks p h) ≡ true → b ≡ true
tracks-cause p h true through reserves = refl
tracks-cause p h false through reserves = grind (arith, common_steps)

-- one that does not leave reserves for a start or a through that is due
starts-cause : (p : Settings) (h : List Event) (start : Option Cause) → is_reserve (alternate_starts p h start) ≡ true → (is_some start || through_due h) ≡ true
starts-cause p h (Some cause) reserves = refl
starts-cause p h None reserves = tracks-cause p h (through_due h) refl reserves

-- a leave but that of one that was dropped
abbrev pub stays_in : Option EndWhy → Bool
stays_in (Some end.Dropped) = false
stays_in _ = true

-- an alternate reserves for a leave, a start or a through that is due; one that was dropped does not reserve
row-cause : (p : Settings) (h : List Event) (reason : Option EndWhy) → is_reserve (alternate_row p h reason) ≡ true
    → ((is_some reason || is_some (start_due h) || through_due h) ≡ true) × (stays_in reason ≡ true)
row-cause p h None reserves = (starts-cause p h (start_due h) reserves, refl)
row-cause p h (Some end.Dropped) reserves = absurd (cc)
row-cause p h (Some _) reserves = (refl, refl)

-- the same of its act at a boundary
alternate-cause : (p : Settings) (h : List Event) → is_reserve (alternate_next p h) ≡ true
    → ((is_some (leaves h) || is_some (start_due h) || through_due h) ≡ true) × (stays_in (leaves h) ≡ true)
alternate-cause p h reserves = by (lines_left p h) reserves
  where
    by : (b : Bool) → is_reserve (if b then want.Clt (lines_issued h + 1) else alternate_row p h (leaves h)) ≡ true
        → ((is_some (leaves h) || is_some (start_due h) || through_due h) ≡ true) × (stays_in (leaves h) ≡ true)
    by true reserves = absurd (cc)
    by false reserves = row-cause p h (leaves h) reserves

-- what a RESERVE at a boundary tells
abbrev Tells : List Event → Bool → Type 0
Tells h true = (is_some (sign_off_due h) || drop_due h) ≡ true
Tells h false = ((is_some (leaves h) || is_some (start_due h) || through_due h) ≡ true) × (stays_in (leaves h) ≡ true)

-- each RESERVE at a boundary tells so
boundary-tells : (p : Settings) (h : List Event) → boundary p h ≡ want.Reserve → Tells h (is_owner h)
boundary-tells p h reserves = by (is_owner h) (ap is_reserve reserves)
  where
    by : (b : Bool) → is_reserve (if b then owner_row p h (sign_off_due h) (notice h) else alternate_next p h) ≡ true → Tells h b
    by true reserves = owner-cause p h (sign_off_due h) (notice h) reserves
    by false reserves = alternate-cause p h reserves

-- **a job that holds a number reserves for a cause**
pub reserves-cause : (p : Settings) (h : List Event) → IsHistory p h → is_granted h ≡ true → next p h ≡ want.Reserve → has_cause h ≡ true
reserves-cause p h is granted reserves = by (is_owner h) (boundary-tells p h (reserves-at p h is granted reserves))
  where
    by : (b : Bool) → Tells h b
        → elim b [
          | true ↦ is_some (sign_off_due h) || drop_due h
          | false ↦ is_some (leaves h) || is_some (start_due h) || through_due h
        ] ≡ true
    by true tells = tells
    by false tells = tells.0

-- a purpose but the leave of one that was dropped
abbrev pub is_named : Purpose → Bool
is_named (Leave end.Dropped) = false
is_named _ = true

-- what an alternate reserves for is no such leave
named-alternate : (l : Option EndWhy) (start : Option Cause) → stays_in l ≡ true → is_named (purpose_of_alternate l start) ≡ true
named-alternate (Some end.Dropped) start stays = absurd (cc)
named-alternate (Some _) start stays = refl
named-alternate None (Some cause) stays = refl
named-alternate None None stays = refl

-- nor is what an owner reserves for
named-owner : (o : Option OwnerState) → is_named (purpose_of_owner o) ≡ true
named-owner None = refl
named-owner (Some state) = refl

-- nor is a sign-on
named-sign_on : (b : Bool) → is_named (elim b [ true ↦ SignOnActive | false ↦ SignOnStandby ]) ≡ true
named-sign_on true = refl
named-sign_on false = refl

-- nor is what a RESERVE is made for
named-now : (p : Settings) (h : List Event) → IsHistory p h → next p h ≡ want.Reserve → is_named (purpose_now h) ≡ true
named-now p h is reserves =
    by (is_granted h) (is_owner h) (λ granted. boundary-tells p h (reserves-at p h is granted reserves))
  where
    by : (g o : Bool) → (g ≡ true → Tells h o)
        → is_named (elim g [
          | false ↦ elim (starts_active h) [ true ↦ SignOnActive | false ↦ SignOnStandby ]
          | true ↦ elim o [ true ↦ purpose_of_owner (sign_off_due h) | false ↦ purpose_of_alternate (leaves h) (start_due h) ]
        ]) ≡ true
    by false o tells = named-sign_on (starts_active h)
    by true true tells = named-owner (sign_off_due h)
    by true false tells = named-alternate (leaves h) (start_due h) (tells refl).1

-- of a history
abbrev IsNamed : Settings → List Event → Type 0
IsNamed p h = is_named (purpose h) ≡ true

-- each event keeps it
named-step : (p : Settings) (h : List Event) (e : Event) → IsHistory p h → Comes p h e → IsNamed p h → IsNamed p (e ∷ h)
named-step p h StartedActive is comes named = absurd comes
named-step p h StartedStandby is comes named = absurd comes
named-step p h Reserved is comes named = named-now p h is comes
named-step p h _ is comes named = named

-- **no job reserves to leave as one that was dropped**
pub named : (p : Settings) (h : List Event) → IsHistory p h → is_named (purpose h) ≡ true
named p h is = induct IsNamed (λ p. refl) (λ p. refl) named-step p h is
