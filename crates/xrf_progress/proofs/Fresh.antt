-- A job that holds no number has its next act: it signs on, or ends.
use Rattle.std.proofs.Common.{◌≡◌, ℕ, Bool, true, false, List, [], ◌∷◌, Option, Some, None, refl, ap, ◌∙◌, sym, subst, arith}
use Rattle.std.proofs.lemmas.Grind.{common_steps}
use Rattle.xrf_ctl.specs.Control.{ControlRecord}
use Rattle.xrf_cavm.specs.declared.known.Known.{Known}
use Rattle.xrf_cavm.specs.declared.grants.Grant.{Grant}
use Rattle.xrf_cavm.specs.Grants.{grant_active, grant_standby}
use Rattle.xrf_history.specs.declared.settings.Settings.{Settings}
use Rattle.xrf_history.specs.declared.want.Want.{Want}
use Rattle.xrf_history.specs.declared.want.Want.TheVariants as want
use Rattle.xrf_history.specs.Events.{Event, StartedActive, StartedStandby, Ticked, Abended, Replied, Commanded, Exited, Reserved, ControlRead, ControlWritten, Released, DecisionMade, FirstBlockRead, BlockRead, ActFailed, EndedAs}
use Rattle.xrf_history.specs.Holding.{is_granted, is_owner, number}
use Rattle.xrf_history.specs.Notices.{epoch_number}
use Rattle.xrf_history.specs.Reserving.{Purpose, SignOnActive, SignOnStandby, SignOff, DropAlternate, purpose, record_read, known_read, granted, end_of_grant, record_by_purpose, end_by_purpose}
use Rattle.xrf_history.specs.Next.{inside, next, or_boundary, end_next, after_release, after_control_read, record_for}
use Rattle.xrf_history.specs.Answers.{may_fail}
use Rattle.xrf_history.proofs.Histories.{IsHistory, Comes, induct}
use Rattle.xrf_history.proofs.Phases.{Phase, phase, released, before_write, HasRead, HasWritten, NextIn, may_release}
use Rattle.xrf_history.proofs.PhaseLaws.{phase-next, next-inside, releases-phase, releases-none}
use Rattle.xrf_history.proofs.Purposes.{Suits, suited}
use Rattle.xrf_history.proofs.Tests.{not-both}
use Rattle.xrf_history.proofs.Holding.{owner-granted}
use Rattle.xrf_progress.proofs.Resting.{is_still}

-- an act on the control data set, and ENDED
abbrev pub is_control : Want → Bool
is_control want.Reserve = true
is_control want.CtlRead = true
is_control (want.CtlWrite written) = true
is_control want.Release = true
is_control (want.Ended reason) = true
is_control _ = false

-- such an act inside
abbrev pub is_control_of : Option Want → Bool
is_control_of None = false
is_control_of (Some w) = is_control w

-- it comes next
pub control-next : (p : Settings) (h : List Event) (o : Option Want) → is_control_of o ≡ true → is_control (or_boundary p h o) ≡ true
control-next p h None is = absurd (cc)
control-next p h (Some w) is = is

-- and is an act
pub control-still : (w : Want) → is_control w ≡ true → is_still w ≡ false
control-still w is = grind (arith, common_steps)

-- after the CTLWRITE it holds a number
written-granted : (p : Settings) (h : List Event) → phase p h ≡ HasWritten → is_granted h ≡ true
written-granted p [] is = absurd (cc)
written-granted p (StartedActive ∷ h) is = absurd (cc)
written-granted p (StartedStandby ∷ h) is = absurd (cc)
written-granted p (Reserved ∷ h) is = absurd (cc)
written-granted p (ControlRead held known ∷ h) is = absurd (cc)
written-granted p (ControlWritten w ∷ h) is = refl
written-granted p (Released ∷ h) is = absurd (by (after_release p h) is)
  where
    by : (o : Option Want) → released o ≡ HasWritten → ⊥
    by None same = absurd (cc)
    by (Some w) same = absurd (cc)
written-granted p (_ ∷ h) is = written-granted p h is

-- whose sign-on is not granted ends
grant-ends : (g : Grant) → granted g ≡ None → is_control_of (end_next (end_of_grant g)) ≡ true
grant-ends g none = grind (arith, common_steps)

-- so does a job that holds no number
sign-on-ends : (p : Settings) (q : Purpose) (me epoch : ℕ) (c : ControlRecord) (known : Known) (owner : Bool) → (owner ≡ true → ⊥) → Suits q false owner
    → record_by_purpose p q me epoch c known ≡ None → is_control_of (end_next (end_by_purpose p q me c known)) ≡ true
sign-on-ends p SignOnActive me epoch c known owner none_owns suits none = grant-ends (grant_active c p.site known p.level) none
sign-on-ends p SignOnStandby me epoch c known owner none_owns suits none = grant-ends (grant_standby c p.site known p.level) none
sign-on-ends p (SignOff state) me epoch c known owner none_owns suits none = absurd (none_owns suits)
sign-on-ends p DropAlternate me epoch c known owner none_owns suits none = absurd (none_owns suits)
sign-on-ends p _ me epoch c known owner none_owns suits none = absurd (cc (suits.0))

-- after the RELEASE
released-control : (p : Settings) (h : List Event) → IsHistory p h → next p h ≡ want.Release → is_granted h ≡ false
    → is_control_of (inside p (Released ∷ h)) ≡ true
released-control p h is comes fresh = by (phase p h) refl (releases-phase p h is comes)
  where
    by : (f : Phase) → phase p h ≡ f → may_release f ≡ true → is_control_of (after_release p h) ≡ true
    by HasRead at may =
        let none = releases-none (record_for p h) (sym (next-inside p h (after_control_read p h) (subst (NextIn p h) at (phase-next p h is))) ∙ comes) in
        sign-on-ends p (purpose h) (number h) (epoch_number h) (record_read h) (known_read h) (is_owner h) (λ owns. not-both (is_granted h) (owner-granted h owns) fresh)
        (subst (λ (b : Bool). Suits (purpose h) b (is_owner h)) fresh (suited p h is (ap before_write at))) none
    by HasWritten at may = absurd (cc (sym (written-granted p h at) ∙ fresh))
    by _ at may = absurd (cc)

-- so it is of one that holds no number
abbrev IsFresh : Settings → List Event → Type 0
IsFresh p h = is_granted h ≡ false → is_control_of (inside p h) ≡ true

-- no other act comes
not-fresh : (p : Settings) (h : List Event) (w : Want) → next p h ≡ w → is_control w ≡ false → IsFresh p h → is_granted h ≡ false → ⊥
not-fresh p h w is busy fresh none = absurd (cc (sym (ap is_control is ∙ busy) ∙ control-next p h (inside p h) (fresh none)))

-- none of them may fail
fails-not : (w : Want) → may_fail w ≡ true → is_control w ≡ false
fails-not w may = grind (arith, common_steps)

-- after a CTLREAD one comes
read-control : (p : Settings) (h : List Event) (held : ControlRecord) (known : Known) → is_control_of (inside p (ControlRead held known ∷ h)) ≡ true
read-control p h held known = grind (arith, common_steps)

-- each event keeps it
fresh-step : (p : Settings) (h : List Event) (e : Event) → IsHistory p h → Comes p h e → IsFresh p h → IsFresh p (e ∷ h)
fresh-step p h StartedActive is comes fresh = absurd comes
fresh-step p h StartedStandby is comes fresh = absurd comes
fresh-step p h Ticked is comes fresh = fresh
fresh-step p h Abended is comes fresh = fresh
fresh-step p h (Replied go at) is comes fresh = fresh
fresh-step p h (Commanded command at) is comes fresh = fresh
fresh-step p h (Exited answer at) is comes fresh = fresh
fresh-step p h Reserved is comes fresh = λ none. refl
fresh-step p h (ControlRead held known) is comes fresh = λ none. read-control p h held known
fresh-step p h (ControlWritten w) is comes fresh = λ none. absurd (cc)
fresh-step p h Released is comes fresh = λ none. released-control p h is comes none
fresh-step p h (DecisionMade known at d) is comes fresh = λ none. absurd (not-fresh p h want.Decide comes.0 refl fresh none)
fresh-step p h (FirstBlockRead block keys) is comes fresh = λ none. absurd (not-fresh p h (want.LogRead comes.0) comes.1 refl fresh none)
fresh-step p h (BlockRead block) is comes fresh = λ none. absurd (not-fresh p h (want.LogRead comes.0) comes.1 refl fresh none)
fresh-step p h (ActFailed tried at) is comes fresh = λ none. absurd (not-fresh p h tried comes.0 (fails-not tried comes.1) fresh none)
fresh-step p h (EndedAs reason) is comes fresh = absurd comes
fresh-step p h e is comes fresh = λ none. absurd (not-fresh p h (next p h) refl (ap is_control comes) fresh none)

-- **a job that holds no number has such an act inside**
pub fresh-inside : (p : Settings) (h : List Event) → IsHistory p h → is_granted h ≡ false → is_control_of (inside p h) ≡ true
fresh-inside p h is = induct IsFresh (λ p none. refl) (λ p none. refl) fresh-step p h is
