-- How a job ends: as its purpose says, or at a boundary as one that was dropped.
use Rattle.std.proofs.Common.{◌≡◌, ℕ, ◌+◌, Bool, true, false, List, [], ◌∷◌, Option, Some, None, is_none, refl, subst, arith, if◌then◌else◌}
use Rattle.std.proofs.lemmas.Grind.{common_steps}
use Rattle.xrf_exit.specs.declared.Notice.{Notice}
use Rattle.xrf_ctl.specs.declared.parts.OwnerState.{OwnerState}
use Rattle.xrf_ctl.specs.declared.parts.Cause.{Cause}
use Rattle.xrf_ctl.specs.Control.{ControlRecord}
use Rattle.xrf_cavm.specs.declared.known.Known.{Known}
use Rattle.xrf_cavm.specs.declared.grants.Grant.{Grant}
use Rattle.xrf_cavm.specs.declared.grants.Grant.TheVariants as grant
use Rattle.xrf_cavm.specs.Grants.{grant_active, grant_standby}
use Rattle.xrf_cavm.specs.Writes.{start_takeover}
use Rattle.xrf_history.specs.declared.settings.Settings.{Settings}
use Rattle.xrf_history.specs.declared.want.EndWhy.{EndWhy}
use Rattle.xrf_history.specs.declared.want.EndWhy.TheVariants as end
use Rattle.xrf_history.specs.declared.want.Want.{Want}
use Rattle.xrf_history.specs.declared.want.Want.TheVariants as want
use Rattle.xrf_history.specs.Events.{Event, Ticked, Abended, Replied, Commanded, Exited, MessageRead, MessageClosed, LogLooked, LogClosed, LogOpened, KeyLooked, RecordRead, RecordUndone, Given, ControlRead, Released}
use Rattle.xrf_history.specs.Holding.{is_owner, number}
use Rattle.xrf_history.specs.Notices.{notice}
use Rattle.xrf_history.specs.Reserving.{Purpose, SignOnActive, SignOnStandby, SignOff, DropAlternate, Leave, StartTakeover, GoThrough, purpose, record_read, known_read, end_by_purpose, end_of_grant, sign_off_due, leaves, start_due}
use Rattle.xrf_history.specs.Rows.{boundary, owner_row, owner_works, alternate_next, alternate_row, alternate_starts, lines_left, lines_issued}
use Rattle.xrf_history.specs.Next.{inside, next, or_boundary, end_for, end_next}
use Rattle.xrf_history.proofs.Histories.{IsHistory}
use Rattle.xrf_history.proofs.Phases.{is_end, is_end_of}
use Rattle.xrf_conduct_law.proofs.Causes.{is_named, named}

-- an ENDED that is due inside the sequence is the one that the purpose gives
abbrev EndsFor : Option EndWhy → Option Want → Type 0
EndsFor ends (Some (want.Ended reason)) = ends ≡ Some reason
EndsFor ends _ = Unit {0}

-- so it is where nothing that is due is an ENDED
plain-ends : (ends : Option EndWhy) (o : Option Want) → is_end_of o ≡ false → EndsFor ends o
plain-ends ends (Some (want.Ended reason)) plain = absurd (cc)
plain-ends ends (Some _) plain = tt
plain-ends ends None plain = tt

-- after a RELEASE
release-ends : (ends : Option EndWhy) → EndsFor ends (end_next ends)
release-ends None = tt
release-ends (Some reason) = refl

-- an ENDED that is due inside the sequence is the one of the purpose
inside-ends : (p : Settings) (h : List Event) → EndsFor (end_for p h) (inside p h)
inside-ends p [] = tt
inside-ends p (Ticked ∷ h) = inside-ends p h
inside-ends p (Abended ∷ h) = inside-ends p h
inside-ends p (Replied go n ∷ h) = inside-ends p h
inside-ends p (Commanded command n ∷ h) = inside-ends p h
inside-ends p (Exited answer n ∷ h) = inside-ends p h
inside-ends p (Released ∷ h) = release-ends (end_for p h)
inside-ends p (MessageRead k slot ∷ h) = plain-ends (end_for p h) (inside p (MessageRead k slot ∷ h)) (grind (arith, common_steps))
inside-ends p (MessageClosed k ∷ h) = plain-ends (end_for p h) (inside p (MessageClosed k ∷ h)) (grind (arith, common_steps))
inside-ends p (LogLooked k gate ∷ h) = plain-ends (end_for p h) (inside p (LogLooked k gate ∷ h)) (grind (arith, common_steps))
inside-ends p (LogClosed k ∷ h) = plain-ends (end_for p h) (inside p (LogClosed k ∷ h)) (grind (arith, common_steps))
inside-ends p (LogOpened k rec ∷ h) = plain-ends (end_for p h) (inside p (LogOpened k rec ∷ h)) (grind (arith, common_steps))
inside-ends p (KeyLooked k gate ∷ h) = plain-ends (end_for p h) (inside p (KeyLooked k gate ∷ h)) (grind (arith, common_steps))
inside-ends p (RecordRead k slot ∷ h) = plain-ends (end_for p h) (inside p (RecordRead k slot ∷ h)) (grind (arith, common_steps))
inside-ends p (RecordUndone k before ∷ h) = plain-ends (end_for p h) (inside p (RecordUndone k before ∷ h)) (grind (arith, common_steps))
inside-ends p (Given item ∷ h) = plain-ends (end_for p h) (inside p (Given item ∷ h)) (grind (arith, common_steps))
inside-ends p (ControlRead held known ∷ h) =
    plain-ends (end_for p (ControlRead held known ∷ h)) (inside p (ControlRead held known ∷ h)) (grind (arith, common_steps))
inside-ends p (e ∷ h) = tt

-- an owner does not end at a boundary
works-stays : (p : Settings) (h : List Event) → is_end (owner_works p h) ≡ false
works-stays p h = grind (arith, common_steps)

-- whatever is due of it
owner-stays : (p : Settings) (h : List Event) (state : Option OwnerState) (told : Option Notice) → is_end (owner_row p h state told) ≡ false
owner-stays p h (Some state) told = refl
owner-stays p h None (Some told) = refl
owner-stays p h None None = works-stays p h

-- an ENDED at a boundary is that of an alternate that was dropped
abbrev EndsDropped : Option EndWhy → Want → Type 0
EndsDropped leaving (want.Ended reason) = (reason ≡ end.Dropped) × (leaving ≡ Some end.Dropped)
EndsDropped leaving _ = Unit {0}

-- where none comes nothing is said
none-ends : (leaving : Option EndWhy) (w : Want) → is_end w ≡ false → EndsDropped leaving w
none-ends leaving (want.Ended reason) plain = absurd (cc)
none-ends leaving _ plain = tt

-- no ENDED comes of an alternate that does not leave
starts-stays : (p : Settings) (h : List Event) (start : Option Cause) → is_end (alternate_starts p h start) ≡ false
starts-stays p h start = grind (arith, common_steps)

-- an alternate that leaves ends at a boundary where it was dropped
row-ends : (p : Settings) (h : List Event) (reason : Option EndWhy) → EndsDropped reason (alternate_row p h reason)
row-ends p h None = none-ends None (alternate_starts p h (start_due h)) (starts-stays p h (start_due h))
row-ends p h (Some end.Dropped) = (refl, refl)
row-ends p h (Some _) = tt

-- so does each job that ends there
boundary-ends : (p : Settings) (h : List Event) → EndsDropped (leaves h) (boundary p h)
boundary-ends p h = by (is_owner h)
  where
    lines : (b : Bool) → EndsDropped (leaves h) (if b then want.Clt (lines_issued h + 1) else alternate_row p h (leaves h))
    lines true = tt
    lines false = row-ends p h (leaves h)

    by : (b : Bool) → EndsDropped (leaves h) (if b then owner_row p h (sign_off_due h) (notice h) else alternate_next p h)
    by true = none-ends (leaves h) (owner_row p h (sign_off_due h) (notice h)) (owner-stays p h (sign_off_due h) (notice h))
    by false = lines (lines_left p h)

-- no purpose but a leave of one that was dropped gives such an end
abbrev IsNoDrop : Option EndWhy → Type 0
IsNoDrop (Some end.Dropped) = ⊥
IsNoDrop _ = Unit {0}

-- a sign-on that is not granted gives none
grant-named : (g : Grant) → IsNoDrop (end_of_grant g)
grant-named (grant.Granted written) = tt
grant-named (grant.Present inc) = tt
grant-named grant.NoActive = tt
grant-named grant.Format = tt

-- nor does another purpose
purpose-named : (p : Settings) (q : Purpose) (n : ℕ) (c : ControlRecord) (known : Known) → is_named q ≡ true → IsNoDrop (end_by_purpose p q n c known)
purpose-named p SignOnActive n c known is = grant-named (grant_active c p.site known p.level)
purpose-named p SignOnStandby n c known is = grant-named (grant_standby c p.site known p.level)
purpose-named p (SignOff state) n c known is = tt
purpose-named p DropAlternate n c known is = tt
purpose-named p (Leave end.Dropped) n c known is = absurd (cc)
purpose-named p (Leave _) n c known is = tt
purpose-named p (StartTakeover cause) n c known is = by (is_none (start_takeover c n cause))
  where
    by : (b : Bool) → IsNoDrop (if b then Some end.Abandoned else None)
    by true = tt
    by false = tt
purpose-named p GoThrough n c known is = tt

-- how a job ends: inside its sequence as its purpose says, at a boundary as one that was dropped
pub data Ends (ends leaving : Option EndWhy) (reason : EndWhy) : Type 0 where
  AsSaid : ends ≡ Some reason → Ends ends leaving reason
  AsDropped : reason ≡ end.Dropped → leaving ≡ Some end.Dropped → Ends ends leaving reason

-- **an ENDED is that of the purpose, or that of one that was dropped**
pub ends-so : (p : Settings) (h : List Event) (reason : EndWhy) → next p h ≡ want.Ended reason → Ends (end_for p h) (leaves h) reason
ends-so p h reason is = by (inside p h) (inside-ends p h) is
  where
    by : (o : Option Want) → EndsFor (end_for p h) o → or_boundary p h o ≡ want.Ended reason → Ends (end_for p h) (leaves h) reason
    by None ends is =
        let dropped : EndsDropped (leaves h) (want.Ended reason) = subst (EndsDropped (leaves h)) is (boundary-ends p h) in
        AsDropped dropped.0 dropped.1
    by (Some w) ends is =
        let said : EndsFor (end_for p h) (Some (want.Ended reason)) = subst (λ (v : Want). EndsFor (end_for p h) (Some v)) is ends in AsSaid said

-- **the purpose never says that a job was dropped**
pub never-dropped : (p : Settings) (h : List Event) → IsHistory p h → end_for p h ≡ Some end.Dropped → ⊥
never-dropped p h is ends = subst IsNoDrop ends (purpose-named p (purpose h) (number h) (record_read h) (known_read h) (named p h is))
