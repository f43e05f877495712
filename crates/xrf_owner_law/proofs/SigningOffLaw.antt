-- An owner that has not signed off is the running one, and who has signed off has its sign-off due still, of every run.
use Rattle.std.proofs.Common.{Bool, true, ◌≡◌, List, is_some, arith, not, ℕ, ◌&&◌, false, refl, ◌||◌, None, Option, Some, subst, sym, ◌∙◌, ap, ◌∷◌, [], IfSome}
use Rattle.std.proofs.lemmas.Grind.{common_steps}
use Rattle.std.proofs.lemmas.Bool.{and_parts}
use Rattle.xrf_base.specs.declared.site.Site.{Site}
use Rattle.xrf_ctl.specs.Control.{ControlRecord}
use Rattle.xrf_ctl.specs.declared.parts.OwnerState.TheVariants.{Running}
use Rattle.xrf_cavm.specs.declared.known.Known.{Known}
use Rattle.xrf_cavm.specs.Record.{owner_is}
use Rattle.xrf_cavm.specs.Writes.{sign_off}
use Rattle.xrf_history.proofs.Phases.{HasWritten, Over, Phase, phase, HasRead, NextIn, may_release}
use Rattle.xrf_history.specs.Reserving.{Purpose, purpose, sign_off_due, SignOff, known_read, record_by_purpose, record_read}
use Rattle.xrf_history.proofs.Purposes.{is_sign_off, Suits}
use Rattle.xrf_history.specs.Events.{Event, ControlRead, ControlWritten, Released, Reserved, StartedActive, StartedStandby}
use Rattle.xrf_history.specs.declared.settings.Settings.{Settings}
use Rattle.xrf_history.specs.Progress.{has_signed_off, is_active}
use Rattle.xrf_history.proofs.SigningOff.{IsOffFor, due-stays, purpose-due, purpose-off}
use Rattle.xrf_history.proofs.Writes.{Wrote}
use Rattle.xrf_history.specs.Notices.{epoch_number}
use Rattle.xrf_history.specs.Holding.{number, is_granted, is_owner}
use Rattle.xrf_history.specs.Next.{after_control_read, next, after_release, record_for}
use Rattle.xrf_history.proofs.PhaseLaws.{next-inside, phase-next, releases-none, releases-phase, write-phase}
use Rattle.xrf_history.proofs.Histories.{Comes, is_started}
use Rattle.xrf_history.proofs.Tests.{or-right}
use Rattle.xrf_history.specs.declared.want.Want.TheVariants as want
use Rattle.xrf_trace.proofs.EachJob.{Fact, Kept, each-job}
use Rattle.xrf_trace.specs.Scenario.{settings, Scen}
use Rattle.xrf_trace.specs.declared.entry.Entry.{Entry}
use Rattle.xrf_trace.specs.Runs.{IsRun}
use Rattle.xrf_trace.specs.Jobs.{hist}
use Rattle.xrf_trace.proofs.Paths.{history-at}
use Rattle.xrf_trace.proofs.Moves.{IsHanded}
use Rattle.xrf_trace.specs.Devices.{control}
use Rattle.xrf_trace.specs.Words.{confirmed, who_at}
use Rattle.xrf_trace.proofs.Sites.{running-at}
use Rattle.xrf_trace.specs.OneUpdater.{running_owner}
use Rattle.xrf_owner_law.specs.Owner.{IsOwner}
use Rattle.xrf_owner_law.proofs.RuleLaw.{sign-off-gives}
use Rattle.xrf_owner_law.specs.Views.{is_over}
use Rattle.xrf_owner_law.proofs.Invariant.{job-at}
use Rattle.xrf_owner_law.proofs.DropLaw.{not-written}
use Rattle.xrf_owner_law.proofs.WritesOfRuns.{writes-by}
use Rattle.xrf_owner_law.proofs.StayingLaw.{ends-at}

-- a job with a purpose to sign off has signed off once it has written, and once it is over; and then it is due still
pub record Signing (f : Phase) (q : Purpose) (off due : Bool) : Type 0 where
  pub written : f ≡ HasWritten → is_sign_off q ≡ true → off ≡ true
  pub over : f ≡ Over → is_sign_off q ≡ true → off ≡ true
  pub lasts : off ≡ true → due ≡ true

-- of a history
abbrev SignsBy : Settings → List Event → Type 0
SignsBy p h = Signing (phase p h) (purpose h) (has_signed_off h) (is_some (sign_off_due h))

-- as a fact of each job
abbrev Signs : Fact
Signs s c k x h = SignsBy (settings s x) h

-- its write
signs-write : (p : Settings) (q : Purpose) (me : ℕ) (c w : ControlRecord) (known : Known) → Wrote p q me c known w → IsOffFor q
    → is_sign_off q ≡ true → not (owner_is w Running) ≡ true
signs-write p q me c w known did off is = grind (arith, common_steps)

-- a write of an owner that runs and doesn't sign off leaves it running
stays-write : (p : Settings) (q : Purpose) (me : ℕ) (c w : ControlRecord) (known : Known) (x : Site) (granted : Bool) → Wrote p q me c known w
    → IsOwner c x me → Suits q granted true
    → granted ≡ true → not (owner_is w Running) ≡ true → is_sign_off q ≡ true
stays-write p q me c w known x granted did runs suits is off = grind (arith, common_steps)

-- two tests that are met
and-of : (a b : Bool) → a ≡ true → b ≡ true → (a && b) ≡ true
and-of a b first second = grind (arith, common_steps)

-- who signs off is an owner
suits-owner : (q : Purpose) (granted owner : Bool) → Suits q granted owner → is_sign_off q ≡ true → owner ≡ true
suits-owner q granted owner suits is = grind (arith, common_steps)

-- what it is after its write
lasts-write : (before owner off due signs : Bool) → (before ≡ true → due ≡ true) → (owner ≡ true → off ≡ true → signs ≡ true)
    → (signs ≡ true → due ≡ true) → (before || (owner && off)) ≡ true
    → due ≡ true
lasts-write true owner off due signs lasts stays purposed is = lasts refl
lasts-write false owner off due signs lasts stays purposed is = let parts = and_parts owner off is in purposed (stays parts.0 parts.1)

-- its RELEASE
not-none : (o : Option ControlRecord) → is_some o ≡ true → o ≡ None → ⊥
not-none None some none = absurd (cc)
not-none (Some w) some none = absurd (cc)

-- a sign-off has a record to write
gives-off : (s : Scen) (t : List Entry) (x : Site) (h : List Event) (q : Purpose) → IsRun s t → hist s t x ≡ Some h
    → phase (settings s x) h ≡ HasRead → purpose h ≡ q → is_sign_off q ≡ true
    → record_by_purpose (settings s x) q (number h) (epoch_number h) (record_read h) (known_read h) ≡ None → ⊥
gives-off s t x h (SignOff state) is here at purposed off none =
    not-none (sign_off (record_read h) (number h) state) (sign-off-gives s t x h state is here at purposed) none
gives-off s t x h _ is here at purposed off none = absurd (cc)

-- who releases after a sign-off has signed off
release-signs : (s : Scen) (t : List Entry) (x : Site) (h : List Event) (f : Phase) → IsRun s t → hist s t x ≡ Some h → phase (settings s x) h ≡ f
    → may_release f ≡ true
    → next (settings s x) h ≡ want.Release → SignsBy (settings s x) h → is_sign_off (purpose h) ≡ true → has_signed_off h ≡ true
release-signs s t x h HasRead is here at may releases signing off =
    let p = settings s x in
    absurd (gives-off s t x h (purpose h) is here at refl off
    (releases-none (record_for p h)
    (sym (next-inside p h (after_control_read p h) (subst (NextIn p h) at (phase-next p h (history-at s t x h is here)))) ∙ releases)))
release-signs s t x h HasWritten is here at may releases signing off = signing.written at off
release-signs s t x h _ is here at may releases signing off = absurd (cc)

-- each event keeps it
own-signs : (s : Scen) (t : List Entry) (x : Site) (h : List Event) (made : Event) → IsRun s t → hist s t x ≡ Some h → Comes (settings s x) h made
    → IsHanded s t x h made
    → SignsBy (settings s x) h → SignsBy (settings s x) (made ∷ h)
own-signs s t x h StartedActive is here comes given signing = absurd comes
own-signs s t x h StartedStandby is here comes given signing = absurd comes
own-signs s t x h Reserved is here comes given signing = record { written = λ at. absurd (cc); over = λ at. absurd (cc); lasts = signing.lasts }
own-signs s t x h (ControlRead held known) is here comes given signing = record { written = λ at. absurd (cc); over = λ at. absurd (cc); lasts = signing.lasts }
own-signs s t x h (ControlWritten w) is here comes given signing =
    let p = settings s x in
    let job = job-at s t x h is here in
    let wrote = writes-by s t x h w is here comes in
    let read = (write-phase p h w (history-at s t x h is here) comes).0 in
    record {
      written = λ at off.
          or-right (has_signed_off h) (is_owner h && not (owner_is w Running))
          (and-of (is_owner h) (not (owner_is w Running)) (suits-owner (purpose h) (is_granted h) (is_owner h) wrote.suits off)
          (signs-write p (purpose h) (number h) (control t) w (known_read h) wrote.did (purpose-off h) off));
      over = λ at. absurd (cc);
      lasts = lasts-write (has_signed_off h) (is_owner h) (not (owner_is w Running)) (is_some (sign_off_due h)) (is_sign_off (purpose h)) signing.lasts
          (λ owner off.
          stays-write p (purpose h) (number h) (control t) w (known_read h) x (is_granted h) wrote.did
          (job.stands.runs owner (ap (λ (f : Phase). is_over f (purpose h)) read))
          (subst (λ (b : Bool). Suits (purpose h) (is_granted h) b) owner wrote.suits) (job.stands.is_granted owner) off)
          (purpose-due h);
    }
own-signs s t x h Released is here comes given signing =
    let p = settings s x in
    record {
      written = λ at. absurd (not-written (after_release p h) at);
      over = λ over off.
          release-signs s t x h (phase p h) is here refl (releases-phase p h (history-at s t x h is here) comes) comes signing off;
      lasts = signing.lasts;
    }
own-signs s t x h made is here comes given signing =
    record { written = signing.written; over = signing.over; lasts = λ off. due-stays h made (signing.lasts off) }

-- of a START
signs-born : (s : Scen) (c : ControlRecord) (k : ℕ → Bool) (x : Site) (made : Event) → is_started made ≡ true → Signs s c k x (made ∷ [])
signs-born s c k x StartedActive started = record { written = λ at. absurd (cc); over = λ at. absurd (cc); lasts = λ off. absurd (cc) }
signs-born s c k x StartedStandby started = record { written = λ at. absurd (cc); over = λ at. absurd (cc); lasts = λ off. absurd (cc) }
signs-born s c k x _ started = absurd (cc)

-- each kind of move keeps it
signs-kept : Kept Signs
signs-kept = record {
  born = signs-born;
  ticked = λ s c k x h holds. holds;
  confirms = λ s c k x h n holds. holds;
  own = own-signs;
  beside = λ s t x h g w is here writes there holds. holds;
}

-- who has written to sign off has signed off, and then it is due still, of every run
signs-at : (s : Scen) (t : List Entry) (x : Site) (h : List Event) → IsRun s t → hist s t x ≡ Some h → SignsBy (settings s x) h
signs-at s t x h is here = subst (λ (job : Option (List Event)). IfSome job (Signs s (control t) (confirmed t) x)) here (each-job Signs signs-kept s t is x)

-- an owner that has not signed off is not over
not-signed : (a b : Bool) → (a && not b) ≡ true → (a ≡ true) × (b ≡ false)
not-signed a b is = grind (arith, common_steps)

-- an owner that does not sign off is not over
not-over : (f : Phase) (q : Purpose) (off : Bool) → off ≡ false → (f ≡ HasWritten → is_sign_off q ≡ true → off ≡ true) → (f ≡ Over → off ≡ true)
    → is_over f q ≡ false
not-over HasWritten q off stays written over = not-true (is_sign_off q) (λ is. cc (sym stays ∙ written refl is))
  where
    not-true : (b : Bool) → (b ≡ true → ⊥) → b ≡ false
    not-true true is = absurd (is refl)
    not-true false is = refl
not-over Over q off stays written over = absurd (cc (sym stays ∙ over refl))
not-over _ q off stays written over = refl

-- **an active is the Running owner of its site, of every run**
pub writer : (s : Scen) (t : List Entry) (x : Site) (h : List Event) → IsRun s t → hist s t x ≡ Some h → is_active h ≡ true
    → (control t).owner ≡ running_owner (who_at x) (number h)
writer s t x h is here works =
    let p = settings s x in
    let parts = not-signed (is_owner h) (has_signed_off h) works in
    let signing = signs-at s t x h is here in
    (job-at s t x h is here).stands.runs parts.0
    (not-over (phase p h) (purpose h) (has_signed_off h) parts.1 signing.written (λ over. signing.over over ((ends-at s t x h is here).over over parts.0)))
    ∙ sym (running-at x (number h))

-- who has signed off has its sign-off due still
pub off-due : (s : Scen) (t : List Entry) (x : Site) (h : List Event) → IsRun s t → hist s t x ≡ Some h → has_signed_off h ≡ true
    → is_some (sign_off_due h) ≡ true
off-due s t x h is here off = (signs-at s t x h is here).lasts off
