-- The acts under the reserve, counted from the CTLREAD.
use Rattle.std.proofs.Common.{List, Option, None, Some, ℕ, is_some, true, ◌≡◌, ◌≤◌, not, ◌&&◌, arith, ◌+◌, ap, ◌∙◌, Bool, if◌then◌else◌, false, sym, refl, subst, ◌∷◌}
use Rattle.std.proofs.lemmas.Grind.{common_steps}
use Rattle.xrf_ctl.specs.Control.{ControlRecord}
use Rattle.xrf_cavm.specs.declared.known.Known.{Known}
use Rattle.xrf_history.specs.Events.{Event, ControlWritten, Abended, ActFailed, BlockRead, Commanded, ControlRead, DecisionMade, EndedAs, Exited, FirstBlockRead, Released, Replied, Reserved, StartedActive, StartedStandby, Ticked}
use Rattle.xrf_history.specs.declared.settings.Settings.{Settings}
use Rattle.xrf_history.specs.Reserving.{known_read, purpose, record_by_purpose, record_read, end_by_purpose, Purpose, purpose_now}
use Rattle.xrf_history.specs.Holding.{number, is_granted, is_owner}
use Rattle.xrf_history.specs.declared.want.EndWhy.{EndWhy}
use Rattle.xrf_history.proofs.Phases.{Fresh, HasRead, HasWritten, Held, Outside, Over, Phase, phase, is_work, released, may_release, NextIn, before_write, is_end_of}
use Rattle.xrf_history.specs.declared.want.Want.{Want}
use Rattle.xrf_history.specs.Next.{end_next, inside, next, after_control_read, write_next, or_boundary, record_for}
use Rattle.xrf_history.specs.Progress.{has_read, made_since_read}
use Rattle.xrf_history.specs.Notices.{is_drop, epoch_number}
use Rattle.xrf_history.proofs.Histories.{IsHistory, Comes, induct}
use Rattle.xrf_history.proofs.PhaseLaws.{work-phase, next-inside, phase-next, releases-none, write-phase, fails-work, releases-phase}
use Rattle.xrf_history.proofs.Purposes.{Suits, suited}
use Rattle.xrf_history.proofs.Holding.{owner-granted}
use Rattle.xrf_history.specs.declared.want.Want.TheVariants as want

-- what it writes, and how it ends, for a purpose other than a drop
abbrev pub to_write : Settings → List Event → Option ControlRecord
to_write p h = record_by_purpose p (purpose h) (number h) 0 (record_read h) (known_read h)

-- and how it ends
abbrev pub to_end : Settings → List Event → Option EndWhy
to_end p h = end_by_purpose p (purpose h) (number h) (record_read h) (known_read h)

-- the acts from the CTLREAD to the RELEASE
abbrev pub acts_to_release : Option ControlRecord → ℕ
acts_to_release None = 1
acts_to_release (Some written) = 2

-- how many acts were made since the CTLREAD, by the phase
abbrev pub Stage : Option ControlRecord → Option EndWhy → (made : ℕ) → Option Want → Phase → Type 0
Stage writes ends made act Fresh = ⊥
Stage writes ends made act Held = ⊥
Stage writes ends made act HasRead = made ≡ 0
Stage writes ends made act HasWritten = (made ≡ 1) × (is_some writes ≡ true)
Stage writes ends made act Over = (made ≡ acts_to_release writes) × (act ≡ end_next ends)
Stage writes ends made act Outside = (acts_to_release writes ≤ made) × (end_next ends ≡ None)

-- so it is of a job that has read, but for a drop
abbrev pub HasStage : Settings → List Event → Type 0
HasStage p h = (not (is_drop (purpose h)) && has_read h) ≡ true → Stage (to_write p h) (to_end p h) (made_since_read h) (inside p h) (phase p h)

-- work outside the reserve keeps it
stage-work : (writes : Option ControlRecord) (ends : Option EndWhy) (made : ℕ) (act act' : Option Want) (f : Phase) → f ≡ Outside → Stage writes ends made act f
    → Stage writes ends (made + 1) act' f
stage-work writes ends made act act' Outside is at = (omega (arith, at.0), at.1)
stage-work writes ends made act act' _ is at = absurd (cc)

-- so does an act of work
worked : (p : Settings) (h : List Event) (w : Want) (act act' : Option Want) → IsHistory p h → next p h ≡ w → is_work w ≡ true
    → Stage (to_write p h) (to_end p h) (made_since_read h) act (phase p h) → Stage (to_write p h) (to_end p h) (made_since_read h + 1) act' (phase p h)
worked p h w act act' is comes work at =
    stage-work (to_write p h) (to_end p h) (made_since_read h) act act' (phase p h) (work-phase p h is (ap is_work comes ∙ work)) at

-- the number counts for those who hold one
same-number : (p : Settings) (q : Purpose) (granted owner : Bool) (n last : ℕ) (c : ControlRecord) (known : Known) → Suits q granted owner
    → (owner ≡ true → granted ≡ true)
    → (record_by_purpose p q (if granted then n else last) 0 c known ≡ record_by_purpose p q n 0 c known) ×
    (end_by_purpose p q (if granted then n else last) c known ≡ end_by_purpose p q n c known)
same-number p q granted owner n last c known suits is_granted = grind (arith, common_steps)

-- but for a drop the epoch does not count
pub same-epoch : (p : Settings) (q : Purpose) (n epoch : ℕ) (c : ControlRecord) (known : Known) → is_drop q ≡ false
    → record_by_purpose p q n epoch c known ≡ record_by_purpose p q n 0 c known
same-epoch p q n epoch c known no_drop = grind (arith, common_steps)

-- after a RELEASE, by whether ENDED follows
release-by : (writes : Option ControlRecord) (ends : Option EndWhy) (made : ℕ) (o : Option Want) → end_next ends ≡ o → made ≡ acts_to_release writes
    → Stage writes ends made o (released o)
release-by writes ends made None is count = (omega (arith, count), is)
release-by writes ends made (Some w) is count = (count, sym is)

-- how many acts were made up to the RELEASE
release-count : (writes : Option ControlRecord) (ends : Option EndWhy) (made : ℕ) (act : Option Want) (f : Phase) → Stage writes ends made act f
    → may_release f ≡ true
    → (f ≡ HasRead → writes ≡ None) → made + 1 ≡ acts_to_release writes
release-count None ends made act HasRead at may none = omega (arith, at)
release-count (Some w) ends made act HasRead at may none = absurd (cc (none refl))
release-count None ends made act HasWritten at may none = absurd (cc (at.1))
release-count (Some w) ends made act HasWritten at may none = omega (arith, at.0)
release-count writes ends made act _ at may none = absurd (cc)

-- a RELEASE right after the CTLREAD writes nothing
pub read-none : (p : Settings) (h : List Event) → IsHistory p h → next p h ≡ want.Release → is_drop (purpose h) ≡ false → phase p h ≡ HasRead
    → to_write p h ≡ None
read-none p h is comes no_drop at =
    sym (same-epoch p (purpose h) (number h) (epoch_number h) (record_read h) (known_read h) no_drop)
    ∙ releases-none (record_for p h) (sym (next-inside p h (after_control_read p h) (subst (NextIn p h) at (phase-next p h is))) ∙ comes)

-- the first of two tests
no-drop : (drop read : Bool) → (not drop && read) ≡ true → drop ≡ false
no-drop false read is = refl
no-drop true read is = absurd (cc)

-- both of two tests
pub has-both : (drop read : Bool) → drop ≡ false → read ≡ true → (not drop && read) ≡ true
has-both drop read no_drop has = grind (arith, common_steps)

-- a record that is there
has-some : (o : Option ControlRecord) (w : ControlRecord) → o ≡ Some w → is_some o ≡ true
has-some o w is = ap (λ (q : Option ControlRecord). is_some q) is

-- after the CTLWRITE
stage-written : (p : Settings) (h : List Event) (w : ControlRecord) → IsHistory p h → next p h ≡ want.CtlWrite w → is_drop (purpose h) ≡ false
    → Stage (to_write p h) (to_end p h) (made_since_read h) (inside p h) (phase p h)
    → Stage (to_write p (ControlWritten w ∷ h)) (to_end p (ControlWritten w ∷ h)) (made_since_read h + 1) (Some want.Release) HasWritten
stage-written p h w is comes no_drop at =
    let wrote = write-phase p h w is comes in
    let none : made_since_read h ≡ 0 = subst (Stage (to_write p h) (to_end p h) (made_since_read h) (inside p h)) wrote.0 at in
    let suits = suited p h is (ap before_write wrote.0) in
    let same = (same-number p (purpose h) (is_granted h) (is_owner h) (number h) w.last (record_read h) (known_read h) suits (owner-granted h)).0 in (
      omega (arith, none),
      has-some (to_write p (ControlWritten w ∷ h)) w
          (same ∙ sym (same-epoch p (purpose h) (number h) (epoch_number h) (record_read h) (known_read h) no_drop) ∙ wrote.1),
    )

-- each event keeps it
stage-step : (p : Settings) (h : List Event) (e : Event) → IsHistory p h → Comes p h e → HasStage p h → HasStage p (e ∷ h)
stage-step p h StartedActive is comes at = absurd comes
stage-step p h StartedStandby is comes at = absurd comes
stage-step p h Ticked is comes at = at
stage-step p h Abended is comes at = at
stage-step p h (Replied go n) is comes at = at
stage-step p h (Commanded command n) is comes at = at
stage-step p h (Exited answer n) is comes at = at
stage-step p h Reserved is comes at = λ has. absurd (cc (sym (no-read (is_drop (purpose_now h))) ∙ has))
  where
    no-read : (b : Bool) → (not b && false) ≡ false
    no-read true = refl
    no-read false = refl
stage-step p h (ControlRead held known) is comes at = λ has. refl
stage-step p h (ControlWritten w) is comes at = λ has. stage-written p h w is comes (no-drop (is_drop (purpose h)) (has_read h) has) (at has)
stage-step p h Released is comes at = λ has.
    release-by (to_write p h) (to_end p h) (made_since_read h + 1) (end_next (to_end p h)) refl
    (release-count (to_write p h) (to_end p h) (made_since_read h) (inside p h) (phase p h) (at has) (releases-phase p h is comes)
    (read-none p h is comes (no-drop (is_drop (purpose h)) (has_read h) has)))
stage-step p h (DecisionMade known n decision) is comes at = λ has. worked p h want.Decide (inside p h) None is comes.0 refl (at has)
stage-step p h (FirstBlockRead block keys) is comes at = λ has. worked p h (want.LogRead comes.0) (inside p h) None is comes.1 refl (at has)
stage-step p h (BlockRead block) is comes at = λ has. worked p h (want.LogRead comes.0) (inside p h) None is comes.1 refl (at has)
stage-step p h (ActFailed tried n) is comes at = λ has. worked p h tried (inside p h) None is comes.0 (fails-work tried comes.1) (at has)
stage-step p h (EndedAs reason) is comes at = absurd comes
stage-step p h e is comes at = λ has. worked p h (next p h) (inside p h) (inside p (e ∷ h)) is refl (ap is_work comes) (at has)

-- the acts since the CTLREAD are counted by the phase
pub stages : (p : Settings) (h : List Event) → IsHistory p h → HasStage p h
stages p h is = induct HasStage (λ p. λ has. absurd (cc)) (λ p. λ has. absurd (cc)) stage-step p h is

-- what comes next under the reserve
abbrev pub WantIn : Option ControlRecord → Option EndWhy → Phase → Want → Type 0
WantIn writes ends HasRead w = w ≡ write_next writes
WantIn writes ends HasWritten w = w ≡ want.Release
WantIn writes ends Over w = end_next ends ≡ Some w
WantIn writes ends _ w = Unit {0}

-- where ENDED is due it is the next act
over-want : (p : Settings) (h : List Event) (o : Option Want) → is_end_of o ≡ true → o ≡ Some (or_boundary p h o)
over-want p h None is = absurd (cc)
over-want p h (Some w) is = refl

-- under the reserve the next act is so
pub want-in : (p : Settings) (h : List Event) (f : Phase) → is_drop (purpose h) ≡ false → NextIn p h f
    → Stage (to_write p h) (to_end p h) (made_since_read h) (inside p h) f → WantIn (to_write p h) (to_end p h) f (next p h)
want-in p h HasRead no_drop at stage =
    next-inside p h (after_control_read p h) at
    ∙ ap write_next (same-epoch p (purpose h) (number h) (epoch_number h) (record_read h) (known_read h) no_drop)
want-in p h HasWritten no_drop at stage = next-inside p h want.Release at
want-in p h Over no_drop at stage = sym stage.1 ∙ over-want p h (inside p h) at
want-in p h _ no_drop at stage = tt

-- the ENDED that is due
pub ends-want : (reason : EndWhy) (w : Want) → Some (want.Ended reason) ≡ Some w → w ≡ want.Ended reason
ends-want reason w is = grind (arith, common_steps)
