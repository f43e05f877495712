-- Each act of an alternate under the reserve leads on in its course: those of its start, and those of its through.
use Rattle.std.proofs.Common.{◌≡◌, ℕ, ◌+◌, ◌≤◌, Bool, true, false, List, ◌∷◌, Some, None, is_some, refl, ap, ◌∙◌, arith}
use Rattle.std.proofs.lemmas.Grind.{common_steps}
use Rattle.xrf_ctl.specs.declared.parts.OwnerState.TheVariants.{OffNormal}
use Rattle.xrf_ctl.specs.declared.parts.Cause.{Cause}
use Rattle.xrf_ctl.specs.declared.parts.Level.{Level}
use Rattle.xrf_ctl.specs.Control.{ControlRecord, of_parts}
use Rattle.xrf_cavm.specs.Record.{is_alt, owner_is, owner_may_run, is_owner as names_owner}
use Rattle.xrf_cavm.specs.Writes.{as_owner}
use Rattle.xrf_cavm.specs.Grants.{owner_format}
use Rattle.xrf_cavm.specs.declared.known.Known.{Known}
use Rattle.xrf_cavm.specs.declared.decisions.Decision.TheVariants as decision
use Rattle.xrf_cavm.specs.declared.decisions.Waiting.TheVariants as waiting
use Rattle.xrf_cavm.specs.declared.decisions.Decided.TheVariants.{Alternate, Waiting}
use Rattle.xrf_history.specs.declared.settings.Settings.{Settings}
use Rattle.xrf_history.specs.declared.want.Want.{Want}
use Rattle.xrf_history.specs.declared.want.Want.TheVariants as want
use Rattle.xrf_history.specs.Events.{Event, Reserved, ControlRead, ControlWritten, Released}
use Rattle.xrf_history.specs.Holding.{number, is_granted, is_owner, has_started_takeover}
use Rattle.xrf_history.specs.Notices.{notice, epoch_number, is_drop}
use Rattle.xrf_history.specs.Reserving.{Purpose, StartTakeover, GoThrough, purpose, purpose_now, leaves, open_decision, start_in, is_through_decision, record_read, record_by_purpose}
use Rattle.xrf_history.specs.Next.{write_next, after_release}
use Rattle.xrf_history.specs.Rows.{has_signalled}
use Rattle.xrf_progress.proofs.Course.{Ground, kept, Goes, lag, IsAlternate, IsNamed, IsAlone, InSequence, Course, StartHeld, StartRead, AtRelease, ThroughHeld, ThroughRead, Owning, Restart, Written, RoundDue, Restarting, Outer}
use Rattle.xrf_progress.proofs.Rounds.{rests-course}

-- the record with its taking
abbrev pub taken : ControlRecord → ℕ → Cause → ControlRecord
taken c me why = record c { taking = Some (record { inc = me; cause = why }) }

-- the RESERVE after DECIDE START is for the start
start-purpose : (h : List Event) (why : Cause) → is_granted h ≡ true → is_owner h ≡ false → leaves h ≡ None
    → open_decision h ≡ Some (Alternate (decision.Start why)) → purpose_now h ≡ StartTakeover why
start-purpose h why granted no_owner stays opened = grind (arith, common_steps)

-- and the one after DECIDE THROUGH for the through
through-purpose : (h : List Event) → is_granted h ≡ true → is_owner h ≡ false → leaves h ≡ None → open_decision h ≡ Some (Waiting waiting.Through)
    → purpose_now h ≡ GoThrough
through-purpose h granted no_owner stays opened = grind (arith, common_steps)

-- a RESERVE leaves what is kept, but for a drop that is due
reserved-kept : (g : Ground) (waits : Bool) (h : List Event) → IsAlternate g waits (kept h) → IsAlternate g waits (kept (Reserved ∷ h))
reserved-kept g waits h a = record {
  granted = a.granted;
  no_owner = a.no_owner;
  started = a.started;
  mine = a.mine;
  no_off = a.no_off;
  no_told = a.no_told;
  no_drop = refl;
  fresh = a.fresh;
  changed = a.changed;
}

-- the RESERVE of the start
pub start-reserve : (p : Settings) (g : Ground) (n : ℕ) (c : ControlRecord) (h : List Event) (why : Cause) → InSequence g false n h
    → open_decision h ≡ Some (Alternate (decision.Start why)) → Course p g n c false (Reserved ∷ h)
start-reserve p g n c h why q opened =
    StartHeld (record { alternate = reserved-kept g false h q.alternate; stays_on = q.stays_on; looked = q.looked; few = q.few })
    refl why refl refl (start-purpose h why q.alternate.granted q.alternate.no_owner q.stays_on opened)

-- the RESERVE of the through
pub through-reserve : (p : Settings) (g : Ground) (n : ℕ) (c : ControlRecord) (h : List Event) → InSequence g true n h
    → open_decision h ≡ Some (Waiting waiting.Through) → Course p g n c true (Reserved ∷ h)
through-reserve p g n c h q opened =
    ThroughHeld (record { alternate = reserved-kept g true h q.alternate; stays_on = q.stays_on; looked = q.looked; few = q.few })
    refl refl (through-purpose h q.alternate.granted q.alternate.no_owner q.stays_on opened)

-- the start writes the record with its taking
pub start-writes : (p : Settings) (q : Purpose) (n me epoch : ℕ) (c : ControlRecord) (known : Known) (why : Cause) → q ≡ StartTakeover why → n ≡ me
    → is_alt c me ≡ true → owner_is c OffNormal ≡ false → write_next (record_by_purpose p q n epoch c known) ≡ want.CtlWrite (taken c me why)
start-writes p q n me epoch c known why is mine named not_normal = grind (arith, common_steps)

-- the CTLREAD of the start
pub start-read : (p : Settings) (g : Ground) (n : ℕ) (c : ControlRecord) (h : List Event) (known : Known) (why : Cause) → InSequence g false n h
    → open_decision h ≡ None → purpose h ≡ StartTakeover why → IsNamed g.me false c → Course p g n c false (ControlRead c known ∷ h)
start-read p g n c h known why q closed is over =
    StartRead (record { alternate = q.alternate; stays_on = q.stays_on; looked = q.looked; few = q.few })
    refl why
    (ap (λ (w : Want). Some w) (start-writes p (purpose h) (number h) g.me (epoch_number h) c known why is q.alternate.mine over.named (over.not_normal refl)))
    closed is refl

-- the record of the through
abbrev through_record : Level → ControlRecord → ControlRecord
through_record level c = of_parts (owner_format level c.format) c.last (as_owner c.alt) None None

-- it is what the through writes
through-written : (p : Settings) (q : Purpose) (n me epoch : ℕ) (c : ControlRecord) (known : Known) → q ≡ GoThrough → n ≡ me → is_alt c me ≡ true
    → is_some c.taking ≡ true → owner_may_run c known ≡ false
    → write_next (record_by_purpose p q n epoch c known) ≡ want.CtlWrite (through_record p.level c)
through-written p q n me epoch c known is mine named taking over = grind (arith, common_steps)

-- it names the alternate as the owner
through-names : (level : Level) (c : ControlRecord) (me : ℕ) → is_alt c me ≡ true → names_owner (through_record level c) me ≡ true
through-names level c me named = grind (arith, common_steps)

-- so the through writes a record that names it, alone
pub through-writes : (p : Settings) (q : Purpose) (n me epoch : ℕ) (c : ControlRecord) (known : Known) → q ≡ GoThrough → n ≡ me → is_alt c me ≡ true
    → is_some c.taking ≡ true → owner_may_run c known ≡ false
    → (w : ControlRecord) × (write_next (record_by_purpose p q n epoch c known) ≡ want.CtlWrite w) × (names_owner w me ≡ true) × IsAlone w
through-writes p q n me epoch c known is mine named taking over = (
  through_record p.level c,
  through-written p q n me epoch c known is mine named taking over,
  through-names p.level c me named,
  record { no_alt = refl; no_taking = refl },
)

-- the CTLREAD of the through
pub through-read : (p : Settings) (g : Ground) (n : ℕ) (c : ControlRecord) (h : List Event) (known : Known) → InSequence g true n h
    → purpose h ≡ GoThrough → IsNamed g.me true c → owner_may_run c known ≡ false → Course p g n c true (ControlRead c known ∷ h)
through-read p g n c h known q is over may =
    let writes = through-writes p (purpose h) (number h) g.me (epoch_number h) c known is q.alternate.mine over.named (over.taking refl) may in
    ThroughRead (record { alternate = q.alternate; stays_on = q.stays_on; looked = q.looked; few = q.few })
    refl writes.0 (ap (λ (w : Want). Some w) writes.1) is writes.2 writes.3

-- a CTLWRITE of one that holds a number leaves the number
written-granted : (h : List Event) (w : ControlRecord) → is_granted h ≡ true → number (ControlWritten w ∷ h) ≡ number h
written-granted h w granted = grind (arith, common_steps)

-- with its taking written it is no owner
start-owner : (h : List Event) (c : ControlRecord) (me : ℕ) (why : Cause) → is_granted h ≡ true → is_owner h ≡ false → number h ≡ me → names_owner c me ≡ false
    → is_owner (ControlWritten (taken c me why) ∷ h) ≡ false
start-owner h c me why granted no_owner mine not_mine = grind (arith, common_steps)

-- and waits
start-waits : (h : List Event) (c : ControlRecord) (me : ℕ) (why : Cause) → is_granted h ≡ true → is_owner h ≡ false → number h ≡ me → names_owner c me ≡ false
    → has_started_takeover (ControlWritten (taken c me why) ∷ h) ≡ true
start-waits h c me why granted no_owner mine not_mine = grind (arith, common_steps)

-- after the RELEASE of such a start nothing is inside
start-ends : (p : Settings) (h : List Event) (why : Cause) (me : ℕ) → purpose h ≡ StartTakeover why → number h ≡ me → is_alt (record_read h) me ≡ true
    → owner_is (record_read h) OffNormal ≡ false → after_release p h ≡ None
start-ends p h why me is mine named not_normal = grind (arith, common_steps)

-- the CTLWRITE of the start
pub start-write : (p : Settings) (g : Ground) (n : ℕ) (c : ControlRecord) (h : List Event) (why : Cause) → InSequence g false n h
    → open_decision h ≡ None → purpose h ≡ StartTakeover why → record_read h ≡ c → IsNamed g.me false c
    → Course p g n (taken c g.me why) true (ControlWritten (taken c g.me why) ∷ h)
start-write p g n c h why q closed is read over =
    let a = q.alternate in
    let mine = written-granted h (taken c g.me why) a.granted ∙ a.mine in
    AtRelease (record {
      alternate = record {
        granted = refl;
        no_owner = start-owner h c g.me why a.granted a.no_owner a.mine over.not_mine;
        started = start-waits h c g.me why a.granted a.no_owner a.mine over.not_mine;
        mine = mine;
        no_off = a.no_off;
        no_told = a.no_told;
        no_drop = a.no_drop;
        fresh = a.fresh;
        changed = a.changed;
      };
      stays_on = q.stays_on;
      looked = q.looked;
      few = omega (arith, q.few);
    }) (λ tracks. absurd (cc)) (omega (arith, q.few)) refl
    (start-ends p (ControlWritten (taken c g.me why) ∷ h) why g.me is mine (ap (λ (r : ControlRecord). is_alt r g.me) read ∙ over.named)
    (ap (λ (r : ControlRecord). owner_is r OffNormal) read ∙ over.not_normal refl))
    (ap is_drop is) closed

-- the record with the taking names it still
pub taken-named : (me : ℕ) (c : ControlRecord) (why : Cause) → IsNamed me false c → IsNamed me true (taken c me why)
taken-named me c why over = record {
  named = over.named;
  owned = over.owned;
  not_mine = over.not_mine;
  not_normal = λ tracks. absurd (cc);
  taking = λ waits. refl;
}

-- a RELEASE that is none of a drop tells nothing
released-told : (h : List Event) → is_drop (purpose h) ≡ false → notice (Released ∷ h) ≡ notice h
released-told h no_drop = grind (arith, common_steps)

-- the RELEASE of a start, or of a sign-on
pub release-step : (p : Settings) (g : Ground) (waits : Bool) (n : ℕ) (c : ControlRecord) (h : List Event) → InSequence g waits n h → Goes p g waits h
    → n + lag waits + 1 ≤ g.by → after_release p h ≡ None → is_drop (purpose h) ≡ false → open_decision h ≡ None → Course p g n c waits (Released ∷ h)
release-step p g waits n c h q goes few ends no_drop closed =
    let a = q.alternate in
    rests-course p g waits n c (Released ∷ h) (record {
      granted = a.granted;
      no_owner = a.no_owner;
      started = a.started;
      mine = a.mine;
      no_off = a.no_off;
      no_told = released-told h no_drop ∙ a.no_told;
      no_drop = a.no_drop;
      fresh = a.fresh;
      changed = a.changed;
    }) goes ends q.stays_on (ap start_in closed) (ap is_through_decision closed) q.looked few (has_signalled h) refl

-- the through is written: it is the owner
through-owner : (h : List Event) (w : ControlRecord) (me : ℕ) → is_granted h ≡ true → number h ≡ me → names_owner w me ≡ true → is_owner (ControlWritten w ∷ h) ≡ true
through-owner h w me granted mine names = grind (arith, common_steps)

-- after the RELEASE of a through nothing is inside
through-ends : (p : Settings) (h : List Event) → purpose h ≡ GoThrough → after_release p h ≡ None
through-ends p h is = grind (arith, common_steps)

-- the CTLWRITE of the through
pub through-write : (p : Settings) (g : Ground) (n : ℕ) (h : List Event) (w : ControlRecord) → InSequence g true n h → purpose h ≡ GoThrough
    → names_owner w g.me ≡ true → Restart p g n (ControlWritten w ∷ h)
through-write p g n h w q is names =
    let a = q.alternate in
    Written (record {
      owning = record {
        granted = refl;
        owner = through-owner h w g.me a.granted a.mine names;
        no_off = a.no_off;
        no_told = a.no_told;
        no_drop = a.no_drop;
        fresh = a.fresh;
      };
      mine = written-granted h w a.granted ∙ a.mine;
      few = omega (arith, q.few);
    }) refl (through-ends p (ControlWritten w ∷ h) is) (ap is_drop is)

-- the RELEASE of one that became the owner
pub owner-release : (p : Settings) (g : Ground) (n : ℕ) (h : List Event) → Owning g n h → after_release p h ≡ None → is_drop (purpose h) ≡ false
    → Restart p g n (Released ∷ h)
owner-release p g n h o ends no_drop = by (has_signalled h) refl
  where
    owning : Owning g n (Released ∷ h)
    owning =
        let a = o.owning in
        record {
          owning = record {
            granted = a.granted;
            owner = a.owner;
            no_off = a.no_off;
            no_told = released-told h no_drop ∙ a.no_told;
            no_drop = a.no_drop;
            fresh = a.fresh;
          };
          mine = o.mine;
          few = o.few;
        }

    by : (b : Bool) → has_signalled h ≡ b → Restart p g n (Released ∷ h)
    by true signalled = Restarting owning signalled (Outer ends)
    by false signalled = RoundDue owning ends signalled
