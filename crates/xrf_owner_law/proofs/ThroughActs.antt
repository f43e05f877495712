-- From DECIDE THROUGH on: what is due is the next act, and a record is given, of every run.
use Rattle.std.proofs.Common.{Some, arith, true, ℕ, ◌≡◌, false, refl, subst, sym, Bool, IfSome, List, Option, ap, ◌&&◌, ◌∙◌, ◌∷◌, [], slice_get, None, is_some}
use Rattle.std.proofs.lemmas.Grind.{common_steps}
use Rattle.std.proofs.lemmas.Bool.{and_parts}
use Rattle.xrf_base.specs.declared.site.Site.{Site}
use Rattle.xrf_ctl.specs.Control.{ControlRecord}
use Rattle.xrf_ctl.specs.declared.parts.Level.{Level}
use Rattle.xrf_cavm.specs.declared.known.Known.{Known}
use Rattle.xrf_cavm.specs.Writes.{let_through}
use Rattle.xrf_history.specs.Reserving.{GoThrough, record_by_purpose, Purpose, is_through_decision, open_decision, purpose, known_read, last_decision, record_read}
use Rattle.xrf_history.specs.declared.settings.Settings.{Settings}
use Rattle.xrf_history.proofs.Going.{lets_go, GoesWell, LetGo, AtDecision, AtRead, AtReserve, AtWrite, PlaceOf, ready-reserves, goes-on, goes-well}
use Rattle.xrf_history.specs.Notices.{is_drop, epoch_number}
use Rattle.xrf_history.specs.Events.{Event, ControlRead, StartedActive, StartedStandby, ControlWritten, Released, Reserved}
use Rattle.xrf_history.proofs.Phases.{Phase, before_write, phase, NextIn, HasRead, released}
use Rattle.xrf_history.proofs.Decisions.{is_go, purposed}
use Rattle.xrf_history.specs.Next.{next, after_control_read, write_next, after_release}
use Rattle.xrf_history.specs.Holding.{number}
use Rattle.xrf_history.proofs.Tests.{or-right}
use Rattle.xrf_history.proofs.PhaseLaws.{read-phase, next-inside, phase-next}
use Rattle.xrf_history.proofs.Histories.{Comes, is_started, IsHistory, induct}
use Rattle.xrf_history.specs.Progress.{made_since_decision}
use Rattle.xrf_history.proofs.Stages.{same-epoch}
use Rattle.xrf_history.specs.declared.want.Want.{Want}
use Rattle.xrf_history.specs.declared.want.Want.TheVariants as want
use Rattle.xrf_history.proofs.Going as going
use Rattle.xrf_trace.specs.ThroughByProof.{through_record, through_sequence, GoesThrough, ThroughWhere}
use Rattle.xrf_trace.specs.declared.entry.Entry.{Entry}
use Rattle.xrf_trace.specs.Runs.{IsRun}
use Rattle.xrf_trace.specs.Scenario.{Scen, settings}
use Rattle.xrf_trace.specs.Words.{confirmed, who_at}
use Rattle.xrf_trace.specs.Devices.{control}
use Rattle.xrf_trace.specs.Jobs.{hist, known_of}
use Rattle.xrf_trace.proofs.Paths.{history-at}
use Rattle.xrf_trace.proofs.Moves.{IsHanded}
use Rattle.xrf_trace.proofs.EachJob.{Fact, Kept, each-job}
use Rattle.xrf_trace.specs.NextIsDue.{IsNext}
use Rattle.xrf_trace.specs.Acts.{act_of, is_act}
use Rattle.xrf_trace.specs.Each.{InPlace}
use Rattle.xrf_trace.proofs.AtSites.{made-at, where-so, at-site}
use Rattle.xrf_owner_law.specs.Waiting.{Waits, is_gone, is_held, wait_view}
use Rattle.xrf_owner_law.proofs.WaitingLaw.{are-waiting, lets-all}
use Rattle.xrf_owner_law.proofs.DueActs.{at-due, past-due, due-in-place}

-- what it writes to go through
pub go-record : (p : Settings) (n : ℕ) (c : ControlRecord) (known : Known) → lets_go c n known ≡ true → c.alt ≡ Some (record { inc = n; site = p.site })
    → record_by_purpose p GoThrough n 0 c known ≡ Some (through_record p.site p.level n c)
go-record p n c known lets alt = grind (arith, common_steps)

-- the same, by its purpose
pub go-writes : (p : Settings) (q : Purpose) (n : ℕ) (c : ControlRecord) (known : Known) → q ≡ GoThrough → GoesWell p.site true c n known
    → (is_drop q ≡ false) × (record_by_purpose p q n 0 c known ≡ Some (through_record p.site p.level n c))
go-writes p q n c known is goes =
    subst (λ (r : Purpose). (is_drop r ≡ false) × (record_by_purpose p r n 0 c known ≡ Some (through_record p.site p.level n c))) (sym is)
    (refl, go-record p n c known goes.0 goes.1)

-- the records that a job of a run read to go through let it
go-well : (s : Scen) (t : List Entry) (x : Site) (h : List Event) (b : Bool) → IsRun s t → hist s t x ≡ Some h → next (settings s x) h ≡ want.CtlRead
    → is_go (purpose h) ≡ b
    → GoesWell x b (control t) (number h) (known_of t (control t))
go-well s t x h false is here comes go = tt
go-well s t x h true is here comes go =
    let p = settings s x in
    let path = history-at s t x h is here in
    let at = read-phase p h path comes in
    let waiting = (purposed p h path (ap before_write at)).1 go in
    let now = subst (λ (job : Option (List Event)). IfSome job (λ g. Waits (control t) (confirmed t) x (wait_view p g))) here
    (are-waiting s t is x) waiting (ap (λ (f : Phase). is_gone f (purpose h)) at) in (
      lets-all (control t) (confirmed t) x (number h) t now.alt now.taking
          (now.over (or-right (is_through_decision (open_decision h)) (is_held (phase p h) && is_go (purpose h))
          (ap (λ (f : Phase). is_held f && is_go (purpose h)) at ∙ go))),
      now.alt,
    )

-- each event keeps it
made-lets : (s : Scen) (t : List Entry) (x : Site) (h : List Event) (made : Event) → IsRun s t → hist s t x ≡ Some h → Comes (settings s x) h made
    → IsHanded s t x h made → LetGo x h
    → LetGo x (made ∷ h)
made-lets s t x h (ControlRead held known) is here comes given lets = (
  lets,
  subst (λ (c : ControlRecord). GoesWell x (is_go (purpose h)) c (number h) known) (sym given.0)
      (subst (λ (n : Known). GoesWell x (is_go (purpose h)) (control t) (number h) n) (sym given.1) (go-well s t x h (is_go (purpose h)) is here comes refl)),
)
made-lets s t x h _ is here comes given lets = lets

-- each record that a job read to go through lets it
abbrev Lets : Fact
Lets s c k x h = LetGo x h

-- of a START
started-lets : (s : Scen) (c : ControlRecord) (k : ℕ → Bool) (x : Site) (made : Event) → is_started made ≡ true → LetGo x (made ∷ [])
started-lets s c k x StartedActive started = tt
started-lets s c k x StartedStandby started = tt
started-lets s c k x _ started = absurd (cc)

-- each kind of move keeps it
lets-kept : Kept Lets
lets-kept = record {
  born = started-lets;
  ticked = λ s c k x h lets. lets;
  confirms = λ s c k x h n lets. lets;
  own = made-lets;
  beside = λ s t x h g w is here writes there lets. lets;
}

-- **each record that a job of a run read to go through lets it**
pub lets-at : (s : Scen) (t : List Entry) (x : Site) (h : List Event) → IsRun s t → hist s t x ≡ Some h → LetGo x h
lets-at s t x h is here = subst (λ (job : Option (List Event)). IfSome job (LetGo x)) here (each-job Lets lets-kept s t is x)

-- what is due of a through is the next act
pub go-due : (s : Scen) (t : List Entry) (x : Site) (h : List Event) → IsHistory (settings s x) h → is_through_decision (last_decision h) ≡ true
    → PlaceOf (settings s x) h
    → IsNext (slice_get (through_sequence x (settings s x).level (number h) (record_read h)) (made_since_decision h)) (act_of s t x h (next (settings s x) h))
go-due s t x h is through (AtDecision ready) =
    let p = settings s x in
    at-due (through_sequence x p.level (number h) (record_read h)) (made_since_decision h) 0 (act_of s t x h (next p h)) ready.none_made
    (ap (act_of s t x h) (ready-reserves p h through ready))
go-due s t x h is through (AtReserve count at purposed) =
    let p = settings s x in
    at-due (through_sequence x p.level (number h) (record_read h)) (made_since_decision h) 1 (act_of s t x h (next p h)) count
    (ap (act_of s t x h) (next-inside p h want.CtlRead (subst (NextIn p h) at (phase-next p h is))))
go-due s t x h is through (AtRead count at purposed lets alt) =
    let p = settings s x in
    let writes = go-writes p (purpose h) (number h) (record_read h) (known_read h) purposed (lets, alt) in
    at-due (through_sequence x p.level (number h) (record_read h)) (made_since_decision h) 2 (act_of s t x h (next p h)) count
    (ap (act_of s t x h) (next-inside p h (after_control_read p h) (subst (NextIn p h) at (phase-next p h is))
    ∙ ap write_next (same-epoch p (purpose h) (number h) (epoch_number h) (record_read h) (known_read h) writes.0 ∙ writes.1)))
go-due s t x h is through (AtWrite count at) =
    let p = settings s x in
    at-due (through_sequence x p.level (number h) (record_read h)) (made_since_decision h) 3 (act_of s t x h (next p h)) count
    (ap (act_of s t x h) (next-inside p h want.Release (subst (NextIn p h) at (phase-next p h is))))
go-due s t x h is through (going.Gone count) =
    past-due (through_sequence x (settings s x).level (number h) (record_read h)) (made_since_decision h) (act_of s t x h (next (settings s x) h)) count

-- an act after DECIDE THROUGH stands in its place
goes-act : (s : Scen) (t : List Entry) (e : Entry) (x : Site) (h : List Event) → IsRun s (e ∷ t) → e.who ≡ who_at x → hist s t x ≡ Some h
    → GoesThrough s x h e.act
goes-act s t e x h is who here =
    let p = settings s x in
    where-so (is_through_decision (last_decision h) && is_act e.act)
    (InPlace (through_sequence x p.level (number h) (record_read h)) (made_since_decision h) e.act) (λ holds.
    let parts = and_parts (is_through_decision (last_decision h)) (is_act e.act) holds in
    let made = made-at s t e x h is parts.1 who here in
    let path = history-at s t x h is.0 here in
    due-in-place (through_sequence x p.level (number h) (record_read h)) (made_since_decision h) (act_of s t x h (next p h)) e.act made.made
    (go-due s t x h path parts.0 (goes-on p h path (lets-at s t x h is.0 here) parts.0)))

-- so does each act of a run
pub through-where : (s : Scen) (t : List Entry) (e : Entry) → IsRun s (e ∷ t) → ThroughWhere s t e
through-where s t e is = at-site s t e.who (λ x h. GoesThrough s x h e.act) (λ x h who here. goes-act s t e x h is who here)

-- the record read is the one of the last CTLREAD, for the same purpose and number
abbrev ReadWell : Settings → List Event → Type 0
ReadWell p h = LetGo p.site h → phase p h ≡ HasRead → GoesWell p.site (is_go (purpose h)) (record_read h) (number h) (known_read h)

-- after a RELEASE nothing is read
not-read : (o : Option Want) → released o ≡ HasRead → ⊥
not-read None is = absurd (cc)
not-read (Some w) is = absurd (cc)

-- each event keeps it
well-step : (p : Settings) (h : List Event) (e : Event) → IsHistory p h → Comes p h e → ReadWell p h → ReadWell p (e ∷ h)
well-step p h StartedActive is comes well = absurd comes
well-step p h StartedStandby is comes well = absurd comes
well-step p h Reserved is comes well = λ let_go at. absurd (cc)
well-step p h (ControlRead held known) is comes well = λ let_go at. let_go.1
well-step p h (ControlWritten w) is comes well = λ let_go at. absurd (cc)
well-step p h Released is comes well = λ let_go at. absurd (not-read (after_release p h) at)
well-step p h _ is comes well = well

-- the record that is read to go through lets it
pub through-gives : (s : Scen) (t : List Entry) (x : Site) (h : List Event) → IsRun s t → hist s t x ≡ Some h → phase (settings s x) h ≡ HasRead
    → purpose h ≡ GoThrough → lets_go (record_read h) (number h) (known_read h) ≡ true
through-gives s t x h is here at purposed =
    (goes-well x (purpose h) (record_read h) (number h) (known_read h) purposed
    (induct ReadWell (λ p. λ let_go at. absurd (cc)) (λ p. λ let_go at. absurd (cc)) well-step (settings s x) h (history-at s t x h is here)
    (lets-at s t x h is here) at)).0

-- so there is a record to write
let-some : (c : ControlRecord) (n : ℕ) (known : Known) (level : Level) → lets_go c n known ≡ true → is_some (let_through c n known level) ≡ true
let-some c n known level lets = grind (arith, common_steps)

-- **after the CTLREAD of a through there is a record to write**
pub let-gives : (s : Scen) (t : List Entry) (x : Site) (h : List Event) → IsRun s t → hist s t x ≡ Some h → phase (settings s x) h ≡ HasRead
    → purpose h ≡ GoThrough → is_some (let_through (record_read h) (number h) (known_read h) (settings s x).level) ≡ true
let-gives s t x h is here at purposed =
    let-some (record_read h) (number h) (known_read h) (settings s x).level (through-gives s t x h is here at purposed)
