-- Start by cause, of every run.
use Rattle.std.proofs.Common.{Bool, true, ◌≡◌, ℕ, [], ◌∷◌, List, Some, subst, sym, IfSome, Option, false, ◌++◌, None, arith, is_none, if◌then◌else◌, refl, inl, inr, ◌⊎◌, ◌∙◌, ap, slice_get, suc, is_some, not, ◌&&◌}
use Rattle.std.proofs.lemmas.Grind.{common_steps}
use Rattle.xrf_base.specs.declared.site.Site.{Site}
use Rattle.xrf_ctl.specs.Control.{ControlRecord}
use Rattle.xrf_ctl.specs.declared.parts.Cause.{Cause}
use Rattle.xrf_ctl.specs.declared.parts.Taking.{Taking}
use Rattle.xrf_cavm.specs.Record.{is_alt}
use Rattle.xrf_cavm.specs.Writes.{leave, start_takeover}
use Rattle.xrf_cavm.specs.declared.known.Known.{Known}
use Rattle.xrf_history.proofs.Starting.{AreRuled, Before, Since, starts, ruled-read}
use Rattle.xrf_history.specs.Events.{Event, StartedActive, StartedStandby, ControlRead, ControlWritten, DecisionMade, Released, Reserved}
use Rattle.xrf_history.proofs.Histories.{is_started, Comes, IsHistory, induct}
use Rattle.xrf_history.proofs.Writes.{AltRule, Wrote}
use Rattle.xrf_history.specs.Reserving.{or_else, Purpose, StartTakeover, end_by_purpose, record_by_purpose, last_decision, start_in, purpose, open_decision, known_read, record_read}
use Rattle.xrf_history.specs.declared.settings.Settings.{Settings}
use Rattle.xrf_history.specs.Notices.{is_drop}
use Rattle.xrf_history.specs.Progress.{has_read, has_read_since_decision, made_since_decision, made_since_read}
use Rattle.xrf_history.proofs.Phases.{phase, NextIn, HasRead, Phase, is_work, released, before_write}
use Rattle.xrf_history.proofs.StartPlaces.{AfterRead, AtDecision, AtReserve, PlaceOf, ready-reserves, places}
use Rattle.xrf_history.specs.Next.{next, after_release}
use Rattle.xrf_history.proofs.PhaseLaws.{next-inside, phase-next, work-phase}
use Rattle.xrf_history.specs.Holding.{number, has_started_takeover, is_granted, is_owner}
use Rattle.xrf_history.specs.declared.want.Want.{Want}
use Rattle.xrf_history.proofs.Decisions.{is_start, purposed}
use Rattle.xrf_history.proofs.Purposes.{IsCalled, Suits}
use Rattle.xrf_history.specs.declared.want.EndWhy.TheVariants as end
use Rattle.xrf_history.specs.declared.want.Want.TheVariants as want
use Rattle.xrf_trace.proofs.EachJob.{Fact, Kept, each-job}
use Rattle.xrf_trace.specs.Scenario.{Scen, settings}
use Rattle.xrf_trace.specs.declared.entry.Entry.{Entry}
use Rattle.xrf_trace.proofs.Moves.{IsHanded}
use Rattle.xrf_trace.specs.Runs.{IsRun}
use Rattle.xrf_trace.specs.Jobs.{hist}
use Rattle.xrf_trace.specs.declared.entry.Act.{Act}
use Rattle.xrf_trace.specs.StartByCause.{left_if, lets_start, start_read, start_sequence, GoesOn, StartsWhere, taking_of_start, taking_after, BringsOnly, StartsOnlyWhere, DecidesByCause, StartByCause}
use Rattle.xrf_trace.specs.NextIsDue.{IsNext}
use Rattle.xrf_trace.specs.Acts.{act_of, is_act}
use Rattle.xrf_trace.proofs.Paths.{history-at}
use Rattle.xrf_trace.specs.Each.{InPlace}
use Rattle.xrf_trace.proofs.AtSites.{made-at, where-so, at-site, each-of}
use Rattle.xrf_trace.specs.Words.{who_at, confirmed}
use Rattle.xrf_trace.specs.Devices.{control}
use Rattle.xrf_trace.specs.declared.entry.Act.TheVariants as act
use Rattle.xrf_owner_law.proofs.Invariant.{holds-at}
use Rattle.xrf_owner_law.proofs.DueActs.{acts_of, acts-due, at-due, due-in-place}
use Rattle.xrf_owner_law.proofs.TakingLaw.{Untaken, untaken}
use Rattle.xrf_owner_law.proofs.WritesOfRuns.{WritesAt, writes-made}
use Rattle.xrf_owner_law.proofs.DecisionLaw.{decides-by-cause}

-- the records that the jobs of a run were handed keep the rule
abbrev Ruled : Fact
Ruled s c k x h = AreRuled h

-- of a START
started-ruled : (s : Scen) (c : ControlRecord) (k : ℕ → Bool) (x : Site) (made : Event) → is_started made ≡ true → AreRuled (made ∷ [])
started-ruled s c k x StartedActive started = tt
started-ruled s c k x StartedStandby started = tt
started-ruled s c k x _ started = absurd (cc)

-- each event keeps it
made-ruled : (s : Scen) (t : List Entry) (x : Site) (h : List Event) (made : Event) → IsRun s t → hist s t x ≡ Some h → Comes (settings s x) h made
    → IsHanded s t x h made → AreRuled h
    → AreRuled (made ∷ h)
made-ruled s t x h (ControlRead held known) is here comes given ruled =
    (ruled, subst (λ (c : ControlRecord). AltRule c.owner c.alt) (sym given.0) (holds-at s t x is).rule.other)
made-ruled s t x h _ is here comes given ruled = ruled

-- each kind of move keeps it
ruled-kept : Kept Ruled
ruled-kept = record {
  born = started-ruled;
  ticked = λ s c k x h ruled. ruled;
  confirms = λ s c k x h n ruled. ruled;
  own = made-ruled;
  beside = λ s t x h g w is here writes there ruled. ruled;
}

-- each record that a job of a run read keeps the rule of places
pub ruled-at : (s : Scen) (t : List Entry) (x : Site) (h : List Event) → IsRun s t → hist s t x ≡ Some h → AreRuled h
ruled-at s t x h is here = subst (λ (job : Option (List Event)). IfSome job AreRuled) here (each-job Ruled ruled-kept s t is x)

-- the sequence of a start, from the CTLREAD on
abbrev start_tail : ControlRecord → ℕ → Cause → List Act
start_tail held n why =
    elim (lets_start held n) [
      | true ↦ act.CtlWrite (record held { taking = Some (record { inc = n; cause = why }) }) ∷ act.Release ∷ []
      | false ↦ left_if (is_alt held n) held ++ act.Release ∷ act.Ended end.Abandoned ∷ []
    ]

-- the acts of a start from the CTLREAD on
start-acts : (c : ControlRecord) (n : ℕ) (why : Cause) → AltRule c.owner c.alt
    → acts_of (or_else (start_takeover c n why) (leave c n)) (if is_none (start_takeover c n why) then Some end.Abandoned else None) ≡ start_tail c n why
start-acts c n why rule = grind (arith, common_steps)

-- they are those of the purpose
start-in : (p : Settings) (q : Purpose) (why : Cause) (n : ℕ) (c : ControlRecord) (known : Known) → q ≡ StartTakeover why → AltRule c.owner c.alt
    → (acts_of (record_by_purpose p q n 0 c known) (end_by_purpose p q n c known) ≡ start_tail c n why) × (is_drop q ≡ false)
start-in p q why n c known is rule =
    subst (λ (r : Purpose). (acts_of (record_by_purpose p r n 0 c known) (end_by_purpose p r n c known) ≡ start_tail c n why) × (is_drop r ≡ false)) (sym is)
    (start-acts c n why rule, refl)

-- a cause that is read since the decision is that of the last one
read-start : (h : List Event) (b : Bool) (why : Cause) → elim b [ true ↦ start_in (last_decision h) | false ↦ None ] ≡ Some why
    → (b ≡ true) × (start_in (last_decision h) ≡ Some why)
read-start h true why is = (refl, is)
read-start h false why is = absurd (cc)

-- a job that has read for the start that it decided
record InStart (h : List Event) (why : Cause) : Type 0 where
  pub purpose : purpose h ≡ StartTakeover why
  pub read : has_read h ≡ true

-- where a start has read since its decision, its purpose is that start
in-start : (p : Settings) (h : List Event) (why : Cause) → IsHistory p h → AreRuled h → start_read h ≡ Some why → InStart h why
in-start p h why is rules starts_it =
    let parts = read-start h (has_read_since_decision h) why starts_it in
    by parts.0 (starts p h is rules why parts.1).at
  where
    by : has_read_since_decision h ≡ true
        → (Before (open_decision h) (last_decision h) (has_read_since_decision h) (phase p h) ⊎ Since (open_decision h) (has_read_since_decision h)
        (has_read h) (purpose h) why)
        → InStart h why
    by read (inl before) = absurd (cc (sym read ∙ before.unread))
    by read (inr since) = record { purpose = since.purpose; read = since.has_read read }

-- what is due of a start, by where it stands
start-place : (s : Scen) (t : List Entry) (x : Site) (h : List Event) (why : Cause) → IsHistory (settings s x) h → AreRuled h
    → start_in (last_decision h) ≡ Some why → PlaceOf (settings s x) h
    → IsNext (slice_get (start_sequence (record_read h) (number h) why) (made_since_decision h)) (act_of s t x h (next (settings s x) h))
start-place s t x h why is rules last (AtDecision ready) =
    let p = settings s x in
    at-due (start_sequence (record_read h) (number h) why) (made_since_decision h) 0 (act_of s t x h (next p h)) ready.none_made
    (ap (act_of s t x h) (ready-reserves p h why last ready))
start-place s t x h why is rules last (AtReserve made at unread) =
    let p = settings s x in
    at-due (start_sequence (record_read h) (number h) why) (made_since_decision h) 1 (act_of s t x h (next p h)) made
    (ap (act_of s t x h) (next-inside p h want.CtlRead (subst (NextIn p h) at (phase-next p h is))))
start-place s t x h why is rules last (AfterRead made free since) =
    let p = settings s x in
    let o = act_of s t x h (next p h) in
    let in_it = in-start p h why is rules (ap (λ (b : Bool). elim b [ true ↦ start_in (last_decision h) | false ↦ None ]) since ∙ last) in
    let sequence = start-in p (purpose h) why (number h) (record_read h) (known_read h) in_it.purpose (ruled-read h rules) in
    at-due (start_sequence (record_read h) (number h) why) (made_since_decision h) (suc (suc (made_since_read h))) o made
    (subst (λ (list : List Act). IsNext (slice_get list (made_since_read h)) o) sequence.0 (acts-due s t x h is sequence.1 in_it.read))

-- what is due of a start is the next act
pub start-is-due : (s : Scen) (t : List Entry) (x : Site) (h : List Event) (why : Cause) → IsRun s t → hist s t x ≡ Some h
    → start_in (last_decision h) ≡ Some why
    → IsNext (slice_get (start_sequence (record_read h) (number h) why) (made_since_decision h)) (act_of s t x h (next (settings s x) h))
start-is-due s t x h why is here last =
    let p = settings s x in
    let path = history-at s t x h is here in
    let rules = ruled-at s t x h is here in
    start-place s t x h why path rules last (places p h path rules why last)

-- an act after DECIDE START stands in its place
goes-act : (s : Scen) (t : List Entry) (e : Entry) (x : Site) (h : List Event) (o : Option Cause) → IsRun s (e ∷ t) → e.who ≡ who_at x → hist s t x ≡ Some h
    → start_in (last_decision h) ≡ o → GoesOn h e.act o
goes-act s t e x h None is who here last = tt
goes-act s t e x h (Some why) is who here last =
    where-so (is_act e.act) (InPlace (start_sequence (record_read h) (number h) why) (made_since_decision h) e.act) (λ acts.
    due-in-place (start_sequence (record_read h) (number h) why) (made_since_decision h) (act_of s t x h (next (settings s x) h)) e.act
    (made-at s t e x h is acts who here).made
    (start-is-due s t x h why is.0 here last))

-- each act after DECIDE START stands in its place
pub starts-where : (s : Scen) (t : List Entry) (e : Entry) → IsRun s (e ∷ t) → StartsWhere s t e
starts-where s t e is = at-site s t e.who (λ x h. GoesOn h e.act (start_in (last_decision h)))
    (λ x h who here. goes-act s t e x h (start_in (last_decision h)) is who here refl)

-- a taking is brought by a start alone
abbrev has_read_it : Phase → Bool
has_read_it HasRead = true
has_read_it _ = false

-- a job that has read under the reserve has read since its decision
abbrev IsReadSince : Settings → List Event → Type 0
IsReadSince p h = has_read_it (phase p h) ≡ true → has_read_since_decision h ≡ true

-- each event keeps it
since-step : (p : Settings) (h : List Event) (e : Event) → IsHistory p h → Comes p h e → IsReadSince p h → IsReadSince p (e ∷ h)
since-step p h (ControlRead held known) is comes since = λ here. refl
since-step p h (DecisionMade known n decision) is comes since = λ here. absurd (cc (sym (ap has_read_it (work-phase p h is (ap is_work comes.0))) ∙ here))
since-step p h (ControlWritten w) is comes since = λ here. absurd (cc)
since-step p h Reserved is comes since = λ here. absurd (cc)
since-step p h Released is comes since = λ here. absurd (not-read (after_release p h) here)
  where
    not-read : (o : Option Want) → has_read_it (released o) ≡ true → ⊥
    not-read None same = absurd (cc)
    not-read (Some w) same = absurd (cc)
since-step p h StartedActive is comes since = absurd comes
since-step p h StartedStandby is comes since = absurd comes
since-step p h _ is comes since = since

-- of a history
read-since : (p : Settings) (h : List Event) → IsHistory p h → phase p h ≡ HasRead → has_read_since_decision h ≡ true
read-since p h is here = induct IsReadSince (λ p. λ here. absurd (cc)) (λ p. λ here. absurd (cc)) since-step p h is (ap has_read_it here)

-- a start that is let brings its own taking
brings-start : (p : Settings) (me : ℕ) (why : Cause) (c w : ControlRecord) (known : Known) → Wrote p (StartTakeover why) me c known w → AltRule c.owner c.alt
    → is_some w.taking ≡ true → (w.taking ≡ Some (record { inc = me; cause = why })) × (lets_start c me ≡ true)
brings-start p me why c w known did rule brings = grind (arith, common_steps)

-- any other write brings no taking
keeps-taking : (p : Settings) (q : Purpose) (me : ℕ) (c w : ControlRecord) (known : Known) → Wrote p q me c known w → is_start q ≡ false
    → is_some w.taking ≡ true → w.taking ≡ c.taking
keeps-taking p q me c w known did other brings = grind (arith, common_steps)

-- the taking of the start that is read
taking-of : (h : List Event) (w c : ControlRecord) (n : ℕ) (why : Cause) (read : Bool) → read ≡ true → start_in (last_decision h) ≡ Some why
    → w.taking ≡ Some (record { inc = n; cause = why }) → lets_start c n ≡ true
    → w.taking ≡ taking_of_start c n (elim read [ true ↦ start_in (last_decision h) | false ↦ None ])
taking-of h w c n why true read last taking lets =
    taking ∙ sym (ap (taking_of_start c n) last ∙ ap (λ (b : Bool). if b then Some (record { inc = n; cause = why }) else None) lets)
taking-of h w c n why false read last taking lets = absurd (cc)

-- a taking where none was read
after-none : (w c : ControlRecord) (started : Option Taking) → c.taking ≡ None → w.taking ≡ started → w.taking ≡ taking_after c started
after-none w c started none is = is ∙ sym (ap (λ (o : Option Taking). elim o [ None ↦ started | Some taking ↦ Some taking ]) none)

-- a taking that was read
after-some : (w c : ControlRecord) (started : Option Taking) → is_some w.taking ≡ true → w.taking ≡ c.taking → w.taking ≡ taking_after c started
after-some w c started some is = is ∙ by c.taking (ap (λ (o : Option Taking). is_some o) (sym is) ∙ some)
  where
    by : (o : Option Taking) → is_some o ≡ true → o ≡ elim o [ None ↦ started | Some taking ↦ Some taking ]
    by None none = absurd (cc)
    by (Some taking) there = refl

-- what a write brings, by its purpose
brings-by : (p : Settings) (h : List Event) (w : ControlRecord) (q : Purpose) → IsHistory p h → phase p h ≡ HasRead
    → Wrote p q (number h) (record_read h) (known_read h) w
    → IsCalled h q → AltRule (record_read h).owner (record_read h).alt → (is_start q ≡ true → (record_read h).taking ≡ None) → is_some w.taking ≡ true
    → w.taking ≡ taking_after (record_read h) (taking_of_start (record_read h) (number h) (start_read h))
brings-by p h w (StartTakeover why) is at did called rule none brings =
    let start = brings-start p (number h) why (record_read h) w (known_read h) did rule brings in
    after-none w (record_read h) (taking_of_start (record_read h) (number h) (start_read h)) (none refl)
    (taking-of h w (record_read h) (number h) why (has_read_since_decision h) (read-since p h is at) called start.0 start.1)
brings-by p h w q is at did called rule none brings =
    after-some w (record_read h) (taking_of_start (record_read h) (number h) (start_read h)) brings
    (keeps-taking p q (number h) (record_read h) w (known_read h) did refl brings)

-- where a start writes, the record read has no taking
tracks-now : (granted owner started : Bool) → granted ≡ true → owner ≡ false → (granted && not owner && started) ≡ false
    → (granted && not owner && not started) ≡ true
tracks-now granted owner started has none waits = grind (arith, common_steps)

-- who starts holds a number and is no owner
start-suits : (q : Purpose) (granted owner : Bool) → Suits q granted owner → is_start q ≡ true → (granted ≡ true) × (owner ≡ false)
start-suits q granted owner suits is = grind (arith, common_steps)

-- a tracking alternate reads no taking
untaken-read : (s : Scen) (t : List Entry) (e : Entry) (x : Site) (h : List Event) (w : ControlRecord) → IsRun s t → hist s t x ≡ Some h → WritesAt s t e x h w
    → is_start (purpose h) ≡ true → (record_read h).taking ≡ None
untaken-read s t e x h w is here at start =
    let p = settings s x in
    let place = start-suits (purpose h) (is_granted h) (is_owner h) at.written.suits start in
    let waits = (purposed p h at.path (ap before_write at.phase)).0 start in
    ap (λ (c : ControlRecord). c.taking) at.read
    ∙ subst (λ (job : Option (List Event)). IfSome job (Untaken s (control t) (confirmed t) x)) here (untaken s t is x)
    (tracks-now (is_granted h) (is_owner h) (has_started_takeover h) place.0 place.1 waits)

-- a write that has a taking has the one that it read, or the one of its start
brings-act : (s : Scen) (t : List Entry) (e : Entry) (x : Site) (h : List Event) (a : Act) → IsRun s (e ∷ t) → e.who ≡ who_at x → hist s t x ≡ Some h
    → e.act ≡ a → BringsOnly h a
brings-act s t e x h (act.CtlWrite w) is who here acts =
    where-so (is_some w.taking) (w.taking ≡ taking_after (record_read h) (taking_of_start (record_read h) (number h) (start_read h))) (λ brings.
    let at = writes-made s t e x h w is.0 (made-at s t e x h is (ap is_act acts) who here) acts in
    let p = settings s x in
    brings-by p h w (purpose h) at.path at.phase
    (subst (λ (c : ControlRecord). Wrote p (purpose h) (number h) c (known_read h) w) (sym at.read) at.written.did) at.called
    (ruled-read h (ruled-at s t x h is.0 here)) (untaken-read s t e x h w is.0 here at) brings)
brings-act s t e x h _ is who here acts = tt

-- so has each write of a run
pub starts-only-where : (s : Scen) (t : List Entry) (e : Entry) → IsRun s (e ∷ t) → StartsOnlyWhere s t e
starts-only-where s t e is = at-site s t e.who (λ x h. BringsOnly h e.act) (λ x h who here. brings-act s t e x h e.act is who here refl)

-- **start by cause, of every run**
pub start-by-cause : (s : Scen) (t : List Entry) → IsRun s t → StartByCause s t
start-by-cause s t is = record {
  decides = each-of s (DecidesByCause s) (decides-by-cause s) t is;
  starts = each-of s (StartsWhere s) (starts-where s) t is;
  only = each-of s (StartsOnlyWhere s) (starts-only-where s) t is;
}
