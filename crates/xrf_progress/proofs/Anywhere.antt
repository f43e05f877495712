-- Where an alternate stands at any moment its course begins.
use Rattle.std.proofs.Common.{◌==◌, ◌≡◌, ℕ, ◌+◌, ◌≤◌, ◌||◌, ◌&&◌, not, Bool, true, false, ◌⊎◌, inl, inr, List, Option, Some, None, is_some, refl, ap, ◌∙◌, sym, subst, arith}
use Rattle.std.proofs.lemmas.Grind.{common_steps}
use Rattle.xrf_base.specs.declared.site.Site.{Site}
use Rattle.xrf_ctl.specs.declared.parts.Alt.{Alt}
use Rattle.xrf_ctl.specs.declared.parts.Cause.{Cause}
use Rattle.xrf_ctl.specs.declared.parts.OwnerState.TheVariants.{OffNormal}
use Rattle.xrf_ctl.specs.Control.{ControlRecord}
use Rattle.xrf_cavm.specs.Record.{is_alt, inc_of_alt, owner_is, owner_may_run}
use Rattle.xrf_cavm.specs.Watch.{last_look}
use Rattle.xrf_cavm.specs.declared.decisions.Decided.{Decided}
use Rattle.xrf_cavm.specs.declared.decisions.Decided.TheVariants.{Alternate, Waiting}
use Rattle.xrf_cavm.specs.declared.decisions.Decision.TheVariants as decision
use Rattle.xrf_cavm.specs.declared.decisions.Waiting.TheVariants as waiting
use Rattle.xrf_history.specs.declared.settings.Settings.{Settings}
use Rattle.xrf_history.specs.declared.want.EndWhy.{EndWhy}
use Rattle.xrf_history.specs.declared.want.Want.{Want}
use Rattle.xrf_history.specs.declared.want.Want.TheVariants as want
use Rattle.xrf_history.specs.Events.{Event}
use Rattle.xrf_history.specs.Holding.{number, is_granted, is_owner, is_waiting, has_started_takeover}
use Rattle.xrf_history.specs.Looking.{change, record_seen, signal_seen, told_to_watch}
use Rattle.xrf_history.specs.Deciding.{mode_of}
use Rattle.xrf_history.specs.Notices.{epoch_number}
use Rattle.xrf_history.specs.Reserving.{Purpose, SignOnActive, SignOnStandby, SignOff, DropAlternate, Leave, StartTakeover, GoThrough, purpose, record_read, known_read, end_by_purpose, leaves, is_leaving, has_abandoned, open_decision, start_in, is_through_decision}
use Rattle.xrf_history.specs.Rows.{has_signalled}
use Rattle.xrf_history.specs.Next.{inside, end_for, end_next, after_control_read}
use Rattle.xrf_history.proofs.Histories.{IsHistory}
use Rattle.xrf_history.proofs.OwnersWork.{owner_acts, is_owner_act}
use Rattle.xrf_history.proofs.Phases.{Phase, phase, NextIn, HasRead, HasWritten, Over, before_write, has_reserve, may_release, is_end_of}
use Rattle.xrf_history.proofs.PhaseLaws.{phase-next, next-inside, read-phase, write-phase, releases-phase}
use Rattle.xrf_history.proofs.Purposes.{Suits, suited}
use Rattle.xrf_history.proofs.Decisions.{is_start, is_go, opened, purposed}
use Rattle.xrf_history.proofs.Silence.{is_looking_of}
use Rattle.xrf_trace.specs.declared.entry.Entry.{Entry}
use Rattle.xrf_trace.specs.Scenario.{Scen, settings, other}
use Rattle.xrf_trace.specs.Words.{now}
use Rattle.xrf_trace.specs.Devices.{control, sector1, sector2}
use Rattle.xrf_trace.specs.Jobs.{hist}
use Rattle.xrf_trace.specs.Runs.{IsRun}
use Rattle.xrf_trace.proofs.Paths.{history-at}
use Rattle.xrf_owner_law.specs.Waiting.{is_gone}
use Rattle.xrf_owner_law.proofs.Invariant.{job-at}
use Rattle.xrf_owner_law.proofs.LeavingLaw.{is_leave}
use Rattle.xrf_owner_law.proofs.ThroughActs.{through-gives}
use Rattle.xrf_owner_law.proofs.WaitingLaw.{waiting-now}
use Rattle.xrf_progress.specs.Takeovers.{CanDecide, CanGo}
use Rattle.xrf_progress.proofs.Course.{Way, Ground, kept, lag, IsAlternate, IsNamed, IsSet, HasLooked, SawSignal, HasSeen, InRound, InSequence, Course, AtSignal2, AtLook1, AtLook2, AtDecide, StartDue, StartHeld, StartRead, AtRelease, ThroughDue, ThroughHeld, ThroughRead}
use Rattle.xrf_progress.proofs.Alternates.{alternate-clean}
use Rattle.xrf_progress.proofs.Insides.{is_kind_of, inside-kind, not-reserve, end-over}
use Rattle.xrf_progress.proofs.Leaving.{IsLeaving, leaving-of}
use Rattle.xrf_progress.proofs.Resting.{tracks-granted, tracks-no_owner, tracks-not_started, waits-granted, waits-no_owner, waits-started}
use Rattle.xrf_progress.proofs.Rounds.{looks-of, rests-course}
use Rattle.xrf_progress.proofs.Seen.{seen-named, seen-normal, seen-owned, beside-owned, beside-not}
use Rattle.xrf_progress.proofs.Sequences.{taken, start-writes, through-writes}
use Rattle.xrf_progress.proofs.Standing.{same-number}

-- the ground of an alternate that is served from here on
abbrev pub ground_at : List Entry → Site → List Event → Way → (late by : ℕ) → Ground
ground_at t x h way late till = record {
  me = number h;
  way = way;
  from = now t;
  late = late;
  by = till;
  one = sector1 t (other x);
  two = sector2 t (other x);
}

-- an alternate that does not leave, waiting or not
pub record Stays (s : Scen) (t : List Entry) (x : Site) (h : List Event) (waits : Bool) : Type 0 where
  pub there : hist s t x ≡ Some h
  pub granted : is_granted h ≡ true
  pub no_owner : is_owner h ≡ false
  pub started : has_started_takeover h ≡ waits
  pub on : is_leaving h ≡ false

-- it does not leave
stays-of : (h : List Event) → is_leaving h ≡ false → leaves h ≡ None
stays-of h on = by (leaves h) (has_abandoned h) on
  where
    by : (o : Option EndWhy) (b : Bool) → (is_some o || b) ≡ false → o ≡ None
    by None b is = refl
    by (Some why) b is = absurd (cc)

-- it is the alternate of its ground
alternate-at : (s : Scen) (t : List Entry) (x : Site) (h : List Event) (waits : Bool) (g : Ground) → IsRun s t → Stays s t x h waits → number h ≡ g.me
    → change h ≤ g.late → IsAlternate g waits (kept h)
alternate-at s t x h waits g is stays mine changed =
    let clean = alternate-clean (settings s x) h (history-at s t x h is stays.there) stays.no_owner in
    record {
      granted = stays.granted;
      no_owner = stays.no_owner;
      started = stays.started;
      mine = mine;
      no_off = clean.no_off;
      no_told = clean.no_told;
      no_drop = clean.no_drop;
      fresh = clean.fresh;
      changed = changed;
    }

-- before its write the purpose of one that stays is to start where it tracks, and to go through where it waits
abbrev ForStart : List Event → Type 0
ForStart h = (why : Cause) × (purpose h ≡ StartTakeover why)

-- who starts a takeover does not wait, and who does not wait starts one
waits-not : (h : List Event) → has_started_takeover h ≡ false → is_waiting h ≡ true → ⊥
waits-not h none waits = absurd (cc (sym (waits-started h waits) ∙ none))

-- one that has started one waits
waits-is : (h : List Event) → is_granted h ≡ true → is_owner h ≡ false → has_started_takeover h ≡ true → is_waiting h ≡ true
waits-is h granted no_owner started = grind (arith, common_steps)

-- one that tracks reserves to start
start-purpose : (s : Scen) (t : List Entry) (x : Site) (h : List Event) → IsRun s t → Stays s t x h false → before_write (phase (settings s x) h) ≡ true → ForStart h
start-purpose s t x h is stays early = by (purpose h) refl (suited p h path early)
  where
    p : Settings
    p = settings s x

    path : IsHistory p h
    path = history-at s t x h is stays.there

    by : (q : Purpose) → purpose h ≡ q → Suits (purpose h) (is_granted h) (is_owner h) → ForStart h
    by SignOnActive same suits = absurd (cc (sym (subst (λ (r : Purpose). Suits r (is_granted h) (is_owner h)) same suits) ∙ stays.granted))
    by SignOnStandby same suits = absurd (cc (sym (subst (λ (r : Purpose). Suits r (is_granted h) (is_owner h)) same suits) ∙ stays.granted))
    by (SignOff state) same suits = absurd (cc (sym (subst (λ (r : Purpose). Suits r (is_granted h) (is_owner h)) same suits) ∙ stays.no_owner))
    by DropAlternate same suits = absurd (cc (sym (subst (λ (r : Purpose). Suits r (is_granted h) (is_owner h)) same suits) ∙ stays.no_owner))
    by (Leave reason) same suits = absurd (cc (sym (ap is_some (stays-of h stays.on)) ∙ (leaving-of p h path).leave early (ap is_leave same)))
    by GoThrough same suits = absurd (waits-not h stays.started ((purposed p h path early).1 (ap is_go same)))
    by (StartTakeover why) same suits = (why, same)

-- and one that waits to go through
through-purpose : (s : Scen) (t : List Entry) (x : Site) (h : List Event) → IsRun s t → Stays s t x h true → before_write (phase (settings s x) h) ≡ true → purpose h ≡ GoThrough
through-purpose s t x h is stays early = by (purpose h) refl (suited p h path early)
  where
    p : Settings
    p = settings s x

    path : IsHistory p h
    path = history-at s t x h is stays.there

    by : (q : Purpose) → purpose h ≡ q → Suits (purpose h) (is_granted h) (is_owner h) → purpose h ≡ GoThrough
    by SignOnActive same suits = absurd (cc (sym (subst (λ (r : Purpose). Suits r (is_granted h) (is_owner h)) same suits) ∙ stays.granted))
    by SignOnStandby same suits = absurd (cc (sym (subst (λ (r : Purpose). Suits r (is_granted h) (is_owner h)) same suits) ∙ stays.granted))
    by (SignOff state) same suits = absurd (cc (sym (subst (λ (r : Purpose). Suits r (is_granted h) (is_owner h)) same suits) ∙ stays.no_owner))
    by DropAlternate same suits = absurd (cc (sym (subst (λ (r : Purpose). Suits r (is_granted h) (is_owner h)) same suits) ∙ stays.no_owner))
    by (Leave reason) same suits = absurd (cc (sym (ap is_some (stays-of h stays.on)) ∙ (leaving-of p h path).leave early (ap is_leave same)))
    by (StartTakeover why) same suits =
        absurd (cc (sym ((purposed p h path early).0 (ap is_start same)) ∙ waits-is h stays.granted stays.no_owner stays.started))
    by GoThrough same suits = same

-- a RELEASE comes next where it has written, or read and has nothing to write
releases-at : (p : Settings) (h : List Event) → IsHistory p h → inside p h ≡ Some want.Release
    → (phase p h ≡ HasWritten) ⊎ ((phase p h ≡ HasRead) × (Some (after_control_read p h) ≡ Some want.Release))
releases-at p h path at = by (phase p h) refl (releases-phase p h path (next-inside p h want.Release at))
  where
    by : (f : Phase) → phase p h ≡ f → may_release f ≡ true → (phase p h ≡ HasWritten) ⊎ ((phase p h ≡ HasRead) × (Some (after_control_read p h) ≡ Some want.Release))
    by HasWritten same may = inl same
    by HasRead same may = inr (same, sym (subst (NextIn p h) same (phase-next p h path)) ∙ at)
    by _ same may = absurd (cc)

-- with its record written, one that stays goes on after the RELEASE
release-at : (s : Scen) (t : List Entry) (x : Site) (h : List Event) (waits : Bool) (g : Ground) → IsRun s t → Stays s t x h waits → InSequence g waits 0 h
    → (waits ≡ false → IsSet (settings s x) g (mode_of (settings s x) h)) → 0 + lag waits + 1 ≤ g.by → phase (settings s x) h ≡ HasWritten
    → inside (settings s x) h ≡ Some want.Release → Course (settings s x) g 0 (control t) waits h
release-at s t x h waits g is stays q goes few at inner =
    let p = settings s x in
    let path = history-at s t x h is stays.there in
    AtRelease q goes few inner (ap end_next (ends ((leaving-of p h path).written at stays.no_owner)))
    (alternate-clean p h path stays.no_owner).drops_none ((opened p h path).none (ap has_reserve at))
  where
    ends : (end_for (settings s x) h ≡ None) ⊎ (is_leaving h ≡ true) → end_for (settings s x) h ≡ None
    ends (inl none) = none
    ends (inr leaving) = absurd (cc (sym stays.on ∙ leaving))

-- one that stays is not over
not-over : (s : Scen) (t : List Entry) (x : Site) (h : List Event) (waits : Bool) → IsRun s t → Stays s t x h waits → phase (settings s x) h ≡ Over → ⊥
not-over s t x h waits is stays over =
    absurd (cc (sym stays.on ∙ (leaving-of (settings s x) h (history-at s t x h is stays.there)).over over stays.granted stays.no_owner))

-- a start that is due
start-of : (o : Option Decided) (why : Cause) → start_in o ≡ Some why → o ≡ Some (Alternate (decision.Start why))
start-of o why is = grind (arith, common_steps)

-- a through that is due
through-of : (o : Option Decided) → is_through_decision o ≡ true → o ≡ Some (Waiting waiting.Through)
through-of o is = grind (arith, common_steps)

-- what follows from a test, and is not so
no-through : (b waits : Bool) → (b ≡ true → waits ≡ true) → (waits ≡ true → ⊥) → b ≡ false
no-through false waits goes none = refl
no-through true waits goes none = absurd (none (goes refl))

-- no start is due of one that waits
no-start : (o : Option Cause) (waits : Bool) → (is_some o ≡ true → waits ≡ false) → waits ≡ true → o ≡ None
no-start None waits starts is = refl
no-start (Some why) waits starts is = absurd (cc (sym (starts refl) ∙ is))

-- **where an alternate that tracks stands, its course begins**
pub tracks-anywhere : (s : Scen) (t : List Entry) (x : Site) (h : List Event) (g : Ground) → IsRun s t → CanDecide s t x h → number h ≡ g.me
    → IsSet (settings s x) g (mode_of (settings s x) h) → change h ≤ g.late → HasLooked g 0 (last_look (told_to_watch h)) → SawSignal g 0 (signal_seen h)
    → 2 ≤ g.by → Course (settings s x) g 0 (control t) false h
tracks-anywhere s t x h g is can mine set changed looked saw early = place (inside p h) refl (inside-kind p h)
  where
    p : Settings
    p = settings s x

    path : IsHistory p h
    path = history-at s t x h is can.there

    stays : Stays s t x h false
    stays = record {
      there = can.there;
      granted = tracks-granted h can.tracks;
      no_owner = tracks-no_owner h can.tracks;
      started = tracks-not_started h can.tracks;
      on = can.on;
    }

    alternate : IsAlternate g false (kept h)
    alternate = alternate-at s t x h false g is stays mine changed

    round : InRound p g false 0 h
    round = record { alternate = alternate; goes = λ tracks. set; looked = looks-of g 0 (last_look (told_to_watch h)) looked; few = omega (arith, early) }

    sequence : InSequence g false 0 h
    sequence = record { alternate = alternate; stays_on = stays-of h can.on; looked = looked; few = omega (arith, early) }

    named : is_alt (control t) g.me ≡ true
    named = ap (is_alt (control t)) (sym mine) ∙ can.named

    seen : is_looking_of (inside p h) ≡ true → HasSeen g false 0 (control t) (record_seen h)
    seen looks = record {
      named = λ tracks. ap (is_alt (record_seen h)) (sym mine) ∙ seen-named s t x h is can.there stays.no_owner stays.granted looks can.named;
      owned = λ tracks. seen-owned s t x h is can.there stays.no_owner stays.granted looks;
      not_normal = λ tracks. seen-normal s t x h is can.there stays.no_owner stays.granted looks can.named can.not_normal;
      same = λ waiting. absurd (cc);
    }

    outer : inside p h ≡ None → (o : Option Cause) → start_in (open_decision h) ≡ o → Course p g 0 (control t) false h
    outer at (Some why) due = StartDue sequence refl why at (start-of (open_decision h) why due)
    outer at None due =
        rests-course p g false 0 (control t) h alternate (λ tracks. set) at (stays-of h can.on) due
        (no-through (is_through_decision (open_decision h)) (is_waiting h) (opened p h path).goes (waits-not h stays.started)) looked (omega (arith, early))
        (has_signalled h) refl

    held : inside p h ≡ Some want.CtlRead → Course p g 0 (control t) false h
    held at =
        let f = read-phase p h path (next-inside p h want.CtlRead at) in
        let u = start-purpose s t x h is stays (ap before_write f) in
        StartHeld sequence refl u.0 at ((opened p h path).none (ap has_reserve f)) u.1

    writes : phase p h ≡ HasRead → (why : Cause) → purpose h ≡ StartTakeover why → Some (after_control_read p h) ≡ Some (want.CtlWrite (taken (control t) g.me why))
    writes f why purposed =
        let read = ((job-at s t x h is can.there).read f).0 in
        ap (λ (v : Want). Some v)
        (start-writes p (purpose h) (number h) g.me (epoch_number h) (record_read h) (known_read h) why purposed mine
        (ap (λ (r : ControlRecord). is_alt r g.me) read ∙ named) (ap (λ (r : ControlRecord). owner_is r OffNormal) read ∙ can.not_normal)
        ∙ ap (λ (r : ControlRecord). want.CtlWrite (taken r g.me why)) read)

    has-read : (w : ControlRecord) → inside p h ≡ Some (want.CtlWrite w) → Course p g 0 (control t) false h
    has-read w at =
        let f = (write-phase p h w path (next-inside p h (want.CtlWrite w) at)).0 in
        let u = start-purpose s t x h is stays (ap before_write f) in
        StartRead sequence refl u.0 (subst (NextIn p h) f (phase-next p h path) ∙ writes f u.0 u.1) ((opened p h path).none (ap has_reserve f)) u.1
        ((job-at s t x h is can.there).read f).0

    released : inside p h ≡ Some want.Release → Course p g 0 (control t) false h
    released at = by (releases-at p h path at)
      where
        by : (phase p h ≡ HasWritten) ⊎ ((phase p h ≡ HasRead) × (Some (after_control_read p h) ≡ Some want.Release)) → Course p g 0 (control t) false h
        by (inl f) = release-at s t x h false g is stays sequence (λ tracks. set) (omega (arith, early)) f at
        by (inr read) =
            let u = start-purpose s t x h is stays (ap before_write read.0) in
            absurd (cc (sym (writes read.0 u.0 u.1) ∙ read.1))

    not-owners : (w : Want) → inside p h ≡ Some w → is_owner_act w ≡ true → ⊥
    not-owners w inner acts = absurd (cc (sym (owner_acts p h path (ap is_owner_act (next-inside p h w inner) ∙ acts)) ∙ stays.no_owner))

    place : (o : Option Want) → inside p h ≡ o → is_kind_of o ≡ true → Course p g 0 (control t) false h
    place None at kind = outer at (start_in (open_decision h)) refl
    place (Some (want.Signal2 signal)) at kind = AtSignal2 round signal at
    place (Some want.Look1) at kind = AtLook1 round at
    place (Some want.Look2) at kind = AtLook2 round at (seen (ap is_looking_of at)) saw
    place (Some want.Decide) at kind = AtDecide round at (seen (ap is_looking_of at)) looked
    place (Some want.Reserve) at kind = absurd (not-reserve p h path stays.granted at)
    place (Some want.CtlRead) at kind = held at
    place (Some (want.CtlWrite w)) at kind = has-read w at
    place (Some want.Release) at kind = released at
    place (Some (want.Ended reason)) at kind = absurd (not-over s t x h false is stays (end-over p h (ap is_end_of at)))
    place (Some w) at kind = absurd (not-owners w at kind)

-- a record that lets an alternate go through
lets-parts : (c : ControlRecord) (n : ℕ) (may : Bool) → (is_alt c n && is_some c.taking && not may) ≡ true
    → (is_alt c n ≡ true) × (is_some c.taking ≡ true) × (may ≡ false)
lets-parts c n may is = by (is_alt c n) (is_some c.taking) may is
  where
    by : (a b d : Bool) → (a && b && not d) ≡ true → (a ≡ true) × (b ≡ true) × (d ≡ false)
    by true true false lets = (refl, refl, refl)
    by true true true lets = absurd (cc)
    by true false d lets = absurd (cc)
    by false b d lets = absurd (cc)

-- **and so does that of one that waits**
pub waits-anywhere : (s : Scen) (t : List Entry) (x : Site) (h : List Event) (g : Ground) → IsRun s t → CanGo s t x h → number h ≡ g.me
    → change h ≤ g.late → HasLooked g 0 (last_look (told_to_watch h)) → SawSignal g 0 (signal_seen h) → 1 ≤ g.by
    → Course (settings s x) g 0 (control t) true h
waits-anywhere s t x h g is can mine changed looked saw early = place (inside p h) refl (inside-kind p h)
  where
    p : Settings
    p = settings s x

    path : IsHistory p h
    path = history-at s t x h is can.there

    stays : Stays s t x h true
    stays = record {
      there = can.there;
      granted = waits-granted h can.waits;
      no_owner = waits-no_owner h can.waits;
      started = waits-started h can.waits;
      on = can.on;
    }

    alternate : IsAlternate g true (kept h)
    alternate = alternate-at s t x h true g is stays mine changed

    round : InRound p g true 0 h
    round = record { alternate = alternate; goes = λ tracks. absurd (cc); looked = looks-of g 0 (last_look (told_to_watch h)) looked; few = omega (arith, early) }

    sequence : InSequence g true 0 h
    sequence = record { alternate = alternate; stays_on = stays-of h can.on; looked = looked; few = omega (arith, early) }

    seen : HasSeen g true 0 (control t) (record_seen h)
    seen = record { named = λ tracks. absurd (cc); owned = λ tracks. absurd (cc); not_normal = λ tracks. absurd (cc); same = λ waiting. inl (omega (arith, early)) }

    outer : inside p h ≡ None → (b : Bool) → is_through_decision (open_decision h) ≡ b → Course p g 0 (control t) true h
    outer at true due = ThroughDue sequence refl at (through-of (open_decision h) due)
    outer at false due =
        rests-course p g true 0 (control t) h alternate (λ tracks. absurd (cc)) at (stays-of h can.on)
        (no-start (start_in (open_decision h)) (is_waiting h) (opened p h path).starts can.waits) due looked (omega (arith, early))
        (has_signalled h) refl

    held : inside p h ≡ Some want.CtlRead → Course p g 0 (control t) true h
    held at =
        let f = read-phase p h path (next-inside p h want.CtlRead at) in
        ThroughHeld sequence refl at (through-purpose s t x h is stays (ap before_write f))

    -- what it read lets it go through, and so it writes its through
    read : phase p h ≡ HasRead → Course p g 0 (control t) true h
    read f =
        let u = through-purpose s t x h is stays (ap before_write f) in
        let lets = lets-parts (record_read h) (number h) (owner_may_run (record_read h) (known_read h)) (through-gives s t x h is can.there f u) in
        let writes = through-writes p (purpose h) (number h) g.me (epoch_number h) (record_read h) (known_read h) u mine
        (ap (is_alt (record_read h)) (sym mine) ∙ lets.0) lets.1 lets.2 in
        ThroughRead sequence refl writes.0 (subst (NextIn p h) f (phase-next p h path) ∙ ap (λ (v : Want). Some v) writes.1) u writes.2 writes.3

    released : inside p h ≡ Some want.Release → Course p g 0 (control t) true h
    released at = by (releases-at p h path at)
      where
        by : (phase p h ≡ HasWritten) ⊎ ((phase p h ≡ HasRead) × (Some (after_control_read p h) ≡ Some want.Release)) → Course p g 0 (control t) true h
        by (inl f) = release-at s t x h true g is stays sequence (λ tracks. absurd (cc)) (omega (arith, early)) f at
        by (inr f) = read f.0

    not-owners : (w : Want) → inside p h ≡ Some w → is_owner_act w ≡ true → ⊥
    not-owners w inner acts = absurd (cc (sym (owner_acts p h path (ap is_owner_act (next-inside p h w inner) ∙ acts)) ∙ stays.no_owner))

    place : (o : Option Want) → inside p h ≡ o → is_kind_of o ≡ true → Course p g 0 (control t) true h
    place None at kind = outer at (is_through_decision (open_decision h)) refl
    place (Some (want.Signal2 signal)) at kind = AtSignal2 round signal at
    place (Some want.Look1) at kind = AtLook1 round at
    place (Some want.Look2) at kind = AtLook2 round at seen saw
    place (Some want.Decide) at kind = AtDecide round at seen looked
    place (Some want.Reserve) at kind = absurd (not-reserve p h path stays.granted at)
    place (Some want.CtlRead) at kind = held at
    place (Some (want.CtlWrite w)) at kind = read (write-phase p h w path (next-inside p h (want.CtlWrite w) at)).0
    place (Some want.Release) at kind = released at
    place (Some (want.Ended reason)) at kind = absurd (not-over s t x h true is stays (end-over p h (ap is_end_of at)))
    place (Some w) at kind = absurd (not-owners w at kind)

-- the record names one that tracks
pub tracks-named : (s : Scen) (t : List Entry) (x : Site) (h : List Event) → IsRun s t → CanDecide s t x h → IsNamed (number h) false (control t)
tracks-named s t x h is can =
    let beside = (job-at s t x h is can.there).stands.beside (tracks-granted h can.tracks) (tracks-no_owner h can.tracks) in
    record {
      named = can.named;
      owned = beside-owned (control t).owner x (number h) beside.owner;
      not_mine = beside-not (control t) x (number h) beside.owner;
      not_normal = λ tracks. can.not_normal;
      taking = λ waits. absurd (cc);
    }

-- an alternate that the record has is named by it
alt-named : (c : ControlRecord) (n : ℕ) (x : Site) → c.alt ≡ Some (record { inc = n; site = x }) → is_alt c n ≡ true
alt-named c n x is = ap (λ (o : Option Alt). is_some o && inc_of_alt o == n) is ∙ same-number n

-- one that does not leave has not left
not-gone : (s : Scen) (t : List Entry) (x : Site) (h : List Event) → IsRun s t → hist s t x ≡ Some h → is_granted h ≡ true → is_owner h ≡ false
    → is_leaving h ≡ false → is_gone (phase (settings s x) h) (purpose h) ≡ false
not-gone s t x h is there granted no_owner on = by (phase p h) (purpose h) refl refl
  where
    p : Settings
    p = settings s x

    l : IsLeaving p h
    l = leaving-of p h (history-at s t x h is there)

    by : (f : Phase) (q : Purpose) → phase p h ≡ f → purpose h ≡ q → is_gone f q ≡ false
    by Over q at same = absurd (cc (sym on ∙ l.over at granted no_owner))
    by HasWritten (Leave reason) at same = absurd (leaves (l.written at no_owner))
      where
        leaves : (end_for p h ≡ None) ⊎ (is_leaving h ≡ true) → ⊥
        leaves (inl none) = absurd (cc (sym none ∙ ap (λ (r : Purpose). end_by_purpose p r (number h) (record_read h) (known_read h)) same))
        leaves (inr leaving) = absurd (cc (sym on ∙ leaving))
    by _ q at same = refl

-- and one that waits, with its taking
pub waits-named : (s : Scen) (t : List Entry) (x : Site) (h : List Event) → IsRun s t → CanGo s t x h → IsNamed (number h) true (control t)
waits-named s t x h is can =
    let granted = waits-granted h can.waits in
    let no_owner = waits-no_owner h can.waits in
    let beside = (job-at s t x h is can.there).stands.beside granted no_owner in
    let now_waits = waiting-now s t x h is can.there can.waits (not-gone s t x h is can.there granted no_owner can.on) in
    record {
      named = alt-named (control t) (number h) x now_waits.alt;
      owned = beside-owned (control t).owner x (number h) beside.owner;
      not_mine = beside-not (control t) x (number h) beside.owner;
      not_normal = λ tracks. absurd (cc);
      taking = λ waits. now_waits.taking;
    }
