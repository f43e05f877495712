-- While an alternate waits, its place, its taking and the owner that it saw stand, of every run.
use Rattle.std.proofs.Common.{Option, arith, true, ◌≡◌, false, Bool, List, ap, sym, ◌||◌, ◌∙◌, ℕ, ◌&&◌, Some, refl, ◌∷◌, not, subst, [], ◌==◌, IfSome, is_some}
use Rattle.std.proofs.lemmas.Grind.{common_steps}
use Rattle.xrf_base.specs.declared.site.Site.{Site}
use Rattle.xrf_ctl.specs.Control.{ControlRecord}
use Rattle.xrf_ctl.specs.Signal.{SignalRecord}
use Rattle.xrf_cavm.specs.declared.decisions.Decided.{Decided}
use Rattle.xrf_cavm.specs.declared.known.Known.{Known}
use Rattle.xrf_cavm.specs.Record.{owner_may_run}
use Rattle.xrf_history.specs.declared.want.Want.{Want}
use Rattle.xrf_history.proofs.Silence.{is_looking_of}
use Rattle.xrf_history.proofs.Rounds.{is_rounds_of, rounds-after}
use Rattle.xrf_history.proofs.Phases.{Phase, may_reserve, has_reserve, phase, may_release, released, before_write, is_work, HasRead}
use Rattle.xrf_history.specs.Reserving.{Purpose, GoThrough, is_through_decision, open_decision, end_by_purpose, purpose, purpose_now, known_read, record_read}
use Rattle.xrf_history.proofs.Decisions.{is_go, opened, going-due, is_start, purposed}
use Rattle.xrf_history.specs.Events.{Event, Reserved, ControlRead, Released, ControlWritten, Looked1, DecisionMade, Abended, Commanded, Exited, Looked2, Replied, Signalled1, Signalled2, StartedActive, StartedStandby, Ticked}
use Rattle.xrf_history.proofs.Histories.{IsHistory, Comes, is_started}
use Rattle.xrf_history.specs.declared.settings.Settings.{Settings}
use Rattle.xrf_history.specs.Next.{end_next, next, inside, after_release}
use Rattle.xrf_history.proofs.Tests.{or-left}
use Rattle.xrf_history.proofs.PhaseLaws.{reserve-phase, read-phase, releases-phase, write-phase, work-phase}
use Rattle.xrf_history.specs.Holding.{number, has_started_takeover, is_granted, is_owner, is_waiting}
use Rattle.xrf_history.proofs.Purposes.{Suits}
use Rattle.xrf_history.proofs.Holding.{started-granted}
use Rattle.xrf_history.specs.Deciding.{cause}
use Rattle.xrf_history.specs.Looking.{record_seen}
use Rattle.xrf_history.proofs.News.{inside-is}
use Rattle.xrf_history.specs.Notices.{epoch_number}
use Rattle.xrf_history.proofs.Going.{lets_go}
use Rattle.xrf_history.specs.declared.want.Want.TheVariants as want
use Rattle.xrf_trace.specs.declared.entry.Entry.{Entry}
use Rattle.xrf_trace.specs.Runs.{IsRun}
use Rattle.xrf_trace.specs.Scenario.{Scen, settings, other}
use Rattle.xrf_trace.specs.Words.{confirmed}
use Rattle.xrf_trace.specs.Devices.{control}
use Rattle.xrf_trace.specs.Jobs.{hist, known_of}
use Rattle.xrf_trace.proofs.Paths.{history-at}
use Rattle.xrf_trace.proofs.Moves.{IsHanded, control_by}
use Rattle.xrf_trace.proofs.Sites.{other-other}
use Rattle.xrf_trace.proofs.EachJob.{Fact, Kept, each-job}
use Rattle.xrf_owner_law.specs.Waiting.{is_gone, is_held, Waits, wait_view, SameOwner, MayRun, WaitsNow}
use Rattle.xrf_owner_law.proofs.WaitingSteps.{own-waits, written-waits, kept-same, seen-over, of_owner, Writer, other-waits, confirm-over}
use Rattle.xrf_owner_law.proofs.Invariant.{job-at, knows-of}
use Rattle.xrf_owner_law.proofs.WritesOfRuns.{writes-by, write-mine}
use Rattle.xrf_owner_law.specs.Owner.{Knows}
use Rattle.xrf_owner_law.specs.Views.{is_over, view}

-- a look goes on with a round
looking-rounds : (o : Option Want) → is_looking_of o ≡ true → is_rounds_of o ≡ true
looking-rounds o is = grind (arith, common_steps)

-- a job that may reserve is not gone
reserve-gone : (f : Phase) (q : Purpose) → may_reserve f ≡ true → is_gone f q ≡ false
reserve-gone f q may = grind (arith, common_steps)

-- a purpose to go through is that
go-purpose : (q : Purpose) → is_go q ≡ true → q ≡ GoThrough
go-purpose q is = grind (arith, common_steps)

-- under the reserve, after the CTLREAD, nothing is decided
none-decided : (p : Settings) (h : List Event) (b : Bool) → IsHistory p h → has_reserve (phase p h) ≡ true → b ≡ false
    → (is_through_decision (open_decision h) || b) ≡ true → ⊥
none-decided p h b is holds none due =
    absurd (cc (sym (ap (λ (o : Option Decided). is_through_decision o || b) ((opened p h is).none holds) ∙ none) ∙ due))

-- who may release holds the reserve
release-holds : (f : Phase) → may_release f ≡ true → has_reserve f ≡ true
release-holds f may = grind (arith, common_steps)

-- who is not gone after its RELEASE was not before it
leave-ends : (p : Settings) (f : Phase) (q : Purpose) (n : ℕ) (c : ControlRecord) (known : Known) → may_release f ≡ true
    → is_gone (released (end_next (end_by_purpose p q n c known))) q ≡ false → is_gone f q ≡ false
leave-ends p f q n c known may here = grind (arith, common_steps)

-- after a RELEASE the reserve is not held
released-free : (o : Option Want) (b : Bool) → (is_held (released o) && b) ≡ false
released-free o b = grind (arith, common_steps)

-- an event of the job
reserved-waits : (s : Scen) (t : List Entry) (x : Site) (h : List Event) → IsRun s t → hist s t x ≡ Some h → next (settings s x) h ≡ want.Reserve
    → Waits (control t) (confirmed t) x (wait_view (settings s x) h) → Waits (control t) (confirmed t) x (wait_view (settings s x) (Reserved ∷ h))
reserved-waits s t x h is here comes waits =
    let p = settings s x in
    let path = history-at s t x h is here in
    own-waits (control t) (confirmed t) x (wait_view p h) (wait_view p (Reserved ∷ h)) refl refl
    (λ gone. reserve-gone (phase p h) (purpose h) (reserve-phase p h path comes))
    (λ looks. absurd (cc))
    (λ due. or-left (is_through_decision (open_decision h)) (is_held (phase p h) && is_go (purpose h)) (going-due p h path comes (go-purpose (purpose_now h) due)))
    waits

-- after a CTLREAD
read-waits : (s : Scen) (t : List Entry) (x : Site) (h : List Event) (held : ControlRecord) (known : Known) → IsRun s t → hist s t x ≡ Some h
    → next (settings s x) h ≡ want.CtlRead
    → Waits (control t) (confirmed t) x (wait_view (settings s x) h) → Waits (control t) (confirmed t) x (wait_view (settings s x) (ControlRead held known ∷ h))
read-waits s t x h held known is here comes waits =
    let p = settings s x in
    let path = history-at s t x h is here in
    let at = read-phase p h path comes in
    own-waits (control t) (confirmed t) x (wait_view p h) (wait_view p (ControlRead held known ∷ h)) refl refl
    (λ gone. ap (λ (f : Phase). is_gone f (purpose h)) at)
    (λ looks. absurd (rounds-after p h (ControlRead held known) refl (looking-rounds (inside p (ControlRead held known ∷ h)) looks)))
    (λ due. absurd (none-decided p h false path (ap has_reserve at) refl due))
    waits

-- after a RELEASE
release-waits : (s : Scen) (t : List Entry) (x : Site) (h : List Event) → IsRun s t → hist s t x ≡ Some h → next (settings s x) h ≡ want.Release
    → Waits (control t) (confirmed t) x (wait_view (settings s x) h) → Waits (control t) (confirmed t) x (wait_view (settings s x) (Released ∷ h))
release-waits s t x h is here comes waits =
    let p = settings s x in
    let path = history-at s t x h is here in
    let may = releases-phase p h path comes in
    own-waits (control t) (confirmed t) x (wait_view p h) (wait_view p (Released ∷ h)) refl refl
    (leave-ends p (phase p h) (purpose h) (number h) (record_read h) (known_read h) may)
    (λ looks. absurd (rounds-after p h Released refl (looking-rounds (inside p (Released ∷ h)) looks)))
    (λ due. absurd (none-decided p h (is_held (released (after_release p h)) && is_go (purpose h)) path (release-holds (phase p h) may)
    (released-free (after_release p h) (is_go (purpose h))) due))
    waits

-- who holds no number has started no takeover
not-started : (granted started : Bool) → (started ≡ true → granted ≡ true) → granted ≡ false → started ≡ false
not-started granted started means fresh = by started refl
  where
    by : (b : Bool) → started ≡ b → b ≡ false
    by false is = refl
    by true is = absurd (cc (sym (means is) ∙ fresh))

-- who starts a takeover has not started one
start-fresh : (q : Purpose) (granted owner started : Bool) → Suits q granted owner → (is_start q ≡ true → (granted && not owner && started) ≡ false)
    → is_start q ≡ true → started ≡ false
start-fresh q granted owner started suits waits start = by q suits start (waits start)
  where
    by : (q : Purpose) → Suits q granted owner → is_start q ≡ true → (granted && not owner && started) ≡ false → started ≡ false
    by q suits start none = grind (arith, common_steps)

-- after a CTLWRITE
write-waits : (s : Scen) (t : List Entry) (x : Site) (h : List Event) (w : ControlRecord) → IsRun s t → hist s t x ≡ Some h
    → next (settings s x) h ≡ want.CtlWrite w
    → Waits w (confirmed t) x (wait_view (settings s x) (ControlWritten w ∷ h))
write-waits s t x h w is here comes = λ waiting stays.
    let p = settings s x in
    let path = history-at s t x h is here in
    let job = job-at s t x h is here in
    let writes = writes-by s t x h w is here comes in
    let at = (write-phase p h w path comes).0 in
    let named = written-waits p (purpose h) (number h) (control t) w (known_read h) (is_granted h) (is_owner h) (has_started_takeover h) writes.did writes.suits
    (not-started (is_granted h) (has_started_takeover h) (started-granted h))
    (start-fresh (purpose h) (is_granted h) (is_owner h) (has_started_takeover h) writes.suits (purposed p h path (ap before_write at)).0)
    job.stands.beside waiting stays in
    record {
      alt = named.0;
      taking = named.1;
      saw = λ looks. absurd (cc);
      over = λ due. absurd (none-decided p h false path (ap has_reserve at) refl due);
    }

-- after a LOOK1
look-waits : (s : Scen) (t : List Entry) (x : Site) (h : List Event) (held : ControlRecord) (signal : Option SignalRecord) → held ≡ control t
    → Waits (control t) (confirmed t) x (wait_view (settings s x) h) → Waits (control t) (confirmed t) x (wait_view (settings s x) (Looked1 held signal ∷ h))
look-waits s t x h held signal holds waits = λ waiting stays.
    let now = waits waiting stays in
    record {
      alt = now.alt;
      taking = now.taking;
      saw = λ looks. subst (λ (c : ControlRecord). SameOwner c.owner (control t).owner) (sym holds) (kept-same (control t).owner);
      over = now.over;
    }

-- a look that goes on inside its sequence
rounds-looking : (o : Option Want) (w : Want) → o ≡ Some w → is_looking_of (Some w) ≡ true → is_looking_of o ≡ true
rounds-looking o w is looks = ap is_looking_of is ∙ looks

-- who decides THROUGH was handed an owner that may not run
decided-over : (p : Settings) (h : List Event) (known : Known) (n : ℕ) (decision : Decided) → decision ≡ cause p h known n
    → is_through_decision (Some decision) ≡ true
    → owner_may_run (record_seen h) known ≡ false
decided-over p h known n decision made through = grind (arith, common_steps)

-- a disjunction whose right side can't be met
or-free : (a b c : Bool) → b ≡ false → (a || (b && c)) ≡ true → a ≡ true
or-free a b c none is = grind (arith, common_steps)

-- after a DECIDE
decide-waits : (s : Scen) (t : List Entry) (x : Site) (h : List Event) (known : Known) (n : ℕ) (decision : Decided) → IsRun s t → hist s t x ≡ Some h
    → next (settings s x) h ≡ want.Decide
    → decision ≡ cause (settings s x) h known n → known ≡ known_of t (record_seen h)
    → Waits (control t) (confirmed t) x (wait_view (settings s x) h)
    → Waits (control t) (confirmed t) x (wait_view (settings s x) (DecisionMade known n decision ∷ h))
decide-waits s t x h known n decision is here comes made holds waits = λ waiting stays.
    let p = settings s x in
    let now = waits waiting stays in
    let outside = work-phase p h (history-at s t x h is here) (ap is_work comes) in
    record {
      alt = now.alt;
      taking = now.taking;
      saw = λ looks. absurd (cc);
      over = λ due.
          let knows = subst (λ (n : Known). Knows (confirmed t) n (record_seen h)) (sym holds) (knows-of t (record_seen h)) in
          seen-over (control t) (record_seen h) (confirmed t) known
          (now.saw (rounds-looking (inside p h) want.Decide (inside-is p h want.Decide comes refl) refl)) knows.owner
          (decided-over p h known n decision made
          (or-free (is_through_decision (Some decision)) (is_held (phase p h)) (is_go (purpose h)) (ap is_held outside) due));
    }

-- each event of a job keeps what holds of it while it waits
own-event : (s : Scen) (t : List Entry) (x : Site) (h : List Event) (made : Event) → IsRun s t → hist s t x ≡ Some h → Comes (settings s x) h made
    → IsHanded s t x h made
    → Waits (control t) (confirmed t) x (wait_view (settings s x) h) → Waits (control_by made (control t)) (confirmed t) x (wait_view (settings s x) (made ∷ h))
own-event s t x h StartedActive is here comes given waits = absurd comes
own-event s t x h StartedStandby is here comes given waits = absurd comes
own-event s t x h Ticked is here comes given waits = waits
own-event s t x h Abended is here comes given waits = waits
own-event s t x h (Replied go n) is here comes given waits = waits
own-event s t x h (Commanded command n) is here comes given waits = waits
own-event s t x h (Exited answer n) is here comes given waits = waits
own-event s t x h Reserved is here comes given waits = reserved-waits s t x h is here comes waits
own-event s t x h (ControlRead held known) is here comes given waits = read-waits s t x h held known is here comes waits
own-event s t x h (ControlWritten w) is here comes given waits = write-waits s t x h w is here comes
own-event s t x h Released is here comes given waits = release-waits s t x h is here comes waits
own-event s t x h (Looked1 held signal) is here comes given waits = look-waits s t x h held signal given.0 waits
own-event s t x h (Looked2 signal n) is here comes given waits =
    let p = settings s x in
    own-waits (control t) (confirmed t) x (wait_view p h) (wait_view p (Looked2 signal n ∷ h)) refl refl (λ gone. gone)
    (λ looks. (rounds-looking (inside p h) want.Look2 (inside-is p h want.Look2 comes refl) refl, refl)) (λ due. due) waits
own-event s t x h (DecisionMade known n decision) is here comes given waits = decide-waits s t x h known n decision is here comes.0 comes.1 given waits
own-event s t x h (Signalled1 signal) is here comes given waits =
    let p = settings s x in
    own-waits (control t) (confirmed t) x (wait_view p h) (wait_view p (Signalled1 signal ∷ h)) refl refl (λ gone. gone) (λ looks. absurd (cc))
    (λ due. due) waits
own-event s t x h (Signalled2 signal) is here comes given waits =
    let p = settings s x in
    own-waits (control t) (confirmed t) x (wait_view p h) (wait_view p (Signalled2 signal ∷ h)) refl refl (λ gone. gone) (λ looks. absurd (cc))
    (λ due. due) waits
own-event s t x h made is here comes given waits =
    let p = settings s x in
    own-waits (control t) (confirmed t) x (wait_view p h) (wait_view p (made ∷ h)) refl refl (λ gone. gone)
    (λ looks. absurd (rounds-after p h made refl (looking-rounds (inside p (made ∷ h)) looks))) (λ due. due) waits

-- of the other job
writer-owner : (q : Purpose) (granted owner : Bool) → Suits q granted owner → of_owner q ≡ true → owner ≡ true
writer-owner q granted owner suits is = grind (arith, common_steps)

-- a job that has read is not over
read-over : (f : Phase) (q : Purpose) → f ≡ HasRead → is_over f q ≡ false
read-over f q is = ap (λ (g : Phase). is_over g q) is

-- what is known of the other job that writes
writer-at : (s : Scen) (t : List Entry) (x : Site) (h : List Event) (w : ControlRecord) → IsRun s t → hist s t x ≡ Some h
    → next (settings s x) h ≡ want.CtlWrite w
    → Writer (settings s x) (purpose h) (number h) (control t) (confirmed t)
writer-at s t x h w is here comes =
    let p = settings s x in
    let job = job-at s t x h is here in
    let writes = writes-by s t x h w is here comes in
    let at = (write-phase p h w (history-at s t x h is here) comes).0 in
    record {
      alternate = write-mine s t x (view p h) w (epoch_number h) writes job;
      owner = λ is.
          let owner = writer-owner (purpose h) (is_granted h) (is_owner h) writes.suits is in
          (job.stands.runs owner (read-over (phase p h) (purpose h) at), (job.held (job.stands.is_granted owner)).open_yet);
    }

-- who waits holds a number and is no owner
waiting-place : (granted owner started : Bool) → (granted && not owner && started) ≡ true → (granted ≡ true) × (owner ≡ false)
waiting-place granted owner started is = grind (arith, common_steps)

-- a write of the other job keeps it
other-event : (s : Scen) (t : List Entry) (x : Site) (h g : List Event) (w : ControlRecord) → IsRun s t → hist s t x ≡ Some h
    → next (settings s x) h ≡ want.CtlWrite w
    → hist s t (other x) ≡ Some g → Waits (control t) (confirmed t) (other x) (wait_view (settings s (other x)) g)
    → Waits w (confirmed t) (other x) (wait_view (settings s (other x)) g)
other-event s t x h g w is here comes there waits = λ waiting stays.
    let p = settings s x in
    let job = job-at s t (other x) g is there in
    let writes = writes-by s t x h w is here comes in
    let place = waiting-place (is_granted g) (is_owner g) (has_started_takeover g) waiting in
    other-waits p (purpose h) (number h) (control t) w (known_read h) (confirmed t) (other x) (wait_view (settings s (other x)) g) writes.did writes.knows
    (writer-at s t x h w is here comes) (sym (other-other x)) (job.stands.beside place.0 place.1) (job.held place.0).open_yet (waits waiting stays)

-- of each job of a run
abbrev pub Waiting : Fact
Waiting s c k x h = Waits c k x (wait_view (settings s x) h)

-- a job that starts does not wait
fresh-waits : (s : Scen) (c : ControlRecord) (k : ℕ → Bool) (x : Site) (made : Event) → is_started made ≡ true → Waiting s c k x (made ∷ [])
fresh-waits s c k x StartedActive started = λ waiting stays. absurd (cc)
fresh-waits s c k x StartedStandby started = λ waiting stays. absurd (cc)
fresh-waits s c k x _ started = absurd (cc)

-- a confirmation keeps it
confirmed-waits : (s : Scen) (c : ControlRecord) (k : ℕ → Bool) (x : Site) (h : List Event) (n : ℕ) → Waiting s c k x h → Waiting s c (λ m. n == m || k m) x h
confirmed-waits s c k x h n waits = λ waiting stays.
    let now = waits waiting stays in record { alt = now.alt; taking = now.taking; saw = now.saw; over = λ due. confirm-over c k n (now.over due) }

-- each kind of move keeps it
waiting-kept : Kept Waiting
waiting-kept = record { born = fresh-waits; ticked = λ s c k x h holds. holds; confirms = confirmed-waits; own = own-event; beside = other-event }

-- it holds of each job of every run
pub are-waiting : (s : Scen) (t : List Entry) → IsRun s t → (x : Site) → IfSome (hist s t x) (Waiting s (control t) (confirmed t) x)
are-waiting = each-job Waiting waiting-kept

-- the records that it read to go through let it
pub lets-all : (c : ControlRecord) (k : ℕ → Bool) (x : Site) (n : ℕ) (t : List Entry) → c.alt ≡ Some (record { inc = n; site = x }) → is_some c.taking ≡ true
    → MayRun c (confirmed t) ≡ false → lets_go c n (known_of t c) ≡ true
lets-all c k x n t alt taking over = grind (arith, common_steps)

-- **while an alternate waits its place and a taking stand, and the owner is the one that it saw**
pub waiting-now : (s : Scen) (t : List Entry) (x : Site) (h : List Event) → IsRun s t → hist s t x ≡ Some h → is_waiting h ≡ true
    → is_gone (phase (settings s x) h) (purpose h) ≡ false
    → WaitsNow (control t) (confirmed t) x (wait_view (settings s x) h)
waiting-now s t x h is here waiting stays =
    subst (λ (job : Option (List Event)). IfSome job (λ g. Waits (control t) (confirmed t) x (wait_view (settings s x) g))) here
    (are-waiting s t is x) waiting stays
