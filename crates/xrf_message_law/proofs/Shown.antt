-- A sender's cursor was shown, and nothing is shown for a number that is not given.
use Rattle.std.proofs.Common.{Bool, arith, false, max, true, ℕ, ◌≤◌, ◌==◌, if◌then◌else◌, eq-eqb, refl, ◌≡◌, IfSome, Option, None, Some, ◌&&◌, List, [], ◌∷◌, eqb-true, nat_le, subst, sym, ◌∙◌, ◌<◌, ap}
use Rattle.std.proofs.lemmas.Bool.{and_parts}
use Rattle.xrf_base.specs.declared.site.Site.{Site}
use Rattle.xrf_base.specs.declared.items.Item.{Item}
use Rattle.xrf_ctl.specs.Signal.{SignalRecord}
use Rattle.xrf_ctl.specs.Control.{ControlRecord}
use Rattle.xrf_cavm.specs.declared.decisions.Decided.{Decided}
use Rattle.xrf_cavm.specs.declared.known.Known.{Known}
use Rattle.xrf_cavm.specs.declared.decisions.Decided.TheVariants.{Owner}
use Rattle.xrf_cavm.specs.declared.decisions.Acting.TheVariants as acting
use Rattle.xrf_msg.specs.Numbers.{cursor_after}
use Rattle.xrf_history.specs.Events.{Event, ControlWritten, DecisionMade, Looked1, Looked2, Released, Reserved, StartedActive, StartedStandby, ActFailed, Ticked}
use Rattle.xrf_history.proofs.SigningOff.{Stays, has_reserved_off}
use Rattle.xrf_history.specs.Sending.{cursor, cursor_of, sent}
use Rattle.xrf_history.specs.Notices.{epoch, drop_is_made}
use Rattle.xrf_history.specs.Holding.{is_owner, number}
use Rattle.xrf_history.specs.Restarting.{has_read_block}
use Rattle.xrf_history.proofs.Purposes.{is_sign_off}
use Rattle.xrf_history.specs.Reserving.{purpose_now}
use Rattle.xrf_history.specs.Looking.{record_seen}
use Rattle.xrf_history.specs.Next.{next}
use Rattle.xrf_trace.specs.declared.entry.Act.{Act}
use Rattle.xrf_trace.specs.Devices.{signal_if, sector1, sector2, sector1_after, sector2_after, written_if, control, control_after}
use Rattle.xrf_trace.specs.declared.entry.Entry.{Entry}
use Rattle.xrf_trace.specs.Words.{is_of, now}
use Rattle.xrf_trace.specs.Landing.{lands}
use Rattle.xrf_trace.specs.Scenario.{other, Scen, item_at, settings}
use Rattle.xrf_trace.proofs.Short.{IsShort, over_run}
use Rattle.xrf_trace.specs.Jobs.{block_event, handed, hist, item_event, known_of}
use Rattle.xrf_trace.proofs.Steps.{Reaches, IsStart}
use Rattle.xrf_trace.proofs.JobSteps.{started, OfJobs, at-job, job-steps, no-jobs}
use Rattle.xrf_trace.specs.declared.entry.Land.{Land}
use Rattle.xrf_trace.proofs.TraceActs.{Tells, by_act, tells}
use Rattle.xrf_trace.specs.Acts.{is_act}
use Rattle.xrf_trace.specs.declared.entry.Act.TheVariants as act
use Rattle.xrf_message_law.specs.Shown.{shown_if, shown_after, shown, IsSignal, signal_in}
use Rattle.xrf_message_law.proofs.Alternates.{NoEpoch, epoch-none}
use Rattle.xrf_message_law.proofs.Tests.{neither-left}
use Rattle.xrf_message_law.proofs.Owner.{number-few, last-rises}
use Rattle.xrf_message_law.proofs.Rounds.{signals-own}

-- what is shown never falls
grows_if : (b : Bool) (signal : SignalRecord) (n before : ℕ) → before ≤ shown_if b signal n before
grows_if false signal n before = omega arith
grows_if true signal n before = by (signal.inc == n)
  where
    by : (same : Bool) → before ≤ (if same then max before signal.cursor else before)
    by true = omega arith
    by false = omega arith

-- what is shown never falls
pub grows : (a : Act) (b : Bool) (n before : ℕ) → before ≤ shown_after a b n before
grows (act.Signal1 signal) b n before = grows_if b signal n before
grows (act.Signal2 signal) b n before = grows_if b signal n before
grows _ b n before = omega arith

-- and a signal that lands is shown
shows : (signal : SignalRecord) (before : ℕ) → signal.cursor ≤ shown_if true signal signal.inc before
shows signal before = by (signal.inc == signal.inc) (eq-eqb signal.inc signal.inc refl)
  where
    by : (same : Bool) → same ≡ true → signal.cursor ≤ (if same then max before signal.cursor else before)
    by true is = omega arith
    by false is = absurd (cc)

-- the signals of a site's sectors were shown
abbrev IsShown : (ℕ → ℕ) → Option SignalRecord → Type 0
IsShown sh o = IfSome o (λ signal. signal.cursor ≤ sh signal.inc)

-- what was shown stays so
shown-on : (sh later : ℕ → ℕ) (o : Option SignalRecord) → ((n : ℕ) → sh n ≤ later n) → IsShown sh o → IsShown later o
shown-on sh later None more is = tt
shown-on sh later (Some signal) more is = omega (arith, is, more signal.inc)

-- a signal that lands in a sector is shown
shown-landed : (sh : ℕ → ℕ) (signal : SignalRecord) (here landed : Bool) (o : Option SignalRecord) → IsShown sh o
    → IsShown (λ n. shown_if landed signal n (sh n)) (signal_if (here && landed) signal o)
shown-landed sh signal true true o is = shows signal (sh signal.inc)
shown-landed sh signal false true o is = shown-on sh (λ n. shown_if true signal n (sh n)) o (λ n. grows_if true signal n (sh n)) is
shown-landed sh signal true false o is = is
shown-landed sh signal false false o is = is

-- the signals of both sectors of both sites were shown
record AreShown (t : List Entry) : Type 0 where
  first : (y : Site) → IsShown (shown t) (sector1 t y)
  second : (y : Site) → IsShown (shown t) (sector2 t y)

-- so it is of the first path
shown-first : (sh : ℕ → ℕ) (a : Act) (here landed : Bool) (o : Option SignalRecord) → IsShown sh o
    → IsShown (λ n. shown_after a landed n (sh n)) (sector1_after a (here && landed) o)
shown-first sh (act.Signal1 signal) here landed o is = shown-landed sh signal here landed o is
shown-first sh (act.Signal2 signal) here landed o is = shown-on sh (λ n. shown_if landed signal n (sh n)) o (λ n. grows_if landed signal n (sh n)) is
shown-first sh _ here landed o is = is

-- and of the second
shown-second : (sh : ℕ → ℕ) (a : Act) (here landed : Bool) (o : Option SignalRecord) → IsShown sh o
    → IsShown (λ n. shown_after a landed n (sh n)) (sector2_after a (here && landed) o)
shown-second sh (act.Signal1 signal) here landed o is = shown-on sh (λ n. shown_if landed signal n (sh n)) o (λ n. grows_if landed signal n (sh n)) is
shown-second sh (act.Signal2 signal) here landed o is = shown-landed sh signal here landed o is
shown-second sh _ here landed o is = is

-- **in every run**
are_shown : (t : List Entry) → AreShown t
are_shown [] = record { first = λ y. tt; second = λ y. tt }
are_shown (e ∷ t) = record {
  first = λ y. shown-first (shown t) e.act (is_of e.who y) (lands e.land) (sector1 t y) ((are_shown t).first y);
  second = λ y. shown-second (shown t) e.act (is_of e.who y) (lands e.land) (sector2 t y) ((are_shown t).second y);
}

-- what an owner heard was shown
abbrev IsHeard : (ℕ → ℕ) → List Event → Type 0
IsHeard sh h = Stays h → (n : ℕ) → epoch h ≡ Some n → cursor h ≤ sh n

-- an event that the cursor does not see
abbrev IsUnheard : Event → Type 0
IsUnheard StartedActive = ⊥
IsUnheard StartedStandby = ⊥
IsUnheard Reserved = ⊥
IsUnheard (ControlWritten written) = ⊥
IsUnheard Released = ⊥
IsUnheard (Looked1 held signal) = ⊥
IsUnheard (Looked2 signal at) = ⊥
IsUnheard (DecisionMade known at decision) = ⊥
IsUnheard _ = Unit {0}

-- such an event leaves it
heard-on : (sh : ℕ → ℕ) (h : List Event) (e : Event) → IsUnheard e → IsHeard sh h → IsHeard sh (e ∷ h)
heard-on sh h StartedActive is before stays n ep = absurd is
heard-on sh h StartedStandby is before stays n ep = absurd is
heard-on sh h Reserved is before stays n ep = absurd is
heard-on sh h (ControlWritten written) is before stays n ep = absurd is
heard-on sh h Released is before stays n ep = absurd is
heard-on sh h (Looked1 held signal) is before stays n ep = absurd is
heard-on sh h (Looked2 signal at) is before stays n ep = absurd is
heard-on sh h (DecisionMade known at decision) is before stays n ep = absurd is
heard-on sh h _ is before stays n ep = before (record { owner = stays.owner; stays = stays.stays }) n ep

-- a look
heard-signal : (sh : ℕ → ℕ) (n sent_then before : ℕ) (signal : SignalRecord) → signal.cursor ≤ sh signal.inc → before ≤ sh n
    → cursor_after n sent_then before signal ≤ sh n
heard-signal sh n sent_then before signal is was = by (signal.inc == n && nat_le signal.cursor sent_then) refl
  where
    by : (b : Bool) → (signal.inc == n && nat_le signal.cursor sent_then) ≡ b → (if b then max before signal.cursor else before) ≤ sh n
    by true same =
        let one : signal.inc ≡ n = eqb-true signal.inc n (and_parts (signal.inc == n) (nat_le signal.cursor sent_then) same).0 in
        let few : signal.cursor ≤ sh n = subst (λ (k : ℕ). signal.cursor ≤ sh k) one is in
        omega (arith, few, was)
    by false other = was

-- a look at a sector
heard-look : (sh : ℕ → ℕ) (n sent_then before : ℕ) (of : Option ℕ) (o : Option SignalRecord) → of ≡ Some n → IsShown sh o → before ≤ sh n
    → cursor_of of sent_then before o ≤ sh n
heard-look sh n sent_then before None o same is was = absurd (cc)
heard-look sh n sent_then before (Some m) None same is was = was
heard-look sh n sent_then before (Some m) (Some signal) same is was =
    let one : n ≡ m = cc in
    subst (λ (k : ℕ). cursor_after k sent_then before signal ≤ sh n) one (heard-signal sh n sent_then before signal is was)

-- a decision, which may begin anew
heard-decided : (sh : ℕ → ℕ) (h : List Event) (known : Known) (at : ℕ) (d : Decided) → IsHeard sh h → IsHeard sh (DecisionMade known at d ∷ h)
heard-decided sh h known at (Owner (acting.CatchUp m)) before stays n ep = omega arith
heard-decided sh h known at (Owner acting.Forget) before stays n ep = absurd (cc)
heard-decided sh h known at (Owner _) before stays n ep = before (record { owner = stays.owner; stays = stays.stays }) n ep
heard-decided sh h known at _ before stays n ep = before (record { owner = stays.owner; stays = stays.stays }) n ep

-- a RELEASE, which may end the epoch
heard-released : (sh : ℕ → ℕ) (h : List Event) → IsHeard sh h → IsHeard sh (Released ∷ h)
heard-released sh h before stays n ep = before (record { owner = stays.owner; stays = stays.stays }) n (kept (drop_is_made h) ep)
  where
    kept : (b : Bool) → (if b then None else epoch h) ≡ Some n → epoch h ≡ Some n
    kept true is = absurd (cc)
    kept false is = is

-- its CTLWRITE
heard-written : (sh : ℕ → ℕ) (h : List Event) (written : ControlRecord) → NoEpoch h → IsHeard sh h → IsHeard sh (ControlWritten written ∷ h)
heard-written sh h written none before stays n ep = by (is_owner h) refl
  where
    by : (b : Bool) → is_owner h ≡ b → cursor h ≤ sh n
    by true owner = before (record { owner = owner; stays = stays.stays }) n ep
    by false alternate = absurd (let gone : epoch h ≡ None = none alternate in let same : Some n ≡ None = sym ep ∙ gone in cc)

-- the job's own act
own-heard : (s : Scen) (t : List Entry) → IsShort s t → (x : Site) (h : List Event) (a : Act) → hist s t x ≡ Some h → IsHeard (shown t) h
    → IsHeard (shown t) (handed s t x (now t) h a ∷ h)
own-heard s t is x h act.Reserve there before stays n ep =
    before (record { owner = stays.owner; stays = neither-left (has_reserved_off h) (is_sign_off (purpose_now h)) stays.stays }) n ep
own-heard s t is x h (act.CtlWrite written) there before stays n ep =
    heard-written (shown t) h written (epoch-none s t is x h there) before stays n ep
own-heard s t is x h act.Release there before stays n ep = heard-released (shown t) h before stays n ep
own-heard s t is x h act.Look1 there before stays n ep =
    heard-look (shown t) n (sent h) (cursor h) (epoch h) (sector1 t (other x)) ep ((are_shown t).first (other x))
    (before (record { owner = stays.owner; stays = stays.stays }) n ep)
own-heard s t is x h act.Look2 there before stays n ep =
    heard-look (shown t) n (sent h) (cursor h) (epoch h) (sector2 t (other x)) ep ((are_shown t).second (other x))
    (before (record { owner = stays.owner; stays = stays.stays }) n ep)
own-heard s t is x h (act.Decide d) there before stays n ep = heard-decided (shown t) h (known_of t (record_seen h)) (now t) d before stays n ep
own-heard s t is x h (act.LogRead b) there before stays n ep = by (has_read_block h) stays ep
  where
    by : (has : Bool) → Stays (block_event s t b has ∷ h) → epoch (block_event s t b has ∷ h) ≡ Some n → cursor (block_event s t b has ∷ h) ≤ shown t n
    by true st e = heard-on (shown t) h (block_event s t b true) tt before st n e
    by false st e = heard-on (shown t) h (block_event s t b false) tt before st n e
own-heard s t is x h (act.Item k) there before stays n ep = by (item_at s x k) stays ep
  where
    by : (item : Option Item) → Stays (item_event item ∷ h) → epoch (item_event item ∷ h) ≡ Some n → cursor (item_event item ∷ h) ≤ shown t n
    by None st e = heard-on (shown t) h (item_event None) tt before st n e
    by (Some item) st e = heard-on (shown t) h (item_event (Some item)) tt before st n e
own-heard s t is x h a there before stays n ep = heard-on (shown t) h (handed s t x (now t) h a) tt before stays n ep

-- a choice that reaches the job
reach-heard : (s : Scen) (t : List Entry) (x : Site) (h : List Event) (a : Act) (sh : ℕ → ℕ) → Reaches s x h a → IsHeard sh h
    → IsHeard sh (handed s t x (now t) h a ∷ h)
reach-heard s t x h act.Abend sh reach before = heard-on sh h (handed s t x (now t) h act.Abend) tt before
reach-heard s t x h (act.Reply go) sh reach before = heard-on sh h (handed s t x (now t) h (act.Reply go)) tt before
reach-heard s t x h (act.Cebt command reply) sh reach before = heard-on sh h (handed s t x (now t) h (act.Cebt command reply)) tt before
reach-heard s t x h (act.Exit said) sh reach before = heard-on sh h (handed s t x (now t) h (act.Exit said)) tt before
reach-heard s t x h _ sh reach before = absurd reach

-- a START
start-heard : (sh : ℕ → ℕ) (a : Act) → IsStart a → IsHeard sh (started a)
start-heard sh act.StartActive is stays n ep = absurd (cc)
start-heard sh act.StartStandby is stays n ep = absurd (cc)
start-heard sh _ is stays n ep = absurd is

-- what is shown only grows
heard-grown : (t : List Entry) (e : Entry) (g : List Event) → IsHeard (shown t) g → IsHeard (shown (e ∷ t)) g
heard-grown t e g before stays n ep =
    let more : shown t n ≤ shown (e ∷ t) n = grows e.act (lands e.land) n (shown t n) in omega (arith, before stays n ep, more)

-- in every run
pub are_heard : (s : Scen) (t : List Entry) → IsShort s t → OfJobs s t (λ x h. IsHeard (shown t) h)
are_heard s t is = over_run s (λ one. OfJobs s one (λ x h. IsHeard (shown one) h)) (no-jobs s (λ x h. IsHeard (shown []) h))
    (λ t is each e step.
    let at : (x : Site) (h : List Event) → hist s t x ≡ Some h → IsHeard (shown t) h = λ x h there. at-job s (λ y g. IsHeard (shown t) g) t x h each there in
    job-steps s t e (λ x h. IsHeard (shown (e ∷ t)) h) step (record {
      starts = λ x a start same. start-heard (shown (e ∷ t)) a start;
      ticks = λ x h there same. heard-grown t e (Ticked ∷ h) (heard-on (shown t) h Ticked tt (at x h there));
      reaches = λ x h a there reach same. heard-grown t e (handed s t x (now t) h a ∷ h) (reach-heard s t x h a (shown t) reach (at x h there));
      makes = λ x h a l there wants can on same. heard-grown t e (handed s t x (now t) h a ∷ h) (own-heard s t is x h a there (at x h there));
      fails =
          λ x h a cut there wants can same. heard-grown t e (ActFailed (next (settings s x) h) (now t) ∷ h)
          (heard-on (shown t) h (ActFailed (next (settings s x) h) (now t)) tt (at x h there));
      others = λ x h there away. heard-grown t e h (at x h there);
    })) t is

-- **so an owner's cursor was shown**
pub cursor-shown : (s : Scen) (t : List Entry) → IsShort s t → (x : Site) (h : List Event) (n : ℕ) → hist s t x ≡ Some h → Stays h → epoch h ≡ Some n
    → cursor h ≤ shown t n
cursor-shown s t is x h n there stays ep = at-job s (λ y g. IsHeard (shown t) g) t x h (are_heard s t is) there stays n ep

-- nothing is shown for a number that is not given
pub shown-same : (b : Bool) (signal : SignalRecord) (n before : ℕ) → (signal.inc ≡ n → ⊥) → shown_if b signal n before ≡ before
shown-same false signal n before differs = refl
shown-same true signal n before differs = by (signal.inc == n) refl
  where
    by : (same : Bool) → (signal.inc == n) ≡ same → (if same then max before signal.cursor else before) ≡ before
    by true same = absurd (differs (eqb-true signal.inc n same))
    by false other = refl

-- a number that is not given has shown nothing
abbrev Unshown : ControlRecord → (ℕ → ℕ) → Type 0
Unshown r sh = (n : ℕ) → r.last < n → sh n ≡ 0

-- a CTLWRITE, whether it lands or not
unshown-if : (r written : ControlRecord) (sh : ℕ → ℕ) (b : Bool) → r.last ≤ written.last → Unshown r sh → Unshown (written_if b written r) sh
unshown-if r written sh true rises un n above = un n (omega (arith, rises, above))
unshown-if r written sh false rises un n above = un n above

-- a signal is of a number that is given
unshown-signal : (s : Scen) → (t : List Entry) → IsShort s t → (x : Site) (h : List Event) (signal : SignalRecord) (b : Bool) → hist s t x ≡ Some h
    → signal_in (next (settings s x) h) ≡ Some signal → Unshown (control t) (shown t) → Unshown (control t) (λ n. shown_if b signal n (shown t n))
unshown-signal s t is x h signal b there told un n above =
    let own : IsSignal h signal = signals-own s t is x h signal there told in
    let few : number h ≤ (control t).last = number-few s t is x h there own.granted in
    shown-same b signal n (shown t n) (λ same. omega (arith, few, above, same, own.inc)) ∙ un n above

-- an act of a job
unshown-made : (s : Scen) → (t : List Entry) → IsShort s t → (x : Site) (h : List Event) (a : Act) (l : Land) → hist s t x ≡ Some h
    → Tells a (next (settings s x) h)
    → Unshown (control t) (shown t) → Unshown (control_after a l (control t)) (λ n. shown_after a (lands l) n (shown t n))
unshown-made s t is x h (act.Signal1 signal) l there told un n above =
    unshown-signal s t is x h signal (lands l) there (ap signal_in told) un n above
unshown-made s t is x h (act.Signal2 signal) l there told un n above =
    unshown-signal s t is x h signal (lands l) there (ap signal_in told) un n above
unshown-made s t is x h (act.CtlWrite written) l there told un n above =
    unshown-if (control t) written (shown t) (lands l) (last-rises s t is x h written there told) un n above
unshown-made s t is x h _ l there told un n above = un n above

-- an entry of no job
unshown-inert : (r : ControlRecord) (sh : ℕ → ℕ) (a : Act) (l : Land) → is_act a ≡ false → Unshown r sh
    → Unshown (control_after a l r) (λ n. shown_after a (lands l) n (sh n))
unshown-inert r sh (act.CtlWrite written) l inert un = absurd (cc)
unshown-inert r sh (act.Signal1 signal) l inert un = absurd (cc)
unshown-inert r sh (act.Signal2 signal) l inert un = absurd (cc)
unshown-inert r sh _ l inert un = un

-- in every run
pub are_unshown : (s : Scen) → (t : List Entry) → IsShort s t → Unshown (control t) (shown t)
are_unshown s t is = over_run s (λ one. Unshown (control one) (shown one)) (λ n above. refl)
    (λ t is un e step. by_act s t e (λ one. Unshown (control (one ∷ t)) (shown (one ∷ t))) step (record {
      inert = λ one inert. unshown-inert (control t) (shown t) one.act one.land inert un;
      made = λ x h a l there wants can. unshown-made s t is x h a l there (tells s t x h (next (settings s x) h) a wants) un;
    })) t is
