-- What a job has taken, and that the other messages of its epoch stand.
use Rattle.std.proofs.Common.{Bool, List, false, not, refl, true, ◌≡◌, ◌&&◌, length, ℕ, ◌%◌, Some, ap, eq-eqb, eqb-true, nat_lt, subst, sym, ◌-◌, ◌≤◌, ◌==◌, ◌∙◌, [], ◌∷◌, if◌then◌else◌, arith, ◌||◌, ◌+◌, ◌<◌, max, None, Option}
use Rattle.std.proofs.lemmas.Bool.{and_parts}
use Rattle.xrf_base.specs.declared.site.Site.{Site}
use Rattle.xrf_base.specs.declared.items.Item.{Item}
use Rattle.xrf_ctl.specs.Control.{ControlRecord}
use Rattle.xrf_ctl.specs.Signal.{SignalRecord}
use Rattle.xrf_cavm.specs.Record.{is_alt, is_owner as names_owner}
use Rattle.xrf_gated.specs.Slots.{is_open}
use Rattle.xrf_gated.specs.declared.gated.Slot.{Slot}
use Rattle.xrf_setup.specs.declared.choice.Landing.{Landing}
use Rattle.xrf_msg.specs.declared.messages.Message.{Message}
use Rattle.xrf_msg.specs.Messages.{epoch_of, number_of, spelling}
use Rattle.xrf_history.specs.Events.{Event, ControlWritten, Signalled1, Signalled2, ActFailed, Ticked}
use Rattle.xrf_history.proofs.SigningOff.{Stays, has_reserved_off}
use Rattle.xrf_history.specs.Holding.{is_granted, is_owner, is_restarted, number}
use Rattle.xrf_history.specs.Sending.{cursor}
use Rattle.xrf_history.specs.Next.{next}
use Rattle.xrf_history.specs.Taking.{taken}
use Rattle.xrf_history.proofs.Holding.{owner-granted}
use Rattle.xrf_history.specs.Restarting.{has_read_block}
use Rattle.xrf_history.specs.declared.want.Want.TheVariants as want
use Rattle.xrf_trace.specs.declared.entry.Entry.{Entry}
use Rattle.xrf_trace.proofs.Short.{IsShort, over_run}
use Rattle.xrf_trace.specs.Scenario.{Scen, other, settings, item_at}
use Rattle.xrf_trace.specs.Devices.{control, message_slot, control_after, message_slot_after, with_body, with_gate, written_if}
use Rattle.xrf_trace.specs.Jobs.{hist, block_event, handed, item_event}
use Rattle.xrf_trace.specs.Tracking.{messages, messages_after}
use Rattle.xrf_trace.specs.declared.entry.Act.{Act}
use Rattle.xrf_trace.specs.declared.entry.Land.{Land}
use Rattle.xrf_trace.specs.Landing.{lands, landed}
use Rattle.xrf_trace.proofs.TraceActs.{Tells, by_other, tells}
use Rattle.xrf_trace.proofs.Steps.{CanLand, IsStart, Reaches, Step}
use Rattle.xrf_trace.proofs.JobSteps.{GoesOn, started, JobCases, OfJobs, at-job, is-own, job-steps, no-jobs}
use Rattle.xrf_trace.specs.Acts.{is_act, may_fail}
use Rattle.xrf_trace.specs.Words.{now}
use Rattle.xrf_trace.specs.declared.entry.Act.TheVariants as act
use Rattle.xrf_trace.specs.declared.entry.Land.TheVariants as land
use Rattle.xrf_message_law.specs.Readers.{placed, Reads, IsReader}
use Rattle.xrf_message_law.proofs.RingWrites.{Away, away-none, away-sent, reads-away, reads-opened}
use Rattle.xrf_message_law.specs.Listing.{Counted}
use Rattle.xrf_message_law.proofs.DueMessage.{IsDueOf, due-is}
use Rattle.xrf_message_law.specs.Names.{ItemsNamed}
use Rattle.xrf_message_law.specs.Due.{Sending, writes, DueAt, IsDue, SendsSome, ReadsOrSends}
use Rattle.xrf_message_law.proofs.Shown.{cursor-shown, shown-same, are_unshown}
use Rattle.xrf_message_law.proofs.Owner.{one-stays, distinct, keeps-place, owns, gives-next, stays-placed}
use Rattle.xrf_message_law.proofs.Unbroken.{sends-unbroken}
use Rattle.xrf_message_law.specs.Shown.{shown, shown_after, shown_if, IsSignal, signal_in}
use Rattle.xrf_message_law.proofs.Epochs.{unsent-epochs, last-unsent}
use Rattle.xrf_message_law.specs.Writing.{IsReady, ReadyAt}
use Rattle.xrf_message_law.proofs.Bounds.{sends-whole}
use Rattle.xrf_message_law.proofs.Rounds.{signals-own, none-taken}
use Rattle.xrf_message_law.proofs.Numbering.{are_numbered}
use Rattle.xrf_message_law.proofs.LastOpened.{are_sound}
use Rattle.xrf_message_law.proofs.ReaderEvents.{reader-declared, reader-on, reader-read, reader-reserved}
use Rattle.xrf_message_law.proofs.Counting.{are_counted}
use Rattle.xrf_message_law.proofs.Due.{are_due}
use Rattle.xrf_message_law.proofs.Writing.{are_ready}

-- a placed job that is no owner is the alternate of the record
placed-alt : (r : ControlRecord) (g : List Event) → placed r g ≡ true → (Stays g → ⊥) → is_alt r (number g) ≡ true
placed-alt r g there none = by (is_owner g) (has_reserved_off g) refl refl there
  where
    by : (o off : Bool) → is_owner g ≡ o → has_reserved_off g ≡ off
        → (elim o [ true ↦ not off && not (is_restarted g) | false ↦ is_granted g && is_alt r (number g) ]) ≡ true → is_alt r (number g) ≡ true
    by false off owner is place = (and_parts (is_granted g) (is_alt r (number g)) place).1
    by true true owner is place = absurd (cc)
    by true false owner is place = absurd (none (record { owner = owner; stays = is }))

-- what a job's next writing leaves of the messages of a placed job of the other site
record IsAway (ring : ℕ) (f : List Message) (has k : ℕ) (n : ℕ) (m : Message) : Type 0 where
  away : Away ring f has k
  place : epoch_of m ≡ n → k ≡ length f % ring

-- the slot that an owner writes next holds no message that a placed job has not taken
away-writer : (s : Scen) → ItemsNamed s → (t : List Entry) → IsShort s t → (z : Site) (g h : List Event) (k : ℕ) (m : Message)
    → hist s t z ≡ Some g → hist s t (other z) ≡ Some h
    → Sending (settings s (other z)) h k m → writes (next (settings s (other z)) h) ≡ true → Counted (messages t) h → placed (control t) g ≡ true
    → Reads s.settings.ring (message_slot t) (messages t (number g)) (shown t (number g)) (taken g)
    → IsAway s.settings.ring (messages t (number g)) (length (taken g)) k (number g) m
away-writer s names t is z g h k m also there sending writing counted place b =
    record { away = by (epoch_of m == n) refl; place = λ same. sending.place ∙ ap (λ (c : ℕ). c % s.settings.ring) (count same) }
  where
    n : ℕ
    n = number g

    due : IsDueOf h m
    due = due-is (settings s (other z)) h m sending.due

    count : epoch_of m ≡ number g → number_of m ≡ length (messages t (number g))
    count same = subst (λ (e : ℕ). number_of m ≡ length (messages t e)) same
        (due.number_is ∙ (counted sending.stays (sends-unbroken s t is (other z) h there writing) (epoch_of m) due.epoch_is).same)

    may : nat_lt (number_of m - cursor h) s.settings.ring ≡ true
    may = subst (λ (c : ℕ). nat_lt (c - cursor h) s.settings.ring ≡ true) (sym due.number_is) sending.may

    by : (same : Bool) → (epoch_of m == number g) ≡ same → Away s.settings.ring (messages t (number g)) (length (taken g)) k
    by true same =
        let e : epoch_of m ≡ number g = eqb-true (epoch_of m) (number g) same in
        let heard : cursor h ≤ shown t (number g) = cursor-shown s t is (other z) h (number g) there sending.stays (due.epoch_is ∙ ap (λ (i : ℕ). Some i) e) in
        subst (Away s.settings.ring (messages t (number g)) (length (taken g))) (sym sending.place)
        (away-sent s.settings.ring (messages t (number g)) (length (taken g)) (number_of m) (cursor h) (shown t (number g)) (count e) may heard b.shows)
    by false differs =
        away-none s.settings.ring (messages t (number g)) (length (taken g)) k
        (unsent-epochs s t is (other z) h (number g) there sending.stays (placed-alt (control t) g place
        (λ stays. one-stays s t is z g h also there stays sending.stays))
        (λ one. let both : Some (epoch_of m) ≡ Some (number g) = sym due.epoch_is ∙ one in
        let e : epoch_of m ≡ number g = cc in
        let eq : (epoch_of m == number g) ≡ true = eq-eqb (epoch_of m) (number g) e in
        absurd (cc)))

-- what is said of a reader after an act
abbrev ReaderAfter : Scen → List Entry → Act → Land → List Event → Type 0
ReaderAfter s t a l g =
    IsReader s.settings.ring (control_after a l (control t)) (λ i. message_slot_after a l i (message_slot t i))
    (λ n. messages_after n a l (messages t n)) (λ n. shown_after a (lands l) n (shown t n)) g

-- a record that is written names this place only where the one before did
placed-back : (r written : ControlRecord) (b : Bool) (g : List Event) → (is_granted g ≡ true → is_alt written (number g) ≡ true → is_alt r (number g) ≡ true)
    → placed (elim b [ true ↦ written | false ↦ r ]) g ≡ true → placed r g ≡ true
placed-back r written false g back there = there
placed-back r written true g back there = by (is_owner g) there
  where
    by : (o : Bool) → (elim o [ true ↦ not (has_reserved_off g) && not (is_restarted g) | false ↦ is_granted g && is_alt written (number g) ]) ≡ true
        → (elim o [ true ↦ not (has_reserved_off g) && not (is_restarted g) | false ↦ is_granted g && is_alt r (number g) ]) ≡ true
    by true place = place
    by false place =
        let parts = and_parts (is_granted g) (is_alt written (number g)) place in
        let alt : is_alt r (number g) ≡ true = back parts.0 parts.1 in
        rw (parts.0, alt) refl

-- a placed job holds a number
placed-granted : (r : ControlRecord) (g : List Event) → placed r g ≡ true → is_granted g ≡ true
placed-granted r g there = by (is_owner g) refl there
  where
    by : (o : Bool) → is_owner g ≡ o
        → (elim o [ true ↦ not (has_reserved_off g) && not (is_restarted g) | false ↦ is_granted g && is_alt r (number g) ]) ≡ true → is_granted g ≡ true
    by true owner place = owner-granted g owner
    by false owner place = (and_parts (is_granted g) (is_alt r (number g)) place).0

-- a signal of the other site shows this one nothing
beside-signal : (s : Scen) (t : List Entry) (b : Bool) (g : List Event) (signal : SignalRecord) → (is_granted g ≡ true → signal.inc ≡ number g → ⊥)
    → IsReader s.settings.ring (control t) (message_slot t) (messages t) (shown t) g
    → IsReader s.settings.ring (control t) (message_slot t) (messages t) (λ n. shown_if b signal n (shown t n)) g
beside-signal s t b g signal differs before there =
    let d : signal.inc ≡ number g → ⊥ = differs (placed-granted (control t) g there) in
    subst (λ (sh : ℕ). Reads s.settings.ring (message_slot t) (messages t (number g)) sh (taken g))
    (sym (shown-same b signal (number g) (shown t (number g)) d)) (before there)

-- an act of the other site
beside-reader : (s : Scen) → ItemsNamed s → (t : List Entry) → IsShort s t → (z : Site) (g h : List Event) (a : Act) (l : Land)
    → hist s t z ≡ Some g → hist s t (other z) ≡ Some h
    → Tells a (next (settings s (other z)) h) → IsReady s t (other z) h → IsDue (settings s (other z)) h → Counted (messages t) h
    → IsReader s.settings.ring (control t) (message_slot t) (messages t) (shown t) g → ReaderAfter s t a l g
beside-reader s names t is z g h (act.MsgClose k) l also there told ready due counted before =
    let some : SendsSome (settings s (other z)) h k = subst (DueAt (settings s (other z)) h) told due.due in
    λ place. let b = before place in
    reads-away s.settings.ring (message_slot t) (messages t (number g)) (shown t (number g)) (taken g) k (with_gate (landed l (0 ∷ [])))
    (away-writer s names t is z g h k some.message also there some.sending (ap writes told) counted place b).away b
beside-reader s names t is z g h (act.MsgBody k m) l also there told ready due counted before =
    let sending : Sending (settings s (other z)) h k m = subst (DueAt (settings s (other z)) h) told due.due in
    λ place. let b = before place in
    reads-away s.settings.ring (message_slot t) (messages t (number g)) (shown t (number g)) (taken g) k (with_body (landed l (spelling m)))
    (away-writer s names t is z g h k m also there sending (ap writes told) counted place b).away b
beside-reader s names t is z g h (act.MsgOpen k m) l also there told ready due counted before =
    let sending : Sending (settings s (other z)) h k m = subst (DueAt (settings s (other z)) h) told due.due in
    let slot_ready : (is_open (message_slot t k) ≡ false) × ((message_slot t k).body ≡ spelling m) = subst (ReadyAt (message_slot t)) told ready in
    λ place. let b = before place in
    let far = away-writer s names t is z g h k m also there sending (ap writes told) counted place b in
    reads-opened s.settings.ring (message_slot t) (messages t (number g)) (shown t (number g)) (taken g) (number g) k m l far.away slot_ready.1
    (sends-whole s names t is (other z) h k m there told) far.place b
beside-reader s names t is z g h (act.CtlWrite written) l also there told ready due counted before =
    λ place. before
    (placed-back (control t) written (lands l) g (λ granted named. keeps-place s t is z g h written also there told granted named) (written-if (lands l) place))
  where
    written-if : (b : Bool) → placed (written_if b written (control t)) g ≡ true → placed (elim b [ true ↦ written | false ↦ control t ]) g ≡ true
    written-if true place = place
    written-if false place = place
beside-reader s names t is z g h (act.Signal1 signal) l also there told ready due counted before =
    let own : IsSignal h signal = signals-own s t is (other z) h signal there (ap signal_in told) in
    beside-signal s t (lands l) g signal (λ granted same. distinct s t is z g h also there granted own.granted (sym own.inc ∙ same)) before
beside-reader s names t is z g h (act.Signal2 signal) l also there told ready due counted before =
    let own : IsSignal h signal = signals-own s t is (other z) h signal there (ap signal_in told) in
    beside-signal s t (lands l) g signal (λ granted same. distinct s t is z g h also there granted own.granted (sym own.inc ∙ same)) before
beside-reader s names t is z g h _ l also there told ready due counted before = before

-- a job that writes messages is restarted, so it is not placed
not-placed : (r : ControlRecord) (h : List Event) → is_owner h ≡ true → is_restarted h ≡ true → placed r h ≡ true → ⊥
not-placed r h owner restarted there = by (is_owner h) (has_reserved_off h) (is_restarted h) owner restarted there
  where
    by : (o off b : Bool) → o ≡ true → b ≡ true → (elim o [ true ↦ not off && not b | false ↦ is_granted h && is_alt r (number h) ]) ≡ true → ⊥
    by true true true owns is place = absurd (cc)
    by true false true owns is place = absurd (cc)
    by true off false owns is place = absurd (cc)
    by false off b owns is place = absurd (cc)

-- a new number: it has taken nothing, and nothing was sent to it or shown for it
reads-none : (ring : ℕ) (slot : ℕ → Slot) (f : List Message) (sh : ℕ) (has : List Message) → f ≡ [] → sh ≡ 0 → has ≡ [] → Reads ring slot f sh has
reads-none ring slot f sh has no_message no_cursor nothing =
    let fresh : Reads ring slot [] 0 [] = record { taken_is = refl; few = omega arith; stands = λ q from. tt; shows = omega arith } in
    subst (λ (one : List Message). Reads ring slot one sh has) (sym no_message)
    (subst (λ (one : ℕ). Reads ring slot [] one has) (sym no_cursor) (subst (Reads ring slot [] 0) (sym nothing) fresh))

-- by either part of a disjunction
or-either : (a b c : Bool) → (a || b) ≡ true → (b ≡ true → c ≡ true) → (a ≡ true → c ≡ true) → c ≡ true
or-either true b c is right left = left refl
or-either false b c is right left = right is

-- an alternate whose record names it is in its place
placed-if_alt : (r : ControlRecord) (h : List Event) → is_owner h ≡ false → is_granted h ≡ true → is_alt r (number h) ≡ true → placed r h ≡ true
placed-if_alt r h owner granted alt = by (is_owner h) owner
  where
    by : (o : Bool) → o ≡ false → (elim o [ true ↦ not (has_reserved_off h) && not (is_restarted h) | false ↦ is_granted h && is_alt r (number h) ]) ≡ true
    by true is = absurd (cc)
    by false is = rw (granted, alt) refl

-- its own CTLWRITE
written-reader : (s : Scen) → ItemsNamed s → (t : List Entry) → IsShort s t → (x : Site) (h : List Event) (written : ControlRecord) → hist s t x ≡ Some h
    → next (settings s x) h ≡ want.CtlWrite written → IsReader s.settings.ring (control t) (message_slot t) (messages t) (shown t) h
    → IsReader s.settings.ring written (message_slot t) (messages t) (shown t) (ControlWritten written ∷ h)
written-reader s names t is x h written there told before place = by (is_granted h) refl
  where
    later : List Event
    later = ControlWritten written ∷ h

    granted-place : is_granted h ≡ true → number later ≡ number h
    granted-place granted = rw granted refl

    back : is_granted h ≡ true → (o : Bool) → is_owner h ≡ o
        → (elim (o || names_owner written (number later)) [
          | true ↦ not (has_reserved_off h) && not (is_restarted h)
          | false ↦ is_alt written
              (number later)
        ]) ≡ true → placed (control t) h ≡ true
    back granted true owner placed_so =
        subst
        (λ (b : Bool). (elim b [ true ↦ not (has_reserved_off h) && not (is_restarted h) | false ↦ is_granted h && is_alt (control t) (number h) ]) ≡ true)
        (sym owner) placed_so
    back granted false owner placed_so =
        let named : (is_alt written (number later) || names_owner written (number later)) ≡ true = name (names_owner written (number later)) placed_so in
        let named_so : (is_alt written (number h) || names_owner written (number h)) ≡ true =
        subst (λ (n : ℕ). (is_alt written n || names_owner written n) ≡ true) (granted-place granted) named in
        let alt : is_alt (control t) (number h) ≡ true = stays-placed s t is x h written there told granted owner named_so in
        placed-if_alt (control t) h owner granted alt
      where
        name : (b : Bool) → (elim b [ true ↦ not (has_reserved_off h) && not (is_restarted h) | false ↦ is_alt written (number later) ]) ≡ true
            → (is_alt written (number later) || b) ≡ true
        name true p = or-true (is_alt written (number later))
          where
            or-true : (a : Bool) → (a || true) ≡ true
            or-true true = refl
            or-true false = refl
        name false p = rw p refl

    by : (b : Bool) → is_granted h ≡ b → Reads s.settings.ring (message_slot t) (messages t (number later)) (shown t (number later)) (taken later)
    by true granted =
        subst (λ (n : ℕ). Reads s.settings.ring (message_slot t) (messages t n) (shown t n) (taken h)) (sym (granted-place granted))
        (before (back granted (is_owner h) refl place))
    by false new =
        let last : written.last ≡ (control t).last + 1 = gives-next s t is x h written there told new in
        let number_is : number later ≡ written.last = rw new refl in
        let above : (control t).last < number later = omega (arith, last, number_is) in
        reads-none s.settings.ring (message_slot t) (messages t (number later)) (shown t (number later)) (taken h)
        (last-unsent s t is (number later) above) (are_unshown s t is (number later) above) (none-taken s t is x h there new)

-- its own signal shows no more than it has taken
signal-shows : (b : Bool) (signal : SignalRecord) (n before from : ℕ) → signal.cursor ≤ from → before ≤ from → shown_if b signal n before ≤ from
signal-shows false signal n before from few was = was
signal-shows true signal n before from few was = by (signal.inc == n)
  where
    by : (same : Bool) → (if same then max before signal.cursor else before) ≤ from
    by true = omega (arith, few, was)
    by false = was

-- its own signal
signal-reader : (s : Scen) (t : List Entry) (b : Bool) (h : List Event) (signal : SignalRecord) → IsSignal h signal
    → IsReader s.settings.ring (control t) (message_slot t) (messages t) (shown t) h
    → IsReader s.settings.ring (control t) (message_slot t) (messages t) (λ n. shown_if b signal n (shown t n)) h
signal-reader s t b h signal own before place =
    let was = before place in
    record {
      taken_is = was.taken_is;
      few = was.few;
      stands = was.stands;
      shows = signal-shows b signal (number h) (shown t (number h))
          (length (taken h)) own.cursor was.shows;
    }

-- the job's own act
made-reader : (s : Scen) → ItemsNamed s → (t : List Entry) → IsShort s t → (x : Site) (h : List Event) (a : Act) (l : Land) → hist s t x ≡ Some h
    → is_act a ≡ true → CanLand t a l → GoesOn l
    → Tells a (next (settings s x) h) → IsDue (settings s x) h → IsReader s.settings.ring (control t) (message_slot t) (messages t) (shown t) h
    → ReaderAfter s t a l (handed s t x (now t) h a ∷ h)
made-reader s names t is x h (act.MsgRead k) l there own can on told due before =
    let reads : ReadsOrSends (settings s x) h k (is_restarted h) = subst (DueAt (settings s x) h) told due.due in
    reader-read s.settings.ring (control t) (message_slot t) (messages t) (shown t) h k due.done
    (λ not_yet. let one : ReadsOrSends (settings s x) h k false = subst (ReadsOrSends (settings s x) h k) not_yet reads in one.place)
    (are_numbered s names t is) (are_sound s names t is) before
made-reader s names t is x h (act.MsgClose k) l there own can on told due before =
    let some : SendsSome (settings s x) h k = subst (DueAt (settings s x) h) told due.due in
    λ place. absurd (not-placed (control t) h some.sending.stays.owner some.sending.restarted place)
made-reader s names t is x h (act.MsgBody k m) l there own can on told due before =
    let sending : Sending (settings s x) h k m = subst (DueAt (settings s x) h) told due.due in
    λ place. absurd (not-placed (control t) h sending.stays.owner sending.restarted place)
made-reader s names t is x h (act.MsgOpen k m) l there own can on told due before =
    let sending : Sending (settings s x) h k m = subst (DueAt (settings s x) h) told due.due in
    λ place. absurd (not-placed (control t) h sending.stays.owner sending.restarted place)
made-reader s names t is x h (act.CtlWrite written) land.Full there own can on told due before =
    written-reader s names t is x h written there told before
made-reader s names t is x h (act.CtlWrite written) land.Lost there own can on told due before = absurd (cc)
made-reader s names t is x h (act.CtlWrite written) _ there own can on told due before = absurd on
made-reader s names t is x h (act.Signal1 signal) l there own can on told due before =
    reader-on s.settings.ring (control t) (message_slot t) (messages t) (λ n. shown_if (lands l) signal n (shown t n)) h (Signalled1 signal) tt
    (signal-reader s t (lands l) h signal (signals-own s t is x h signal there (ap signal_in told)) before)
made-reader s names t is x h (act.Signal2 signal) l there own can on told due before =
    reader-on s.settings.ring (control t) (message_slot t) (messages t) (λ n. shown_if (lands l) signal n (shown t n)) h (Signalled2 signal) tt
    (signal-reader s t (lands l) h signal (signals-own s t is x h signal there (ap signal_in told)) before)
made-reader s names t is x h act.Reserve l there own can on told due before =
    reader-reserved s.settings.ring (control t) (message_slot t) (messages t) (shown t) h before
made-reader s names t is x h act.Restarted l there own can on told due before =
    reader-declared s.settings.ring (control t) (message_slot t) (messages t) (shown t) h before
made-reader s names t is x h (act.LogRead b) l there own can on told due before = by (has_read_block h)
  where
    by : (has : Bool) → IsReader s.settings.ring (control t) (message_slot t) (messages t) (shown t) (block_event s t b has ∷ h)
    by true = reader-on s.settings.ring (control t) (message_slot t) (messages t) (shown t) h (block_event s t b true) tt before
    by false = reader-on s.settings.ring (control t) (message_slot t) (messages t) (shown t) h (block_event s t b false) tt before
made-reader s names t is x h (act.Item k) l there own can on told due before = by (item_at s x k)
  where
    by : (item : Option Item) → IsReader s.settings.ring (control t) (message_slot t) (messages t) (shown t) (item_event item ∷ h)
    by None = reader-on s.settings.ring (control t) (message_slot t) (messages t) (shown t) h (item_event None) tt before
    by (Some item) = reader-on s.settings.ring (control t) (message_slot t) (messages t) (shown t) h (item_event (Some item)) tt before
made-reader s names t is x h a l there own can on told due before =
    reader-on s.settings.ring (control t) (message_slot t) (messages t) (shown t) h (handed s t x (now t) h a) tt before

-- a failed act of its own
fails-reader : (s : Scen) (t : List Entry) (x : Site) (h : List Event) (a : Act) (cut : Landing) → may_fail a ≡ true
    → Tells a (next (settings s x) h) → IsDue (settings s x) h
    → IsReader s.settings.ring (control t) (message_slot t) (messages t) (shown t) h
    → ReaderAfter s t a (land.Fail cut) (ActFailed (next (settings s x) h) (now t) ∷ h)
fails-reader s t x h (act.MsgClose k) cut may told due before =
    let some : SendsSome (settings s x) h k = subst (DueAt (settings s x) h) told due.due in
    λ place. absurd (not-placed (control t) h some.sending.stays.owner some.sending.restarted place)
fails-reader s t x h (act.MsgBody k m) cut may told due before =
    let sending : Sending (settings s x) h k m = subst (DueAt (settings s x) h) told due.due in
    λ place. absurd (not-placed (control t) h sending.stays.owner sending.restarted place)
fails-reader s t x h (act.MsgOpen k m) cut may told due before =
    let sending : Sending (settings s x) h k m = subst (DueAt (settings s x) h) told due.due in
    λ place. absurd (not-placed (control t) h sending.stays.owner sending.restarted place)
fails-reader s t x h (act.CtlWrite written) cut may told due before = absurd (cc)
fails-reader s t x h (act.Signal1 signal) cut may told due before = absurd (cc)
fails-reader s t x h (act.Signal2 signal) cut may told due before = absurd (cc)
fails-reader s t x h _ cut may told due before =
    reader-on s.settings.ring (control t) (message_slot t) (messages t) (shown t) h (ActFailed (next (settings s x) h) (now t)) tt before

-- a START
start-reader : (ring : ℕ) (r : ControlRecord) (slot : ℕ → Slot) (f : ℕ → List Message) (sh : ℕ → ℕ) (a : Act) → IsStart a
    → IsReader ring r slot f sh (started a)
start-reader ring r slot f sh act.StartActive is place = absurd (cc)
start-reader ring r slot f sh act.StartStandby is place = absurd (cc)
start-reader ring r slot f sh _ is place = absurd is

-- an act of no job changes nothing that a reader goes by
inert-reader : (s : Scen) (t : List Entry) (a : Act) (l : Land) (g : List Event) → is_act a ≡ false
    → IsReader s.settings.ring (control t) (message_slot t) (messages t) (shown t) g → ReaderAfter s t a l g
inert-reader s t (act.MsgClose k) l g inert before = absurd (cc)
inert-reader s t (act.MsgBody k m) l g inert before = absurd (cc)
inert-reader s t (act.MsgOpen k m) l g inert before = absurd (cc)
inert-reader s t (act.CtlWrite written) l g inert before = absurd (cc)
inert-reader s t (act.Signal1 signal) l g inert before = absurd (cc)
inert-reader s t (act.Signal2 signal) l g inert before = absurd (cc)
inert-reader s t _ l g inert before = before

-- a choice that reaches the job
reach-reader : (s : Scen) (t : List Entry) (x : Site) (h : List Event) (a : Act) → Reaches s x h a
    → IsReader s.settings.ring (control t) (message_slot t) (messages t) (shown t) h
    → ReaderAfter s t a land.Full (handed s t x (now t) h a ∷ h)
reach-reader s t x h act.Abend reach before = before
reach-reader s t x h (act.Reply go) reach before = before
reach-reader s t x h (act.Cebt command reply) reach before = before
reach-reader s t x h (act.Exit said) reach before = before
reach-reader s t x h _ reach before = absurd reach

-- of the job at a site
abbrev pub ReaderIn : Scen → List Entry → Site → List Event → Type 0
ReaderIn s t x h = IsReader s.settings.ring (control t) (message_slot t) (messages t) (shown t) h

-- an entry keeps it
reader-moves : (s : Scen) → ItemsNamed s → (t : List Entry) → IsShort s t → (e : Entry) → Step s t e → OfJobs s t (ReaderIn s t)
    → JobCases s t e (ReaderIn s (e ∷ t))
reader-moves s names t is e step each =
    let at : (x : Site) (h : List Event) → hist s t x ≡ Some h → ReaderIn s t x h = λ x h there. at-job s (ReaderIn s t) t x h each there in
    let due : (x : Site) (h : List Event) → hist s t x ≡ Some h → IsDue (settings s x) h = λ x h there. at-job s
    (λ y g. IsDue (settings s y) g) t x h (are_due s t is) there in
    let ready : (x : Site) (h : List Event) → hist s t x ≡ Some h → IsReady s t x h = λ x h there. at-job s (IsReady s t) t x h
    (are_ready s t is) there in
    let counted : (x : Site) (h : List Event) → hist s t x ≡ Some h → Counted (messages t) h = λ x h there. at-job s
    (λ y g. Counted (messages t) g) t x h (are_counted s names t is) there in
    record {
      starts = λ x a start same. start-reader s.settings.ring (control (e ∷ t)) (message_slot (e ∷ t)) (messages (e ∷ t)) (shown (e ∷ t)) a start;
      ticks = λ x h there same. subst (λ (one : Entry). ReaderIn s (one ∷ t) x (Ticked ∷ h)) same (at x h there);
      reaches =
          λ x h a there reach same. subst (λ (one : Entry). ReaderIn s (one ∷ t) x (handed s t x (now t) h a ∷ h)) same
          (reach-reader s t x h a reach (at x h there));
      makes = λ x h a l there wants can on same. subst (λ (one : Entry). ReaderIn s (one ∷ t) x (handed s t x (now t) h a ∷ h)) same
          (made-reader s names t is x h a l there (is-own s t x h (next (settings s x) h) a wants) can on (tells s t x h (next (settings s x) h) a wants)
          (due x h there) (at x h there));
      fails = λ x h a cut there wants can same. subst (λ (one : Entry). ReaderIn s (one ∷ t) x (ActFailed (next (settings s x) h) (now t) ∷ h)) same
          (fails-reader s t x h a cut can (tells s t x h (next (settings s x) h) a wants) (due x h there) (at x h there));
      others = λ z g also away. by_other s t e z (λ one. ReaderIn s (one ∷ t) z g) step away (record {
        inert = λ one inert. inert-reader s t one.act one.land g inert (at z g also);
        made = λ h a l there wants can. beside-reader s names t is z g h a l also there (tells s t (other z) h (next (settings s (other z)) h) a wants)
            (ready (other z) h there) (due (other z) h there) (counted (other z) h there) (at z g also);
      });
    }

-- in every run
pub are_readers : (s : Scen) → ItemsNamed s → (t : List Entry) → IsShort s t → OfJobs s t (ReaderIn s t)
are_readers s names t is = over_run s (λ one. OfJobs s one (ReaderIn s one)) (no-jobs s (ReaderIn s []))
    (λ t is each e step. job-steps s t e (ReaderIn s (e ∷ t)) step (reader-moves s names t is e step each)) t is
