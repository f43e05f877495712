-- The slot of a message that is being written is as the writing left it.
use Rattle.std.proofs.Common.{ℕ, List, Bool, None, Option, Some, false, refl, true, ◌≡◌, ◌∷◌, subst, eq-eqb, ◌==◌, [], ◌∙◌, ap}
use Rattle.xrf_base.specs.declared.site.Site.{Site}
use Rattle.xrf_base.specs.declared.site.Site.TheVariants as site
use Rattle.xrf_gated.specs.declared.gated.Slot.{Slot}
use Rattle.xrf_gated.specs.Slots.{bytes_of, is_open}
use Rattle.xrf_msg.specs.declared.messages.Message.{Message}
use Rattle.xrf_msg.specs.Messages.{spelling}
use Rattle.xrf_history.proofs.Boundary.{IsPlain, Cases, calm-plain, idle-plain, boundary-by}
use Rattle.xrf_history.specs.declared.want.Want.{Want}
use Rattle.xrf_history.specs.Events.{Event, MessageRead, MessageClosed, MessageOpened, ActFailed, Ticked}
use Rattle.xrf_history.specs.declared.settings.Settings.{Settings}
use Rattle.xrf_history.specs.Next.{after_message_read, message_at_hand, next, or_boundary, after_message_close}
use Rattle.xrf_history.proofs.Inside.{off-next, quiet-next, passing-next}
use Rattle.xrf_history.proofs.SigningOff.{Stays}
use Rattle.xrf_history.specs.declared.want.Want.TheVariants as want
use Rattle.xrf_trace.specs.declared.entry.Act.{Act}
use Rattle.xrf_trace.proofs.TraceActs.{IsApart, handed-off, Tells, by_other, inert-apart, tells, reach-apart, reach-off}
use Rattle.xrf_trace.specs.declared.entry.Land.{Land}
use Rattle.xrf_trace.specs.Devices.{message_slot_after, message_slot, close_at, with_gate, body_at, with_body}
use Rattle.xrf_trace.specs.declared.entry.Entry.{Entry}
use Rattle.xrf_trace.specs.Scenario.{Scen, settings, other}
use Rattle.xrf_trace.specs.Jobs.{handed, hist}
use Rattle.xrf_trace.specs.Words.{now}
use Rattle.xrf_trace.specs.Landing.{landed}
use Rattle.xrf_trace.proofs.Steps.{CanLand, Step, Reaches, IsStart}
use Rattle.xrf_trace.proofs.JobSteps.{GoesOn, IsElsewhere, at-job, started, JobCases, job-steps}
use Rattle.xrf_trace.proofs.Short.{IsShort, over_run}
use Rattle.xrf_trace.specs.Each.{OfJob}
use Rattle.xrf_trace.specs.declared.entry.Act.TheVariants as act
use Rattle.xrf_trace.specs.declared.entry.Land.TheVariants as land
use Rattle.xrf_message_law.specs.Writing.{ReadyAt, IsReady, AreReady}
use Rattle.xrf_message_law.specs.Due.{writes, DueAt, IsDue}
use Rattle.xrf_message_law.proofs.Owner.{one-stays}
use Rattle.xrf_message_law.proofs.Due.{are_due}

-- nothing is said before another act
ready-calm : (f : ℕ → Slot) (w : Want) → IsPlain w → ReadyAt f w
ready-calm f (want.MsgClose k) calm = absurd calm
ready-calm f (want.MsgBody k message) calm = absurd calm
ready-calm f (want.MsgOpen k message) calm = absurd calm
ready-calm f _ calm = tt

-- what is known at a boundary
ready-cases : (f : ℕ → Slot) (p : Settings) (h : List Event) → Cases p h (ReadyAt f)
ready-cases f p h = record {
  idle = λ w idle. ready-calm f w (idle-plain w idle);
  calm = λ w calm works. ready-calm f w (calm-plain w calm);
  signals = λ granted works. tt;
  reads = λ alternate due. tt;
  drains = λ works due. tt;
  restarts = λ works none not_yet. tt;
  sends = λ works none done m due may. tt;
  works = λ works none done no_message. tt;
}

-- after a MSGREAD: the BODY comes next where the gate that was read is not open
ready-read : (f : ℕ → Slot) (p : Settings) (h : List Event) (k : ℕ) → ReadyAt f (next p (MessageRead k (bytes_of (f k)) ∷ h))
ready-read f p h k = by (message_at_hand p h)
  where
    gate : (m : Message) (b : Bool) → is_open (f k) ≡ b → ReadyAt f (elim b [ true ↦ want.MsgClose k | false ↦ want.MsgBody k m ])
    gate m true is = is
    gate m false is = is

    by : (at_hand : Option Message) → ReadyAt f (or_boundary p (MessageRead k (bytes_of (f k)) ∷ h) (after_message_read k (bytes_of (f k)) at_hand))
    by None = boundary-by (ReadyAt f) p (MessageRead k (bytes_of (f k)) ∷ h) (ready-cases f p (MessageRead k (bytes_of (f k)) ∷ h))
    by (Some m) = gate m (is_open (f k)) refl

-- after a CLOSE that closed it, the BODY
ready-closed : (f : ℕ → Slot) (p : Settings) (h : List Event) (k : ℕ) → is_open (f k) ≡ false → ReadyAt f (next p (MessageClosed k ∷ h))
ready-closed f p h k closed = by (message_at_hand p h)
  where
    by : (at_hand : Option Message) → ReadyAt f (or_boundary p (MessageClosed k ∷ h) (after_message_close k at_hand))
    by None = boundary-by (ReadyAt f) p (MessageClosed k ∷ h) (ready-cases f p (MessageClosed k ∷ h))
    by (Some m) = closed

-- such an act leaves the slots, and what is known of them
apart-slots : (f : ℕ → Slot) (w : Want) (a : Act) (l : Land) → IsApart a → ReadyAt f w → ReadyAt (λ i. message_slot_after a l i (f i)) w
apart-slots f w (act.MsgRead k) l off ready = absurd off
apart-slots f w (act.MsgClose k) l off ready = absurd off
apart-slots f w (act.MsgBody k m) l off ready = absurd off
apart-slots f w (act.MsgOpen k m) l off ready = absurd off
apart-slots f w _ l off ready = ready

-- an act that is not on the slots, in its own job
apart-ready : (s : Scen) (t : List Entry) (x : Site) (h : List Event) (a : Act) (l : Land) → IsApart a → ReadyAt (message_slot t) (next (settings s x) h)
    → ReadyAt (λ i. message_slot_after a l i (message_slot t i)) (next (settings s x) (handed s t x (now t) h a ∷ h))
apart-ready s t x h a l off before =
    let f : ℕ → Slot = λ i. message_slot_after a l i (message_slot t i) in
    off-next (ReadyAt f) (settings s x) h (handed s t x (now t) h a) (handed-off s t x (now t) h a off)
    (λ _ w is inner. apart-slots (message_slot t) w a l off (subst (ReadyAt (message_slot t)) is before)) (ready-calm f)
    (ready-cases f (settings s x) (handed s t x (now t) h a ∷ h))

-- a CLOSE that is made closes its slot; a BODY that is made gives it its body, and leaves its gate
closed-at : (k : ℕ) (slot : Slot) → is_open (close_at k land.Full k slot) ≡ false
closed-at k slot = by (k == k) (eq-eqb k k refl)
  where
    by : (b : Bool) → b ≡ true → is_open (elim b [ true ↦ with_gate (landed land.Full (0 ∷ [])) slot | false ↦ slot ]) ≡ false
    by true same = refl
    by false same = absurd (cc)

-- a body that landed, or another slot
abbrev IsBodied : List ℕ → Slot → Type 0
IsBodied own slot = (is_open slot ≡ false) × (slot.body ≡ own)

-- a BODY that lands gives its slot the message's body
bodied-at : (k : ℕ) (own : List ℕ) (slot : Slot) → is_open slot ≡ false → IsBodied own (body_at k land.Full own k slot)
bodied-at k own slot closed = by (k == k) (eq-eqb k k refl)
  where
    by : (b : Bool) → b ≡ true → IsBodied own (elim b [ true ↦ with_body (landed land.Full own) slot | false ↦ slot ])
    by true same = (closed, refl)
    by false same = absurd (cc)

-- the job's own act
made-ready : (s : Scen) (t : List Entry) (x : Site) (h : List Event) (a : Act) (l : Land) (w : Want) → next (settings s x) h ≡ w → Tells a w
    → CanLand t a l → GoesOn l
    → ReadyAt (message_slot t) (next (settings s x) h)
    → ReadyAt (λ i. message_slot_after a l i (message_slot t i)) (next (settings s x) (handed s t x (now t) h a ∷ h))
made-ready s t x h (act.MsgRead k) l w is told can on before = ready-read (message_slot t) (settings s x) h k
made-ready s t x h (act.MsgClose k) land.Full w is told can on before =
    ready-closed (λ i. close_at k land.Full i (message_slot t i)) (settings s x) h k (closed-at k (message_slot t k))
made-ready s t x h (act.MsgClose k) land.Lost w is told can on before = absurd (cc)
made-ready s t x h (act.MsgClose k) _ w is told can on before = absurd on
made-ready s t x h (act.MsgBody k m) land.Full w is told can on before =
    bodied-at k (spelling m) (message_slot t k) (subst (ReadyAt (message_slot t)) (is ∙ told) before)
made-ready s t x h (act.MsgBody k m) land.Lost w is told can on before = absurd (cc)
made-ready s t x h (act.MsgBody k m) _ w is told can on before = absurd on
made-ready s t x h (act.MsgOpen k m) l w is told can on before =
    let f : ℕ → Slot = λ i. message_slot_after (act.MsgOpen k m) l i (message_slot t i) in
    quiet-next (ReadyAt f) (settings s x) h (MessageOpened k m) tt (λ w calm. ready-calm f w (calm-plain w calm))
    (ready-cases f (settings s x) (MessageOpened k m ∷ h))
made-ready s t x h a l w is told can on before = apart-ready s t x h a l tt before

-- a failed act leaves the job at a boundary
failed-ready : (f : ℕ → Slot) (p : Settings) (h : List Event) (w : Want) (at : ℕ) → ReadyAt f (next p (ActFailed w at ∷ h))
failed-ready f p h w at = quiet-next (ReadyAt f) p h (ActFailed w at) tt (λ v calm. ready-calm f v (calm-plain v calm)) (ready-cases f p (ActFailed w at ∷ h))

-- a job that writes no message next
ready-unless : (f : ℕ → Slot) (w : Want) → (writes w ≡ true → ⊥) → ReadyAt f w
ready-unless f (want.MsgClose k) none = absurd (none refl)
ready-unless f (want.MsgBody k m) none = absurd (none refl)
ready-unless f (want.MsgOpen k m) none = absurd (none refl)
ready-unless f _ none = tt

-- a job that writes one is an owner that stays
writes-stays : (p : Settings) (h : List Event) (w : Want) → writes w ≡ true → DueAt p h w → Stays h
writes-stays p h (want.MsgClose k) is due = due.sending.stays
writes-stays p h (want.MsgBody k m) is due = due.stays
writes-stays p h (want.MsgOpen k m) is due = due.stays
writes-stays p h _ is due = absurd (cc)

-- an act of the other site: it leaves the slots, or this job writes no message next
beside-ready : (s : Scen) → (t : List Entry) → IsShort s t → (z : Site) (h g : List Event) (a : Act) (l : Land) → hist s t (other z) ≡ Some h
    → hist s t z ≡ Some g
    → Tells a (next (settings s (other z)) h) → IsDue (settings s (other z)) h → IsDue (settings s z) g → IsReady s t z g
    → ReadyAt (λ i. message_slot_after a l i (message_slot t i)) (next (settings s z) g)
beside-ready s t is z h g a l there also told due mine before = by a told
  where
    write : (one : Act) → writes (next (settings s (other z)) h) ≡ true → ReadyAt (λ i. message_slot_after one l i (message_slot t i)) (next (settings s z) g)
    write one it = ready-unless (λ i. message_slot_after one l i (message_slot t i)) (next (settings s z) g)
        (λ too. one-stays s t is z g h also there (writes-stays (settings s z) g (next (settings s z) g) too mine.due) (writes-stays (settings s (other z)) h
        (next (settings s (other z)) h) it due.due))

    by : (one : Act) → Tells one (next (settings s (other z)) h) → ReadyAt (λ i. message_slot_after one l i (message_slot t i)) (next (settings s z) g)
    by (act.MsgRead k) it = before
    by (act.MsgClose k) it = write (act.MsgClose k) (ap writes it)
    by (act.MsgBody k m) it = write (act.MsgBody k m) (ap writes it)
    by (act.MsgOpen k m) it = write (act.MsgOpen k m) (ap writes it)
    by one it = apart-slots (message_slot t) (next (settings s z) g) one l tt before

-- an entry beside the job
other-ready : (s : Scen) → (t : List Entry) → IsShort s t → (e : Entry) → Step s t e → (z : Site) (g : List Event) → hist s t z ≡ Some g
    → IsElsewhere e z → IsReady s t z g
    → ReadyAt (message_slot (e ∷ t)) (next (settings s z) g)
other-ready s t is e step z g there away before = by_other s t e z (λ one. ReadyAt (message_slot (one ∷ t)) (next (settings s z) g)) step away (record {
  inert = λ one inert. apart-slots (message_slot t) (next (settings s z) g) one.act one.land (inert-apart one.act inert) before;
  made = λ h a l also wants can. beside-ready s t is z h g a l also there (tells s t (other z) h (next (settings s (other z)) h) a wants)
      (at-job s (λ y j. IsDue (settings s y) j) t (other z) h (are_due s t is) also)
      (at-job s (λ y j. IsDue (settings s y) j) t z g (are_due s t is) there) before;
})

-- a choice that reaches the job
reached-ready : (s : Scen) (t : List Entry) (x : Site) (h : List Event) (a : Act) → Reaches s x h a → IsReady s t x h
    → ReadyAt (λ i. message_slot_after a land.Full i (message_slot t i)) (next (settings s x) (handed s t x (now t) h a ∷ h))
reached-ready s t x h a reach before =
    let f : ℕ → Slot = λ i. message_slot_after a land.Full i (message_slot t i) in
    off-next (ReadyAt f) (settings s x) h (handed s t x (now t) h a) (reach-off s t x (now t) h a reach)
    (λ _ w is inner. apart-slots (message_slot t) w a land.Full (reach-apart s x h a reach) (subst (ReadyAt (message_slot t)) is before)) (ready-calm f)
    (ready-cases f (settings s x) (handed s t x (now t) h a ∷ h))

-- a START
start-ready : (f : ℕ → Slot) (p : Settings) (a : Act) → IsStart a → ReadyAt f (next p (started a))
start-ready f p act.StartActive is = tt
start-ready f p act.StartStandby is = tt
start-ready f p _ is = absurd is

-- of the job at a site
ready-at : (s : Scen) (t : List Entry) (x : Site) (h : List Event) → AreReady s t → hist s t x ≡ Some h → IsReady s t x h
ready-at s t x h ready is = subst (λ (one : Option (List Event)). OfJob one (IsReady s t x)) is (ready x)

-- an entry keeps it
ready-moves : (s : Scen) → (t : List Entry) → IsShort s t → AreReady s t → (e : Entry) → Step s t e
    → JobCases s t e (λ z g. ReadyAt (message_slot (e ∷ t)) (next (settings s z) g))
ready-moves s t is ready e step = record {
  starts = λ x a start same. start-ready (message_slot (e ∷ t)) (settings s x) a start;
  ticks = λ x h there same. subst (λ (one : Entry). ReadyAt (message_slot (one ∷ t)) (next (settings s x) (Ticked ∷ h))) same
      (passing-next (ReadyAt (message_slot t)) (settings s x) h Ticked tt (λ w is inner. subst (ReadyAt (message_slot t)) is (ready-at s t x h ready there))
      (ready-cases (message_slot t) (settings s x) (Ticked ∷ h)));
  reaches = λ x h a there reach same. subst (λ (one : Entry). ReadyAt (message_slot (one ∷ t)) (next (settings s x) (handed s t x (now t) h a ∷ h))) same
      (reached-ready s t x h a reach (ready-at s t x h ready there));
  makes = λ x h a l there wants can on same. subst (λ (one : Entry). ReadyAt (message_slot (one ∷ t)) (next (settings s x) (handed s t x (now t) h a ∷ h))) same
      (made-ready s t x h a l (next (settings s x) h) refl (tells s t x h (next (settings s x) h) a wants) can on (ready-at s t x h ready there));
  fails = λ x h a cut there wants can same. failed-ready (message_slot (e ∷ t)) (settings s x) h (next (settings s x) h) (now t);
  others = λ x h there away. other-ready s t is e step x h there away (ready-at s t x h ready there);
}

-- at first no job is there
none-ready : (s : Scen) → AreReady s []
none-ready s site.A = tt
none-ready s site.B = tt

-- in every run
pub are_ready : (s : Scen) → (t : List Entry) → IsShort s t → AreReady s t
are_ready s t is = over_run s (AreReady s) (none-ready s)
    (λ t is ready e step. job-steps s t e (λ z g. ReadyAt (message_slot (e ∷ t)) (next (settings s z) g)) step (ready-moves s t is ready e step)) t is
