-- The signals of a job are its own, and what it has not been granted it does not take.
use Rattle.std.proofs.Common.{Bool, false, refl, true, ◌≡◌, List, arith, ◌≤◌, ℕ, not, ◌&&◌, ◌+◌, ◌∷◌, length, [], if◌then◌else◌, subst, None, Option, Some, ◌==◌}
use Rattle.xrf_base.specs.declared.site.Site.{Site}
use Rattle.xrf_ctl.specs.Control.{ControlRecord}
use Rattle.xrf_ctl.specs.Signal.{SignalRecord}
use Rattle.xrf_cavm.specs.declared.decisions.Decided.{Decided}
use Rattle.xrf_cavm.specs.declared.known.Known.{Known}
use Rattle.xrf_gated.specs.declared.gated.TheConstants.{OPEN}
use Rattle.xrf_msg.specs.Numbers.{given}
use Rattle.xrf_msg.specs.declared.messages.Message.{Message}
use Rattle.xrf_history.specs.Events.{Event, ActFailed, ControlWritten, DecisionMade, MessageRead, StartedActive, StartedStandby, Abended, Commanded, Exited, Replied, Ticked, ControlRead, Looked1, Looked2, MessageBodied, MessageClosed, Released, Reserved, Signalled1, Signalled2}
use Rattle.xrf_history.proofs.Boundary.{IsCalm, IsIdle, Cases, boundary-by}
use Rattle.xrf_history.specs.declared.want.Want.{Want}
use Rattle.xrf_history.specs.Rows.{cursor_shown, signal_of, reading_due, rounds}
use Rattle.xrf_history.specs.Taking.{expected, is_drained, taken, with_message}
use Rattle.xrf_history.specs.Holding.{is_owner, is_granted, starts_active, is_restarted, number}
use Rattle.xrf_history.specs.declared.settings.Settings.{Settings}
use Rattle.xrf_history.proofs.Tests.{not-both}
use Rattle.xrf_history.proofs.Holding.{owner-granted}
use Rattle.xrf_history.proofs.Inside.{IsPassing, passing-next, IsQuiet, quiet-next, control-next, released-next}
use Rattle.xrf_history.proofs.Histories.{Comes, IsHistory, induct}
use Rattle.xrf_history.specs.Next.{after_message_close, after_message_read, gate_of, message_at_hand, or_boundary, next}
use Rattle.xrf_history.specs.declared.want.Want.TheVariants as want
use Rattle.xrf_trace.specs.declared.entry.Entry.{Entry}
use Rattle.xrf_trace.proofs.Short.{IsShort}
use Rattle.xrf_trace.specs.Scenario.{Scen, settings}
use Rattle.xrf_trace.specs.Jobs.{hist}
use Rattle.xrf_trace.proofs.Paths.{history-at}
use Rattle.xrf_owner_law.proofs.StayingLaw.{active-owns}
use Rattle.xrf_message_law.specs.Rounds.{RoundAt, Takes, IsReading, IsRound}
use Rattle.xrf_message_law.specs.Shown.{IsSignal, signal_in}
use Rattle.xrf_message_law.proofs.Tests.{so-not}

-- a test that can't fail is met
not-false : (b : Bool) → (b ≡ false → ⊥) → b ≡ true
not-false true none = refl
not-false false none = absurd (none refl)

-- nothing is said before an act of a restart
calm-round : (h : List Event) (w : Want) → IsCalm w → RoundAt h w
calm-round h (want.Signal1 signal) calm = absurd calm
calm-round h (want.Signal2 signal) calm = absurd calm
calm-round h want.Look1 calm = absurd calm
calm-round h want.Look2 calm = absurd calm
calm-round h want.Decide calm = absurd calm
calm-round h (want.MsgRead k) calm = absurd calm
calm-round h _ calm = tt

-- nor before an idle one
idle-round : (h : List Event) (w : Want) → IsIdle w → RoundAt h w
idle-round h (want.Signal1 signal) idle = absurd idle
idle-round h (want.Signal2 signal) idle = absurd idle
idle-round h want.Look1 idle = absurd idle
idle-round h want.Look2 idle = absurd idle
idle-round h want.Decide idle = absurd idle
idle-round h (want.MsgRead k) idle = absurd idle
idle-round h _ idle = tt

-- the signal of a round is the job's own
shows-taken : (h : List Event) → cursor_shown h ≤ expected h
shows-taken h = by (is_owner h)
  where
    by : (b : Bool) → (elim b [ true ↦ 0 | false ↦ expected h ]) ≤ expected h
    by true = omega arith
    by false = omega arith

-- so it is its signal
signal-is : (h : List Event) (counter : ℕ) → is_granted h ≡ true → IsSignal h (signal_of h counter)
signal-is h counter granted = record { granted = granted; inc = refl; cursor = shows-taken h }

-- an owner that drains was started as standby
standby-through : (o a d : Bool) → (o && not a && not d) ≡ true → a ≡ false
standby-through o false d is = refl
standby-through true true d is = absurd (cc)
standby-through false true d is = absurd (cc)

-- a job that was started as active is an owner once it holds a number
abbrev Activates : List Event → Type 0
Activates h = starts_active h ≡ true → is_granted h ≡ true → is_owner h ≡ true

-- what is known at a boundary, row by row
round-cases : (p : Settings) (h : List Event) → Activates h → Takes h → Cases p h (RoundAt h)
round-cases p h activates takes = record {
  idle = idle-round h;
  calm = λ w calm works. calm-round h w calm;
  signals = λ granted works. signal-is h (rounds h + 1) granted;
  reads = λ alternate due.
      let granted : is_granted h ≡ true = not-false (is_granted h) (λ new. not-both (reading_due h) due (takes.not_due new)) in
      record { granted = granted; standby = λ _. so-not (starts_active h) (λ active. not-both (is_owner h) (activates active granted) alternate) };
  drains =
      λ works draining. record { granted = owner-granted h works.owner; standby = λ _. standby-through (is_owner h) (starts_active h) (is_drained h) draining };
  restarts = λ works drained not_yet. tt;
  sends =
      λ works drained restarted m due may. record {
        granted = owner-granted h works.owner;
        standby = λ not_yet. absurd
            (not-both (is_restarted h) restarted not_yet);
      };
  works = λ works drained restarted none. tt;
}

-- events that these words do not see
abbrev IsSame : Event → Type 0
IsSame StartedActive = ⊥
IsSame StartedStandby = ⊥
IsSame (ControlWritten written) = ⊥
IsSame (DecisionMade known at decision) = ⊥
IsSame (MessageRead k slot) = ⊥
IsSame (ActFailed w at) = ⊥
IsSame _ = Unit {0}

-- such an event leaves what was taken
takes-on : (h : List Event) (e : Event) → IsSame e → Takes h → Takes (e ∷ h)
takes-on h StartedActive is b = absurd is
takes-on h StartedStandby is b = absurd is
takes-on h (ControlWritten written) is b = absurd is
takes-on h (DecisionMade known at decision) is b = absurd is
takes-on h (MessageRead k slot) is b = absurd is
takes-on h (ActFailed w at) is b = absurd is
takes-on h _ is b = record { not_due = b.not_due; untaken = b.untaken; active = b.active }

-- its CTLWRITE gives it a number
takes-written : (h : List Event) (written : ControlRecord) → Takes h → Takes (ControlWritten written ∷ h)
takes-written h written b = record { not_due = λ is. absurd (cc); untaken = λ is. absurd (cc); active = b.active }

-- a decision makes reading due only where it holds a number
takes-decided : (h : List Event) (known : Known) (at : ℕ) (decision : Decided) → is_granted h ≡ true → Takes h → Takes (DecisionMade known at decision ∷ h)
takes-decided h known at decision granted b = record { not_due = λ is. absurd (not-both (is_granted h) granted is); untaken = b.untaken; active = b.active }

-- a MSGREAD takes a message only in a job that was started as standby
takes-read : (h : List Event) (k : ℕ) (slot : List ℕ) → IsReading h → Takes h → Takes (MessageRead k slot ∷ h)
takes-read h k slot reading b = record {
  not_due = λ is. absurd (not-both (is_granted h) reading.granted is);
  untaken = λ is. absurd (not-both (is_granted h) reading.granted is);
  active = λ is. by is (is_restarted h) refl;
}
  where
    by : starts_active h ≡ true → (r : Bool) → is_restarted h ≡ r
        → (if r then taken h else with_message (given slot (number h) (length (taken h))) (taken h)) ≡ []
    by is true restarted = b.active is
    by is false not_yet = absurd (not-both (starts_active h) is (reading.standby not_yet))

-- a failed act takes none
takes-failed : (h : List Event) (w : Want) (at : ℕ) → Takes h → Takes (ActFailed w at ∷ h)
takes-failed h (want.MsgRead k) at b = record { not_due = λ is. refl; untaken = b.untaken; active = b.active }
takes-failed h _ at b = record { not_due = b.not_due; untaken = b.untaken; active = b.active }

-- what is due stays over an event that may come inside a sequence
signal-on : (h : List Event) (e : Event) (signal : SignalRecord) → IsPassing e → IsSignal h signal → IsSignal (e ∷ h) signal
signal-on h Ticked signal is s = record { granted = s.granted; inc = s.inc; cursor = s.cursor }
signal-on h Abended signal is s = record { granted = s.granted; inc = s.inc; cursor = s.cursor }
signal-on h (Replied go at) signal is s = record { granted = s.granted; inc = s.inc; cursor = s.cursor }
signal-on h (Commanded command at) signal is s = record { granted = s.granted; inc = s.inc; cursor = s.cursor }
signal-on h (Exited answer at) signal is s = record { granted = s.granted; inc = s.inc; cursor = s.cursor }
signal-on h _ signal is s = absurd is

-- so does the number that it holds
granted-on : (h : List Event) (e : Event) → IsPassing e → is_granted h ≡ true → is_granted (e ∷ h) ≡ true
granted-on h Ticked is g = g
granted-on h Abended is g = g
granted-on h (Replied go at) is g = g
granted-on h (Commanded command at) is g = g
granted-on h (Exited answer at) is g = g
granted-on h _ is g = absurd is

-- so does its reading
reading-on : (h : List Event) (e : Event) → IsPassing e → IsReading h → IsReading (e ∷ h)
reading-on h Ticked is r = record { granted = r.granted; standby = r.standby }
reading-on h Abended is r = record { granted = r.granted; standby = r.standby }
reading-on h (Replied go at) is r = record { granted = r.granted; standby = r.standby }
reading-on h (Commanded command at) is r = record { granted = r.granted; standby = r.standby }
reading-on h (Exited answer at) is r = record { granted = r.granted; standby = r.standby }
reading-on h _ is r = absurd is

-- and all that is known where an act comes next
round-on : (h : List Event) (e : Event) (w : Want) → IsPassing e → RoundAt h w → RoundAt (e ∷ h) w
round-on h e (want.Signal1 signal) is r = signal-on h e signal is r
round-on h e (want.Signal2 signal) is r = signal-on h e signal is r
round-on h e want.Look1 is r = granted-on h e is r
round-on h e want.Look2 is r = granted-on h e is r
round-on h e want.Decide is r = granted-on h e is r
round-on h e (want.MsgRead k) is r = reading-on h e is r
round-on h e _ is r = tt

-- an event that may come inside a sequence
round-passing : (p : Settings) (h : List Event) (e : Event) → IsPassing e → IsSame e → Activates (e ∷ h) → IsRound p h → IsRound p (e ∷ h)
round-passing p h e is same activates before =
    let takes = takes-on h e same before.takes in
    record {
      takes = takes;
      round = passing-next (RoundAt (e ∷ h)) p h e is (λ w now inner. round-on h e w is (subst (RoundAt h) now before.round))
          (round-cases p (e ∷ h) activates takes);
    }

-- an event after which the boundary comes
round-quiet : (p : Settings) (h : List Event) (e : Event) → IsQuiet e → Activates (e ∷ h) → Takes (e ∷ h) → IsRound p (e ∷ h)
round-quiet p h e is activates takes =
    record { takes = takes; round = quiet-next (RoundAt (e ∷ h)) p h e is (calm-round (e ∷ h)) (round-cases p (e ∷ h) activates takes) }

-- an event that comes
round-step : (p : Settings) (h : List Event) (e : Event) → IsHistory p h → Comes p h e → Activates h → IsRound p h → IsRound p (e ∷ h)
round-step p h StartedActive is comes activates b = absurd comes
round-step p h StartedStandby is comes activates b = absurd comes
round-step p h Ticked is comes activates b = round-passing p h Ticked tt tt activates b
round-step p h Abended is comes activates b = round-passing p h Abended tt tt activates b
round-step p h (Replied go at) is comes activates b = round-passing p h (Replied go at) tt tt activates b
round-step p h (Commanded command at) is comes activates b = round-passing p h (Commanded command at) tt tt activates b
round-step p h (Exited said at) is comes activates b = round-passing p h (Exited said at) tt tt activates b
round-step p h Reserved is comes activates b = record { takes = takes-on h Reserved tt b.takes; round = tt }
round-step p h (ControlRead held known) is comes activates b = record {
  takes = takes-on h (ControlRead held known) tt b.takes;
  round = control-next (RoundAt (ControlRead held known ∷ h)) p h held known (λ written. tt) tt;
}
round-step p h (ControlWritten written) is comes activates b = record { takes = takes-written h written b.takes; round = tt }
round-step p h Released is comes activates b =
    let takes = takes-on h Released tt b.takes in
    record { takes = takes; round = released-next (RoundAt (Released ∷ h)) p h (λ why. tt) (round-cases p (Released ∷ h) activates takes) }
round-step p h (Signalled1 signal) is comes activates b =
    let own : IsSignal h signal = subst (RoundAt h) comes b.round in
    let mine = signal-is h (rounds h + 1) own.granted in
    record { takes = takes-on h (Signalled1 signal) tt b.takes; round = record { granted = mine.granted; inc = mine.inc; cursor = mine.cursor } }
round-step p h (Signalled2 signal) is comes activates b =
    let own : IsSignal h signal = subst (RoundAt h) comes b.round in record { takes = takes-on h (Signalled2 signal) tt b.takes; round = own.granted }
round-step p h (Looked1 held signal) is comes activates b =
    record { takes = takes-on h (Looked1 held signal) tt b.takes; round = subst (RoundAt h) comes b.round }
round-step p h (Looked2 signal at) is comes activates b =
    record { takes = takes-on h (Looked2 signal at) tt b.takes; round = subst (RoundAt h) comes b.round }
round-step p h (DecisionMade known at d) is comes activates b =
    round-quiet p h (DecisionMade known at d) tt activates (takes-decided h known at d (subst (RoundAt h) comes.0 b.round) b.takes)
round-step p h (MessageRead k slot) is comes activates b = record { takes = takes; round = by (message_at_hand p h) }
  where
    takes : Takes (MessageRead k slot ∷ h)
    takes = takes-read h k slot (subst (RoundAt h) comes b.round) b.takes

    gate : (m : Message) (open_gate : Bool) → RoundAt (MessageRead k slot ∷ h) (elim open_gate [ true ↦ want.MsgClose k | false ↦ want.MsgBody k m ])
    gate m true = tt
    gate m false = tt

    by : (o : Option Message) → RoundAt (MessageRead k slot ∷ h) (or_boundary p (MessageRead k slot ∷ h) (after_message_read k slot o))
    by None = boundary-by (RoundAt (MessageRead k slot ∷ h)) p (MessageRead k slot ∷ h) (round-cases p (MessageRead k slot ∷ h) activates takes)
    by (Some m) = gate m (gate_of slot == OPEN)
round-step p h (MessageClosed k) is comes activates b = record { takes = takes; round = by (message_at_hand p h) }
  where
    takes : Takes (MessageClosed k ∷ h)
    takes = takes-on h (MessageClosed k) tt b.takes

    by : (o : Option Message) → RoundAt (MessageClosed k ∷ h) (or_boundary p (MessageClosed k ∷ h) (after_message_close k o))
    by None = boundary-by (RoundAt (MessageClosed k ∷ h)) p (MessageClosed k ∷ h) (round-cases p (MessageClosed k ∷ h) activates takes)
    by (Some m) = tt
round-step p h (MessageBodied k m) is comes activates b = record { takes = takes-on h (MessageBodied k m) tt b.takes; round = tt }
round-step p h (ActFailed w at) is comes activates b = round-quiet p h (ActFailed w at) tt activates (takes-failed h w at b.takes)
round-step p h e is comes activates b = round-quiet p h e tt activates (takes-on h e tt b.takes)

-- **of every history**
pub round-at : (p : Settings) (h : List Event) → IsHistory p h → IsRound p h
round-at p h is =
    induct IsRound (λ p. record { takes = record { not_due = λ i. refl; untaken = λ i. refl; active = λ i. refl }; round = tt })
    (λ p. record { takes = record { not_due = λ i. refl; untaken = λ i. refl; active = λ i. refl }; round = tt })
    (λ p h e is comes. round-step p h e is comes (active-owns p h is)) p h is

-- so a signal that is next is the job's own
signal-next : (h : List Event) (w : Want) (signal : SignalRecord) → signal_in w ≡ Some signal → RoundAt h w → IsSignal h signal
signal-next h (want.Signal1 one) signal is round = let same : one ≡ signal = cc in subst (IsSignal h) same round
signal-next h (want.Signal2 one) signal is round = let same : one ≡ signal = cc in subst (IsSignal h) same round
signal-next h _ signal is round = absurd (cc)

-- in every run
pub signals-own : (s : Scen) → (t : List Entry) → IsShort s t → (x : Site) (h : List Event) (signal : SignalRecord) → hist s t x ≡ Some h
    → signal_in (next (settings s x) h) ≡ Some signal
    → IsSignal h signal
signals-own s t is x h signal there next_is =
    signal-next h (next (settings s x) h) signal next_is (round-at (settings s x) h (history-at s t x h is.run there)).round

-- a job that holds no number has taken nothing
pub none-taken : (s : Scen) (t : List Entry) → IsShort s t → (x : Site) (h : List Event) → hist s t x ≡ Some h → is_granted h ≡ false → taken h ≡ []
none-taken s t is x h there = (round-at (settings s x) h (history-at s t x h is.run there)).takes.untaken

-- nor has one that was started as active
pub active-untaken : (s : Scen) (t : List Entry) → IsShort s t → (x : Site) (h : List Event) → hist s t x ≡ Some h → starts_active h ≡ true → taken h ≡ []
active-untaken s t is x h there = (round-at (settings s x) h (history-at s t x h is.run there)).takes.active
