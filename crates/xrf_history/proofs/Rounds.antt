-- A round is made by a job that holds a number; an alternate reads messages where reading is due.
use Rattle.std.proofs.Common.{if◌then◌else◌, Bool, false, true, None, Option, Some, List, ◌≡◌, arith, refl, ap, ◌∙◌, sym, subst, ◌∷◌, ℕ}
use Rattle.std.proofs.lemmas.Grind.{common_steps}
use Rattle.xrf_ctl.specs.declared.parts.OwnerState.{OwnerState}
use Rattle.xrf_exit.specs.declared.Notice.{Notice}
use Rattle.xrf_history.specs.declared.want.Want.{Want}
use Rattle.xrf_history.specs.Events.{Event, Abended, Commanded, Exited, Looked1, Looked2, Replied, Signalled1, Signalled2, Ticked, ControlRead, Given, KeyLooked, LogClosed, LogLooked, LogOpened, MessageClosed, MessageRead, RecordRead, RecordUndone, Released}
use Rattle.xrf_history.specs.declared.settings.Settings.{Settings}
use Rattle.xrf_history.specs.Next.{inside, next, or_boundary}
use Rattle.xrf_history.specs.Holding.{is_granted, is_owner}
use Rattle.xrf_history.specs.Rows.{lines_left, alternate_next, owner_works, owner_row, boundary, reading_due}
use Rattle.xrf_history.specs.Notices.{notice}
use Rattle.xrf_history.specs.Reserving.{sign_off_due}
use Rattle.xrf_history.proofs.Phases.{is_inner, is_inner_of, NextIn, is_work}
use Rattle.xrf_history.proofs.Histories.{IsHistory, Comes, induct}
use Rattle.xrf_history.proofs.PhaseLaws.{phase-next, work-phase}
use Rattle.xrf_history.specs.declared.want.Want.TheVariants as want
use Rattle.xrf_history.proofs.Tests.{not-both}
use Rattle.xrf_history.proofs.Boundary.{IsPlain, calm-plain, idle-plain, Cases, boundary-by}

-- the acts of a round after the first
abbrev pub is_rounds : Want → Bool
is_rounds (want.Signal2 signal) = true
is_rounds want.Look1 = true
is_rounds want.Look2 = true
is_rounds want.Decide = true
is_rounds _ = false

-- such an act inside the sequence
abbrev pub is_rounds_of : Option Want → Bool
is_rounds_of None = false
is_rounds_of (Some w) = is_rounds w

-- where a round goes on the job holds a number, and an alternate has issued its lines
abbrev Rounds : Settings → List Event → Type 0
Rounds p h = is_rounds_of (inside p h) ≡ true → (is_granted h ≡ true) × (is_owner h ≡ false → lines_left p h ≡ false)

-- an alternate's act at a boundary is none of them
alternate-rounds : (p : Settings) (h : List Event) → is_rounds (alternate_next p h) ≡ false
alternate-rounds p h = grind (arith, common_steps)

-- nor is that of an owner at work
works-rounds : (p : Settings) (h : List Event) → is_rounds (owner_works p h) ≡ false
works-rounds p h = grind (arith, common_steps)

-- nor is an owner's act
row-rounds : (p : Settings) (h : List Event) (state : Option OwnerState) (told : Option Notice) → is_rounds (owner_row p h state told) ≡ false
row-rounds p h (Some state) told = refl
row-rounds p h None (Some told) = refl
row-rounds p h None None = works-rounds p h

-- no act at a boundary goes on with a round
pub no-rounds : (p : Settings) (h : List Event) → is_rounds (boundary p h) ≡ false
no-rounds p h = by (is_owner h)
  where
    by : (b : Bool) → is_rounds (if b then owner_row p h (sign_off_due h) (notice h) else alternate_next p h) ≡ false
    by true = row-rounds p h (sign_off_due h) (notice h)
    by false = alternate-rounds p h

-- a round goes on inside its sequence
pub round-inside : (p : Settings) (h : List Event) (w : Want) → next p h ≡ w → is_rounds w ≡ true → is_rounds_of (inside p h) ≡ true
round-inside p h w is rounds = by (inside p h) (ap is_rounds is ∙ rounds)
  where
    by : (o : Option Want) → is_rounds (or_boundary p h o) ≡ true → is_rounds_of o ≡ true
    by None here = absurd (cc (no-rounds p h))
    by (Some v) here = here

-- where nothing inner is due, an act that is not inner is one of the boundary
pub inner-none : (p : Settings) (h : List Event) (o : Option Want) (w : Want) → is_inner_of o ≡ true → or_boundary p h o ≡ w → is_inner w ≡ false
    → boundary p h ≡ w
inner-none p h None w inner is bound = is
inner-none p h (Some v) w inner is bound = absurd (cc (sym (ap is_inner is) ∙ inner))

-- an act that is not inner is one of the boundary
pub at-boundary : (p : Settings) (h : List Event) (w : Want) → IsHistory p h → next p h ≡ w → is_work w ≡ true → is_inner w ≡ false → boundary p h ≡ w
at-boundary p h w is comes work bound =
    inner-none p h (inside p h) w (subst (NextIn p h) (work-phase p h is (ap is_work comes ∙ work)) (phase-next p h is)) comes bound

-- SIGNAL1, by which a round begins
abbrev is_signal1 : Want → Bool
is_signal1 (want.Signal1 signal) = true
is_signal1 _ = false

-- a round begins in a job that holds a number
signal-granted : (p : Settings) (h : List Event) (b : Bool) → is_granted h ≡ b → is_signal1 (boundary p h) ≡ true → b ≡ true
signal-granted p h true granted is = refl
signal-granted p h false granted is = grind (arith, common_steps)

-- an alternate begins a round once its lines are issued
signal-lines : (p : Settings) (h : List Event) (b : Bool) → lines_left p h ≡ b → is_owner h ≡ false → is_signal1 (boundary p h) ≡ true → b ≡ false
signal-lines p h false lines no_owner is = refl
signal-lines p h true lines no_owner is = grind (arith, common_steps)

-- the events of a round, and those that pass
abbrev pub is_round_event : Event → Bool
is_round_event Ticked = true
is_round_event Abended = true
is_round_event (Replied go n) = true
is_round_event (Commanded command n) = true
is_round_event (Exited answer n) = true
is_round_event (Signalled1 signal) = true
is_round_event (Signalled2 signal) = true
is_round_event (Looked1 held signal) = true
is_round_event (Looked2 signal n) = true
is_round_event _ = false

-- no round goes on after any other event
pub rounds-after : (p : Settings) (h : List Event) (e : Event) → is_round_event e ≡ false → is_rounds_of (inside p (e ∷ h)) ≡ true → ⊥
rounds-after p h (MessageRead k slot) plain here = grind (arith, common_steps)
rounds-after p h (MessageClosed k) plain here = grind (arith, common_steps)
rounds-after p h (LogLooked k gate) plain here = grind (arith, common_steps)
rounds-after p h (LogClosed k) plain here = grind (arith, common_steps)
rounds-after p h (LogOpened k rec) plain here = grind (arith, common_steps)
rounds-after p h (KeyLooked k gate) plain here = grind (arith, common_steps)
rounds-after p h (RecordRead k slot) plain here = grind (arith, common_steps)
rounds-after p h (RecordUndone k before) plain here = grind (arith, common_steps)
rounds-after p h (Given item) plain here = grind (arith, common_steps)
rounds-after p h (ControlRead held known) plain here = grind (arith, common_steps)
rounds-after p h Released plain here = grind (arith, common_steps)
rounds-after p h _ plain here = absurd (cc)

-- each event keeps it
rounds-step : (p : Settings) (h : List Event) (e : Event) → IsHistory p h → Comes p h e → Rounds p h → Rounds p (e ∷ h)
rounds-step p h (Signalled1 signal) is comes rounds =
    λ here. let at = ap is_signal1 (at-boundary p h (want.Signal1 signal) is comes refl refl) in
    (signal-granted p h (is_granted h) refl at, λ no_owner. signal-lines p h (lines_left p h) refl no_owner at)
rounds-step p h (Signalled2 signal) is comes rounds = λ here. rounds (round-inside p h (want.Signal2 signal) comes refl)
rounds-step p h (Looked1 held signal) is comes rounds = λ here. rounds (round-inside p h want.Look1 comes refl)
rounds-step p h (Looked2 signal n) is comes rounds = λ here. rounds (round-inside p h want.Look2 comes refl)
rounds-step p h Ticked is comes rounds = rounds
rounds-step p h Abended is comes rounds = rounds
rounds-step p h (Replied go n) is comes rounds = rounds
rounds-step p h (Commanded command n) is comes rounds = rounds
rounds-step p h (Exited answer n) is comes rounds = rounds
rounds-step p h e is comes rounds = λ here. absurd (rounds-after p h e refl here)

-- at a DECIDE the job holds a number, and an alternate has issued its lines
round-decides : (p : Settings) (h : List Event) → IsHistory p h → next p h ≡ want.Decide → (is_granted h ≡ true) × (is_owner h ≡ false → lines_left p h ≡ false)
round-decides p h is comes = induct Rounds (λ p. λ here. absurd (cc)) (λ p. λ here. absurd (cc)) rounds-step p h is (round-inside p h want.Decide comes refl)

-- who decides holds a number
pub decides-granted : (p : Settings) (h : List Event) → IsHistory p h → next p h ≡ want.Decide → is_granted h ≡ true
decides-granted p h is comes = (round-decides p h is comes).0

-- an alternate that decides has issued its lines
pub decides-lines : (p : Settings) (h : List Event) → IsHistory p h → next p h ≡ want.Decide → is_owner h ≡ false → lines_left p h ≡ false
decides-lines p h is comes = (round-decides p h is comes).1

-- an alternate reads messages where reading is due
abbrev pub is_reading : Want → Bool
is_reading (want.MsgRead place) = true
is_reading _ = false

-- where the act reads a message, and the job is no owner, reading is due
abbrev Reads : List Event → Want → Type 0
Reads h w = is_reading w ≡ true → is_owner h ≡ false → reading_due h ≡ true

-- a plain act reads none
plain-reads : (h : List Event) (w : Want) → IsPlain w → Reads h w
plain-reads h (want.MsgRead k) plain = absurd plain
plain-reads h _ plain = λ reads. absurd (cc)

-- at a boundary an alternate reads messages where reading is due
reading-cases : (p : Settings) (h : List Event) → Cases p h (Reads h)
reading-cases p h = record {
  idle = λ w idle. plain-reads h w (idle-plain w idle);
  calm = λ w calm works. plain-reads h w (calm-plain w calm);
  signals = λ granted works reads. absurd (cc);
  reads = λ alternate due reads no_owner. due;
  drains = λ works draining reads no_owner. absurd (not-both (is_owner h) works.owner no_owner);
  restarts = λ works drained fresh reads. absurd (cc);
  sends = λ works drained restarted message due may reads no_owner. absurd (not-both (is_owner h) works.owner no_owner);
  works = λ works drained restarted none reads. absurd (cc);
}

-- at a MSGREAD of an alternate reading is due
pub reads-due : (p : Settings) (h : List Event) (k : ℕ) → IsHistory p h → next p h ≡ want.MsgRead k → is_owner h ≡ false → reading_due h ≡ true
reads-due p h k is comes no_owner =
    boundary-by (Reads h) p h (reading-cases p h) (ap is_reading (at-boundary p h (want.MsgRead k) is comes refl refl)) no_owner
