-- What a reader's own events make of what it has taken.
use Rattle.std.proofs.Common.{List, ℕ, ◌∷◌, Bool, false, not, true, ◌≡◌, ◌&&◌, ◌||◌, refl, None, Option, Some, ap, arith, length, sym, ◌+◌, ◌<◌, ◌∙◌, IfSome, subst, ◌%◌}
use Rattle.std.proofs.lemmas.Bool.{and_parts}
use Rattle.xrf_ctl.specs.Control.{ControlRecord}
use Rattle.xrf_cavm.specs.Record.{is_alt}
use Rattle.xrf_gated.specs.declared.gated.Slot.{Slot}
use Rattle.xrf_gated.specs.Slots.{bytes_of}
use Rattle.xrf_msg.specs.declared.messages.Message.{Message}
use Rattle.xrf_msg.specs.Numbers.{given}
use Rattle.xrf_history.specs.Events.{ControlWritten, Event, MessageRead, Reserved, RestartDeclared, StartedActive, StartedStandby}
use Rattle.xrf_history.proofs.SigningOff.{has_reserved_off}
use Rattle.xrf_history.specs.Holding.{is_granted, is_owner, is_restarted, number}
use Rattle.xrf_history.proofs.Purposes.{is_sign_off}
use Rattle.xrf_history.specs.Reserving.{purpose_now}
use Rattle.xrf_history.specs.Taking.{with_message, expected, taken}
use Rattle.xrf_message_law.specs.Readers.{IsReader, placed, Reads, Stands}
use Rattle.xrf_message_law.specs.Due.{Done}
use Rattle.xrf_message_law.proofs.Oldest.{nth-below, oldest-next}
use Rattle.xrf_message_law.specs.Numbering.{nth_old, oldest, AreNumbered}
use Rattle.xrf_message_law.specs.LastOpened.{SoundAt}
use Rattle.xrf_message_law.proofs.Expected.{given-nth}

-- an event that the reader's words do not see
abbrev pub IsUnread : Event → Type 0
IsUnread StartedActive = ⊥
IsUnread StartedStandby = ⊥
IsUnread Reserved = ⊥
IsUnread (ControlWritten written) = ⊥
IsUnread (MessageRead k slot) = ⊥
IsUnread RestartDeclared = ⊥
IsUnread _ = Unit {0}

-- such an event
pub reader-on : (ring : ℕ) (r : ControlRecord) (slot : ℕ → Slot) (f : ℕ → List Message) (sh : ℕ → ℕ) (h : List Event) (e : Event) → IsUnread e
    → IsReader ring r slot f sh h
    → IsReader ring r slot f sh (e ∷ h)
reader-on ring r slot f sh h StartedActive is before there = absurd is
reader-on ring r slot f sh h StartedStandby is before there = absurd is
reader-on ring r slot f sh h Reserved is before there = absurd is
reader-on ring r slot f sh h (ControlWritten written) is before there = absurd is
reader-on ring r slot f sh h (MessageRead k bytes) is before there = absurd is
reader-on ring r slot f sh h RestartDeclared is before there = absurd is
reader-on ring r slot f sh h _ is before there = before there

-- a RESERVE for a sign-off takes an owner out of its place
place-reserved : (owner off now restarted : Bool) (alternate : Bool) → (elim owner [ true ↦ not (off || now) && not restarted | false ↦ alternate ]) ≡ true
    → (elim owner [ true ↦ not off && not restarted | false ↦ alternate ]) ≡ true
place-reserved true true now restarted alternate is = absurd (cc)
place-reserved true false true restarted alternate is = absurd (cc)
place-reserved true false false restarted alternate is = is
place-reserved false off now restarted alternate is = is

-- a RESERVE
pub reader-reserved : (ring : ℕ) (r : ControlRecord) (slot : ℕ → Slot) (f : ℕ → List Message) (sh : ℕ → ℕ) (h : List Event)
    → IsReader ring r slot f sh h → IsReader ring r slot f sh (Reserved ∷ h)
reader-reserved ring r slot f sh h before there =
    before (place-reserved (is_owner h) (has_reserved_off h) (is_sign_off (purpose_now h)) (is_restarted h) (is_granted h && is_alt r (number h)) there)

-- RESTARTED takes it out of its place
place-declared : (owner off restarted : Bool) (alternate : Bool) → (elim owner [ true ↦ not off && not true | false ↦ alternate ]) ≡ true
    → (elim owner [ true ↦ not off && not restarted | false ↦ alternate ]) ≡ true
place-declared true true restarted alternate is = absurd (cc)
place-declared true false restarted alternate is = absurd (cc)
place-declared false off restarted alternate is = is

-- RESTARTED
pub reader-declared : (ring : ℕ) (r : ControlRecord) (slot : ℕ → Slot) (f : ℕ → List Message) (sh : ℕ → ℕ) (h : List Event)
    → IsReader ring r slot f sh h → IsReader ring r slot f sh (RestartDeclared ∷ h)
reader-declared ring r slot f sh h before there =
    before (place-declared (is_owner h) (has_reserved_off h) (is_restarted h) (is_granted h && is_alt r (number h)) there)

-- a placed job is not restarted
pub not-restarted : (r : ControlRecord) (h : List Event) → Done h → placed r h ≡ true → is_restarted h ≡ false
not-restarted r h done there = by (is_owner h) (is_restarted h) refl refl there
  where
    by : (o b : Bool) → is_owner h ≡ o → is_restarted h ≡ b
        → (elim o [ true ↦ not (has_reserved_off h) && not b | false ↦ is_granted h && is_alt r (number h) ]) ≡ true → b ≡ false
    by o false owner is placed_so = refl
    by false true owner is placed_so = let yes_it : is_owner h ≡ true = done.owner is in absurd (cc)
    by true true owner is placed_so = let parts = and_parts (not (has_reserved_off h)) false placed_so in absurd (cc)

-- one more is taken
takes-one : (ring : ℕ) (slot : ℕ → Slot) (f : List Message) (sh : ℕ) (has : List Message) (o : Option Message) → nth_old f (length has) ≡ o
    → Reads ring slot f sh has
    → Reads ring slot f sh (with_message o has)
takes-one ring slot f sh has None is b = b
takes-one ring slot f sh has (Some m) is b =
    let less : length has < length f = nth-below f (length has) m is in
    let one : length has + 1 ≡ length (m ∷ has) = omega arith in
    record {
      taken_is = ap (λ (l : List Message). m ∷ l) b.taken_is ∙ sym (oldest-next f (length has) m is) ∙ ap (λ (c : ℕ). oldest c f) one;
      few = omega (arith, less);
      stands = λ q from. b.stands q (omega (arith, from));
      shows = omega (arith, b.shows);
    }

-- a MSGREAD takes the message of the expected number, where that was opened
pub reader-read : (ring : ℕ) (r : ControlRecord) (slot : ℕ → Slot) (f : ℕ → List Message) (sh : ℕ → ℕ) (h : List Event) (k : ℕ) → Done h
    → (is_restarted h ≡ false → k ≡ expected h % ring)
    → ((n : ℕ) → AreNumbered n (f n)) → ((i : ℕ) → SoundAt f (slot i)) → IsReader ring r slot f sh h
    → IsReader ring r slot f sh (MessageRead k (bytes_of (slot k)) ∷ h)
reader-read ring r slot f sh h k done place numbered sound before there =
    let not_yet : is_restarted h ≡ false = not-restarted r h done there in
    let b : Reads ring slot (f (number h)) (sh (number h)) (taken h) = before there in
    let here : IfSome (nth_old (f (number h)) (expected h)) (Stands (slot k)) =
    subst (λ (i : ℕ). IfSome (nth_old (f (number h)) (expected h)) (Stands (slot i))) (sym (place not_yet)) (b.stands (expected h) (omega arith)) in
    let gives : given (bytes_of (slot k)) (number h) (expected h) ≡ nth_old (f (number h)) (expected h) =
    given-nth (slot k) f (number h) (expected h) (numbered (number h)) here (sound k) in
    let is : taken (MessageRead k (bytes_of (slot k)) ∷ h) ≡ with_message (nth_old (f (number h)) (expected h)) (taken h) =
    rw not_yet (ap (λ (one : Option Message). with_message one (taken h)) gives) in
    subst (Reads ring slot (f (number h)) (sh (number h))) (sym is)
    (takes-one ring slot (f (number h)) (sh (number h)) (taken h) (nth_old (f (number h)) (expected h)) refl b)
