-- A read that gives a message leaves one less to take, and the others end the reading.
use Rattle.std.proofs.Common.{◌==◌, ◌≡◌, ℕ, zero, suc, ◌+◌, ◌%◌, ◌≤◌, ◌&&◌, ◌||◌, not, Bool, true, false, is_some, List, ◌∷◌, length, drop, slice_index, Option, Some, None, refl, ap, ◌∙◌, sym, subst, arith, if◌then◌else◌}
use Rattle.std.proofs.lemmas.Grind.{common_steps}
use Rattle.std.proofs.Math.Nat.{add-mod_right}
use Rattle.xrf_gated.specs.declared.gated.Slot.{Slot}
use Rattle.xrf_gated.specs.Slots.{bytes_of}
use Rattle.xrf_msg.specs.declared.messages.Message.{Message}
use Rattle.xrf_msg.specs.Numbers.{given, if_expected}
use Rattle.xrf_msg.specs.Messages.{epoch_of, number_of, message_reading}
use Rattle.std.specs.Option.{option_and_then}
use Rattle.xrf_history.specs.declared.settings.Settings.{Settings}
use Rattle.xrf_history.specs.Events.{Event, MessageRead}
use Rattle.xrf_history.specs.Holding.{number, is_restarted}
use Rattle.xrf_history.specs.Taking.{taken, expected, gives, is_draining, is_drained, with_message}
use Rattle.xrf_history.specs.Holding.{is_let_through}
use Rattle.xrf_history.specs.Rows.{reading_due, reading_place}
use Rattle.xrf_progress.proofs.Potential.{ready, unread, undrained, one_if}

-- two numbers that are equal to a third
same-both : (a b c : ℕ) → (a == b) ≡ true → (a == c) ≡ true → b ≡ c
same-both a b c one two = grind (arith, one, two)

-- a slot gives the message of one number
given-number : (slot : List ℕ) (n q r : ℕ) → is_some (given slot n q) ≡ true → is_some (given slot n r) ≡ true → q ≡ r
given-number slot n q r first second = by (slice_index slot 0 == 0xc1) (message_reading (drop 1 slot)) first second
  where
    tests : (a b : Bool) (m : Message) → is_some (if a && b then Some m else None) ≡ true → b ≡ true
    tests true true m is = refl
    tests true false m is = absurd (cc)
    tests false b m is = absurd (cc)

    by : (b : Bool) (o : Option Message) → is_some (if b then option_and_then (if_expected n q) o else None) ≡ true
        → is_some (if b then option_and_then (if_expected n r) o else None) ≡ true → q ≡ r
    by false o one two = absurd (cc)
    by true None one two = absurd (cc)
    by true (Some m) one two =
        same-both (number_of m) q r (tests (epoch_of m == n) (number_of m == q) m one) (tests (epoch_of m == n) (number_of m == r) m two)

-- what stands ready from a number on is no more with one slot more, where that gives nothing
ready-stops : (slot : ℕ → Slot) (ring n k q : ℕ) → is_some (given (bytes_of (slot ((q + k) % ring))) n (q + k)) ≡ false
    → ready slot ring n (suc k) q ≤ ready slot ring n k q
ready-stops slot ring n zero q stops = by (is_some (given (bytes_of (slot (q % ring))) n q)) (subst (λ (m : ℕ). is_some (given (bytes_of (slot (m % ring))) n m) ≡ false) same stops)
  where
    same : q + 0 ≡ q
    same = omega arith

    by : (b : Bool) → b ≡ false → (if b then suc 0 else 0) ≤ 0
    by true is = absurd (cc)
    by false is = omega arith
ready-stops slot ring n (suc k) q stops =
    by (is_some (given (bytes_of (slot (q % ring))) n q))
    (ready-stops slot ring n k (q + 1) (subst (λ (m : ℕ). is_some (given (bytes_of (slot (m % ring))) n m) ≡ false) same stops))
  where
    same : q + suc k ≡ q + 1 + k
    same = omega arith

    by : (b : Bool) → ready slot ring n (suc k) (q + 1) ≤ ready slot ring n k (q + 1)
        → (if b then suc (ready slot ring n (suc k) (q + 1)) else 0) ≤ (if b then suc (ready slot ring n k (q + 1)) else 0)
    by true less = omega (arith, less)
    by false less = omega arith

-- the slot of a number gives no message a ring later
later-none : (slot : ℕ → Slot) (r n q : ℕ) → is_some (given (bytes_of (slot (q % suc r))) n q) ≡ true
    → is_some (given (bytes_of (slot ((q + 1 + r) % suc r))) n (q + 1 + r)) ≡ false
later-none slot r n q gives_it = by (is_some (given (bytes_of (slot ((q + 1 + r) % suc r))) n (q + 1 + r))) refl
  where
    place : (q + 1 + r) % suc r ≡ q % suc r
    place = let sum : q + 1 + r ≡ q + suc r = omega arith in ap (λ (m : ℕ). m % suc r) sum ∙ add-mod_right q (suc r)

    by : (b : Bool) → is_some (given (bytes_of (slot ((q + 1 + r) % suc r))) n (q + 1 + r)) ≡ b → b ≡ false
    by false is = refl
    by true is =
        let again = ap (λ (m : ℕ). is_some (given (bytes_of (slot m)) n (q + 1 + r))) (sym place) ∙ is in
        let same = given-number (bytes_of (slot (q % suc r))) n q (q + 1 + r) gives_it again in
        absurd (omega (arith, same))

-- so with the message taken one less stands ready
ready-less : (slot : ℕ → Slot) (ring n q : ℕ) → 1 ≤ ring → is_some (given (bytes_of (slot (q % ring))) n q) ≡ true
    → ready slot ring n ring (q + 1) + 1 ≤ ready slot ring n ring q
ready-less slot zero n q some gives_it = absurd (omega (arith, some))
ready-less slot (suc r) n q some gives_it =
    let stops = ready-stops slot (suc r) n r (q + 1) (later-none slot r n q gives_it) in
    let here : ready slot (suc r) n (suc r) q ≡ suc (ready slot (suc r) n r (q + 1)) =
    ap (λ (b : Bool). if b then suc (ready slot (suc r) n r (q + 1)) else 0) gives_it in
    omega (arith, stops, here)

-- what is taken after a read
taken-after : (h : List Event) (k : ℕ) (slot : List ℕ) → is_restarted h ≡ false → (b : Bool) → gives slot h ≡ b
    → expected (MessageRead k slot ∷ h) ≡ (if b then expected h + 1 else expected h)
taken-after h k slot fresh b is = by (given slot (number h) (expected h)) is
  where
    count : (o : Option Message) (messages : List Message) (b : Bool) → is_some o ≡ b
        → length (with_message o messages) ≡ (if b then length messages + 1 else length messages)
    count None messages true is = absurd (cc)
    count None messages false is = refl
    count (Some m) messages true is = omega arith
    count (Some m) messages false is = absurd (cc)

    by : (o : Option Message) → is_some (given slot (number h) (expected h)) ≡ b → expected (MessageRead k slot ∷ h) ≡ (if b then expected h + 1 else expected h)
    by o some =
        ap (λ (c : Bool). length (if c then taken h else with_message (given slot (number h) (expected h)) (taken h))) fresh
        ∙ count (given slot (number h) (expected h)) (taken h) b some

-- a read that gives a message leaves less to take; one that gives none leaves as much
unread-after : (slot : ℕ → Slot) (p : Settings) (h : List Event) (b : Bool) → 1 ≤ p.limits.ring → is_restarted h ≡ false
    → gives (bytes_of (slot (reading_place p h))) h ≡ b
    → unread slot p (MessageRead (reading_place p h) (bytes_of (slot (reading_place p h))) ∷ h) + one_if b ≤ unread slot p h
unread-after slot p h true some fresh is =
    let less = ready-less slot p.limits.ring (number h) (expected h) some is in
    let count = taken-after h (reading_place p h) (bytes_of (slot (reading_place p h))) fresh true is in
    subst (λ (q : ℕ). ready slot p.limits.ring (number h) p.limits.ring q + 1 ≤ ready slot p.limits.ring (number h) p.limits.ring (expected h)) (sym count) less
unread-after slot p h false some fresh is =
    let count = taken-after h (reading_place p h) (bytes_of (slot (reading_place p h))) fresh false is in
    subst (λ (q : ℕ). ready slot p.limits.ring (number h) p.limits.ring q + 0 ≤ ready slot p.limits.ring (number h) p.limits.ring (expected h)) (sym count)
    (omega arith)

-- a read that drains goes on where it gives a message
drained-after : (h : List Event) (k : ℕ) (slot : List ℕ) (b : Bool) → is_draining h ≡ true → gives slot h ≡ b
    → is_draining (MessageRead k slot ∷ h) ≡ b
drained-after h k slot b draining is = by (is_let_through h) (is_drained h) (gives slot h) draining ∙ is
  where
    by : (a d g : Bool) → (a && not d) ≡ true → (a && not (d || (a && not g))) ≡ g
    by true false true is = refl
    by true false false is = refl
    by true true g is = absurd (cc)
    by false d g is = absurd (cc)

-- so it leaves less
pub drains-less : (slot : ℕ → Slot) (p : Settings) (h : List Event) → 1 ≤ p.limits.ring → is_restarted h ≡ false → is_draining h ≡ true
    → undrained slot p (MessageRead (reading_place p h) (bytes_of (slot (reading_place p h))) ∷ h) + 1 ≤ undrained slot p h
drains-less slot p h some fresh draining = by (gives (bytes_of (slot (reading_place p h))) h) refl
  where
    after : List Event
    after = MessageRead (reading_place p h) (bytes_of (slot (reading_place p h))) ∷ h

    before : undrained slot p h ≡ unread slot p h + 1
    before = ap (λ (b : Bool). if b then unread slot p h + 1 else 0) draining

    by : (b : Bool) → gives (bytes_of (slot (reading_place p h))) h ≡ b → undrained slot p after + 1 ≤ undrained slot p h
    by true is =
        let less = unread-after slot p h true some fresh is in
        let now : undrained slot p after ≡ unread slot p after + 1 =
        ap (λ (b : Bool). if b then unread slot p after + 1 else 0) (drained-after h (reading_place p h) (bytes_of (slot (reading_place p h))) true draining is) in
        omega (arith, less, now, before)
    by false is =
        let now : undrained slot p after ≡ 0 =
        ap (λ (b : Bool). if b then unread slot p after + 1 else 0) (drained-after h (reading_place p h) (bytes_of (slot (reading_place p h))) false draining is) in
        omega (arith, now, before)

-- a read of an alternate goes on where it gives a message
reads-after : (h : List Event) (k : ℕ) (slot : List ℕ) (b : Bool) → reading_due h ≡ true → gives slot h ≡ b → reading_due (MessageRead k slot ∷ h) ≡ b
reads-after h k slot b due is = grind (arith, common_steps)

-- and it leaves less
pub reads-less : (slot : ℕ → Slot) (p : Settings) (h : List Event) → 1 ≤ p.limits.ring → is_restarted h ≡ false → reading_due h ≡ true
    → unread slot p (MessageRead (reading_place p h) (bytes_of (slot (reading_place p h))) ∷ h)
    + one_if (reading_due (MessageRead (reading_place p h) (bytes_of (slot (reading_place p h))) ∷ h)) + 1
    ≤ unread slot p h + one_if (reading_due h)
reads-less slot p h some fresh due = by (gives (bytes_of (slot (reading_place p h))) h) refl
  where
    after : List Event
    after = MessageRead (reading_place p h) (bytes_of (slot (reading_place p h))) ∷ h

    by : (b : Bool) → gives (bytes_of (slot (reading_place p h))) h ≡ b → unread slot p after + one_if (reading_due after) + 1 ≤ unread slot p h + one_if (reading_due h)
    by true is =
        let less = unread-after slot p h true some fresh is in
        let first : one_if (reading_due after) ≡ 1 = ap one_if (reads-after h (reading_place p h) (bytes_of (slot (reading_place p h))) true due is) in
        let second : one_if (reading_due h) ≡ 1 = ap one_if due in
        omega (arith, less, first, second)
    by false is =
        let less = unread-after slot p h false some fresh is in
        let first : one_if (reading_due after) ≡ 0 = ap one_if (reads-after h (reading_place p h) (bytes_of (slot (reading_place p h))) false due is) in
        let second : one_if (reading_due h) ≡ 1 = ap one_if due in
        omega (arith, less, first, second)
