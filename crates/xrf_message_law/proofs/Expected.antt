-- What a slot gives a job that reads it: the message of the expected number, where that was opened.
use Rattle.std.proofs.Common.{Bool, None, ap, false, true, ◌≡◌, ℕ, if◌then◌else◌, refl, Some, eq-eqb, ◌==◌, ◌&&◌, eqb-true, IfSome, List, Option, arith, length, subst, ◌<◌, ◌≤◌, ◌∙◌}
use Rattle.std.specs.Option.{option_and_then}
use Rattle.std.proofs.lemmas.Bool.{and_parts}
use Rattle.xrf_gated.specs.declared.gated.Slot.{Slot}
use Rattle.xrf_gated.specs.Slots.{bytes_of, is_open}
use Rattle.xrf_msg.specs.declared.messages.Message.{Message}
use Rattle.xrf_msg.specs.Messages.{MsgIs, message_reading, epoch_of, number_of}
use Rattle.xrf_msg.specs.Numbers.{given, if_expected}
use Rattle.xrf_msg.proofs.MessageLaws.{message_reading-spelled}
use Rattle.xrf_message_law.specs.Numbering.{IsOf, AreNumbered, nth_old}
use Rattle.xrf_message_law.specs.LastOpened.{Holds, SoundAt}
use Rattle.xrf_message_law.specs.Readers.{Stands}
use Rattle.xrf_message_law.proofs.Oldest.{nth-above, nth-number}

-- an open slot gives its message where that is the one expected, and a closed one none
gives-open : (slot : Slot) (n q : ℕ) (m : Message) → is_open slot ≡ true → MsgIs slot.body m → given (bytes_of slot) n q ≡ if_expected n q m
gives-open slot n q m gate spelled = by (is_open slot) gate
  where
    by : (b : Bool) → b ≡ true → (if b then option_and_then (if_expected n q) (message_reading slot.body) else None) ≡ if_expected n q m
    by true is = ap (option_and_then (if_expected n q)) (message_reading-spelled slot.body m spelled)
    by false is = absurd (cc)

-- a closed slot gives none
gives-closed : (slot : Slot) (n q : ℕ) → is_open slot ≡ false → given (bytes_of slot) n q ≡ None
gives-closed slot n q gate = by (is_open slot) gate
  where
    by : (b : Bool) → b ≡ false → (if b then option_and_then (if_expected n q) (message_reading slot.body) else None) ≡ None
    by true is = absurd (cc)
    by false is = refl

-- a slot with the message that is expected gives it
expected-is : (n q : ℕ) (m : Message) → IsOf n q m → if_expected n q m ≡ Some m
expected-is n q m is = by (epoch_of m == n) (number_of m == q) (eq-eqb (epoch_of m) n is.epoch) (eq-eqb (number_of m) q is.number)
  where
    by : (a b : Bool) → a ≡ true → b ≡ true → (if a && b then Some m else None) ≡ Some m
    by true true x y = refl
    by true false x y = absurd (cc)
    by false b x y = absurd (cc)

-- a slot with another gives none
not-expected : (n q : ℕ) (m : Message) → (IsOf n q m → ⊥) → if_expected n q m ≡ None
not-expected n q m none = by (epoch_of m == n && number_of m == q) refl
  where
    by : (b : Bool) → (epoch_of m == n && number_of m == q) ≡ b → (if b then Some m else None) ≡ None
    by true is =
        let parts = and_parts (epoch_of m == n) (number_of m == q) is in absurd
        (none (record { epoch = eqb-true (epoch_of m) n parts.0; number = eqb-true (number_of m) q parts.1 }))
    by false is = refl

-- **a MSGREAD gives the message of the number that is expected, or none where none was opened**
pub given-nth : (slot : Slot) (f : ℕ → List Message) (n q : ℕ) → AreNumbered n (f n) → IfSome (nth_old (f n) q) (Stands slot) → SoundAt f slot
    → given (bytes_of slot) n q ≡ nth_old (f n) q
given-nth slot f n q numbered stands sound = by (nth_old (f n) q) refl (nth-number n (f n) q numbered) stands
  where
    open_none : length (f n) ≤ q → (b : Bool) → is_open slot ≡ b → given (bytes_of slot) n q ≡ None
    open_none most true gate =
        let holds : Holds f slot.body = sound gate in
        gives-open slot n q holds.message gate holds.spelled
        ∙ not-expected n q holds.message (λ of.
        let counted : number_of holds.message < length (f n) = subst (λ (k : ℕ). number_of holds.message < length (f k)) of.epoch holds.counted in
        omega (arith, counted, of.number, most))
    open_none most false gate = gives-closed slot n q gate

    by : (o : Option Message) → nth_old (f n) q ≡ o → IfSome o (IsOf n q) → IfSome o (Stands slot) → given (bytes_of slot) n q ≡ o
    by None is of st = open_none (nth-above (f n) q is) (is_open slot) refl
    by (Some m) is of st = gives-open slot n q m st.gate st.spelled ∙ expected-is n q m of
