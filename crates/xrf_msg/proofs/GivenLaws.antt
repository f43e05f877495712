-- What a slot gives, as a relation and as a function.
use Rattle.std.proofs.Common.{◌≡◌, ℕ, ◌==◌, ◌&&◌, Bool, true, false, cond, List, drop, slice_index, Option, Some, None, IfSome, refl, sym, ◌∙◌, ap, subst, eqb-true, eq-eqb}
use Rattle.std.specs.Option.{option_and_then}
use Rattle.std.proofs.lemmas.Bool.{and_parts}
use Rattle.xrf_base.specs.Numbers.{AreBytes}
use Rattle.xrf_msg.specs.declared.messages.Message.{Message}
use Rattle.xrf_msg.specs.Messages.{MsgIs, epoch_of, number_of, message_reading}
use Rattle.xrf_msg.specs.Numbers.{Gives, given, if_expected}
use Rattle.xrf_msg.proofs.MessageLaws.{message_reading-found, message_reading-spelled, drop-bytes}

-- an answer that is the reading of the body
pub found_is : (body : List ℕ) (answer : Option Message) → AreBytes body → answer ≡ message_reading body → IfSome answer (MsgIs body)
found_is body None bytes e = tt
found_is body (Some message) bytes e = message_reading-found body message bytes (sym e)

by_expected : (slot : List ℕ) (epoch number : ℕ) (found message : Message) (expected : Bool) → (epoch_of found == epoch && number_of found == number) ≡ expected
    → MsgIs (drop 1 slot) found → slice_index slot 0 ≡ 0xc1 → cond expected (Some found) None ≡ Some message → Gives slot epoch number message
by_expected slot epoch number found message true as_expected is open_gate e =
    let one : found ≡ message = cc in
    subst (Gives slot epoch number) one (record {
      is_open = open_gate;
      spelled = is;
      epoch_is = eqb-true (epoch_of found) epoch (and_parts (epoch_of found == epoch) (number_of found == number) as_expected).0;
      number_is = eqb-true (number_of found) number (and_parts (epoch_of found == epoch) (number_of found == number) as_expected).1;
    })
by_expected slot epoch number found message false as_expected is open_gate e = cc

by_reading : (slot : List ℕ) (epoch number : ℕ) (read : Option Message) (message : Message) → message_reading (drop 1 slot) ≡ read → AreBytes slot → slice_index slot 0 ≡ 0xc1
    → option_and_then (if_expected epoch number) read ≡ Some message → Gives slot epoch number message
by_reading slot epoch number None message is bytes open_gate e = cc
by_reading slot epoch number (Some found) message is bytes open_gate e =
    by_expected slot epoch number found message (epoch_of found == epoch && number_of found == number) refl
    (message_reading-found (drop 1 slot) found (drop-bytes 1 slot bytes) is) open_gate e

by_gate : (slot : List ℕ) (epoch number : ℕ) (message : Message) (is_open : Bool) → (slice_index slot 0 == 0xc1) ≡ is_open → AreBytes slot
    → cond is_open (option_and_then (if_expected epoch number) (message_reading (drop 1 slot))) None ≡ Some message → Gives slot epoch number message
by_gate slot epoch number message true gate bytes e = by_reading slot epoch number (message_reading (drop 1 slot)) message refl bytes (eqb-true (slice_index slot 0) 0xc1 gate) e
by_gate slot epoch number message false gate bytes e = cc

given-Gives : (slot : List ℕ) (epoch number : ℕ) (message : Message) → AreBytes slot → given slot epoch number ≡ Some message → Gives slot epoch number message
given-Gives slot epoch number message bytes e = by_gate slot epoch number message (slice_index slot 0 == 0xc1) refl bytes e

Gives-given : (slot : List ℕ) (epoch number : ℕ) (message : Message) → Gives slot epoch number message → given slot epoch number ≡ Some message
Gives-given slot epoch number message gives =
    rw (eq-eqb (slice_index slot 0) 0xc1 gives.is_open)
    (ap (option_and_then (if_expected epoch number)) (message_reading-spelled (drop 1 slot) message gives.spelled)
    ∙ rw (eq-eqb (epoch_of message) epoch gives.epoch_is, eq-eqb (number_of message) number gives.number_is) refl)

-- an answer that is what the slot gives
pub only_given : (slot : List ℕ) (epoch number : ℕ) (answer : Option Message) → AreBytes slot → answer ≡ given slot epoch number
    → (message : Message) → (answer ≡ Some message → Gives slot epoch number message) × (Gives slot epoch number message → answer ≡ Some message)
only_given slot epoch number answer bytes e message =
    (λ found. given-Gives slot epoch number message bytes (sym e ∙ found), λ gives. e ∙ Gives-given slot epoch number message gives)
