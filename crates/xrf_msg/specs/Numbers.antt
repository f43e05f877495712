-- The numbers of the writer and of the reader of messages.
use Rattle.std.specs.Prelude.{◌≡◌, ℕ, ◌==◌, ◌&&◌, nat_le, max, if◌then◌else◌, List, drop, slice_index, Option, Some, None}
use Rattle.std.specs.Option.{option_and_then}
use Rattle.xrf_ctl.specs.Signal.{SignalRecord}
use Rattle.xrf_msg.specs.declared.messages.Message.{Message}
use Rattle.xrf_msg.specs.Messages.{MsgIs, epoch_of, number_of, message_reading}

-- The cursor after a signal: the greatest of the epoch's signals that is at most the number of the
-- messages sent. Signals of another epoch, and cursors above what was sent, are ignored.
abbrev pub cursor_after : (epoch sent cursor : ℕ) → SignalRecord → ℕ
cursor_after epoch sent cursor signal = if signal.inc == epoch && nat_le signal.cursor sent then max cursor signal.cursor else cursor

-- The slot, 64 bytes, gives the message of this epoch and number: it is open, and its body spells
-- that message.
pub record Gives (slot : List ℕ) (epoch number : ℕ) (message : Message) : Type 0 where
  pub is_open : slice_index slot 0 ≡ 0xc1
  pub spelled : MsgIs (drop 1 slot) message
  pub epoch_is : epoch_of message ≡ epoch
  pub number_is : number_of message ≡ number

-- the message that the slot gives, as a function
abbrev pub if_expected : (epoch number : ℕ) → Message → Option Message
if_expected epoch number message = if epoch_of message == epoch && number_of message == number then Some message else None

abbrev pub given : List ℕ → (epoch number : ℕ) → Option Message
given slot epoch number = if slice_index slot 0 == 0xc1 then option_and_then (if_expected epoch number) (message_reading (drop 1 slot)) else None
