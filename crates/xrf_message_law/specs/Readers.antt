-- What holds of a job that may still take messages, or has taken them and is not restarted.
use Rattle.std.specs.Prelude.{Bool, List, false, not, true, ◌&&◌, ◌≡◌, IfSome, ℕ, ◌≤◌, ◌%◌, length}
use Rattle.xrf_ctl.specs.Control.{ControlRecord}
use Rattle.xrf_cavm.specs.Record.{is_alt}
use Rattle.xrf_gated.specs.declared.gated.Slot.{Slot}
use Rattle.xrf_gated.specs.Slots.{is_open}
use Rattle.xrf_msg.specs.declared.messages.Message.{Message}
use Rattle.xrf_msg.specs.Messages.{MsgIs}
use Rattle.xrf_history.specs.Events.{Event}
use Rattle.xrf_history.proofs.SigningOff.{has_reserved_off}
use Rattle.xrf_history.specs.Holding.{is_granted, is_owner, is_restarted, number}
use Rattle.xrf_history.specs.Taking.{taken}
use Rattle.xrf_message_law.specs.Numbering.{nth_old, oldest}

-- it is the alternate of the record, or an owner that has not reserved for its sign-off and is not restarted
abbrev pub placed : ControlRecord → List Event → Bool
placed r h = elim (is_owner h) [ true ↦ not (has_reserved_off h) && not (is_restarted h) | false ↦ is_granted h && is_alt r (number h) ]

-- a slot is open with a message
pub record Stands (slot : Slot) (message : Message) : Type 0 where
  pub gate : is_open slot ≡ true
  pub spelled : MsgIs slot.body message

-- each message from a number on stands open in its slot
abbrev pub Standing : (ring : ℕ) → (ℕ → Slot) → List Message → ℕ → Type 0
Standing ring slot messages from = (q : ℕ) → from ≤ q → IfSome (nth_old messages q) (Stands (slot (q % ring)))

-- what it has taken are the oldest messages of its epoch, the others stand, and no cursor shown is above their number
pub record Reads (ring : ℕ) (slot : ℕ → Slot) (messages : List Message) (shown : ℕ) (has : List Message) : Type 0 where
  pub taken_is : has ≡ oldest (length has) messages
  pub few : length has ≤ length messages
  pub stands : Standing ring slot messages (length has)
  pub shows : shown ≤ length has

-- so it is of a job in its place
abbrev pub IsReader : (ring : ℕ) → ControlRecord → (ℕ → Slot) → (ℕ → List Message) → (shown : ℕ → ℕ) → List Event → Type 0
IsReader ring r slot messages shown h = placed r h ≡ true → Reads ring slot (messages (number h)) (shown (number h)) (taken h)
