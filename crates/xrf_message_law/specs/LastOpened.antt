-- The ring of message slots: an open slot holds the message that was last opened there.
use Rattle.std.specs.Prelude.{Option, Some, ℕ, ◌==◌, if◌then◌else◌, List, None, [], ◌∷◌, length, ◌<◌, true, ◌≡◌}
use Rattle.xrf_gated.specs.declared.gated.Slot.{Slot}
use Rattle.xrf_gated.specs.Slots.{is_open}
use Rattle.xrf_msg.specs.declared.messages.Message.{Message}
use Rattle.xrf_msg.specs.Messages.{MsgIs, epoch_of, number_of}
use Rattle.xrf_trace.specs.declared.entry.Act.{Act}
use Rattle.xrf_trace.specs.declared.entry.Land.{Land}
use Rattle.xrf_trace.specs.Landing.{opens}
use Rattle.xrf_trace.specs.declared.entry.Entry.{Entry}
use Rattle.xrf_trace.specs.Tracking.{messages}
use Rattle.xrf_trace.specs.Devices.{message_slot}
use Rattle.xrf_trace.specs.declared.entry.Act.TheVariants as act

-- the message that was last opened in a slot: that of the last MSGOPEN there that landed as 0xc1
abbrev pub last_opened_after : ℕ → Act → Land → Option Message → Option Message
last_opened_after i (act.MsgOpen k message) land before = if i == k then (if opens land then Some message else before) else before
last_opened_after i _ land before = before

-- the same of a trace
abbrev pub last_opened : List Entry → ℕ → Option Message
last_opened [] i = None
last_opened (e ∷ t) i = last_opened_after i e.act e.land (last_opened t i)

-- a body spells a message whose number is below the count of its epoch
pub record Holds (messages : ℕ → List Message) (body : List ℕ) : Type 0 where
  pub message : Message
  pub spelled : MsgIs body message
  pub counted : number_of message < length (messages (epoch_of message))

-- what an open slot holds
abbrev pub SoundAt : (ℕ → List Message) → Slot → Type 0
SoundAt messages slot = is_open slot ≡ true → Holds messages slot.body

-- and that message was the last one opened in its slot
pub record HoldsLast (messages : ℕ → List Message) (last : Option Message) (body : List ℕ) : Type 0 where
  pub holds : Holds messages body
  pub is_last : last ≡ Some holds.message

-- so it is of an open slot
abbrev pub LastAt : (ℕ → List Message) → Option Message → Slot → Type 0
LastAt messages last slot = is_open slot ≡ true → HoldsLast messages last slot.body

-- each open slot holds the message that was last opened there
abbrev pub OpenHoldLast : List Entry → Type 0
OpenHoldLast t = (i : ℕ) → LastAt (messages t) (last_opened t i) (message_slot t i)
