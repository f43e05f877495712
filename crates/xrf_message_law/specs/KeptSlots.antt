-- Slots that are kept as a list, and stand as those of the trace.
use Rattle.std.specs.Prelude.{List, length, ◌≡◌, ℕ, ◌<◌, Some, [], ◌∷◌, None}
use Rattle.xrf_gated.specs.declared.gated.Slot.{Slot}
use Rattle.xrf_gated.specs.Slots.{slot_of, with_body, with_gate}
use Rattle.xrf_gated.specs.declared.gated.TheConstants.{OPEN}
use Rattle.xrf_msg.specs.declared.messages.Message.{Message}
use Rattle.xrf_msg.specs.Messages.{spelling}
use Rattle.xrf_trace.specs.declared.entry.Entry.{Entry}
use Rattle.xrf_trace.specs.Devices.{message_slot}
use Rattle.xrf_trace.specs.Landing.{landed}
use Rattle.xrf_trace.specs.declared.entry.Act.{Act}
use Rattle.xrf_trace.specs.declared.entry.Act.TheVariants as act

-- a list of slots, as many as the ring has, each as in the trace
pub record Stand (t : List Entry) (ring : ℕ) (slots : List Slot) : Type 0 where
  pub many : length slots ≡ ring
  pub each : (i : ℕ) → i < ring → slot_of slots i ≡ message_slot t i

-- what landed of an act: a byte on a gate, or a body
abbrev pub LandsGate : Entry → List ℕ → ℕ → Type 0
LandsGate e own byte = landed e.land own ≡ Some (byte ∷ [])

-- an act that writes no message slot
abbrev pub IsOffMessages : Act → Type 0
IsOffMessages (act.MsgClose k) = ⊥
IsOffMessages (act.MsgBody k message) = ⊥
IsOffMessages (act.MsgOpen k message) = ⊥
IsOffMessages _ = Unit {0}

-- slots that stand do so after each entry, where what landed of it is landed in them
pub record StandAfter (t : List Entry) (e : Entry) (ring : ℕ) (slots : List Slot) : Type 0 where
  pub closes : (k byte : ℕ) → k < ring → e.act ≡ act.MsgClose k → LandsGate e (0 ∷ []) byte → Stand (e ∷ t) ring (with_gate slots k byte)
  pub opens : (k byte : ℕ) (message : Message) → k < ring → e.act ≡ act.MsgOpen k message → LandsGate e (OPEN ∷ []) byte
      → Stand (e ∷ t) ring (with_gate slots k byte)
  pub bodies : (k : ℕ) (message : Message) (body : List ℕ) → k < ring → e.act ≡ act.MsgBody k message → landed e.land (spelling message) ≡ Some body
      → Stand (e ∷ t) ring (with_body slots k body)
  pub nothing : ((own : List ℕ) → landed e.land own ≡ None) → Stand (e ∷ t) ring slots
  pub others : IsOffMessages e.act → Stand (e ∷ t) ring slots
