-- Gated slots: 64 bytes each, a gate and the body behind it.
use Rattle.std.specs.Prelude.{◌≡◌, ℕ, ◌+◌, ◌*◌, ◌<◌, Bool, ◌==◌, if◌then◌else◌, IsTrue, List, ◌∷◌, length, take, drop, replicate, slice_index_or, slice_set}
use Rattle.std.specs.List.{flat_map}
use Rattle.xrf_gated.specs.declared.gated.Slot.{Slot}
use Rattle.xrf_gated.specs.declared.gated.GatePlan.{GatePlan}
use Rattle.xrf_gated.specs.declared.gated.GatePlan.TheVariants.{CloseFirst, BodyOnly}
use Rattle.xrf_gated.specs.declared.gated.TheConstants.{OPEN}

-- a slot as it is at first
abbrev pub zero_slot : Slot
zero_slot = record { gate = 0; body = replicate 63 0 }

-- slot i
abbrev pub slot_of : List Slot → ℕ → Slot
slot_of slots i = slice_index_or slots i zero_slot

-- a slot is open where its gate is 0xc1, and closed otherwise
abbrev pub is_open : Slot → Bool
is_open slot = slot.gate == OPEN

-- the bytes of a slot
abbrev pub bytes_of : Slot → List ℕ
bytes_of slot = slot.gate ∷ slot.body

-- block b: the bytes of the 64 slots from slot 64 b on
abbrev pub block_of : List Slot → ℕ → List ℕ
block_of slots b = flat_map bytes_of (take 64 (drop (64 * b) slots))

-- the slot that begins at byte 64 k of consecutive slots
abbrev pub slot_in : List ℕ → ℕ → Slot
slot_in bytes k = record { gate = slice_index_or bytes (64 * k) 0; body = take 63 (drop (64 * k + 1) bytes) }

-- slot i has another gate, and all else is as it was
abbrev pub with_gate : List Slot → ℕ → ℕ → List Slot
with_gate slots i byte = slice_set slots i (record (slot_of slots i) { gate = byte })

-- slot i has another body, and all else is as it was
abbrev pub with_body : List Slot → ℕ → List ℕ → List Slot
with_body slots i bytes = slice_set slots i (record (slot_of slots i) { body = bytes })

-- each open slot has a whole body
abbrev pub OpenAreWhole : (List ℕ → Bool) → List Slot → Type 0
OpenAreWhole is_whole slots = (i : ℕ) → i < length slots → (slot_of slots i).gate ≡ OPEN → IsTrue (is_whole (slot_of slots i).body)

-- a write closes an open slot first
abbrev pub plan_of : ℕ → GatePlan
plan_of gate = if gate == OPEN then CloseFirst else BodyOnly
