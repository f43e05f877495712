-- What the writes of message slots find there: the conditions under which they land in slots each open one of
-- which has a whole body.
use Rattle.std.specs.Prelude.{IsTrue, List, is_some, ℕ, ◌≡◌, ◌<◌, length}
use Rattle.xrf_gated.specs.declared.gated.TheConstants.{OPEN}
use Rattle.xrf_gated.specs.declared.gated.Slot.{Slot}
use Rattle.xrf_gated.specs.Slots.{OpenAreWhole, slot_of}
use Rattle.xrf_msg.specs.Messages.{HasRanges, message_reading}
use Rattle.xrf_history.specs.declared.want.Want.{Want}
use Rattle.xrf_history.specs.Next.{next}
use Rattle.xrf_history.specs.declared.want.Want.TheVariants as want
use Rattle.xrf_trace.specs.declared.entry.Entry.{Entry}
use Rattle.xrf_trace.proofs.JobSteps.{OfJobs}
use Rattle.xrf_trace.specs.Scenario.{Scen, settings}
use Rattle.xrf_trace.specs.Devices.{message_slot}

-- a body that spells a message
abbrev pub IsWhole : List ℕ → Type 0
IsWhole body = IsTrue (is_some (message_reading body))

-- A CLOSE finds its slot open, whatever byte lands. A BODY finds it closed, and its message is within its ranges. An OPEN
-- finds a whole body in it.
-- Each finds its slot among those of the ring, as a MSGREAD does.
abbrev pub MayLand : (ℕ → Slot) → (ring : ℕ) → Want → Type 0
MayLand slot ring (want.MsgRead k) = k < ring
MayLand slot ring (want.MsgClose k) = (k < ring) × ((slot k).gate ≡ OPEN)
MayLand slot ring (want.MsgBody k message) = (k < ring) × ((slot k).gate ≡ OPEN → ⊥) × HasRanges message
MayLand slot ring (want.MsgOpen k message) = (k < ring) × IsWhole (slot k).body
MayLand slot ring _ = Unit {0}

-- an open slot has a whole body
abbrev pub OpenIsWhole : Slot → Type 0
OpenIsWhole slot = slot.gate ≡ OPEN → IsWhole slot.body

-- what the writes find, and that each open slot is whole
pub record SlotsMayLand (s : Scen) (t : List Entry) : Type 0 where
  pub may : OfJobs s t (λ x h. MayLand (message_slot t) s.settings.ring (next (settings s x) h))
  pub whole : (i : ℕ) → OpenIsWhole (message_slot t i)

-- the same of slots that are kept as a list: these are the conditions of the landings
pub record ListMayLand (s : Scen) (t : List Entry) (slots : List Slot) : Type 0 where
  pub may : OfJobs s t (λ x h. MayLand (slot_of slots) (length slots) (next (settings s x) h))
  pub whole : OpenAreWhole (λ body. is_some (message_reading body)) slots
