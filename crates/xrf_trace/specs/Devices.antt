-- The data sets as a trace makes them.
use Rattle.std.specs.Prelude.{ℕ, ◌*◌, ◌%◌, ◌==◌, Bool, true, false, ◌&&◌, List, [], ◌∷◌, ◌++◌, Option, Some, None}
use Rattle.std.specs.List.{flat_map, range_with_len}
use Rattle.xrf_base.specs.declared.site.Site.{Site}
use Rattle.xrf_base.specs.Values.{slot_of}
use Rattle.xrf_ctl.specs.Control.{ControlRecord, empty}
use Rattle.xrf_ctl.specs.Signal.{SignalRecord}
use Rattle.xrf_gated.specs.declared.gated.Slot.{Slot}
use Rattle.xrf_gated.specs.declared.gated.TheConstants.{OPEN}
use Rattle.xrf_gated.specs.Slots.{zero_slot, bytes_of}
use Rattle.xrf_msg.specs.Messages.{spelling as message_spelling}
use Rattle.xrf_logrec.specs.LogRecords.{spelling as record_spelling}
use Rattle.xrf_logrec.specs.Keypoints.{key_spelling}
use Rattle.xrf_trace.specs.declared.entry.Entry.{Entry}
use Rattle.xrf_trace.specs.declared.entry.Act.{Act}
use Rattle.xrf_trace.specs.declared.entry.Act.TheVariants as act
use Rattle.xrf_trace.specs.declared.entry.Land.{Land}
use Rattle.xrf_trace.specs.Scenario.{Scen, first_value}
use Rattle.xrf_trace.specs.Landing.{landed, lands}
use Rattle.xrf_trace.specs.Words.{is_of}

-- the control record: that of the last CTLWRITE that landed, and the empty one where there is none
abbrev pub written_if : Bool → ControlRecord → ControlRecord → ControlRecord
written_if true written before = written
written_if false written before = before

abbrev pub control_after : Act → Land → ControlRecord → ControlRecord
control_after (act.CtlWrite written) land before = written_if (lands land) written before
control_after _ land before = before

abbrev pub control : List Entry → ControlRecord
control [] = empty
control (e ∷ t) = control_after e.act e.land (control t)

-- the signal in a site's sector of either path: that of its last SIGNAL1, or SIGNAL2, that landed
abbrev pub signal_if : Bool → SignalRecord → Option SignalRecord → Option SignalRecord
signal_if true signal before = Some signal
signal_if false signal before = before

abbrev pub sector1_after : Act → Bool → Option SignalRecord → Option SignalRecord
sector1_after (act.Signal1 signal) is_landed before = signal_if is_landed signal before
sector1_after _ is_landed before = before

abbrev pub sector1 : List Entry → Site → Option SignalRecord
sector1 [] x = None
sector1 (e ∷ t) x = sector1_after e.act (is_of e.who x && lands e.land) (sector1 t x)

abbrev pub sector2_after : Act → Bool → Option SignalRecord → Option SignalRecord
sector2_after (act.Signal2 signal) is_landed before = signal_if is_landed signal before
sector2_after _ is_landed before = before

abbrev pub sector2 : List Entry → Site → Option SignalRecord
sector2 [] x = None
sector2 (e ∷ t) x = sector2_after e.act (is_of e.who x && lands e.land) (sector2 t x)

-- A slot has as its gate the last byte that landed there by CLOSE or OPEN, and as its body the last 63 bytes
-- that landed there by BODY. Both start as zero.
abbrev pub with_gate : Option (List ℕ) → Slot → Slot
with_gate None slot = slot
with_gate (Some []) slot = slot
with_gate (Some (gate ∷ rest)) slot = record { gate = gate; body = slot.body }

abbrev pub with_body : Option (List ℕ) → Slot → Slot
with_body None slot = slot
with_body (Some body) slot = record { gate = slot.gate; body = body }

-- a write of slot k, seen at slot i
abbrev pub close_at : (k : ℕ) → Land → (i : ℕ) → Slot → Slot
close_at k land i before = elim (i == k) [ true ↦ with_gate (landed land (0 ∷ [])) before | false ↦ before ]

abbrev pub open_at : (k : ℕ) → Land → (i : ℕ) → Slot → Slot
open_at k land i before = elim (i == k) [ true ↦ with_gate (landed land (OPEN ∷ [])) before | false ↦ before ]

abbrev pub body_at : (k : ℕ) → Land → List ℕ → (i : ℕ) → Slot → Slot
body_at k land own i before = elim (i == k) [ true ↦ with_body (landed land own) before | false ↦ before ]

-- the slots of the message data set
abbrev pub message_slot_after : Act → Land → (i : ℕ) → Slot → Slot
message_slot_after (act.MsgClose k) land i before = close_at k land i before
message_slot_after (act.MsgBody k message) land i before = body_at k land (message_spelling message) i before
message_slot_after (act.MsgOpen k message) land i before = open_at k land i before
message_slot_after _ land i before = before

abbrev pub message_slot : List Entry → ℕ → Slot
message_slot [] i = zero_slot
message_slot (e ∷ t) i = message_slot_after e.act e.land i (message_slot t i)

-- the slots of the log: record number p stands in slot p mod LOG
abbrev pub log_slot_after : (slots : ℕ) → Act → Land → (i : ℕ) → Slot → Slot
log_slot_after slots (act.LogClose p) land i before = close_at (p % slots) land i before
log_slot_after slots (act.LogBody p rec) land i before = body_at (p % slots) land (record_spelling p rec) i before
log_slot_after slots (act.LogOpen p rec) land i before = open_at (p % slots) land i before
log_slot_after slots _ land i before = before

abbrev pub log_slot : Scen → List Entry → ℕ → Slot
log_slot s [] i = zero_slot
log_slot s (e ∷ t) i = log_slot_after s.settings.log e.act e.land i (log_slot s t i)

-- the two keypoint slots
abbrev pub key_slot_after : Act → Land → (i : ℕ) → Slot → Slot
key_slot_after (act.KpClose k) land i before = close_at k land i before
key_slot_after (act.KpBody k keypoint) land i before = body_at k land (key_spelling keypoint) i before
key_slot_after (act.KpOpen k keypoint) land i before = open_at k land i before
key_slot_after _ land i before = before

abbrev pub key_slot : List Entry → ℕ → Slot
key_slot [] i = zero_slot
key_slot (e ∷ t) i = key_slot_after e.act e.land i (key_slot t i)

-- The slot of file record k: the last 32 bytes that landed there, and at first that of the scenario's record,
-- or an empty one.
abbrev pub bytes_if : Option (List ℕ) → List ℕ → List ℕ
bytes_if (Some bytes) before = bytes
bytes_if None before = before

abbrev pub file_at : (k : ℕ) → Land → List ℕ → (i : ℕ) → List ℕ → List ℕ
file_at k land own i before = elim (i == k) [ true ↦ bytes_if (landed land own) before | false ↦ before ]

abbrev pub image_after : Act → Land → (i : ℕ) → List ℕ → List ℕ
image_after (act.FileWrite unit k value) land i before = file_at k land (slot_of (Some value)) i before
image_after (act.Undo k own) land i before = file_at k land own i before
image_after _ land i before = before

abbrev pub image : Scen → List Entry → ℕ → List ℕ
image s [] k = slot_of (first_value s k)
image s (e ∷ t) k = image_after e.act e.land k (image s t k)

-- a block of the log, 64 slots, and both keypoint slots, as they are handed
abbrev pub log_block : Scen → List Entry → ℕ → List ℕ
log_block s t b = flat_map (λ i. bytes_of (log_slot s t i)) (range_with_len (64 * b) 64)

abbrev pub key_slots : List Entry → List ℕ
key_slots t = bytes_of (key_slot t 0) ++ bytes_of (key_slot t 1)
