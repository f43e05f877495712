-- The scan of a restart: the anchor, and the records that the blocks of the log give from it on.
use Rattle.std.specs.Prelude.{ℕ, zero, suc, ◌+◌, ◌-◌, ◌/◌, ◌%◌, min, Bool, false, ◌==◌, ◌||◌, nat_lt, nat_le, if◌then◌else◌, List, [], ◌∷◌, length, Option, Some, None}
use Rattle.std.specs.Option.{option_and_then, option_map_or}
use Rattle.xrf_gated.specs.declared.gated.Slot.{Slot}
use Rattle.xrf_gated.specs.Slots.{slot_in, is_open}
use Rattle.xrf_logrec.specs.declared.records.LogRec.{LogRec}
use Rattle.xrf_logrec.specs.declared.keypoints.Keypoint.{Keypoint}
use Rattle.xrf_logrec.specs.LogRecords.{log_reading}
use Rattle.xrf_logrec.specs.Keypoints.{key_reading}

-- the keypoint of an open slot whose body spells one
abbrev pub keypoint_at : Slot → Option Keypoint
keypoint_at slot = if is_open slot then key_reading slot.body else None

-- of two, the keypoint with the greater number, the first where the numbers are equal; number 0 with
-- start 0 where there is none
abbrev pub in_force : Option Keypoint → Option Keypoint → Keypoint
in_force (Some a) (Some b) = if nat_lt a.number b.number then b else a
in_force (Some a) None = a
in_force None (Some b) = b
in_force None None = record { number = 0; start = 0 }

-- the anchor: the keypoint in force of the two slots
abbrev pub anchor_of : List ℕ → Keypoint
anchor_of both = in_force (keypoint_at (slot_in both 0)) (keypoint_at (slot_in both 1))

-- record number p of the log, where the slot is open and its body spells that record
abbrev pub record_at : Slot → ℕ → Option LogRec
record_at slot p = if is_open slot then option_and_then (λ found. if found.0 == p then Some found.1 else None) (log_reading slot.body) else None

-- Record number p stands in slot p mod LOG, and 64 slots are a block: the block of that slot, and its
-- place in the block.
abbrev pub block_of_record : ℕ → ℕ → ℕ
block_of_record slots p = p % slots / 64

abbrev pub place_of_record : ℕ → ℕ → ℕ
place_of_record slots p = p % slots % 64

-- a scan so far
pub record Scanned : Type 0 where
  -- LOG, the slots of the log
  pub slots : ℕ
  pub anchor : Keypoint
  -- the records taken, the newest first
  pub records : List LogRec
  -- the block that is to be handed next
  pub block : ℕ
  -- whether it has ended
  pub ended : Bool

-- before anything is handed
abbrev pub cleared : ℕ → Scanned
cleared slots = record { slots = slots; anchor = record { number = 0; start = 0 }; records = []; block = 0; ended = false }

-- the number of the record that is expected
abbrev pub next_of : Scanned → ℕ
next_of scan = scan.anchor.start + length scan.records

-- Consecutive slots give their records as long as each is open and spells the record of the next
-- number: `count` slots from slot k on, of which the first is to give record number p. They come on
-- top of the records that are known.
abbrev pub run_of : (ℕ → Slot) → ℕ → ℕ → ℕ → List LogRec → List LogRec
run_of slot zero k p known = known
run_of slot (suc count) k p known = option_map_or (λ rec. run_of slot count (k + 1) (p + 1) (rec ∷ known)) (record_at (slot k) p) known

-- how many slots of the block that was asked for are reached: those from the place of the expected
-- record to the end of the block, as long as there are not LOG records, and none where that record's
-- slot lies in another block
abbrev pub reach_of : Scanned → ℕ
reach_of scan = if block_of_record scan.slots (next_of scan) == scan.block then min (64 - place_of_record scan.slots (next_of scan)) (scan.slots - length scan.records) else 0

-- the records known after a block
abbrev pub records_after : Scanned → List ℕ → List LogRec
records_after scan block = run_of (slot_in block) (reach_of scan) (place_of_record scan.slots (next_of scan)) (next_of scan) scan.records

-- The scan after a block. It has ended where a slot that it reached gave no record, or where LOG
-- records were taken.
abbrev pub after_block : Scanned → List ℕ → Scanned
after_block scan block =
    let records = records_after scan block in
    record {
      slots = scan.slots;
      anchor = scan.anchor;
      records = records;
      block = block_of_record scan.slots (scan.anchor.start + length records);
      ended = nat_lt (length records) (length scan.records + reach_of scan) || nat_le scan.slots (length records);
    }

-- the scan after the anchors, where nothing else was handed
abbrev pub after_anchors : Scanned → List ℕ → Scanned
after_anchors scan both = record scan { anchor = anchor_of both }

-- room in the log for one more record and the ends of `hot` units
abbrev pub has_room : ℕ → ℕ → ℕ → ℕ → Bool
has_room next start hot slots = nat_le (next - start + hot + 1) slots
