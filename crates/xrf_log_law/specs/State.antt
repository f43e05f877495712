-- What the law reads of a trace, and what holds of the data sets after any stop.
use Rattle.std.specs.Prelude.{ℕ, if◌then◌else◌, List, [], ◌∷◌, Option, false, ◌≡◌, Some, true, ◌<◌, IfSome, None, ◌+◌, ◌%◌, ◌==◌, length, ◌≤◌}
use Rattle.std.specs.List.{list_any}
use Rattle.xrf_base.specs.declared.items.UnitId.{UnitId}
use Rattle.xrf_base.specs.Values.{slot_of}
use Rattle.xrf_gated.specs.declared.gated.Slot.{Slot}
use Rattle.xrf_logrec.specs.declared.records.LogRec.{LogRec}
use Rattle.xrf_logrec.specs.declared.records.LogRec.TheVariants.{Backout, Commit, Put}
use Rattle.xrf_logrec.specs.LogRecords.{same_unit}
use Rattle.xrf_log.specs.Flight.{has_ended, flight, open_puts}
use Rattle.xrf_log.specs.Scan.{keypoint_at}
use Rattle.xrf_trace.specs.declared.entry.Act.{Act}
use Rattle.xrf_trace.specs.declared.entry.Land.{Land}
use Rattle.xrf_trace.specs.Landing.{opens}
use Rattle.xrf_trace.specs.declared.entry.Entry.{Entry}
use Rattle.xrf_trace.specs.Devices.{image, key_slot, log_slot, image_after, key_slot_after, log_slot_after}
use Rattle.xrf_trace.specs.Log.{log, start, log_after, log_start_after, committed}
use Rattle.xrf_trace.specs.Book.{puts, puts_after, value_after}
use Rattle.xrf_trace.specs.Scenario.{Scen}
use Rattle.xrf_log_law.specs.LogSlots.{LogView, nth_old, LogStands}
use Rattle.xrf_log_law.specs.BeforeImages.{value_by, IsUndone, has_put, other_has_put}
use Rattle.xrf_trace.specs.declared.entry.Act.TheVariants as act

-- the number of the last keypoint that was opened, and 0 where there is none
abbrev pub key_after : Act → Land → ℕ → ℕ
key_after (act.KpOpen k keypoint) land before = if opens land then keypoint.number else before
key_after _ land before = before

-- of a trace
abbrev pub key_number : List Entry → ℕ
key_number [] = 0
key_number (e ∷ t) = key_after e.act e.land (key_number t)

-- what is read of a trace
pub record View : Type 0 where
  pub log : List LogRec
  pub start : ℕ
  pub slot : ℕ → Slot
  pub number : ℕ
  pub key : ℕ → Slot
  pub image : ℕ → List ℕ
  pub puts : UnitId → List (ℕ × List ℕ)

-- of a trace
abbrev pub view : Scen → List Entry → View
view s t = record { log = log t; start = start t; slot = log_slot s t; number = key_number t; key = key_slot t; image = image s t; puts = puts t }

-- after an act
abbrev pub after : (size : ℕ) → Act → Land → View → View
after size a l v = record {
  log = log_after a l v.log;
  start = log_start_after a l v.start;
  slot = λ i. log_slot_after size a l i (v.slot i);
  number = key_after a l v.number;
  key = λ i. key_slot_after a l i (v.key i);
  image = λ i. image_after a l i (v.image i);
  puts = λ unit. puts_after unit a l (v.puts unit);
}

-- what is read of the log and its slots
abbrev pub log_part : View → LogView
log_part v = record { log = v.log; start = v.start; slot = v.slot }

-- the book, by a view and the scenario's records
abbrev pub value_at : (ℕ → Option (List ℕ)) → View → ℕ → Option (List ℕ)
value_at first v r = value_by v.puts r (committed v.log) (first r)

-- the slot of the book
abbrev pub booked : (ℕ → Option (List ℕ)) → View → ℕ → List ℕ
booked first v r = slot_of (value_at first v r)

-- a unit puts nothing once it has ended
abbrev pub AreOrdered : List LogRec → Type 0
AreOrdered [] = Unit {0}
AreOrdered (Put unit rrn before ∷ log) = AreOrdered log × (has_ended unit log ≡ false)
AreOrdered (Commit unit ∷ log) = AreOrdered log
AreOrdered (Backout unit ∷ log) = AreOrdered log

-- the puts before a number are of units that have ended
abbrev pub AreOver : ℕ → List LogRec → Type 0
AreOver start log = (k : ℕ) (unit : UnitId) (rrn : ℕ) (before : List ℕ) → k < start → nth_old log k ≡ Some (Put unit rrn before) → has_ended unit log ≡ true

-- the KEY slots: the last keypoint that was opened stands in its slot, and the other holds an older one, if any
pub record KeysStand (number start : ℕ) (key : ℕ → Slot) : Type 0 where
  pub here : keypoint_at (key (number % 2)) ≡ (if number == 0 then None else Some (record { number = number; start = start }))
  pub other : IfSome (keypoint_at (key ((number + 1) % 2))) (λ keypoint. keypoint.number < number)
  pub first : number ≡ 0 → start ≡ 0

-- what holds of the data sets after any stop
pub record State (size : ℕ) (first : ℕ → Option (List ℕ)) (v : View) : Type 0 where
  pub log : LogStands size (log_part v)
  pub whole : (i : ℕ) → length (v.slot i).body ≡ 63
  pub within : v.start ≤ length v.log
  pub room : length v.log + length (flight v.log) ≤ v.start + size
  pub ordered : AreOrdered v.log
  pub over : AreOver v.start v.log
  pub keys : KeysStand v.number v.start v.key
  pub keys_whole : (i : ℕ) → length (v.key i).body ≡ 63
  pub undone : IsUndone (open_puts v.log) v.image (booked first v)
  pub unput : (unit : UnitId) (r : ℕ) → has_ended unit v.log ≡ false → has_put unit r (open_puts v.log) ≡ false → (x : Option (List ℕ))
      → value_after r (v.puts unit) x ≡ x

-- what is due of a record that is written next
abbrev pub RecordDue : (size : ℕ) → (ℕ → Option (List ℕ)) → View → LogRec → Type 0
RecordDue size first v (Put unit rrn before) =
    (before ≡ v.image rrn) × (has_ended unit v.log ≡ false) × (other_has_put unit rrn (open_puts v.log) ≡ false)
    × (length v.log + 1 + length (flight (Put unit rrn before ∷ v.log)) ≤ v.start + size)
RecordDue size first v (Commit unit) =
    (list_any (λ u. same_unit u unit) (flight v.log) ≡ true)
    × ((r : ℕ) → has_put unit r (open_puts v.log) ≡ true → v.image r ≡ slot_of (value_after r (v.puts unit) (value_at first v r)))
RecordDue size first v (Backout unit) =
    (list_any (λ u. same_unit u unit) (flight v.log) ≡ true)
    × ((r : ℕ) → has_put unit r (open_puts v.log) ≡ true → v.image r ≡ booked first v r)
