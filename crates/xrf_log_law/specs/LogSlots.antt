-- The slots of the log against its records.
use Rattle.std.specs.Prelude.{true, List, None, Option, Some, length, ℕ, ◌==◌, [], ◌∷◌, if◌then◌else◌, false, ◌≡◌, ◌≤◌, ◌<◌, ◌%◌, ◌+◌}
use Rattle.xrf_gated.specs.declared.gated.Slot.{Slot}
use Rattle.xrf_gated.specs.Slots.{is_open}
use Rattle.xrf_logrec.specs.declared.records.LogRec.{LogRec}
use Rattle.xrf_logrec.specs.LogRecords.{log_reading}
use Rattle.xrf_log.specs.Scan.{record_at}
use Rattle.xrf_trace.specs.Log.{log}

-- record number k of a log, which is newest first
abbrev pub nth_old : List LogRec → ℕ → Option LogRec
nth_old [] k = None
nth_old (rec ∷ log) k = if k == length log then Some rec else nth_old log k

-- the log, its start and its slots
pub record LogView : Type 0 where
  pub log : List LogRec
  pub start : ℕ
  pub slot : ℕ → Slot

-- what is read after an act
-- An open slot holds the last record of its residue: it spells a record of the log with its number, and no later record of
-- the log has that residue.
pub record HoldsLast (size : ℕ) (log : List LogRec) (i : ℕ) (slot : Slot) : Type 0 where
  pub number : ℕ
  pub rec : LogRec
  pub spells : log_reading slot.body ≡ Some (number, rec)
  pub place : number % size ≡ i
  pub there : nth_old log number ≡ Some rec
  pub newest : length log ≤ number + size

-- The slots against the log. `size` is LOG.
pub record LogStands (size : ℕ) (v : LogView) : Type 0 where
  -- from the start on each slot gives its record of the log, and no other
  pub slots : (k : ℕ) → v.start ≤ k → record_at (v.slot (k % size)) k ≡ nth_old v.log k
  -- the slots of the first round that were not used yet are closed
  pub unused : (i : ℕ) → length v.log ≤ i → i < size → is_open (v.slot i) ≡ false
  -- each open slot holds the last record of its residue
  pub last : (i : ℕ) → is_open (v.slot i) ≡ true → HoldsLast size v.log i (v.slot i)

-- what an act that writes number n may rest on: n is the next number, and nothing that is needed is written over
pub record AtEnd (size n : ℕ) (v : LogView) : Type 0 where
  pub next : length v.log ≡ n
  pub start : v.start ≤ n
  pub room : n < v.start + size
