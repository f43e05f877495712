-- Records that are those of a log from a start on, as far as they go.
use Rattle.std.specs.Prelude.{List, length, ◌≡◌, ℕ, ◌+◌, ◌≤◌, ◌<◌, true}
use Rattle.xrf_logrec.specs.declared.records.LogRec.{LogRec}
use Rattle.xrf_log.specs.Scan.{Scanned}
use Rattle.xrf_log_law.specs.LogSlots.{nth_old}

-- records that are those of the log from a start on
pub record IsPart (log : List LogRec) (start : ℕ) (records : List LogRec) : Type 0 where
  pub within : start + length records ≤ length log
  pub same : (j : ℕ) → j < length records → nth_old records j ≡ nth_old log (start + j)

-- a scan of the log as it is
pub record IsScan (size : ℕ) (log : List LogRec) (start : ℕ) (scan : Scanned) : Type 0 where
  pub slots : scan.slots ≡ size
  pub anchor : scan.anchor.start ≡ start
  pub part : IsPart log start scan.records
  pub done : scan.ended ≡ true → start + length scan.records ≡ length log
