-- The restart of a job: its scan of the log, and what it undoes.
use Rattle.std.specs.Prelude.{ℕ, ◌+◌, Bool, true, false, ◌||◌, not, List, [], ◌∷◌, length, drop, filter}
use Rattle.xrf_base.specs.declared.items.UnitId.{UnitId}
use Rattle.xrf_logrec.specs.declared.records.LogRec.{LogRec}
use Rattle.xrf_logrec.specs.declared.records.LogRec.TheVariants.{Put, Commit, Backout}
use Rattle.xrf_logrec.specs.declared.records.Undo.{Undo}
use Rattle.xrf_logrec.specs.declared.keypoints.Keypoint.{Keypoint}
use Rattle.xrf_logrec.specs.LogRecords.{same_unit}
use Rattle.xrf_log.specs.Flight.{flight, undo_rows}
use Rattle.xrf_log.specs.Scan.{Scanned, cleared, after_anchors, after_block}
use Rattle.xrf_history.specs.declared.settings.Settings.{Settings}
use Rattle.xrf_history.specs.declared.want.Want.TheVariants as want
use Rattle.xrf_history.specs.Events.{Event, FirstBlockRead, BlockRead, LogOpened, KeyOpened, RecordUndone, ActFailed}

-- The scan: from the anchor that the first LOGREAD handed, through the blocks that it was handed. It has
-- ended where a slot that it reached is not an open record of the expected number, or LOG records were taken.
abbrev pub scan : Settings → List Event → Scanned
scan p [] = cleared p.limits.log
scan p (FirstBlockRead block keys ∷ h) = after_block (after_anchors (scan p h) keys) block
scan p (BlockRead block ∷ h) = after_block (scan p h) block
scan p (_ ∷ h) = scan p h

-- it has read a block
abbrev pub has_read_block : List Event → Bool
has_read_block [] = false
has_read_block (FirstBlockRead block keys ∷ h) = true
has_read_block (_ ∷ h) = has_read_block h

-- the UNDOs made since the scan
abbrev pub undone : List Event → ℕ
undone [] = 0
undone (RecordUndone rrn before ∷ h) = undone h + 1
undone (ActFailed (want.Undo rrn before) at ∷ h) = undone h + 1
undone (FirstBlockRead block keys ∷ h) = 0
undone (BlockRead block ∷ h) = 0
undone (_ ∷ h) = undone h

-- the undo rows that are left: the puts of the units in flight, newest first, without those undone
abbrev pub rows_left : Settings → List Event → List Undo
rows_left p h = drop (undone h) (undo_rows (scan p h).records)

abbrev pub is_backout_of : UnitId → LogRec → Bool
is_backout_of unit (Backout u) = same_unit unit u
is_backout_of unit (Put u rrn before) = false
is_backout_of unit (Commit u) = false

-- the Backout of a unit has a LOGOPEN
abbrev pub has_backout : UnitId → List Event → Bool
has_backout unit [] = false
has_backout unit (LogOpened place rec ∷ h) = is_backout_of unit rec || has_backout unit h
has_backout unit (ActFailed (want.LogOpen place rec) at ∷ h) = is_backout_of unit rec || has_backout unit h
has_backout unit (_ ∷ h) = has_backout unit h

-- the Backouts that are left: the units in flight whose Backout has no LOGOPEN
abbrev pub backouts_left : Settings → List Event → List UnitId
backouts_left p h = filter (λ unit. not (has_backout unit h)) (flight (scan p h).records)

-- the LOGOPENs of the job
abbrev pub records_opened : List Event → ℕ
records_opened [] = 0
records_opened (LogOpened place rec ∷ h) = records_opened h + 1
records_opened (ActFailed (want.LogOpen place rec) at ∷ h) = records_opened h + 1
records_opened (_ ∷ h) = records_opened h

-- The next of a job: the number of the next log record. It is the sum of the anchor's start, the records
-- scanned, and the LOGOPENs of the job.
abbrev pub next_record : Settings → List Event → ℕ
next_record p h = (scan p h).anchor.start + length (scan p h).records + records_opened h

-- the keypoint in force: that of the job's last KPOPEN, and the anchor where it has made none
abbrev pub last_keypoint : Settings → List Event → Keypoint
last_keypoint p [] = (cleared p.limits.log).anchor
last_keypoint p (KeyOpened place keypoint ∷ h) = keypoint
last_keypoint p (ActFailed (want.KpOpen place keypoint) at ∷ h) = keypoint
last_keypoint p (FirstBlockRead block keys ∷ h) = (scan p (FirstBlockRead block keys ∷ h)).anchor
last_keypoint p (_ ∷ h) = last_keypoint p h

-- the start of a job
abbrev pub start_record : Settings → List Event → ℕ
start_record p h = (last_keypoint p h).start
