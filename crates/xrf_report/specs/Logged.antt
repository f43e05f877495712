-- The texts of log records and keypoints.
use Rattle.std.specs.Prelude.{ℕ, List, ◌++◌, codes}
use Rattle.std.specs.Fmt.{decimal}
use Rattle.xrf_base.specs.declared.items.UnitId.{UnitId}
use Rattle.xrf_logrec.specs.declared.keypoints.Keypoint.{Keypoint}
use Rattle.xrf_logrec.specs.declared.records.LogRec.{LogRec}
use Rattle.xrf_logrec.specs.declared.records.LogRec.TheVariants.{Put, Commit, Backout}
use Rattle.xrf_report.specs.Words.{blank, dot}

-- incarnation and serial number
abbrev pub unit_text : UnitId → List ℕ
unit_text unit = decimal unit.inc ++ dot (decimal unit.serial)

-- a Put has the number of its record too; its before-image is not told
abbrev pub log_text : LogRec → List ℕ
log_text (Put unit rrn before) = codes "PUT " ++ unit_text unit ++ blank (decimal rrn)
log_text (Commit unit) = codes "COMMIT " ++ unit_text unit
log_text (Backout unit) = codes "BACKOUT " ++ unit_text unit

abbrev pub keypoint_text : Keypoint → List ℕ
keypoint_text keypoint = codes "KEYPOINT " ++ decimal keypoint.number ++ codes " START " ++ decimal keypoint.start
