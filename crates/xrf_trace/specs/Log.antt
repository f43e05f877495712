-- The unit log of a trace.
use Rattle.std.specs.Prelude.{ℕ, Bool, if◌then◌else◌, List, [], ◌∷◌, ◌++◌}
use Rattle.std.specs.List.{list_any}
use Rattle.xrf_base.specs.declared.items.UnitId.{UnitId}
use Rattle.xrf_logrec.specs.declared.records.LogRec.{LogRec}
use Rattle.xrf_logrec.specs.declared.records.LogRec.TheVariants.{Put, Commit, Backout}
use Rattle.xrf_logrec.specs.LogRecords.{same_unit}
use Rattle.xrf_trace.specs.declared.entry.Entry.{Entry}
use Rattle.xrf_trace.specs.declared.entry.Act.{Act}
use Rattle.xrf_trace.specs.declared.entry.Act.TheVariants as act
use Rattle.xrf_trace.specs.declared.entry.Land.{Land}
use Rattle.xrf_trace.specs.Landing.{opens}

-- the records whose LOGOPEN landed as 0xc1, the newest first
abbrev pub log_after : Act → Land → List LogRec → List LogRec
log_after (act.LogOpen p rec) land before = if opens land then rec ∷ before else before
log_after _ land before = before

abbrev pub log : List Entry → List LogRec
log [] = []
log (e ∷ t) = log_after e.act e.land (log t)

-- the units with a Commit, in the order of their first Commit
abbrev pub committed : List LogRec → List UnitId
committed [] = []
committed (Put unit rrn before ∷ records) = committed records
committed (Commit unit ∷ records) = if list_any (same_unit unit) (committed records) then committed records else committed records ++ unit ∷ []
committed (Backout unit ∷ records) = committed records

abbrev pub is_committed : List LogRec → UnitId → Bool
is_committed records unit = list_any (same_unit unit) (committed records)

-- the start of the last KPOPEN that landed as 0xc1, and 0 where there is none
abbrev pub log_start_after : Act → Land → ℕ → ℕ
log_start_after (act.KpOpen k keypoint) land before = if opens land then keypoint.start else before
log_start_after _ land before = before

abbrev pub start : List Entry → ℕ
start [] = 0
start (e ∷ t) = log_start_after e.act e.land (start t)
