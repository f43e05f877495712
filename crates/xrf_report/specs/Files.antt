-- The lines of the file's records.
use Rattle.std.specs.Prelude.{ℕ, zero, suc, List, [], ◌++◌, codes, Option, Some, None}
use Rattle.std.specs.Fmt.{decimal}
use Rattle.xrf_base.specs.Values.{slot_reading}
use Rattle.xrf_report.specs.Words.{blank, line}

-- what a slot holds: the value of a record, or nothing, which has no line; bytes that are no slot are damaged
abbrev pub slot_line : ℕ → Option (Option (List ℕ)) → List ℕ
slot_line number None = line (codes "FILE " ++ decimal number ++ codes " DAMAGED")
slot_line number (Some None) = []
slot_line number (Some (Some value)) = line (codes "FILE " ++ decimal number ++ blank value)

-- the first so many slots, which are numbered from 1
abbrev pub file_text : (ℕ → List ℕ) → ℕ → List ℕ
file_text slot zero = []
file_text slot (suc count) = file_text slot count ++ slot_line (suc count) (slot_reading (slot (suc count)))
