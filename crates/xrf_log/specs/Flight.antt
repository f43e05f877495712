-- What a list of log records leaves undone. The lists of records are newest first.
use Rattle.std.specs.Prelude.{Bool, false, not, if◌then◌else◌, List, [], ◌∷◌, ◌++◌, filter, map}
use Rattle.std.specs.List.{list_any}
use Rattle.xrf_base.specs.declared.items.UnitId.{UnitId}
use Rattle.xrf_logrec.specs.declared.records.LogRec.{LogRec}
use Rattle.xrf_logrec.specs.declared.records.LogRec.TheVariants.{Put, Commit, Backout}
use Rattle.xrf_logrec.specs.declared.records.Undo.{Undo}
use Rattle.xrf_logrec.specs.LogRecords.{same_unit}
use Rattle.xrf_log.specs.declared.taken.Row.{Row}

-- a record ends a unit where it is its Commit or its Backout
abbrev pub ends : UnitId → LogRec → Bool
ends unit (Put u rrn before) = false
ends unit (Commit u) = same_unit unit u
ends unit (Backout u) = same_unit unit u

-- the unit has a Commit or a Backout
abbrev pub has_ended : UnitId → List LogRec → Bool
has_ended unit log = list_any (ends unit) log

-- the units with a Put, by first Put
abbrev pub put_units : List LogRec → List UnitId
put_units [] = []
put_units (Put unit rrn before ∷ log) = if list_any (λ u. same_unit u unit) (put_units log) then put_units log else put_units log ++ unit ∷ []
put_units (Commit unit ∷ log) = put_units log
put_units (Backout unit ∷ log) = put_units log

-- the units in flight: those with a Put and neither Commit nor Backout, by first Put
abbrev pub flight : List LogRec → List UnitId
flight log = filter (λ unit. not (has_ended unit log)) (put_units log)

-- the record of a put
abbrev pub put_of : Row → LogRec
put_of row = Put row.unit row.undo.rrn row.undo.before

-- the puts, the newest first
abbrev pub puts : List LogRec → List Row
puts [] = []
puts (Put u r b ∷ log) = record { unit = u; undo = record { rrn = r; before = b } } ∷ puts log
puts (Commit unit ∷ log) = puts log
puts (Backout unit ∷ log) = puts log

-- the puts of the units in flight, the newest first
abbrev pub open_puts : List LogRec → List Row
open_puts log = filter (λ row. not (has_ended row.unit log)) (puts log)

-- the undo rows: what undoes those puts, in the order in which it is written
abbrev pub undo_rows : List LogRec → List Undo
undo_rows log = map (λ row. row.undo) (open_puts log)
