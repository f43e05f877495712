-- The open units of a job, and their puts in the log.
use Rattle.std.specs.Prelude.{ℕ, Bool, not, ◌==◌, ◌&&◌, ◌||◌, nat_eq, if◌then◌else◌, List, [], ◌∷◌, filter, map, count_by, Option, Some, None}
use Rattle.std.specs.List.{list_any}
use Rattle.std.specs.Cmp.Lexicographic.{pointwise}
use Rattle.xrf_base.specs.declared.items.UnitId.{UnitId}
use Rattle.xrf_logrec.specs.declared.records.Undo.{Undo}
use Rattle.xrf_logrec.specs.LogRecords.{same_unit}
use Rattle.xrf_file.specs.declared.rows.OpenUnit.{OpenUnit}
use Rattle.xrf_file.specs.declared.rows.LoggedPut.{LoggedPut}

-- the open unit of this name
abbrev pub unit_named : List ℕ → List OpenUnit → Option UnitId
unit_named name [] = None
unit_named name (open_unit ∷ units) = if pointwise nat_eq open_unit.name name then Some open_unit.unit else unit_named name units

-- a unit is hot once it has a put
abbrev pub is_hot : UnitId → List LoggedPut → Bool
is_hot unit puts = list_any (λ put. same_unit put.unit unit) puts

-- another unit has put this record
abbrev pub is_locked : UnitId → ℕ → List LoggedPut → Bool
is_locked unit rrn puts = list_any (λ put. put.undo.rrn == rrn && not (same_unit put.unit unit)) puts

-- the hot units, counting this one
abbrev pub hot_with : UnitId → List OpenUnit → List LoggedPut → ℕ
hot_with unit units puts = count_by (λ open_unit. same_unit open_unit.unit unit || is_hot open_unit.unit puts) units

abbrev pub without_unit : UnitId → List OpenUnit → List OpenUnit
without_unit unit units = filter (λ open_unit. not (same_unit open_unit.unit unit)) units

abbrev pub without_puts : UnitId → List LoggedPut → List LoggedPut
without_puts unit puts = filter (λ put. not (same_unit put.unit unit)) puts

-- what undoes a unit's puts, in their order
abbrev pub undo_of : UnitId → List LoggedPut → List Undo
undo_of unit puts = map (λ put. put.undo) (filter (λ put. same_unit put.unit unit) puts)
