-- What undoing leaves.
use Rattle.std.specs.Prelude.{List, ℕ, ◌==◌, if◌then◌else◌, [], ◌∷◌, Bool, ◌&&◌, not, false, true, ◌≡◌, Option, map}
use Rattle.std.specs.List.{list_any}
use Rattle.xrf_base.specs.declared.items.UnitId.{UnitId}
use Rattle.xrf_logrec.specs.declared.records.Undo.{Undo}
use Rattle.xrf_logrec.specs.LogRecords.{same_unit}
use Rattle.xrf_log.specs.declared.taken.Row.{Row}
use Rattle.xrf_trace.specs.Book.{value_after}

-- the slot of record r once these rows are written over it, the first one first
abbrev pub undo_at : ℕ → List Undo → List ℕ → List ℕ
undo_at r [] slot = slot
undo_at r (row ∷ rows) slot = undo_at r rows (if row.rrn == r then row.before else slot)

-- a row is of the record
abbrev pub covers : ℕ → List Undo → Bool
covers r rows = list_any (λ row. row.rrn == r) rows

-- the unit, and another, has put the record
abbrev pub has_put : UnitId → ℕ → List Row → Bool
has_put unit r rows = list_any (λ row. row.undo.rrn == r && same_unit row.unit unit) rows

-- another unit has put the record
abbrev pub other_has_put : UnitId → ℕ → List Row → Bool
other_has_put unit r rows = list_any (λ row. row.undo.rrn == r && not (same_unit row.unit unit)) rows

-- no record was put by two open units
abbrev pub AreLocked : List Row → Type 0
AreLocked rows = (unit : UnitId) (r : ℕ) → has_put unit r rows ≡ true → other_has_put unit r rows ≡ false

-- the book, by the puts of each unit
abbrev pub value_by : (UnitId → List (ℕ × List ℕ)) → ℕ → List UnitId → Option (List ℕ) → Option (List ℕ)
value_by puts r [] before = before
value_by puts r (unit ∷ units) before = value_by puts r units (value_after r (puts unit) before)

-- what any stop leaves: the before-images of the open puts, over the file, give the book
pub record IsUndone (rows : List Row) (image booked : ℕ → List ℕ) : Type 0 where
  pub locked : AreLocked rows
  pub back : (r : ℕ) → undo_at r (map (λ row. row.undo) rows) (image r) ≡ booked r
