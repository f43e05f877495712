-- What a scan keeps beside the records that it took.
use Rattle.std.specs.Prelude.{◌≡◌, ℕ, ◌+◌, ◌*◌, ◌≤◌, true, List, reverse, vec_capacity}
use Rattle.xrf_base.specs.declared.items.UnitId.{UnitId}
use Rattle.xrf_logrec.specs.declared.records.LogRec.{LogRec}
use Rattle.xrf_log.specs.declared.taken.Taken.TheInside.{Inside}
use Rattle.xrf_log.specs.Taken.{Records}
use Rattle.xrf_log.specs.Flight.{has_ended, flight, open_puts}

abbrev pub records_of : Inside → Records
records_of kept = record { most = vec_capacity kept.records; list = reverse kept.records.items }

-- units in the order in which they are given, as numbers
abbrev pub order_of : UnitId → ℕ
order_of unit = unit.inc * 4294967296 + unit.serial

-- no unit that has ended is later than this
pub record IsNewest (newest : ℕ) (log : List LogRec) : Type 0 where
  pub most : (unit : UnitId) → has_ended unit log ≡ true → order_of unit ≤ newest

-- the units in flight and their puts are those of the records, and have room for as many
pub record IsKept (kept : Inside) : Type 0 where
  pub units : kept.units.items ≡ flight (reverse kept.records.items)
  pub rows : kept.rows.items ≡ reverse (open_puts (reverse kept.records.items))
  pub unit_room : vec_capacity kept.units ≡ vec_capacity kept.records
  pub newest : IsNewest kept.newest (reverse kept.records.items)
  pub row_room : vec_capacity kept.rows ≡ vec_capacity kept.records
