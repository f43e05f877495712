-- What the units keep.
use Rattle.std.specs.Prelude.{◌≡◌, ℕ, ◌<◌, ◌≤◌, List, [], ◌∷◌, length, reverse, vec_capacity}
use Rattle.xrf_file.specs.declared.ledgers.Units.TheInside.{Inside}
use Rattle.xrf_file.specs.declared.rows.LoggedPut.{LoggedPut}
use Rattle.xrf_file.specs.Ledger.{Ledger}

abbrev pub ledger_of : Inside → Ledger
ledger_of units = record { slots = units.slots; records = units.records; inc = units.inc; begun = units.begun; next = units.next; start = units.start; units = units.open_units.items; puts = reverse units.puts.items }

-- the numbers of puts, the newest first, fall from below `next` to `start` at the least
abbrev pub AreNumbered : ℕ → ℕ → List LoggedPut → Type 0
AreNumbered start next [] = start ≤ next
AreNumbered start next (put ∷ puts) = (put.number < next) × AreNumbered start put.number puts

pub record IsKept (units : Inside) : Type 0 where
  pub most : units.slots ≤ 1024
  pub few_units : length units.open_units.items ≤ 8
  pub unit_room : vec_capacity units.open_units ≡ 8
  pub put_room : vec_capacity units.puts ≡ units.slots
  pub order : units.start ≤ units.next
  pub next_most : units.next < 65536
  pub numbered : AreNumbered units.start units.next (reverse units.puts.items)
