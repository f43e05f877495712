-- The book: the file as the committed units make it.
use Rattle.std.specs.Prelude.{ℕ, ◌==◌, ◌&&◌, if◌then◌else◌, List, [], ◌∷◌, Option, Some}
use Rattle.xrf_base.specs.declared.items.UnitId.{UnitId}
use Rattle.xrf_logrec.specs.LogRecords.{same_unit}
use Rattle.xrf_trace.specs.declared.entry.Entry.{Entry}
use Rattle.xrf_trace.specs.declared.entry.Act.{Act}
use Rattle.xrf_trace.specs.declared.entry.Act.TheVariants as act
use Rattle.xrf_trace.specs.declared.entry.Land.{Land}
use Rattle.xrf_trace.specs.Scenario.{Scen, first_value}
use Rattle.xrf_trace.specs.Landing.{is_in_full}
use Rattle.xrf_trace.specs.Log.{log, committed}

-- The record numbers and values of the PUT items of a unit that were answered Done, the newest first. A PUT is
-- answered Done at its FILEWRITE, where that is neither stopped nor failed.
abbrev pub puts_after : UnitId → Act → Land → List (ℕ × List ℕ) → List (ℕ × List ℕ)
puts_after unit (act.FileWrite u k value) land before = if same_unit u unit && is_in_full land then (k, value) ∷ before else before
puts_after unit _ land before = before

abbrev pub puts : List Entry → UnitId → List (ℕ × List ℕ)
puts [] unit = []
puts (e ∷ t) unit = puts_after unit e.act e.land (puts t unit)

-- the value of a record after some puts
abbrev pub value_after : ℕ → List (ℕ × List ℕ) → Option (List ℕ) → Option (List ℕ)
value_after k [] before = before
value_after k (put ∷ older) before = if put.0 == k then Some put.1 else value_after k older before

-- and after those of each of some units, one unit after the other
abbrev pub value_of_units : (puts_of : UnitId → List (ℕ × List ℕ)) → ℕ → List UnitId → Option (List ℕ) → Option (List ℕ)
value_of_units puts_of k [] before = before
value_of_units puts_of k (unit ∷ units) before = value_of_units puts_of k units (value_after k (puts_of unit) before)

-- the book at a record: the scenario's record with the puts of each committed unit
abbrev pub book : Scen → List Entry → ℕ → Option (List ℕ)
book s t k = value_of_units (puts t) k (committed (log t)) (first_value s k)
