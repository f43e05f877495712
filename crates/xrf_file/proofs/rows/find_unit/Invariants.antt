-- What the rest of the units gives is what all of them give.
use Rattle.std.proofs.Common.{◌≡◌, drop}
use Rattle.xrf_file.specs.Rows.{unit_named}
use Rattle.xrf_file.proofs.rows.find_unit.Given as goal

abbrev pub invariant-loop-open : goal.invariant-loop-open
invariant-loop-open l = unit_named l.name (drop l.open-index l.units) ≡ unit_named l.name l.units
