use Rattle.std.proofs.Common.{◌+◌, ◌≤◌}
use Rattle.xrf_file.proofs.tests.run_all.Given as goal

abbrev pub invariant-loop-row : goal.invariant-loop-row
invariant-loop-row g l = (l.units.begun ≤ l.fn.units.begun + l.row-index) × (l.units.next ≤ l.fn.units.next + l.row-index)
