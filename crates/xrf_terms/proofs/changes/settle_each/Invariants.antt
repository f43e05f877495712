use Rattle.std.proofs.Common.{◌≡◌, ◌++◌, take, drop}
use Rattle.xrf_terms.specs.Tracking.{settled}
use Rattle.xrf_terms.proofs.changes.settle_each.Given as goal

abbrev pub invariant-loop-row : goal.invariant-loop-row
invariant-loop-row l = l.rows ≡ settled l.force (take l.row-index l.fn.rows) ++ drop l.row-index l.fn.rows
