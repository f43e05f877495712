use Rattle.std.proofs.Common.{◌+◌, ◌≤◌, List, length}
use Rattle.xrf_history.specs.Events.{Event}
use Rattle.xrf_standby.specs.Standing.{Stands}
use Rattle.xrf_standby.proofs.harness.hand_all.Given as goal

abbrev pub invariant-loop-row : goal.invariant-loop-row
invariant-loop-row g l = (h : List Event) × Stands l.run.job h × (length h ≤ l.run.taken + 1)
