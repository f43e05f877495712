use Rattle.std.proofs.Common.{◌≡◌}
use Rattle.xrf_drive.specs.Scenario.{units}
use Rattle.xrf_drive.proofs.scenario.work.Given as goal

abbrev pub invariant-loop-number : goal.invariant-loop-number
invariant-loop-number l = l.work.items ≡ units l.site l.number
