use Rattle.std.proofs.Common.{◌≡◌, false}
use Rattle.xrf_log.proofs.tests.scan.Given as goal

abbrev pub invariant-loop-turn : goal.invariant-loop-turn
invariant-loop-turn l = l.scan.ended ≡ false
