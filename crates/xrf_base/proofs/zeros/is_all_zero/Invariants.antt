use Rattle.std.proofs.Common.{◌≡◌, length}
use Rattle.xrf_base.specs.Zeros.{are_zeros}
use Rattle.xrf_base.proofs.zeros.is_all_zero.Given as goal

abbrev pub invariant-loop-rest : goal.invariant-loop-rest
invariant-loop-rest l = are_zeros l.rest ≡ are_zeros l.bytes

abbrev pub decreases-loop-rest : goal.decreases-loop-rest
decreases-loop-rest l = length l.rest
