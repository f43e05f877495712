use Rattle.std.proofs.Common.{◌≡◌, [], length}
use Rattle.xrf_text.specs.Text.{lines}
use Rattle.xrf_clt.proofs.Rows.{continue}
use Rattle.xrf_clt.proofs.Clt.read.Given as goal

abbrev pub invariant-loop-line : goal.invariant-loop-line
invariant-loop-line l = continue l.clt (lines l.rest) ≡ continue [] (lines l.text)

abbrev pub decreases-loop-line : goal.decreases-loop-line
decreases-loop-line l = length l.rest
