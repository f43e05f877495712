use Rattle.std.proofs.Common.{arith}
use Rattle.xrf_active.proofs.Rows.{tracked-here, tracked-after, tracked-other}
use Rattle.xrf_active.proofs.sending.tracked_row.Goals as goal
use Rattle.xrf_active.proofs.sending.tracked_row.Goals.{then-is_tracked+else-left-eq0, else-is_tracked}

pub returns-then-left-eq0 : goal.returns-then-left-eq0
returns-then-left-eq0 c = tracked-here c.args.table.now c.loop-place.place c.row-row.result c.args.k c.loop-place.left c.row-row.ensures (cc) (omega arith) c.loop-place.invariant

pub loop-place-preserved : goal.loop-place-preserved
loop-place-preserved c = grind (arith, tracked-after, tracked-other)
