use Rattle.xrf_active.proofs.Rows.{row_of-here, row_of-after}
use Rattle.xrf_active.proofs.sending.row_of.Goals as goal

pub returns-then-is_of : goal.returns-then-is_of
returns-then-is_of c = row_of-here c.args.term c.args.table.now c.loop-place.place c.row-row.result c.row-row.ensures (cc) c.loop-place.invariant

pub loop-place-preserved : goal.loop-place-preserved
loop-place-preserved c = row_of-after c.args.term c.args.table.now c.loop-place.place c.row-row.result c.row-row.ensures (cc) c.loop-place.invariant
