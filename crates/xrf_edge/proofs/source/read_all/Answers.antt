use Rattle.xrf_edge.proofs.Ends.{Consumes-append}
use Rattle.xrf_edge.proofs.source.read_all.Goals as goal

-- what came before, and the piece that is not kept
pub returns-then-n-max-clause-err : goal.returns-then-n-max-clause-err
returns-then-n-max-clause-err g c = (_, Consumes-append _ _ _ _ _ c.loop-n.invariant.taken c.in-Ok.ensures.bytes.0)

pub returns-then-is_err-clause-err : goal.returns-then-is_err-clause-err
returns-then-is_err-clause-err g c = (_, Consumes-append _ _ _ _ _ c.loop-n.invariant.taken c.in-Ok.ensures.bytes.0)
