use Rattle.std.proofs.Common.{◌∙◌, sym, arith}
use Rattle.xrf_clt.proofs.Later.{next_own, not_other}
use Rattle.xrf_clt.proofs.own_entry.Goals as goal

pub loop-entry-preserved : goal.loop-entry-preserved
loop-entry-preserved c =
    let next = next_own c.args.applid c.args.entries.now c.loop-entry.entry-index c.entry-item.result c.loop-entry.left (omega arith) c.entry-item.is (not_other c.ne.result _ c.ne.ensures c.if-ne.false) c.if-left-eq0.false c.loop-entry.invariant.1 in
    (sym next.0 ∙ c.loop-entry.invariant.0, next.1)
