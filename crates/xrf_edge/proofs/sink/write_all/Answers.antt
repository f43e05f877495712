use Rattle.std.proofs.Common.{arith}
use Rattle.xrf_edge.proofs.Ends.{Appends-more}
use Rattle.xrf_edge.proofs.sink.write_all.Goals as goal

-- what was written before, and the piece that the sink took
pub loop-written-preserved : goal.loop-written-preserved
loop-written-preserved g c = record {
  within = omega (arith, c.in-Ok.ensures.within);
  written = Appends-more _ _ _ c.args.text.now c.loop-written.written c.in-Ok.n c.loop-written.invariant.written c.in-Ok.ensures.bytes;
  count = omega (arith, c.loop-written.invariant.count, c.write.ensures.count);
}
