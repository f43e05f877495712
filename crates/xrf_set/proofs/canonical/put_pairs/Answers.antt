use Rattle.std.proofs.Common.{arith}
use Rattle.xrf_set.proofs.WritingLaws.{pairs_next}
use Rattle.xrf_set.proofs.canonical.put_pairs.Goals as goal

pub loop-scenario-preserved : goal.loop-scenario-preserved
loop-scenario-preserved c = record {
  written =
      pairs_next c.args.out.now.items c.loop-scenario.out.items c.put_pair.new.out.items c.loop-scenario.number c.loop-scenario.scenario-index c.args.scenarios.now c.scenario-item.result _
      c.loop-scenario.invariant.number c.loop-scenario-test.true c.scenario-item.is c.loop-scenario.invariant.written c.in_ok-put_pair.ensures;
  number = omega (arith, c.loop-scenario.invariant.number);
}
