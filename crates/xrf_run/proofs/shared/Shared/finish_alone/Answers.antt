use Rattle.xrf_run.proofs.Going.{goes_on-both}
use Rattle.xrf_run.proofs.shared.Shared.finish_alone.Goals as goal

pub loop-preserved : goal.loop-preserved
loop-preserved g c = goes_on-both c.args.self.now c.loop.self c.round.new.self c.loop.invariant c.round.ensures.on

pub returns-clause-on : goal.returns-clause-on
returns-clause-on g c = goes_on-both c.args.self.now c.loop.self c.round.new.self c.loop.invariant c.round.ensures.on
