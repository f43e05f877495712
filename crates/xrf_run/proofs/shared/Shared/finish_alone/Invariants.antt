use Rattle.xrf_run.specs.Turns.{GoesOn, left}
use Rattle.xrf_run.proofs.shared.Shared.finish_alone.Given as goal

abbrev pub invariant-loop : goal.invariant-loop
invariant-loop g l = GoesOn l.fn.self l.self

abbrev pub decreases-loop : goal.decreases-loop
decreases-loop g l = left g.N.RunName.scenario l.self
