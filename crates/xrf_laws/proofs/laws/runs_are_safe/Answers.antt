use Rattle.xrf_laws.proofs.EveryRun.{every-run}
use Rattle.xrf_laws.proofs.laws.runs_are_safe.Goals as goal

pub returns : goal.returns
returns c = every-run
