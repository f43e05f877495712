use Rattle.xrf_exit.specs.declared.Notice.TheVariants.{AlternateLost}
use Rattle.xrf_run.proofs.threads.live.Given as goal

abbrev pub ghosts-live_as : goal.ghosts-live_as
ghosts-live_as g a = record { scenario = a.scenario.now; may = λ said. g.F.Fn.post a.exit.now.closure (AlternateLost, tt) said }
