use Rattle.xrf_exit.specs.declared.Notice.TheVariants.{AlternateLost}
use Rattle.xrf_run.proofs.Lines.{live_choices}
use Rattle.xrf_run.proofs.Runs.{live_run, live_safe, if_ok}
use Rattle.xrf_run.proofs.threads.live.Goals as goal

pub returns-clause-scenario : goal.returns-clause-scenario
returns-clause-scenario g c = if_ok c.live_as.result _ _ (λ r is. is.scenario_is) c.live_as.ensures

pub returns-clause-run : goal.returns-clause-run
returns-clause-run g c =
    if_ok c.live_as.result _ _ (λ r is. live_run c.args.scenario.now (λ said. g.F.Fn.post c.args.exit.now.closure (AlternateLost, tt) said) r.0 r.1.items is) c.live_as.ensures

pub returns-clause-safe : goal.returns-clause-safe
returns-clause-safe g c =
    if_ok c.live_as.result _ _ (λ r is. (live_safe c.args.scenario.now (λ said. g.F.Fn.post c.args.exit.now.closure (AlternateLost, tt) said) r.0 r.1.items is).0) c.live_as.ensures

pub returns-clause-promises : goal.returns-clause-promises
returns-clause-promises g c =
    if_ok c.live_as.result _ _ (λ r is. (live_safe c.args.scenario.now (λ said. g.F.Fn.post c.args.exit.now.closure (AlternateLost, tt) said) r.0 r.1.items is).1) c.live_as.ensures

pub returns-clause-threaded : goal.returns-clause-threaded
returns-clause-threaded g c = if_ok c.live_as.result _ _ (λ r is. is.threaded) c.live_as.ensures

pub returns-clause-choices : goal.returns-clause-choices
returns-clause-choices g c =
    if_ok c.live_as.result _ _ (λ r is. live_choices c.args.scenario.now (λ said. g.F.Fn.post c.args.exit.now.closure (AlternateLost, tt) said) r.0 r.1.items is) c.live_as.ensures
