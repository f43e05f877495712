use Rattle.std.proofs.Common.{ap, ◌∙◌}
use Rattle.xrf_world.specs.Runs.{Run}
use Rattle.xrf_drive.proofs.DriveLaws.{generated_run, same_scenario}
use Rattle.xrf_drive.proofs.driving.drive.Goals as goal

pub returns-clause-scenario : goal.returns-clause-scenario
returns-clause-scenario c =
    same_scenario c.args.seed c.args.turns c.in_ok-world.world.scenario c.make_turns.new.world c.make_turns.ensures
    ∙ ap (λ (r : Run). r.scenario) c.in_ok-world.ensures.world ∙ c.in_ok-scenario.ensures

pub returns-clause-run : goal.returns-clause-run
returns-clause-run c =
    generated_run c.args.seed c.args.turns c.in_ok-world.world.scenario c.make_turns.new.world (ap (λ (r : Run). r.scenario) c.in_ok-world.ensures.world ∙ c.in_ok-scenario.ensures)
    c.requires.few c.make_turns.ensures
