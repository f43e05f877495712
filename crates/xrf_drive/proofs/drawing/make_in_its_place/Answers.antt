use Rattle.xrf_setup.specs.declared.choice.Choice.TheVariants as choice
use Rattle.xrf_drive.proofs.TurnLaws.{in_place, is_made}
use Rattle.xrf_drive.specs.Turns.{exit_or_step}
use Rattle.xrf_drive.proofs.drawing.make_in_its_place.Goals as goal

pub returns-then-exit_or_step : goal.returns-then-exit_or_step
returns-then-exit_or_step c =
    is_made c.args.world.now c.exit_or_step.new.world (exit_or_step c.args.world.now.scenario c.args.world.now.trace) c.exit_or_step.result choice.Tick c.exit_or_step.ensures c.if-exit_or_step.true

pub returns : goal.returns
returns c =
    in_place c.args.world.now c.exit_or_step.new.world c.tick.new.world (exit_or_step c.args.world.now.scenario c.args.world.now.trace) c.exit_or_step.result (λ r. choice.Tick)
    c.exit_or_step.ensures c.if-exit_or_step.false c.tick.ensures
