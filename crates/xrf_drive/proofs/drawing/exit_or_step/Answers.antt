use Rattle.xrf_drive.proofs.TurnLaws.{or_other, this_one}
use Rattle.xrf_drive.specs.Turns.{exit_of_any, step_of_any}
use Rattle.xrf_drive.proofs.drawing.exit_or_step.Goals as goal

pub returns-then-exit_of_any : goal.returns-then-exit_of_any
returns-then-exit_of_any c =
    this_one c.args.world.now c.exit_of_any.new.world (exit_of_any c.args.world.now.scenario c.args.world.now.trace) (step_of_any c.args.world.now.scenario c.args.world.now.trace) c.exit_of_any.result
    c.exit_of_any.ensures c.if-exit_of_any.true

pub returns : goal.returns
returns c =
    or_other c.args.world.now c.exit_of_any.new.world c.step_of_any.new.world (exit_of_any c.args.world.now.scenario c.args.world.now.trace) (λ r. step_of_any r.scenario r.trace)
    c.exit_of_any.result c.step_of_any.result c.exit_of_any.ensures c.if-exit_of_any.false c.step_of_any.ensures
