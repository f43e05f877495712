use Rattle.std.proofs.Common.{unwrap_or}
use Rattle.xrf_setup.specs.declared.choice.Choice.TheVariants as choice
use Rattle.xrf_trace.specs.Scenario.{other}
use Rattle.xrf_drive.specs.Turns.{exit_of_any, in_its_place, step_at}
use Rattle.xrf_drive.proofs.TurnLaws.{in_place, is_made, step_refused}
use Rattle.xrf_drive.proofs.drawing.step_or.Goals as goal

pub returns-then-step : goal.returns-then-step
returns-then-step c =
    let old = c.args.world.now in
    is_made old c.step.new.world (step_at old.scenario old.trace c.args.site) c.step.result (in_its_place old.scenario old.trace) c.step.ensures c.if-step.true

pub returns-then-exit_of_any : goal.returns-then-exit_of_any
returns-then-exit_of_any c =
    let x = c.args.site in
    let here = c.step.new.world in
    step_refused c.args.world.now here c.exit_of_any.new.world x c.step.result c.step.ensures c.if-step.false
    (is_made here c.exit_of_any.new.world (exit_of_any here.scenario here.trace) c.exit_of_any.result
    (unwrap_or (step_at here.scenario here.trace (other x)) choice.Tick) c.exit_of_any.ensures c.if-exit_of_any.true)

pub returns-then-step_of_other : goal.returns-then-step_of_other
returns-then-step_of_other c =
    let x = c.args.site in
    let here = c.step.new.world in
    let then_here = c.exit_of_any.new.world in
    let new = c.step_of_other.new.world in
    step_refused c.args.world.now here new x c.step.result c.step.ensures c.if-step.false
    (in_place here then_here new (exit_of_any here.scenario here.trace) c.exit_of_any.result (λ r. unwrap_or (step_at r.scenario r.trace (other x)) choice.Tick)
    c.exit_of_any.ensures c.if-exit_of_any.false
    (is_made then_here new (step_at then_here.scenario then_here.trace (other x)) c.step_of_other.result choice.Tick c.step_of_other.ensures
    c.if-step_of_other.true))

pub returns : goal.returns
returns c =
    let x = c.args.site in
    let here = c.step.new.world in
    let then_here = c.exit_of_any.new.world in
    let last = c.step_of_other.new.world in
    let new = c.tick.new.world in
    step_refused c.args.world.now here new x c.step.result c.step.ensures c.if-step.false
    (in_place here then_here new (exit_of_any here.scenario here.trace) c.exit_of_any.result (λ r. unwrap_or (step_at r.scenario r.trace (other x)) choice.Tick)
    c.exit_of_any.ensures c.if-exit_of_any.false
    (in_place then_here last new (step_at then_here.scenario then_here.trace (other x)) c.step_of_other.result (λ r. choice.Tick)
    c.step_of_other.ensures c.if-step_of_other.false c.tick.ensures))
