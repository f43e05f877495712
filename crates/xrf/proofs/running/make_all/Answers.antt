-- The choice at the place adds its entry, and the run goes on behind it.
use Rattle.std.proofs.Common.{◌+◌, ap, sym, ◌∙◌, drop}
use Rattle.xrf_trace.specs.Runs.{outcome, run, run_from}
use Rattle.xrf.proofs.MadeLaws.{made-on, drop-next}
use Rattle.xrf.proofs.running.make_all.Goals as goal

pub loop-place-preserved : goal.loop-place-preserved
loop-place-preserved c =
    let old = c.loop-place.world in
    let place = c.loop-place.place in
    let choices = c.args.choices.now in
    let first = drop-next choices place c.index-choices-place.result c.loop-place-test.true c.index-choices-place.is in
    let runs = sym (ap (run_from old.scenario old.trace place) first) ∙ c.loop-place.invariant.whole in
    let step =
    made-on old c.apply.new.self (drop (place + 1) choices) place (run c.args.world.now.scenario choices) (outcome old.scenario old.trace c.index-choices-place.result) c.in-Ok.ensures.applied
    runs in
    record {
      whole = step.run;
      scenario = step.scenario ∙ c.loop-place.invariant.scenario;
      count = step.count ∙ ap (λ n. n + 1) c.loop-place.invariant.count;
    }
