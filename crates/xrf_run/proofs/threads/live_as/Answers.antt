use Rattle.std.proofs.Common.{◌≤◌, List, length, reverse, ap, subst, sym}
use Rattle.xrf_setup.specs.declared.choice.Choice.{Choice}
use Rattle.xrf_setup.specs.declared.ranges.TheConstants.{CHOICES_MOST}
use Rattle.xrf_world.specs.Runs.{Run}
use Rattle.xrf_run.specs.Threaded.{IsThreadedRun}
use Rattle.xrf_run.proofs.threads.live_as.Goals as goal

pub returns : goal.returns
returns g c =
    let s = g.N.RunName.scenario in
    let may = g.N.RunName.may in
    let last = c.finish_alone.new.self in
    let parts = c.into_parts.ensures in
    let ended : IsThreadedRun s may last.trace last.choices = (last.offered, parts.threaded, c.finish_alone.ensures.ended) in
    let given : IsThreadedRun s may last.trace (reverse c.into_parts.result.1.items) =
    subst (λ (choices : List Choice). IsThreadedRun s may last.trace choices) (sym parts.choices) ended in
    record {
      scen = parts.scen;
      scenario_is = ap (λ (r : Run). r.scenario) parts.world;
      few = subst (λ (r : Run). length r.trace ≤ CHOICES_MOST) (sym parts.world) parts.few;
      threaded = subst (λ (r : Run). IsThreadedRun s may r.trace (reverse c.into_parts.result.1.items)) (sym parts.world) given;
    }
