-- The settings of a job have the limits of its scenario.
use Rattle.std.proofs.Common.{sym, subst}
use Rattle.xrf_base.specs.Ranges.{AreLimits}
use Rattle.xrf_history.specs.declared.settings.Settings.{Settings}
use Rattle.xrf_setup.proofs.ScenarioLaws.{limits_are}
use Rattle.xrf_world.proofs.place.Place.new.Goals as goal

pub new-requires-2 : goal.new-requires-2
new-requires-2 c = subst (λ (p : Settings). AreLimits p.limits) (sym c.settings_of.ensures) (limits_are c.args.scenario.now c.work.ensures.scenario)
