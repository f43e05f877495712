use Rattle.std.proofs.Common.{reverse, ap, ◌∙◌}
use Rattle.xrf_trace.specs.Devices.{control}
use Rattle.xrf_world.specs.Runs.{Run}
use Rattle.xrf_world.proofs.world.World.control.Goals as goal

pub returns : goal.returns
returns c =
    c.control.ensures c.self.inside.pair.middle.scenario (reverse c.self.inside.pair.middle.journal.items) c.self.invariant.stands.middle.data_sets
    ∙ ap (λ (r : Run). control r.trace) c.self.view_is
