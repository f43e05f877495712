use Rattle.std.proofs.Common.{reverse, ap, ◌∙◌}
use Rattle.xrf_trace.specs.Devices.{control}
use Rattle.xrf_trace.specs.Jobs.{known_of}
use Rattle.xrf_world.specs.Runs.{Run}
use Rattle.xrf_world.proofs.world.World.known.Goals as goal

pub returns : goal.returns
returns c =
    let t = reverse c.self.inside.pair.middle.journal.items in
    c.known.ensures c.self.inside.pair.middle.scenario t c.self.invariant.stands.middle.counts
    ∙ ap (known_of t) (c.control-control.ensures c.self.inside.pair.middle.scenario t c.self.invariant.stands.middle.data_sets)
    ∙ ap (λ (r : Run). known_of r.trace (control r.trace)) c.self.view_is
