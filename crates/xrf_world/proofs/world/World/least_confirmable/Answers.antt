use Rattle.std.proofs.Common.{reverse, subst}
use Rattle.xrf_world.specs.Report.{IsLeast, may_be_confirmed}
use Rattle.xrf_world.specs.Runs.{Run}
use Rattle.xrf_world.proofs.LeastLaws.{is_least}
use Rattle.xrf_world.proofs.world.World.least_confirmable.Goals as goal

pub least_confirmable-requires : goal.least_confirmable-requires
least_confirmable-requires c = (reverse c.self.inside.pair.middle.journal.items, c.self.invariant.stands)

pub returns-clause-least : goal.returns-clause-least
returns-clause-least c =
    let pair = c.self.inside.pair in
    let t = reverse pair.middle.journal.items in
    subst (λ (r : Run). IsLeast (may_be_confirmed r.scenario r.trace) c.least_confirmable.result) c.self.view_is
    (is_least pair.middle.scenario t c.least_confirmable.result (c.least_confirmable.ensures t c.self.invariant.stands))
