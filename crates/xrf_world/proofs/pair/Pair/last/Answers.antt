use Rattle.std.proofs.Common.{ap, ◌∙◌}
use Rattle.xrf_ctl.specs.Control.{ControlRecord}
use Rattle.xrf_world.proofs.pair.Pair.last.Goals as goal

pub returns : goal.returns
returns c = λ t stands.
    c.last.ensures.last ∙ ap (λ (r : ControlRecord). r.last) (c.control.ensures c.args.self.now.middle.scenario t stands.middle.data_sets)
