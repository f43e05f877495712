use Rattle.std.proofs.Common.{◌∙◌}
use Rattle.xrf_clt.proofs.Within.{own_count}
use Rattle.xrf_clt.proofs.Clt.count_for.Goals as goal

pub returns : goal.returns
returns c = c.count_own.ensures ∙ own_count c.self.inside.texts.items c.args.applid c.self.inside.entries.items c.as_slice.result.now c.args.self.now c.as_slice.ensures.value c.self.view_is
