use Rattle.std.proofs.Common.{reverse}
use Rattle.xrf_world.proofs.WorldLaws.{few-jobs}
use Rattle.xrf_world.proofs.world.World.is_enabled.Goals as goal

pub refused-requires : goal.refused-requires
refused-requires c =
    (reverse c.self.inside.pair.middle.journal.items, c.self.invariant.stands, few-jobs c.self.inside.pair c.self.invariant)
