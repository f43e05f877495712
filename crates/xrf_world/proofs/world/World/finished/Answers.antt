use Rattle.std.proofs.Common.{reverse}
use Rattle.xrf_world.proofs.WorldLaws.{few-jobs}
use Rattle.xrf_world.proofs.world.World.finished.Goals as goal

pub is_finished-requires : goal.is_finished-requires
is_finished-requires c =
    (reverse c.self.inside.pair.middle.journal.items, c.self.invariant.stands, few-jobs c.self.inside.pair c.self.invariant)
