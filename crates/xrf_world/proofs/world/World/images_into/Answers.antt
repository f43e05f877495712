-- The data sets are those of the trace that the World stands for.
use Rattle.std.proofs.Common.{reverse, sym, subst}
use Rattle.xrf_setup.specs.Scenario.{limits}
use Rattle.xrf_world.specs.Images.{HaveSizes, AreImagesOf}
use Rattle.xrf_world.specs.Runs.{Run}
use Rattle.xrf_world.proofs.ImageLaws.{as-long}
use Rattle.xrf_world.proofs.world.World.images_into.Goals as goal

pub copy_from-requires : goal.copy_from-requires
copy_from-requires c =
    as-long c.args.images.now c.self.inside.pair.middle.data_sets c.self.inside.pair.middle.scenario (reverse c.self.inside.pair.middle.journal.items)
    c.self.invariant.stands.middle.data_sets
    (subst (λ (r : Run). HaveSizes c.args.images.now (limits r.scenario)) (sym c.self.view_is) c.requires)

pub returns-clause-images : goal.returns-clause-images
returns-clause-images c =
    subst (λ (r : Run). AreImagesOf c.copy_from.new.self r.scenario r.trace) c.self.view_is
    (c.self.inside.pair.middle.data_sets, c.self.invariant.stands.middle.data_sets, c.copy_from.ensures.bytes)

pub returns-clause-sizes : goal.returns-clause-sizes
returns-clause-sizes c = c.copy_from.ensures.sizes (limits c.args.self.now.scenario) c.requires
