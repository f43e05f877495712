use Rattle.std.proofs.Common.{Ok, reverse}
use Rattle.xrf_setup.specs.declared.choice.Choice.TheVariants as choice
use Rattle.xrf_world.proofs.WorldLaws.{goes-on, made-world}
use Rattle.xrf_world.proofs.world.advance_tick.Goals as goal

pub returns-clause-world : goal.returns-clause-world
returns-clause-world c =
    let old = c.args.pair.now in
    let w = c.requires.world in
    made-world old c.tick.new.self choice.Tick (Ok tt) w c.requires.room
    (c.tick.ensures (reverse old.middle.journal.items) w.stands (goes-on old w c.requires.room))
