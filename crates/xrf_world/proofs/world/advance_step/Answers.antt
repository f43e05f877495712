use Rattle.std.proofs.Common.{reverse}
use Rattle.xrf_setup.specs.declared.choice.Choice.TheVariants as choice
use Rattle.xrf_world.proofs.WorldLaws.{goes-on, made-world}
use Rattle.xrf_world.proofs.world.advance_step.Goals as goal

pub returns-clause-world : goal.returns-clause-world
returns-clause-world c =
    let old = c.args.pair.now in
    let w = c.requires.world in
    made-world old c.step.new.self (choice.Step c.args.site) c.step.result w c.requires.room
    (c.step.ensures (reverse old.middle.journal.items) w.stands (goes-on old w c.requires.room))
