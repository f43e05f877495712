use Rattle.std.proofs.Common.{reverse}
use Rattle.xrf_world.proofs.WorldLaws.{goes-on, made-world}
use Rattle.xrf_world.proofs.world.advance.Goals as goal

pub returns-clause-world : goal.returns-clause-world
returns-clause-world c =
    let old = c.args.pair.now in
    let w = c.requires.world in
    made-world old c.choose.new.self c.args.choice.now c.choose.result w c.requires.room
    (c.choose.ensures (reverse old.middle.journal.items) w.stands (goes-on old w c.requires.room))
