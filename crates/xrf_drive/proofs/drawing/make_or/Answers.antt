use Rattle.xrf_drive.proofs.TurnLaws.{in_place, is_made}
use Rattle.xrf_drive.specs.Turns.{if_enabled, in_its_place}
use Rattle.xrf_drive.proofs.drawing.make_or.Goals as goal

pub returns-then-make_drawn : goal.returns-then-make_drawn
returns-then-make_drawn c =
    is_made c.args.world.now c.make_drawn.new.world (if_enabled c.args.world.now.scenario c.args.world.now.trace c.args.drawn.now) c.make_drawn.result
    (in_its_place c.args.world.now.scenario c.args.world.now.trace) c.make_drawn.ensures c.if-make_drawn.true

pub returns : goal.returns
returns c =
    in_place c.args.world.now c.make_drawn.new.world c.make_in_its_place.new.world (if_enabled c.args.world.now.scenario c.args.world.now.trace c.args.drawn.now) c.make_drawn.result
    (λ r. in_its_place r.scenario r.trace) c.make_drawn.ensures c.if-make_drawn.false c.make_in_its_place.ensures
