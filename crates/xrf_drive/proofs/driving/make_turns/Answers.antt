use Rattle.std.proofs.Common.{refl, sym, subst, arith}
use Rattle.rand_pcg.specs.Lcg.{Lcg}
use Rattle.xrf_drive.proofs.TurnLaws.{drives-none, drives-on, has_room}
use Rattle.xrf_drive.specs.Drawn.{first_generator}
use Rattle.xrf_drive.specs.Tries.{DrivesTo}
use Rattle.xrf_drive.proofs.driving.make_turns.Goals as goal

pub loop-turn-init : goal.loop-turn-init
loop-turn-init c = subst (λ (made : Lcg). DrivesTo c.args.world.now.scenario (first_generator c.args.seed) 0 made c.args.world.now) (sym c.new-generator.ensures)
    (drives-none c.args.world.now.scenario (first_generator c.args.seed) c.args.world.now refl c.requires.fresh)

pub loop-turn-preserved : goal.loop-turn-preserved
loop-turn-preserved c =
    drives-on c.args.world.now.scenario (first_generator c.args.seed) c.loop-turn._turn c.loop-turn.generator c.next_word-word.new.self c.next_word-word.result
    c.loop-turn.world c.turn.new.world c.loop-turn.invariant c.next_word-word.ensures c.turn.ensures

pub turn-requires : goal.turn-requires
turn-requires c = record {
  room = has_room c.args.world.now.scenario (first_generator c.args.seed) c.loop-turn._turn 8192 c.loop-turn.generator c.loop-turn.world c.loop-turn.invariant (omega (arith, c.loop-turn-test.true, c.requires.few));
}
