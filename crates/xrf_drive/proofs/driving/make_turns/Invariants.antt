use Rattle.xrf_drive.specs.Drawn.{first_generator}
use Rattle.xrf_drive.specs.Tries.{DrivesTo}
use Rattle.xrf_drive.proofs.driving.make_turns.Given as goal

-- the turns so far were made
abbrev pub invariant-loop-turn : goal.invariant-loop-turn
invariant-loop-turn l = DrivesTo l.fn.world.scenario (first_generator l.seed) l._turn l.generator l.world
