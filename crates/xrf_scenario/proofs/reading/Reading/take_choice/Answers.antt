use Rattle.std.proofs.Common.{arith}
use Rattle.xrf_scenario.specs.Held.{held}
use Rattle.xrf_scenario.proofs.TakenLaws.{choices-stay}
use Rattle.xrf_scenario.proofs.reading.Reading.take_choice.Goals as goal

-- what is said stays within its bounds
pub invariant_of-self-2 : goal.invariant_of-self-2
invariant_of-self-2 c =
    choices-stay _ (held c.self.inside) c.push_times.new.items.items c.args.line c.args.choice c.args.count c.self.view_is c.requires.section c.requires.choice c.self.invariant
    c.in_ok-push_times.ensures.ok (omega (arith, c.len.ensures, c.if-len-count-gt-CHOICES_MOST.false))
