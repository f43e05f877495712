use Rattle.xrf_scenario.proofs.SaidLaws.{nothing-said}
use Rattle.xrf_scenario.proofs.reading.Reading.new.Goals as goal

-- what no line says is within its bounds
pub invariant_of-result : goal.invariant_of-result
invariant_of-result c = rw (c.in_ok-empty_places.ensures, c.new.ensures, c.new-2.ensures.items, c.new-3.ensures.items, c.new-4.ensures.items, c.new-5.ensures.items) nothing-said
