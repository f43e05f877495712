use Rattle.xrf_scenario.proofs.ReadingLaws.{one_reading, never_both, one_fault}
use Rattle.xrf_scenario.proofs.text.one_reading.Goals as goal

pub returns-clause-one_reading : goal.returns-clause-one_reading
returns-clause-one_reading c = one_reading

pub returns-clause-never_both : goal.returns-clause-never_both
returns-clause-never_both c = never_both

pub returns-clause-one_fault : goal.returns-clause-one_fault
returns-clause-one_fault c = one_fault
