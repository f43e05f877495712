use Rattle.xrf_base.proofs.Texts.{found_by_reading, none_by_reading}
use Rattle.xrf_base.proofs.values.slot_read.Goals as goal

pub returns-clause-found : goal.returns-clause-found
returns-clause-found c = found_by_reading c.args.slot.now c.held.result c.held.ensures

pub returns-clause-none : goal.returns-clause-none
returns-clause-none c = none_by_reading c.args.slot.now c.held.result c.held.ensures
