use Rattle.xrf_base.proofs.NumberLaws.{equal, again}
use Rattle.xrf_base.proofs.numbers.one_spelling.Goals as goal

pub returns-clause-equal : goal.returns-clause-equal
returns-clause-equal c = equal

pub returns-clause-again : goal.returns-clause-again
returns-clause-again c = again
