use Rattle.xrf_text.specs.Text.{words}
use Rattle.xrf_cebt.proofs.Exactly.{answered}
use Rattle.xrf_cebt.proofs.commands.Cebt.read.Goals as goal

pub returns-clause-found : goal.returns-clause-found
returns-clause-found c = (answered (words c.args.text.now) c.first.result c.first.ensures).0

pub returns-clause-fault : goal.returns-clause-fault
returns-clause-fault c = (answered (words c.args.text.now) c.first.result c.first.ensures).1
