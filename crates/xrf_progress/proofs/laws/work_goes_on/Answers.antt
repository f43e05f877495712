use Rattle.xrf_progress.proofs.Items.{items-are-answered}
use Rattle.xrf_progress.proofs.Works.{items-are-taken}
use Rattle.xrf_progress.proofs.laws.work_goes_on.Goals as goal

pub returns : goal.returns
returns c = record { taken = items-are-taken; answered = items-are-answered }
