use Rattle.xrf_scenario.proofs.CanonLaws.{read_again}
use Rattle.xrf_scenario.proofs.canonical.read_again.Goals as goal

pub returns : goal.returns
returns c = read_again
