use Rattle.xrf_trace.proofs.RunLaws as run
use Rattle.xrf_trace.proofs.laws.journals_tell_choices.Goals as goal

pub returns : goal.returns
returns c = run.journals_tell
