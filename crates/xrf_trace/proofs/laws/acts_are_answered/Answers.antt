use Rattle.xrf_trace.proofs.HandingLaws as laws
use Rattle.xrf_trace.proofs.laws.acts_are_answered.Goals as goal

pub returns : goal.returns
returns c = laws.acts_are_answered
