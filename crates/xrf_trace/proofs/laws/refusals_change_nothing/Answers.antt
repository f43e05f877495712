use Rattle.std.proofs.Common.{refl}
use Rattle.xrf_trace.proofs.RunLaws as run
use Rattle.xrf_trace.proofs.laws.refusals_change_nothing.Goals as goal

pub returns : goal.returns
returns c = record { tick = λ s t. refl; first = run.refusals_are_first }
