use Rattle.xrf_trace.proofs.RunLaws as run
use Rattle.xrf_trace.proofs.laws.runs_are_runs.Goals as goal

pub returns : goal.returns
returns c = record { runs = run.runs_are_runs; ticks = run.ticks_are_counted }
