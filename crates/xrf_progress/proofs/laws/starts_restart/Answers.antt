use Rattle.xrf_progress.proofs.Starts as starts
use Rattle.xrf_progress.proofs.laws.starts_restart.Goals as goal

pub returns : goal.returns
returns c = record { restarts = starts.starts-restart; at_once = starts.starts-are-at-once }
