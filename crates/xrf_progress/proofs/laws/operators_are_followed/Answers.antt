use Rattle.xrf_progress.proofs.Coming as coming
use Rattle.xrf_progress.proofs.laws.operators_are_followed.Goals as goal

pub returns : goal.returns
returns c = record {
  takings = coming.takings-follow;
  takeovers = coming.takeovers-follow;
  takeovers_end = coming.takeovers-follow-end;
  confirms = coming.confirms-follow;
}
