use Rattle.xrf_progress.proofs.Reached as reached
use Rattle.xrf_progress.proofs.laws.takeovers_are_reached.Goals as goal

pub returns : goal.returns
returns c = record {
  accepted = reached.are-accepted;
  throughs = reached.throughs-are-reached;
  takeovers = reached.takeovers-are-reached;
}
