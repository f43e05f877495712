use Rattle.xrf_progress.proofs.Coming as coming
use Rattle.xrf_progress.proofs.laws.takeovers_come.Goals as goal

pub returns : goal.returns
returns c = record {
  takings = coming.takings-come;
  asks = coming.asks-come;
  throughs = coming.throughs-come;
  takeovers = coming.takeovers-come;
  throughs_end = coming.throughs-end;
  takeovers_end = coming.takeovers-end;
}
