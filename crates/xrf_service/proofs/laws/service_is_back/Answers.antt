use Rattle.xrf_service.proofs.Back as back
use Rattle.xrf_service.proofs.laws.service_is_back.Goals as goal

pub returns : goal.returns
returns c = record {
  restarts = back.restarts-bring-back;
  takeovers = back.takeovers-bring-back;
  takeovers_by = back.takeovers-bring-back-by;
  starts = back.starts-bring-back;
}
