use Rattle.std.proofs.Common.{◌≡◌, drop, length}
use Rattle.xrf_trace.specs.Runs.{run, run_from}
use Rattle.xrf.proofs.running.make_all.Given as goal

-- the run of the choices left, on the trace so far, is the run of all
abbrev pub invariant-loop-place : goal.invariant-loop-place
invariant-loop-place l = record {
  whole : run_from l.world.scenario l.world.trace l.place (drop l.place l.choices) ≡ run l.fn.world.scenario l.choices;
  scenario : l.world.scenario ≡ l.fn.world.scenario;
  count : length l.world.trace ≡ l.place;
}
