-- A job that was started as standby keeps what one that was started as active does.
use Rattle.std.proofs.Common.{◌≡◌, [], ◌∷◌, Some}
use Rattle.xrf_history.specs.declared.settings.Settings.{Settings}
use Rattle.xrf_history.specs.declared.want.Want.TheVariants as want
use Rattle.xrf_history.specs.Events.{StartedActive, StartedStandby}
use Rattle.xrf_job.specs.declared.stage.Stage.{Stage}
use Rattle.xrf_job.specs.declared.stage.Stage.TheVariants as stages
use Rattle.xrf_job.specs.declared.common.Common.{Common}
use Rattle.xrf_job.specs.Stages.{inside_of, Within}
use Rattle.xrf_job.specs.Sharing.{Shares}

-- it is to reserve
reserves : (p : Settings) (stage : Stage) → inside_of stage ≡ Some want.Reserve → Within stage p (StartedStandby ∷ [])
reserves p stages.Reserve is = tt
reserves p _ is = absurd (cc)

pub started : (job : Common) (p : Settings) → Shares job p (StartedActive ∷ []) → Shares job p (StartedStandby ∷ [])
started job p s = record {
  inc = s.inc;
  granted = s.granted;
  rounds = s.rounds;
  signalled = s.signalled;
  seen = s.seen;
  signal = s.signal;
  watch = s.watch;
  decided = s.decided;
  signs_on = s.signs_on;
  purpose = s.purpose;
  read = s.read;
  known = s.known;
  room = s.room;
  expected = s.expected;
  stage = s.stage;
  within = reserves p job.stage s.stage;
}
