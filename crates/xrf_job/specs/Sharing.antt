-- What a job of either kind keeps, over its history.
use Rattle.std.specs.Prelude.{◌≡◌, ◌<◌, false, nat_lt, List}
use Rattle.xrf_cavm.specs.Watch.{Watches}
use Rattle.xrf_history.specs.declared.settings.Settings.{Settings}
use Rattle.xrf_history.specs.Events.{Event}
use Rattle.xrf_history.specs.Holding.{number, is_granted}
use Rattle.xrf_history.specs.Taking.{expected}
use Rattle.xrf_history.specs.Reserving.{Purpose, SignOnActive, SignOnStandby, purpose, record_read, known_read, last_decision}
use Rattle.xrf_history.specs.Looking.{record_seen, signal_seen, told_to_watch}
use Rattle.xrf_history.specs.Rows.{rounds, has_signalled}
use Rattle.xrf_history.specs.Next.{inside}
use Rattle.xrf_job.specs.declared.common.Common.{Common}
use Rattle.xrf_job.specs.Stages.{inside_of, purpose_of, Within}

-- a purpose of a job that is not granted
abbrev pub IsSignOn : Purpose → Type 0
IsSignOn SignOnActive = Unit {0}
IsSignOn SignOnStandby = Unit {0}
IsSignOn _ = ⊥

pub record Shares (job : Common) (p : Settings) (h : List Event) : Type 0 where
  pub inc : job.inc ≡ number h
  pub granted : is_granted h ≡ nat_lt 0 (number h)
  pub rounds : job.rounds ≡ rounds h
  pub signalled : job.has_signalled ≡ has_signalled h
  pub seen : job.seen ≡ record_seen h
  pub signal : job.signal ≡ signal_seen h
  pub watch : Watches job.watch 0 (told_to_watch h)
  pub decided : job.decided ≡ last_decision h
  pub signs_on : is_granted h ≡ false → IsSignOn (purpose h)
  pub purpose : purpose_of job.purpose ≡ purpose h
  pub read : job.read ≡ record_read h
  pub known : job.known ≡ known_read h
  pub room : (record_read h).last < 4294967295
  pub expected : job.expected ≡ expected h
  pub stage : inside_of job.stage ≡ inside p h
  pub within : Within job.stage p h
