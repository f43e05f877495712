-- What is known before the next act of a job.
use Rattle.std.proofs.Common.{Bool, refl, List, Some, arith, false, true, ◌<◌, ◌≡◌, ◌≤◌, ℕ, length}
use Rattle.xrf_base.specs.declared.limits.Limits.{Limits}
use Rattle.xrf_base.specs.declared.site.Site.{Site}
use Rattle.xrf_log.specs.Flight.{has_ended}
use Rattle.xrf_history.specs.Events.{Event}
use Rattle.xrf_history.specs.declared.want.Want.{Want}
use Rattle.xrf_history.specs.Next.{next}
use Rattle.xrf_history.specs.Holding.{is_granted, is_restarted, number}
use Rattle.xrf_history.specs.Working.{last_plan, ledger}
use Rattle.xrf_history.specs.Progress.{is_active}
use Rattle.xrf_trace.specs.declared.entry.Entry.{Entry}
use Rattle.xrf_trace.specs.Scenario.{Scen, first_value, settings}
use Rattle.xrf_ctl.specs.Control.{ControlRecord}
use Rattle.xrf_trace.specs.Devices.{control}
use Rattle.xrf_trace.specs.Words.{confirmed}
use Rattle.xrf_owner_law.specs.Known.{WritesAre}
use Rattle.xrf_owner_law.specs.Owner.{IsHeld}
use Rattle.xrf_trace.specs.Jobs.{hist}
use Rattle.xrf_trace.specs.Log.{log}
use Rattle.xrf_base.specs.Ranges.{AreLimits}
use Rattle.xrf_trace.proofs.ScenarioLaws.{IsInRanges}
use Rattle.xrf_log_law.specs.Soundness.{is_sound}
use Rattle.xrf_log_law.specs.Due.{Due, job_view}
use Rattle.xrf_log_law.specs.Jobs.{Idle, JobStands, is_idle}
use Rattle.xrf_log_law.specs.Ranges.{InRanges}
use Rattle.xrf_log_law.specs.Serving.{Serves, site_view}
use Rattle.xrf_log_law.specs.State.{State, key_number, view}
use Rattle.xrf_log_law.specs.AtWork.{LastAt, NamedAt}
use Rattle.xrf_history.specs.declared.want.Want.TheVariants as want

pub record Before (s : Scen) (t : List Entry) (x : Site) (h : List Event) (w : Want) : Type 0 where
  pub scen : IsInRanges s
  pub job : hist s t x ≡ Some h
  pub is : next (settings s x) h ≡ w
  -- the invariant
  pub state : State s.settings.log (first_value s) (view s t)
  pub stands : JobStands s.settings.log (first_value s) (view s t) (settings s x) h
  pub serves : Serves (settings s x) h (site_view s t x)
  pub ranges : InRanges s t
  pub counted : key_number t ≤ length t
  -- what is due of the act, and who makes it
  pub due : Due s.settings.log (first_value s) (view s t) (job_view (settings s x) h) w
  pub acts : is_idle w ≡ false → is_active h ≡ true
  pub rests : is_active h ≡ false → Idle w
  pub idle : is_sound h ≡ false → Idle w
  -- at work: the last values, and the unit of the plan
  pub values : is_active h ≡ true → is_sound h ≡ true → is_restarted h ≡ true → LastAt (first_value s) (view s t) (last_plan (settings s x) h) w
  pub named : is_active h ≡ true → is_sound h ≡ true → is_restarted h ≡ true → NamedAt (ledger (settings s x) h).units (last_plan (settings s x) h) w
  -- the numbers
  pub fresh : is_active h ≡ true → is_restarted h ≡ false → (serial : ℕ) → has_ended (record { inc = number h; serial = serial }) (log t) ≡ false
  pub held : is_granted h ≡ true → IsHeld (control t) (confirmed t) (number h)
  pub writes : (written : ControlRecord) → w ≡ want.CtlWrite written → WritesAre s t x h written
  pub most : (control t).last ≤ 65535
  pub few : length t ≤ 65535

-- the last number never falls
pub last-rises : (s : Scen) (t : List Entry) (x : Site) (h : List Event) (written : ControlRecord) → WritesAre s t x h written → (control t).last ≤ written.last
last-rises s t x h written writes = by (is_granted h) refl
  where
    by : (held : Bool) → is_granted h ≡ held → (control t).last ≤ written.last
    by true is = omega (arith, writes.last_else is)
    by false is = omega (arith, writes.last_of_grant is)

-- a log has slots
pub log-some : (limits : Limits) → AreLimits limits → 0 < limits.log
log-some limits are = omega (arith, are.log_least)
