-- What a report reads of a trace: the jobs, the items, the log, and what is enabled.
use Rattle.std.specs.Prelude.{◌≡◌, ◌<◌, ℕ, zero, suc, Bool, true, false, ◌&&◌, ◌||◌, not, nat_lt, nat_le, ◌==◌, is_some, is_none, if◌then◌else◌, List, length, Option, Some, None}
use Rattle.std.specs.Option.{option_and_then, option_map}
use Rattle.xrf_base.specs.declared.items.ItemAnswer.{ItemAnswer}
use Rattle.xrf_base.specs.declared.site.Site.{Site}
use Rattle.xrf_base.specs.declared.site.Site.TheVariants as site
use Rattle.xrf_exit.specs.declared.Notice.{Notice}
use Rattle.xrf_log.specs.Flight.{flight}
use Rattle.xrf_logrec.specs.declared.records.LogRec.{LogRec}
use Rattle.xrf_setup.specs.declared.choice.Choice.{Choice}
use Rattle.xrf_setup.specs.declared.choice.Choice.TheVariants as choice
use Rattle.xrf_setup.specs.declared.ranges.TheConstants.{CHOICES_MOST}
use Rattle.xrf_terms.specs.declared.rows.Row.{Row}
use Rattle.xrf_history.specs.Events.{Event}
use Rattle.xrf_history.specs.Holding.{number, is_granted, is_owner, is_alternate, is_waiting, is_restarted}
use Rattle.xrf_history.specs.Notices.{notice}
use Rattle.xrf_history.specs.Reserving.{sign_off_due, is_leaving}
use Rattle.xrf_history.specs.Terminals as terminals
use Rattle.xrf_trace.specs.declared.entry.Entry.{Entry}
use Rattle.xrf_trace.specs.Devices.{control}
use Rattle.xrf_trace.specs.Items.{answer}
use Rattle.xrf_trace.specs.Jobs.{hist}
use Rattle.xrf_trace.specs.Log.{log, committed}
use Rattle.xrf_trace.specs.Refusals.{refusal}
use Rattle.xrf_trace.specs.Scenario.{Scen, settings}
use Rattle.xrf_trace.specs.Words.{now, confirmed}
use Rattle.xrf_world.specs.declared.state.JobState.{JobState}
use Rattle.xrf_world.specs.declared.state.JobState.TheVariants.{Absent, Starting, Restarting, Active, Tracking, Waiting, Ending}
use Rattle.xrf_world.specs.declared.state.ItemState.{ItemState}
use Rattle.xrf_world.specs.declared.state.ItemState.TheVariants.{Answered, Pending, Lost}
use Rattle.xrf_world.specs.declared.state.LogCounts.{LogCounts}
use Rattle.xrf_world.specs.Places.{taken_before_start}

-- The state of a job. It is ending where a sign-off is due or begun, or as an alternate that is leaving; starting before
-- it holds an incarnation; as an owner restarting before RESTARTED, and then active; as an alternate waiting, or tracking.
abbrev pub is_ending : List Event → Bool
is_ending h = is_some (sign_off_due h) || (is_alternate h && is_leaving h)

abbrev pub state_of_owner : List Event → JobState
state_of_owner h = if is_restarted h then Active (number h) else Restarting (number h)

abbrev pub state_of_alternate : List Event → JobState
state_of_alternate h = if is_waiting h then Waiting (number h) else Tracking (number h)

abbrev pub state_of_granted : List Event → JobState
state_of_granted h = if is_owner h then state_of_owner h else state_of_alternate h

abbrev pub state_of_job : Option (List Event) → JobState
state_of_job None = Absent
state_of_job (Some h) = if is_ending h then Ending (number h) else (if is_granted h then state_of_granted h else Starting)

abbrev pub job_state : Scen → List Entry → Site → JobState
job_state s t x = state_of_job (hist s t x)

-- The state of the item of a number from 1 that was taken. While it is not answered it is pending where the job that took
-- it is still there, and else lost.
abbrev pub state_of_item : (is_awaited : Bool) → Option ItemAnswer → ItemState
state_of_item is_awaited (Some given) = Answered given
state_of_item true None = Pending
state_of_item false None = Lost

abbrev pub item_state : Scen → List Entry → Site → ℕ → ItemState
item_state s t x k = state_of_item (is_some (hist s t x) && nat_lt (taken_before_start t x) k) (answer s t x k)

-- the terminal table of the job at a site
abbrev pub table_at : Scen → List Entry → Site → Option (List Row)
table_at s t x = option_map (terminals.table (settings s x)) (hist s t x)

-- how many records the log has, how many units are committed, and how many are in flight
abbrev pub counts_of_log : List LogRec → LogCounts
counts_of_log records = record { records = length records; committed = length (committed records); flight = length (flight records) }

abbrev pub log_counts : List Entry → LogCounts
log_counts t = counts_of_log (log t)

-- the notice that is pending at a site
abbrev pub notice_at : Scen → List Entry → Site → Option Notice
notice_at s t x = option_and_then notice (hist s t x)

-- a choice is enabled where it is not refused
abbrev pub is_enabled : Scen → List Entry → Choice → Bool
is_enabled s t c = is_none (refusal s t c)

-- a site is at rest: it has no enabled STEP and no pending notice
abbrev pub is_at_rest : Scen → List Entry → Site → Bool
is_at_rest s t x = not (is_enabled s t (choice.Step x)) && is_none (notice_at s t x)

-- a run is finished where its journal is full, or its time is over and both sites are at rest
abbrev pub is_finished : Scen → List Entry → Bool
is_finished s t = length t == CHOICES_MOST || (nat_le s.settings.ticks (now t) && is_at_rest s t site.A && is_at_rest s t site.B)

-- a number that CONFIRM accepts, and that is not yet confirmed
abbrev pub may_be_confirmed : Scen → List Entry → ℕ → Bool
may_be_confirmed s t n = is_enabled s t (choice.Confirm n) && not (confirmed t n)

-- the least number from 1 to a last one of which a test holds, none where it holds of none
abbrev pub or_if : Option ℕ → Bool → ℕ → Option ℕ
or_if (Some m) holds n = Some m
or_if None holds n = if holds then Some n else None

abbrev pub least_to : (ℕ → Bool) → ℕ → Option ℕ
least_to test zero = None
least_to test (suc n) = or_if (least_to test n) (test (suc n)) (suc n)

-- a number is the least of all of which a test holds, and none where it holds of none
abbrev pub IsLeast : (ℕ → Bool) → Option ℕ → Type 0
IsLeast test None = (n : ℕ) → test n ≡ false
IsLeast test (Some n) = (test n ≡ true) × ((m : ℕ) → m < n → test m ≡ false)

-- the least number that CONFIRM accepts and that is not yet confirmed: it was given
abbrev pub least_confirmable : Scen → List Entry → Option ℕ
least_confirmable s t = least_to (may_be_confirmed s t) (control t).last
