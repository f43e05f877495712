-- What the operator says is done: a command, and GO, lead to the taking at the next round; and a CONFIRM that comes late
-- leads to the restart within two TICKs.
use Rattle.std.specs.Prelude.{◌≡◌, ℕ, ◌+◌, ◌≤◌, ◌⊎◌, true, false, List, ◌∷◌, ◌++◌, Some}
use Rattle.xrf_base.specs.declared.site.Site.{Site}
use Rattle.xrf_cavm.specs.Record.{inc_of_owner}
use Rattle.xrf_cavm.specs.Watch.{last_look}
use Rattle.xrf_setup.specs.declared.choice.Choice.TheVariants as choice
use Rattle.xrf_history.specs.Events.{Event}
use Rattle.xrf_history.specs.Holding.{number, is_waiting}
use Rattle.xrf_history.specs.Deciding.{takeover_commanded, has_go}
use Rattle.xrf_history.specs.Looking.{lost_at, signal_seen, told_to_watch}
use Rattle.xrf_history.specs.Reserving.{is_leaving}
use Rattle.xrf_trace.specs.declared.entry.Entry.{Entry}
use Rattle.xrf_trace.specs.Scenario.{Scen, IsScen, settings, other}
use Rattle.xrf_trace.specs.Words.{now}
use Rattle.xrf_trace.specs.Devices.{control, sector1, sector2}
use Rattle.xrf_trace.specs.Entries.{entry}
use Rattle.xrf_trace.specs.Jobs.{hist}
use Rattle.xrf_trace.specs.Acts.{next_act}
use Rattle.xrf_trace.specs.Runs.{IsRun}
use Rattle.xrf_trace.specs.ThroughByProof.{may_run}
use Rattle.xrf_progress.specs.Serving.{Serves, has_restart, has_taking_write, acts_of}
use Rattle.xrf_progress.specs.Takeovers.{CanDecide, will_ask, most_acts, before_rest}

-- GO is given: the alternate is under MANUAL with surveillance and has GO, and the owner is lost at the present tick. Its
-- last look is of the signals that stand.
pub record HasGo (s : Scen) (t : List Entry) (x : Site) (h : List Event) : Type 0 where
  pub asks : will_ask (settings s x) h ≡ true
  pub go : has_go (settings s x) h ≡ true
  pub lost : lost_at (settings s x) h (now t) ≡ true
  pub looked : last_look (told_to_watch h) ≡ Some (sector1 t (other x), sector2 t (other x))
  pub saw : signal_seen h ≡ sector1 t (other x)

-- it is told to start: by a command, or by GO
abbrev pub IsTold : Scen → List Entry → Site → List Event → Type 0
IsTold s t x h = (takeover_commanded h ≡ true) ⊎ HasGo s t x h

-- One that decides, is told to start, and is served from there on, has written its taking before the second TICK.
abbrev pub TakingsFollow : Type 0
TakingsFollow =
    (s : Scen) (t part : List Entry) (x : Site) (h : List Event) → IsRun s (part ++ t) → CanDecide s t x h → IsTold s t x h → Serves s t x part
    → 2 ≤ now part → has_taking_write x (number h) part ≡ true

-- Beside an owner that is not Running or is confirmed it has declared its restart, as owner, before the third TICK.
abbrev pub TakeoversFollow : Type 0
TakeoversFollow =
    (s : Scen) (t part : List Entry) (x : Site) (h : List Event) → IsRun s (part ++ t) → CanDecide s t x h → IsTold s t x h
    → may_run t (control t) ≡ false → Serves s t x part → 3 ≤ now part → has_restart x (number h) part ≡ true

-- so many acts of its own are enough for one that is told to start
abbrev pub told_acts : Scen → List Entry → Site → ℕ
told_acts s t x = most_acts s x + before_rest (next_act s t x) + 23

-- After so many acts one that is told to start, beside an owner that is over, has declared its restart.
abbrev pub TakeoversFollowEnd : Type 0
TakeoversFollowEnd =
    (s : Scen) (t part : List Entry) (x : Site) (h : List Event) → IsScen s → IsRun s (part ++ t) → CanDecide s t x h → IsTold s t x h
    → may_run t (control t) ≡ false → Serves s t x part → told_acts s t x ≤ acts_of x part → has_restart x (number h) part ≡ true

-- A CONFIRM of the owner, beside an alternate that waits and is served from there on: it has declared its restart, as owner,
-- before the second TICK after it.
abbrev pub ConfirmsFollow : Type 0
ConfirmsFollow =
    (s : Scen) (t part : List Entry) (x : Site) (h : List Event) → IsRun s (part ++ entry s t (choice.Confirm (inc_of_owner (control t).owner)) ∷ t)
    → hist s t x ≡ Some h → is_waiting h ≡ true → is_leaving h ≡ false
    → Serves s (entry s t (choice.Confirm (inc_of_owner (control t).owner)) ∷ t) x part → 2 ≤ now part → has_restart x (number h) part ≡ true
