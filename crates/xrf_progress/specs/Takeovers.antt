-- Progress: a takeover comes where the alternate is served, and by when.
use Rattle.std.specs.Prelude.{◌≡◌, ℕ, ◌+◌, ◌*◌, ◌/◌, ◌≤◌, ◌⊎◌, ◌&&◌, ◌||◌, Bool, true, false, List, ◌++◌, Option, Some, None}
use Rattle.xrf_base.specs.declared.site.Site.{Site}
use Rattle.xrf_ctl.specs.declared.parts.OwnerState.TheVariants.{OffNormal}
use Rattle.xrf_cavm.specs.Record.{is_alt, owner_is}
use Rattle.xrf_cavm.specs.Decisions.{is_auto, is_manual}
use Rattle.xrf_history.specs.declared.settings.Settings.{Settings}
use Rattle.xrf_history.specs.Events.{Event}
use Rattle.xrf_history.specs.Holding.{number, is_tracking, is_waiting}
use Rattle.xrf_history.specs.Deciding.{takeovr, surveillance, shutdown_commanded, takeover_commanded}
use Rattle.xrf_history.specs.Reserving.{is_leaving}
use Rattle.xrf_trace.specs.declared.entry.Entry.{Entry}
use Rattle.xrf_trace.specs.declared.entry.Act.{Act}
use Rattle.xrf_trace.specs.Scenario.{Scen, IsScen, settings}
use Rattle.xrf_trace.specs.Words.{now}
use Rattle.xrf_trace.specs.Devices.{control}
use Rattle.xrf_trace.specs.Jobs.{hist}
use Rattle.xrf_trace.specs.Acts.{next_act}
use Rattle.xrf_trace.specs.Runs.{IsRun}
use Rattle.xrf_trace.specs.ThroughByProof.{may_run}
use Rattle.xrf_progress.specs.Serving.{Serves, has_restart, has_taking_write, acts_of, was_asked}

-- It starts by itself: a takeover was commanded, or it is under AUTO with surveillance.
abbrev pub will_start : Settings → List Event → Bool
will_start p h = takeover_commanded h || (is_auto (takeovr p h) && surveillance h)

-- It asks the operator: it is under MANUAL with surveillance.
abbrev pub will_ask : Settings → List Event → Bool
will_ask p h = is_manual (takeovr p h) && surveillance h

-- The alternate at a site decides on a takeover: its job tracks, no shutdown of it was commanded, and it does not leave. The
-- record names it, beside an owner that did not sign off normally.
pub record CanDecide (s : Scen) (t : List Entry) (x : Site) (h : List Event) : Type 0 where
  pub there : hist s t x ≡ Some h
  pub tracks : is_tracking h ≡ true
  pub stays : shutdown_commanded h ≡ false
  pub on : is_leaving h ≡ false
  pub named : is_alt (control t) (number h) ≡ true
  pub not_normal : owner_is (control t) OffNormal ≡ false

-- it can start one, by itself
pub record CanStart (s : Scen) (t : List Entry) (x : Site) (h : List Event) : Type 0 where
  pub decides : CanDecide s t x h
  pub will : will_start (settings s x) h ≡ true

-- it can ask for one
pub record CanAsk (s : Scen) (t : List Entry) (x : Site) (h : List Event) : Type 0 where
  pub decides : CanDecide s t x h
  pub asks : will_ask (settings s x) h ≡ true

-- It can go through: its job waits, and does not leave; the owner of the record is not Running, or it is confirmed that it
-- ended.
pub record CanGo (s : Scen) (t : List Entry) (x : Site) (h : List Event) : Type 0 where
  pub there : hist s t x ≡ Some h
  pub waits : is_waiting h ≡ true
  pub on : is_leaving h ≡ false
  pub over : may_run t (control t) ≡ false

-- WHAT IS LOST IS NOTICED: an alternate that can start, and is served from there on, has written its taking before the
-- TICK that is number ADI + 2.
abbrev pub TakingsCome : Type 0
TakingsCome =
    (s : Scen) (t part : List Entry) (x : Site) (h : List Event) → IsRun s (part ++ t) → CanStart s t x h → Serves s t x part
    → (settings s x).adi + 2 ≤ now part → has_taking_write x (number h) part ≡ true

-- So is it under MANUAL: by then the operator was asked, or the taking is written (with GO, or where the owner signed off).
abbrev pub AsksCome : Type 0
AsksCome =
    (s : Scen) (t part : List Entry) (x : Site) (h : List Event) → IsRun s (part ++ t) → CanAsk s t x h → Serves s t x part
    → (settings s x).adi + 2 ≤ now part → (has_taking_write x (number h) part ≡ true) ⊎ (was_asked s t x part ≡ true)

-- WHAT IS STARTED GOES THROUGH, AND A RESTART IS DONE: one that can go through, and is served from there on, has declared
-- its restart, as owner, before the second TICK.
abbrev pub ThroughsCome : Type 0
ThroughsCome =
    (s : Scen) (t part : List Entry) (x : Site) (h : List Event) → IsRun s (part ++ t) → CanGo s t x h → Serves s t x part
    → 2 ≤ now part → has_restart x (number h) part ≡ true

-- THE TAKEOVER COMES: one that can start, beside an owner that is not Running or is confirmed, and is served from there on,
-- has declared its restart, as owner, before the TICK that is number ADI + 3.
abbrev pub TakeoversCome : Type 0
TakeoversCome =
    (s : Scen) (t part : List Entry) (x : Site) (h : List Event) → IsRun s (part ++ t) → CanStart s t x h → may_run t (control t) ≡ false
    → Serves s t x part → (settings s x).adi + 3 ≤ now part → has_restart x (number h) part ≡ true

-- HOW MANY ACTS IT TAKES. Each message of the ring is one, and each line of the command list; the scan reads each block of
-- the log once, and two more; and five acts undo what a slot of the log holds.
abbrev pub most_acts : Scen → Site → ℕ
most_acts s x = s.settings.ring + (settings s x).clt_lines + 5 * s.settings.log + s.settings.log / 64 + 2

-- one that does not rest has what is left of a sequence and of a round before it
abbrev pub before_rest : Option Act → ℕ
before_rest None = 0
before_rest (Some a) = 13

-- of a part that serves it so many acts of its own are enough for a through and its restart
abbrev pub through_acts : Scen → List Entry → Site → ℕ
through_acts s t x = most_acts s x + before_rest (next_act s t x) + 14

-- and so many for a takeover: those, and the rounds up to its taking
abbrev pub takeover_acts : Scen → List Entry → Site → ℕ
takeover_acts s t x = most_acts s x + before_rest (next_act s t x) + 7 * (settings s x).adi + 23

-- A THROUGH ENDS: after so many acts of its own one that can go through has declared its restart.
abbrev pub ThroughsEnd : Type 0
ThroughsEnd =
    (s : Scen) (t part : List Entry) (x : Site) (h : List Event) → IsScen s → IsRun s (part ++ t) → CanGo s t x h → Serves s t x part
    → through_acts s t x ≤ acts_of x part → has_restart x (number h) part ≡ true

-- A TAKEOVER ENDS: after so many acts of its own one that can start, beside an owner that is over, has declared its restart.
abbrev pub TakeoversEnd : Type 0
TakeoversEnd =
    (s : Scen) (t part : List Entry) (x : Site) (h : List Event) → IsScen s → IsRun s (part ++ t) → CanStart s t x h → may_run t (control t) ≡ false
    → Serves s t x part → takeover_acts s t x ≤ acts_of x part → has_restart x (number h) part ≡ true
