-- A site that is served alone: it makes its next act, and where it has none a TICK comes.
use Rattle.std.specs.Prelude.{◌≡◌, ℕ, zero, suc, ◌+◌, true, false, List, [], ◌∷◌, ◌++◌, Option, Some, None}
use Rattle.xrf_base.specs.declared.site.Site.{Site}
use Rattle.xrf_history.specs.Events.{Event}
use Rattle.xrf_history.specs.Holding.{number}
use Rattle.xrf_setup.specs.declared.choice.Choice.{Choice}
use Rattle.xrf_setup.specs.declared.choice.Choice.TheVariants as choice
use Rattle.xrf_trace.specs.declared.entry.Entry.{Entry}
use Rattle.xrf_trace.specs.declared.entry.Act.{Act}
use Rattle.xrf_trace.specs.Scenario.{Scen, IsScen, settings, other}
use Rattle.xrf_trace.specs.Devices.{control}
use Rattle.xrf_trace.specs.Jobs.{hist}
use Rattle.xrf_trace.specs.Acts.{next_act}
use Rattle.xrf_trace.specs.Entries.{entry}
use Rattle.xrf_trace.specs.Runs.{IsRun}
use Rattle.xrf_trace.specs.ThroughByProof.{may_run}
use Rattle.xrf_progress.specs.Serving.{has_restart}
use Rattle.xrf_progress.specs.Takeovers.{CanStart, CanGo, through_acts, takeover_acts}

-- the choice: STEP where it has a next act, else TICK
abbrev pub choice_for : Site → Option Act → Choice
choice_for x (Some a) = choice.Step x
choice_for x None = choice.Tick

-- the part that some such choices make, the newest entry first
abbrev pub served : Scen → List Entry → Site → ℕ → List Entry
served s t x zero = []
served s t x (suc k) = entry s (served s t x k ++ t) (choice_for x (next_act s (served s t x k ++ t) x)) ∷ served s t x k

-- Where the other site has no job each of these choices is accepted, and so many of them make a run.
abbrev pub AreAccepted : Type 0
AreAccepted = (s : Scen) (t : List Entry) (x : Site) (k : ℕ) → IsRun s t → hist s t (other x) ≡ None → IsRun s (served s t x k ++ t)

-- so many choices are enough for a through: its acts, and the TICK between them
abbrev pub through_choices : Scen → List Entry → Site → ℕ
through_choices s t x = through_acts s t x + 1

-- and so many for a takeover: its acts, and the TICKs between them
abbrev pub takeover_choices : Scen → List Entry → Site → ℕ
takeover_choices s t x = takeover_acts s t x + (settings s x).adi + 2

-- IT IS REACHED: after so many of them one that can go through has declared its restart.
abbrev pub ThroughsAreReached : Type 0
ThroughsAreReached =
    (s : Scen) (t : List Entry) (x : Site) (h : List Event) → IsScen s → IsRun s t → hist s t (other x) ≡ None → CanGo s t x h
    → has_restart x (number h) (served s t x (through_choices s t x)) ≡ true

-- A takeover is reached: after so many of them one that can start, beside an owner that is over, has declared its restart.
abbrev pub TakeoversAreReached : Type 0
TakeoversAreReached =
    (s : Scen) (t : List Entry) (x : Site) (h : List Event) → IsScen s → IsRun s t → hist s t (other x) ≡ None → CanStart s t x h
    → may_run t (control t) ≡ false → has_restart x (number h) (served s t x (takeover_choices s t x)) ≡ true
