-- A start in place: a region that is started as active, where the record grants it, declares its restart.
use Rattle.std.specs.Prelude.{◌≡◌, ℕ, ◌+◌, ◌*◌, ◌/◌, ◌≤◌, true, List, ◌∷◌, ◌++◌}
use Rattle.xrf_base.specs.declared.site.Site.{Site}
use Rattle.xrf_setup.specs.declared.choice.Choice.TheVariants as choice
use Rattle.xrf_trace.specs.declared.entry.Entry.{Entry}
use Rattle.xrf_trace.specs.Scenario.{Scen, IsScen, settings}
use Rattle.xrf_trace.specs.Words.{now}
use Rattle.xrf_trace.specs.Devices.{control}
use Rattle.xrf_trace.specs.Entries.{entry}
use Rattle.xrf_trace.specs.Jobs.{known_of}
use Rattle.xrf_trace.specs.Runs.{IsRun}
use Rattle.xrf_trace.specs.ThroughByProof.{may_sign_on}
use Rattle.xrf_progress.specs.Serving.{Serves, has_restart, acts_of}

-- the START of a site as active
abbrev pub start_of : Scen → List Entry → Site → Entry
start_of s t x = entry s t (choice.StartActive x)

-- The record grants it: its level reads the format, and neither an owner that is Running nor an alternate is unconfirmed.
abbrev pub IsGranted : Scen → List Entry → Site → Type 0
IsGranted s t x = may_sign_on (settings s x).level (control t) (known_of t (control t)) ≡ true

-- A START as active that the record grants, after whatever stops, and a part that serves the site from there on: with so many
-- acts it has declared its restart as the owner.
abbrev pub start_acts : Scen → ℕ
start_acts s = 5 * s.settings.log + s.settings.log / 64 + 14

abbrev pub StartsRestart : Type 0
StartsRestart =
    (s : Scen) (t part : List Entry) (x : Site) → IsScen s → IsRun s (part ++ start_of s t x ∷ t) → IsGranted s t x → Serves s (start_of s t x ∷ t) x part
    → start_acts s ≤ acts_of x part → has_restart x ((control t).last + 1) part ≡ true

-- Such a START comes to its restart before the first TICK after it.
abbrev pub StartsAreAtOnce : Type 0
StartsAreAtOnce =
    (s : Scen) (t part : List Entry) (x : Site) → IsRun s (part ++ start_of s t x ∷ t) → IsGranted s t x → Serves s (start_of s t x ∷ t) x part
    → 1 ≤ now part → has_restart x ((control t).last + 1) part ≡ true
