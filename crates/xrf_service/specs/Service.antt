-- Service is back: by when a restart is declared where a site is served, and what stands at that moment.
use Rattle.std.specs.Prelude.{◌≡◌, ℕ, ◌+◌, ◌≤◌, true, false, List, [], ◌∷◌, ◌++◌, length, Some}
use Rattle.xrf_base.specs.declared.site.Site.{Site}
use Rattle.xrf_log.specs.Flight.{flight}
use Rattle.xrf_history.specs.Events.{Event}
use Rattle.xrf_history.specs.Holding.{number}
use Rattle.xrf_setup.specs.declared.ranges.TheConstants.{CHOICES_MOST}
use Rattle.xrf_trace.specs.declared.entry.Entry.{Entry}
use Rattle.xrf_trace.specs.Scenario.{Scen, IsScen, settings}
use Rattle.xrf_trace.specs.Words.{now}
use Rattle.xrf_trace.specs.Devices.{control}
use Rattle.xrf_trace.specs.Log.{log}
use Rattle.xrf_trace.specs.Jobs.{hist}
use Rattle.xrf_trace.specs.Runs.{IsRun}
use Rattle.xrf_trace.specs.FileIsBook.{IsBook}
use Rattle.xrf_trace.specs.TableIsTracked.{IsTracked}
use Rattle.xrf_trace.specs.TerminalsAreTold.{TakesOver}
use Rattle.xrf_trace.specs.ThroughByProof.{may_run}
use Rattle.xrf_progress.specs.Serving.{Serves, is_restart_of, has_restart, acts_of}
use Rattle.xrf_progress.specs.Takeovers.{CanStart, takeover_acts}
use Rattle.xrf_progress.specs.InPlace.{IsGranted, start_of}

-- An entry declares the restart of an incarnation at a site, and at that moment the file is the book, so it holds exactly what
-- the committed units put; no unit is in flight; and the terminals are those that the messages of the incarnation's epoch
-- track, settled, which are those of their sender where it had sent all.
pub record BringsBack (s : Scen) (t : List Entry) (e : Entry) (x : Site) (n : ℕ) : Type 0 where
  pub declares : is_restart_of x n e ≡ true
  pub history : List Event
  pub there : hist s t x ≡ Some history
  pub file : IsBook s t
  pub ended : flight (log t) ≡ []
  pub terminals : IsTracked s t e x history
  pub sender : TakesOver s t e x history

-- Service is back in a part that comes after a trace: it has such an entry.
pub record IsBack (s : Scen) (t part : List Entry) (x : Site) (n : ℕ) : Type 0 where
  pub later : List Entry
  pub entry : Entry
  pub earlier : List Entry
  pub parted : part ≡ later ++ entry ∷ earlier
  pub brings : BringsBack s (earlier ++ t) entry x n

-- a part after a trace ends a run of a length that the limits allow
abbrev pub EndsRun : Scen → List Entry → Type 0
EndsRun s t = IsScen s × IsRun s t × (length t ≤ CHOICES_MOST)

-- WHERE A RESTART IS DECLARED SERVICE IS BACK: by whichever way it comes, and by when.
abbrev pub RestartsBringBack : Type 0
RestartsBringBack =
    (s : Scen) (t part : List Entry) (x : Site) (n : ℕ) → EndsRun s (part ++ t) → has_restart x n part ≡ true → IsBack s t part x n

-- A TAKEOVER BRINGS SERVICE BACK: an alternate that can start one, beside an owner that is not Running or is confirmed, and is
-- served from there on, does so before the TICK that is number ADI + 3.
abbrev pub TakeoversBringBack : Type 0
TakeoversBringBack =
    (s : Scen) (t part : List Entry) (x : Site) (h : List Event) → EndsRun s (part ++ t) → CanStart s t x h → may_run t (control t) ≡ false
    → Serves s t x part → (settings s x).adi + 3 ≤ now part → IsBack s t part x (number h)

-- and within so many acts of its own
abbrev pub TakeoversBringBackBy : Type 0
TakeoversBringBackBy =
    (s : Scen) (t part : List Entry) (x : Site) (h : List Event) → EndsRun s (part ++ t) → CanStart s t x h → may_run t (control t) ≡ false
    → Serves s t x part → takeover_acts s t x ≤ acts_of x part → IsBack s t part x (number h)

-- A start in place that the record grants, and that is served from there on, does so before the first TICK after it.
abbrev pub StartsBringBack : Type 0
StartsBringBack =
    (s : Scen) (t part : List Entry) (x : Site) → EndsRun s (part ++ start_of s t x ∷ t) → IsGranted s t x → Serves s (start_of s t x ∷ t) x part
    → 1 ≤ now part → IsBack s (start_of s t x ∷ t) part x ((control t).last + 1)
