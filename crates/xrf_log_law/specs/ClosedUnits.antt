-- Closed units: a unit whose COMMIT or ROLL was answered, of which no Put and no Commit is logged any more.
use Rattle.std.specs.Prelude.{IfSome, List, true, ◌≡◌, ◌≤◌}
use Rattle.xrf_base.specs.declared.site.Site.{Site}
use Rattle.xrf_base.specs.declared.items.UnitId.{UnitId}
use Rattle.xrf_file.specs.Ledger.{Ledger}
use Rattle.xrf_history.specs.Events.{Event}
use Rattle.xrf_history.specs.Holding.{is_granted, is_restarted, number}
use Rattle.xrf_history.specs.Working.{ledger}
use Rattle.xrf_history.specs.declared.settings.Settings.{Settings}
use Rattle.xrf_trace.specs.declared.entry.Entry.{Entry}
use Rattle.xrf_trace.specs.Scenario.{Scen, settings}
use Rattle.xrf_trace.specs.Devices.{control}
use Rattle.xrf_trace.specs.Jobs.{hist}
use Rattle.xrf_log_law.specs.AtWork.{IsOpenUnit}

-- a unit that a ledger has had and that is open no more
pub record IsShut (l : Ledger) (unit : UnitId) : Type 0 where
  pub begun : unit.serial ≤ l.begun
  pub shut : IsOpenUnit unit l.units → ⊥

-- a job of the unit's incarnation is at work, and has it shut
abbrev pub ShutFor : Settings → UnitId → List Event → Type 0
ShutFor p unit h = is_granted h ≡ true → number h ≡ unit.inc → (is_restarted h ≡ true) × IsShut (ledger p h) unit

-- the unit's incarnation was given, and so is no later one's
pub record IsClosed (s : Scen) (t : List Entry) (unit : UnitId) : Type 0 where
  pub used : unit.inc ≤ (control t).last
  pub jobs : (x : Site) → IfSome (hist s t x) (ShutFor (settings s x) unit)
