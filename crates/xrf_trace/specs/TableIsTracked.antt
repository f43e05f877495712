-- Table is tracked: right after each RESTARTED the terminal table is the one that the messages of the
-- incarnation's epoch track, settled.
use Rattle.std.specs.Prelude.{◌≡◌, List, [], ◌∷◌}
use Rattle.xrf_base.specs.declared.site.Site.{Site}
use Rattle.xrf_terms.specs.Tracking.{settled}
use Rattle.xrf_history.specs.Events.{Event, RestartDeclared}
use Rattle.xrf_history.specs.Holding.{starts_active}
use Rattle.xrf_history.specs.Terminals.{table}
use Rattle.xrf_trace.specs.declared.entry.Entry.{Entry}
use Rattle.xrf_trace.specs.Scenario.{Scen, settings}
use Rattle.xrf_trace.specs.Tracking.{tracked}
use Rattle.xrf_trace.specs.FileIsBook.{is_restart}
use Rattle.xrf_trace.specs.Each.{Each, Where, AtSite}

-- for a start in place both are empty
abbrev pub IsTracked : Scen → List Entry → Entry → Site → List Event → Type 0
IsTracked s t e x h =
    (table (settings s x) (RestartDeclared ∷ h) ≡ settled s.settings.force (tracked (e ∷ t) e.inc))
    × Where (starts_active h) ((table (settings s x) (RestartDeclared ∷ h) ≡ []) × (tracked (e ∷ t) e.inc ≡ []))

abbrev pub RestartsTracked : Scen → List Entry → Entry → Type 0
RestartsTracked s t e = Where (is_restart e.act) (AtSite s t e.who (IsTracked s t e))

abbrev pub TableIsTracked : Scen → List Entry → Type 0
TableIsTracked s t = Each (RestartsTracked s) t
