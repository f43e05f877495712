-- What the trace says of a site's units is what its job knows.
use Rattle.std.specs.Prelude.{List, ◌≡◌, ◌&&◌}
use Rattle.xrf_base.specs.declared.site.Site.{Site}
use Rattle.xrf_history.specs.Events.{Event}
use Rattle.xrf_history.specs.Holding.{is_restarted}
use Rattle.xrf_history.specs.Working.{ledger}
use Rattle.xrf_history.specs.Progress.{is_active}
use Rattle.xrf_trace.specs.declared.entry.Entry.{Entry}
use Rattle.xrf_trace.specs.Scenario.{Scen, settings}
use Rattle.xrf_trace.specs.Items.{ledger_at}
use Rattle.xrf_trace.specs.Each.{Where, OfJob}
use Rattle.xrf_trace.specs.Jobs.{hist}
use Rattle.xrf_log_law.specs.Soundness.{is_sound}

-- The ledger of a job at work is the trace's. After a failed act of its own a job counts what it tried, and does nothing more
-- to the data.
abbrev pub LedgerIs : Scen → List Entry → Site → List Event → Type 0
LedgerIs s t x h = Where (is_active h && is_sound h && is_restarted h) (ledger_at s t x ≡ ledger (settings s x) h)

-- of the job of each site
abbrev pub LedgersAgree : Scen → List Entry → Type 0
LedgersAgree s t = (x : Site) → OfJob (hist s t x) (LedgerIs s t x)
