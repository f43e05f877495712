-- What a report may hold.
use Rattle.std.specs.Prelude.{◌≡◌, ◌≤◌, ℕ, zero, suc, Bool, true, false, List, length, reverse, Option, IfSome}
use Rattle.std.specs.List.{AllByRecursion}
use Rattle.xrf_base.specs.declared.site.Site.{Site}
use Rattle.xrf_base.specs.declared.site.Site.TheVariants.{A, B}
use Rattle.xrf_ctl.specs.Control.{IsControl}
use Rattle.xrf_world.specs.Report.{item_state, job_state, table_at, log_counts}
use Rattle.xrf_world.specs.declared.state.ItemState.{ItemState}
use Rattle.xrf_world.specs.declared.state.ItemState.TheVariants.{Answered}
use Rattle.xrf_world.specs.declared.state.JobState.{JobState}
use Rattle.xrf_world.specs.declared.state.JobState.TheVariants.{Restarting, Active, Tracking, Waiting, Ending}
use Rattle.xrf_world.specs.declared.state.LogCounts.{LogCounts}
use Rattle.xrf_setup.specs.Scenario.{Scen, work}
use Rattle.xrf_terms.specs.declared.rows.Row.{Row}
use Rattle.xrf_trace.specs.Devices.{control, image}
use Rattle.xrf_trace.specs.Words.{now, items_taken}
use Rattle.xrf_trace.specs.declared.entry.Entry.{Entry}
use Rattle.xrf_report.specs.Fits.{Is32, EntryFits, AnswerFits, RowFits, RecordsFit, ImagesFit}

abbrev pub StateFits : ItemState → Type 0
StateFits (Answered given) = AnswerFits given
StateFits _ = Unit {0}

-- the first so many items of a site
abbrev pub ItemsFit : Scen → List Entry → Site → ℕ → Type 0
ItemsFit s t x zero = Unit {0}
ItemsFit s t x (suc count) = ItemsFit s t x count × StateFits (item_state s t x (suc count))

-- no more items than the work of a site has
pub record TakenFit (s : Scen) (t : List Entry) (x : Site) : Type 0 where
  pub items : ItemsFit s t x (items_taken t x)
  pub few : items_taken t x ≤ length (work s x)

abbrev pub JobFits : JobState → Type 0
JobFits (Restarting inc) = Is32 inc
JobFits (Active inc) = Is32 inc
JobFits (Tracking inc) = Is32 inc
JobFits (Waiting inc) = Is32 inc
JobFits (Ending inc) = Is32 inc
JobFits _ = Unit {0}

-- at most 64 rows
abbrev pub TableFits : Option (List Row) → Type 0
TableFits table = IfSome table (λ (rows : List Row). AllByRecursion RowFits rows × (length rows ≤ 64))

abbrev pub CountsFit : LogCounts → Type 0
CountsFit c = Is32 c.records × Is32 c.committed × Is32 c.flight

-- what stands in the end: the numbers of its lines, and the rows of both tables
pub record StandingFits (s : Scen) (t : List Entry) : Type 0 where
  pub tick : Is32 (now t)
  pub control : IsControl (control t)
  pub job_a : JobFits (job_state s t A)
  pub job_b : JobFits (job_state s t B)
  pub table_a : TableFits (table_at s t A)
  pub table_b : TableFits (table_at s t B)
  pub log : CountsFit (log_counts t)

abbrev pub ImagesFitIf : Bool → Scen → List Entry → Type 0
ImagesFitIf true s t = ImagesFit s t
ImagesFitIf false s t = Unit {0}

pub record ReportFits (s : Scen) (t : List Entry) : Type 0 where
  pub entries : AllByRecursion EntryFits (reverse t)
  pub taken_a : TakenFit s t A
  pub taken_b : TakenFit s t B
  pub standing : StandingFits s t
  pub records : RecordsFit (image s t) s.settings.file
  pub images : ImagesFitIf s.settings.images s t
