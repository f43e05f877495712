-- The report of a run: its acts, the answers of the items, and what stands in the end.
use Rattle.std.specs.Prelude.{ℕ, Bool, true, false, List, [], ◌++◌, reverse, Option, Some, None}
use Rattle.xrf_base.specs.declared.site.Site.{Site}
use Rattle.xrf_base.specs.declared.site.Site.TheVariants.{A, B}
use Rattle.xrf_world.specs.Report.{job_state, table_at, log_counts}
use Rattle.xrf_setup.specs.Scenario.{Scen}
use Rattle.xrf_setup.specs.declared.format.Format.{Format}
use Rattle.xrf_terms.specs.declared.rows.Row.{Row}
use Rattle.xrf_trace.specs.Devices.{control, image}
use Rattle.xrf_trace.specs.Words.{now, items_taken}
use Rattle.xrf_trace.specs.declared.entry.Entry.{Entry}
use Rattle.xrf_report.specs.Entries.{acts_text}
use Rattle.xrf_report.specs.Files.{file_text}
use Rattle.xrf_report.specs.Images.{images_text}
use Rattle.xrf_report.specs.Items.{items_text}
use Rattle.xrf_report.specs.Jobs.{job_line}
use Rattle.xrf_report.specs.Standing.{tick_line, control_line, log_line, done_line}
use Rattle.xrf_report.specs.Terminals.{rows_text}

-- all items that a site has taken
abbrev pub taken_text : Scen → List Entry → Site → List ℕ
taken_text s t x = items_text s t x (items_taken t x)

-- the table of the job at a site, where one is there
abbrev pub table_text : Format → Site → Option (List Row) → List ℕ
table_text xrf x None = []
table_text xrf x (Some rows) = rows_text xrf x rows

abbrev pub table_of_site : Scen → List Entry → Site → List ℕ
table_of_site s t x = table_text s.settings.format x (table_at s t x)

-- tick, control record, jobs, terminal tables and log
abbrev pub standing_text : Scen → List Entry → List ℕ
standing_text s t =
    tick_line (now t)
    ++ control_line s.settings.format (control t)
    ++ job_line A (job_state s t A)
    ++ job_line B (job_state s t B)
    ++ table_of_site s t A
    ++ table_of_site s t B
    ++ log_line (log_counts t).records (log_counts t).committed (log_counts t).flight

-- the data sets, where IMAGES is ON
abbrev pub images_if : Bool → Scen → List Entry → List ℕ
images_if true s t = images_text s t
images_if false s t = []

-- the acts, the items of A and of B, what stands in the end, the records of the file, the data sets, and the last line
abbrev pub report : Scen → List Entry → List ℕ
report s t =
    acts_text s 1 (reverse t)
    ++ taken_text s t A
    ++ taken_text s t B
    ++ standing_text s t
    ++ file_text (image s t) s.settings.file
    ++ images_if s.settings.images s t
    ++ done_line
