-- What stands in the end, one line after the other.
use Rattle.std.proofs.Common.{◌++◌, ◌∙◌, ℕ, List, ap}
use Rattle.xrf_base.specs.declared.site.Site.TheVariants.{A, B}
use Rattle.xrf_ctl.specs.Control.{ControlRecord}
use Rattle.xrf_report.specs.Jobs.{job_line}
use Rattle.xrf_report.specs.Report.{table_of_site}
use Rattle.xrf_report.specs.Standing.{tick_line, control_line, log_line}
use Rattle.xrf_report.proofs.ImageLaws.{grown-by, on-ok}
use Rattle.xrf_world.specs.Report.{job_state, log_counts}
use Rattle.xrf_world.specs.declared.state.JobState.{JobState}
use Rattle.xrf_world.specs.declared.state.LogCounts.{LogCounts}
use Rattle.xrf_setup.specs.Scenario.{Scen}
use Rattle.xrf_setup.specs.declared.format.Format.{Format}
use Rattle.xrf_trace.specs.Devices.{control}
use Rattle.xrf_trace.specs.Words.{now}
use Rattle.xrf_report.proofs.reporting.put_standing.Goals as goal

pub returns-clause-text : goal.returns-clause-text
returns-clause-text c =
    let s = c.args.scenario.now in
    let t = c.args.world.now.trace in
    let start = c.args.out.now.items in
    let tick = tick_line (now t) in
    let record_line = control_line s.settings.format (control t) in
    let a = job_line A (job_state s t A) in
    let b = job_line B (job_state s t B) in
    let of_a = table_of_site s t A in
    let of_b = table_of_site s t B in
    let log = log_line (log_counts t).records (log_counts t).committed (log_counts t).flight in
    let one = c.in_ok-put_tick_line.ensures.text ∙ ap (λ (n : ℕ). start ++ tick_line n) c.now.ensures in
    let two =
    grown-by start tick record_line
    (c.in_ok-put_control_line.ensures.text ∙ ap (λ (xrf : Format). c.put_tick_line.new.out.items ++ control_line xrf c.control.result) c.format.ensures.format
    ∙ ap (λ (r : ControlRecord). c.put_tick_line.new.out.items ++ control_line s.settings.format r) c.control.ensures)
    one in
    let three =
    grown-by start (tick ++ record_line) a
    (c.in_ok-put_job_line.ensures.text ∙ ap (λ (j : JobState). c.put_control_line.new.out.items ++ job_line A j) c.job.ensures
    ∙ ap (λ (w : Scen). c.put_control_line.new.out.items ++ job_line A (job_state w t A)) c.requires)
    two in
    let four =
    grown-by start (tick ++ record_line ++ a) b
    (c.in_ok-put_job_line-2.ensures.text ∙ ap (λ (j : JobState). c.put_job_line.new.out.items ++ job_line B j) c.job-2.ensures
    ∙ ap (λ (w : Scen). c.put_job_line.new.out.items ++ job_line B (job_state w t B)) c.requires)
    three in
    let five = grown-by start (tick ++ record_line ++ a ++ b) of_a c.in_ok-put_table.ensures.text four in
    let six = grown-by start (tick ++ record_line ++ a ++ b ++ of_a) of_b c.in_ok-put_table-2.ensures.text five in
    on-ok c.put_log_line.result
    (λ grew.
    grown-by start (tick ++ record_line ++ a ++ b ++ of_a ++ of_b) log
    (grew ∙ ap (λ (l : LogCounts). c.put_table-2.new.out.items ++ log_line l.records l.committed l.flight) c.log_counts-log.ensures) six)
    c.put_log_line.ensures.text
