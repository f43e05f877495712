-- The report, one part after the other.
use Rattle.std.proofs.Common.{◌++◌, ◌∙◌, ℕ, List, ap}
use Rattle.xrf_base.specs.declared.site.Site.TheVariants.{A, B}
use Rattle.xrf_report.specs.Entries.{acts_text}
use Rattle.xrf_report.specs.Files.{file_text}
use Rattle.xrf_report.specs.Report.{taken_text, standing_text, images_if}
use Rattle.xrf_report.proofs.DocumentLaws.{report-ok}
use Rattle.xrf_report.proofs.ImageLaws.{grown-by}
use Rattle.xrf_setup.specs.Scenario.{Scen}
use Rattle.xrf_trace.specs.Devices.{image}
use Rattle.xrf_trace.specs.declared.entry.Entry.{Entry}
use Rattle.std.proofs.Common.{reverse}
use Rattle.xrf_report.proofs.reporting.put_report.Goals as goal

pub returns-clause-text : goal.returns-clause-text
returns-clause-text c =
    let s = c.args.scenario.now in
    let t = c.args.world.now.trace in
    let start = c.args.out.now.items in
    let acts = acts_text s 1 (reverse t) in
    let a = taken_text s t A in
    let b = taken_text s t B in
    let standing = standing_text s t in
    let file = file_text (image s t) s.settings.file in
    let images = images_if s.settings.images s t in
    let one = c.in_ok-put_acts.ensures.text ∙ ap (λ (es : List Entry). start ++ acts_text s 1 es) c.journal.ensures.journal in
    let two =
    grown-by start acts a (c.in_ok-put_taken.ensures.text ∙ ap (λ (w : Scen). c.put_acts.new.out.items ++ taken_text w t A) c.requires) one in
    let three =
    grown-by start (acts ++ a) b (c.in_ok-put_taken-2.ensures.text ∙ ap (λ (w : Scen). c.put_taken.new.out.items ++ taken_text w t B) c.requires) two in
    let four = grown-by start (acts ++ a ++ b) standing c.in_ok-put_standing.ensures.text three in
    let five = grown-by start (acts ++ a ++ b ++ standing) file c.in_ok-put_records.ensures.text four in
    let six = grown-by start (acts ++ a ++ b ++ standing ++ file) images c.in_ok-put_images_if.ensures.text five in
    report-ok c.put_done_line.result start c.put_images_if.new.out.items c.put_done_line.new.out.items s t c.put_done_line.ensures six
