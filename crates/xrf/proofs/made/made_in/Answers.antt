use Rattle.std.proofs.Common.{ap, sym, ◌∙◌}
use Rattle.xrf_trace.specs.Runs.{run}
use Rattle.xrf_laws.proofs.EveryRun.{of_choices}
use Rattle.xrf_world.specs.Runs.{Run}
use Rattle.xrf_report.specs.Document.{doc}
use Rattle.xrf.specs.Refusals.{plain}
use Rattle.xrf.proofs.MadeLaws.{document-of-itself, few-entries}
use Rattle.xrf.proofs.made.made_in.Goals as goal

pub returns-in_ok-document-in-Ok : goal.returns-in_ok-document-in-Ok
returns-in_ok-document-in-Ok c =
    let s = c.args.scenario.now in
    let choices = plain c.args.numbered.now in
    let ran =
    sym (ap (λ (w : Run). run w.scenario choices) c.requires.fresh)
    ∙ ap (run c.args.world.now.scenario) (sym c.requires.plain) ∙ c.in-Ok.ensures.gives.0 in
    let document = c.in_ok-document-in-Ok.ensures.document ∙ ap (doc s) c.requires.plain in
    let keeps = of_choices s choices c.make_all.new.world.trace c.requires.scenario ran
    (few-entries s choices c.make_all.new.world.trace ran c.requires.choices.few) in
    λ bytes size reads. (
      record { scenario = s; choices = c.args.numbered.now; size = size; reads = reads; trace = c.make_all.new.world.trace; is_run = ran; safe = keeps.0; keeps = keeps.1; document = document },
      document-of-itself s c.args.choices.now c.make_all.new.world.trace c.in_ok-document-in-Ok.field-0.items
          (ap (run s) c.requires.plain ∙ ran) keeps c.in_ok-document-in-Ok.ensures.document
          c.in_ok-document-in-Ok.ensures.again c.in_ok-document-in-Ok.ensures.size,
    )
