-- What is written is the document of a run whose report fits.
use Rattle.std.proofs.Common.{◌∙◌, ◌≡◌, ◌++◌, ◌<◌, List, ℕ, length, ap, sym, subst}
use Rattle.xrf_report.specs.Document.{doc, document_of, ReadsAgain}
use Rattle.xrf_report.specs.Report.{report}
use Rattle.xrf_report.proofs.DocumentLaws.{document-again, document-short}
use Rattle.xrf_scenario.specs.Canonical.{canon}
use Rattle.xrf_report.proofs.whole.document.Goals as goal

-- the bytes are those of the document
is-document : (c : goal.In_ok-put_report) → c.put_report.new.out.items ≡ doc c.args.scenario.now c.args.choices.now
is-document c =
    c.in_ok-put_report.ensures.text
    ∙ ap (λ (before : List ℕ). before ++ report c.args.scenario.now c.args.world.now.trace)
    (c.in_ok-put_canonical.ensures.text ∙ ap (λ (before : List ℕ). before ++ canon c.args.scenario.now c.args.choices.now) c.in_ok-out.ensures.items)
    ∙ sym (ap (document_of c.args.scenario.now c.args.choices.now) c.requires.run)

pub returns-clause-document : goal.returns-clause-document
returns-clause-document c = is-document c

pub returns-clause-again : goal.returns-clause-again
returns-clause-again c =
    subst (ReadsAgain c.args.scenario.now c.args.choices.now) (sym (is-document c))
    (document-again c.args.scenario.now c.args.choices.now c.args.world.now.trace c.put_canonical.ensures.scenario c.requires.choices c.requires.run c.in_ok-put_report.ensures.fits)

pub returns-clause-size : goal.returns-clause-size
returns-clause-size c =
    subst (λ (text : List ℕ). length text < 4194304) (sym (is-document c))
    (document-short c.args.scenario.now c.args.choices.now c.args.world.now.trace c.put_canonical.ensures.scenario c.requires.choices c.requires.run c.in_ok-put_report.ensures.fits)
