-- What is read of a document, and how long it is.
use Rattle.std.proofs.Common.{◌≡◌, ◌≤◌, ◌<◌, ◌+◌, ◌*◌, ℕ, suc, refl, List, [], ◌∷◌, ◌++◌, length, map, reverse, Result, Ok, Err, OnOk, sym, ap, ◌∙◌, subst, arith}
use Rattle.std.specs.List.{AllByRecursion}
use Rattle.std.proofs.lemmas.Grind.{flat_map-append}
use Rattle.std.proofs.lemmas.List.{length-append, length-reverse, length-map, append_assoc}
use Rattle.xrf_base.specs.declared.site.Site.TheVariants.{A, B}
use Rattle.xrf_grammar.specs.LineText.{line_text}
use Rattle.xrf_grammar.specs.Spelling.{choice_text}
use Rattle.xrf_grammar.specs.declared.line.Line.TheVariants.{Choices, End}
use Rattle.xrf_scenario.proofs.CanonLaws.{read_again}
use Rattle.xrf_scenario.specs.Canonical.{fed, text_of, scenario_lines, choice_lines, canon, at_lines, AreChoices, IsReport}
use Rattle.xrf_scenario.specs.Reading.{Reads}
use Rattle.xrf_setup.specs.Scenario.{Scen, IsScen}
use Rattle.xrf_setup.specs.declared.choice.Choice.{Choice}
use Rattle.xrf_trace.specs.Devices.{image}
use Rattle.xrf_trace.specs.Runs.{run, Refusal}
use Rattle.xrf_trace.specs.declared.entry.Entry.{Entry}
use Rattle.xrf_report.specs.Document.{doc, document_of, ReadsAgain}
use Rattle.xrf_report.specs.Entries.{acts_text}
use Rattle.xrf_report.specs.Files.{file_text}
use Rattle.xrf_report.specs.Fits.{EntryFits}
use Rattle.xrf_report.specs.Report.{taken_text, standing_text, images_if, report}
use Rattle.xrf_report.specs.ReportFits.{ReportFits}
use Rattle.xrf_report.specs.Standing.{done_line}
use Rattle.xrf_report.proofs.ActLaws.{Makes, AreTold, runs-make, acts-told}
use Rattle.xrf_report.proofs.ImageLaws.{grown-by}
use Rattle.xrf_report.proofs.Lines.{both-lines}
use Rattle.xrf_report.proofs.ReportLaws.{behind_acts, behind-acts-told}
use Rattle.xrf_report.proofs.ScenarioSize.{scenario-size}

-- as many entries as choices
made-length : (s : Scen) (cs : List Choice) (es : List Entry) → Makes s cs es → length es ≡ length cs
made-length s [] [] made = refl
made-length s (c ∷ cs) (e ∷ es) made = ap (λ (n : ℕ). suc n) (made-length s cs es made.1)
made-length s [] (e ∷ es) made = absurd made
made-length s (c ∷ cs) [] made = absurd made

-- the entries of a run, as lines
run-told : (s : Scen) (choices : List Choice) (t : List Entry) → IsScen s → AreChoices choices → run s choices ≡ Ok t → ReportFits s t
    → AreTold s 1 choices (reverse t) × (length (reverse t) ≡ length choices)
run-told s choices t is are ran fits =
    let made = runs-make s [] 0 choices t ran in
    let same : reverse t ≡ made.0 = made.1.1 in
    let makes : Makes s choices (reverse t) = subst (Makes s choices) (sym same) made.1.0 in
    let long = made-length s choices (reverse t) makes in
    let few : length choices ≤ 8192 = are.few in
    (acts-told s 1 choices (reverse t) is (omega arith) are.each fits.entries makes, long)

-- a report is its acts, and what stands behind them
report-parts : (s : Scen) (t : List Entry) → report s t ≡ acts_text s 1 (reverse t) ++ behind_acts s t
report-parts s t =
    let acts = acts_text s 1 (reverse t) in
    let a = taken_text s t A in
    let b = taken_text s t B in
    let standing = standing_text s t in
    let file = file_text (image s t) s.settings.file in
    let images = images_if s.settings.images s t in
    ap (λ (r : List ℕ). r ++ standing ++ file ++ images ++ done_line) (append_assoc acts a b)
    ∙ ap (λ (r : List ℕ). r ++ file ++ images ++ done_line) (append_assoc acts (a ++ b) standing)
    ∙ ap (λ (r : List ℕ). r ++ images ++ done_line) (append_assoc acts (a ++ b ++ standing) file)
    ∙ ap (λ (r : List ℕ). r ++ done_line) (append_assoc acts (a ++ b ++ standing ++ file) images)
    ∙ append_assoc acts (a ++ b ++ standing ++ file ++ images) done_line

-- a document, by its parts
document-parts : (s : Scen) (choices : List Choice) (t : List Entry) → run s choices ≡ Ok t → doc s choices ≡ canon s choices ++ report s t
document-parts s choices t ran = ap (document_of s choices) ran

-- A report is lines that may stand behind END.
report-lines : (s : Scen) (choices : List Choice) (t : List Entry) → IsScen s → AreChoices choices → run s choices ≡ Ok t → ReportFits s t → IsReport (report s t)
report-lines s choices t is are ran fits =
    subst IsReport (sym (report-parts s t)) (both-lines (run-told s choices t is are ran fits).0.report (behind-acts-told s t is fits).report)

-- A document is read again as what it is written of, each choice at its line.
pub document-again : (s : Scen) (choices : List Choice) (t : List Entry) → IsScen s → AreChoices choices → run s choices ≡ Ok t → ReportFits s t
    → ReadsAgain s choices (doc s choices)
document-again s choices t is are ran fits =
    subst (λ (bytes : List ℕ). Reads bytes s (at_lines s choices)) (sym (document-parts s choices t ran))
    (read_again s choices (report s t) is are (report-lines s choices t is are ran fits))

-- how long the lines of the choices are
choices-length : (choices : List Choice) → length (text_of (choice_lines choices)) ≡ 12 + length (text_of (map choice_text choices))
choices-length choices =
    let end : List (List ℕ) = line_text End ∷ [] in
    let whole : length (text_of (map choice_text choices ++ end)) ≡ length (text_of (map choice_text choices)) + length (text_of end) =
    ap length (flat_map-append fed (map choice_text choices) end) ∙ length-append (text_of (map choice_text choices)) (text_of end) in
    let head : length (fed (line_text Choices) ++ text_of (map choice_text choices ++ end)) ≡ length (fed (line_text Choices)) + length (text_of (map choice_text choices ++ end)) =
    length-append (fed (line_text Choices)) (text_of (map choice_text choices ++ end)) in
    omega arith

-- A document has fewer bytes than an input may have.
pub document-short : (s : Scen) (choices : List Choice) (t : List Entry) → IsScen s → AreChoices choices → run s choices ≡ Ok t → ReportFits s t
    → length (doc s choices) < 4194304
document-short s choices t is are ran fits =
    let told = run-told s choices t is are ran fits in
    let few : length choices ≤ 8192 = are.few in
    let long : length (reverse t) ≡ length choices = told.1 in
    let acts : length (text_of (map choice_text choices)) + length (acts_text s 1 (reverse t)) ≤ 398 * length (reverse t) = told.0.short in
    let rest : length (behind_acts s t) ≤ 406636 = (behind-acts-told s t is fits).short in
    let scenario = scenario-size s is in
    let made = choices-length choices in
    let whole : length (doc s choices) ≡ length (canon s choices) + length (report s t) =
    ap length (document-parts s choices t ran) ∙ length-append (canon s choices) (report s t) in
    let canonical : length (canon s choices) ≡ length (text_of (scenario_lines s)) + length (text_of (choice_lines choices)) =
    length-append (text_of (scenario_lines s)) (text_of (choice_lines choices)) in
    let reported : length (report s t) ≡ length (acts_text s 1 (reverse t)) + length (behind_acts s t) =
    ap length (report-parts s t) ∙ length-append (acts_text s 1 (reverse t)) (behind_acts s t) in
    omega arith

-- a report that was written up to its last line
abbrev pub before_done : Scen → List Entry → List ℕ
before_done s t =
    acts_text s 1 (reverse t) ++ taken_text s t A ++ taken_text s t B ++ standing_text s t ++ file_text (image s t) s.settings.file ++ images_if s.settings.images s t

pub report-done : (start : List ℕ) (s : Scen) (t : List Entry) {before new : List ℕ} → new ≡ before ++ done_line → before ≡ start ++ before_done s t → new ≡ start ++ report s t
report-done start s t {before} {new} grew was = grown-by start (before_done s t) done_line grew was

pub report-ok : {T E : Type 0} (r : Result T E) (start before new : List ℕ) (s : Scen) (t : List Entry) → OnOk r (new ≡ before ++ done_line)
    → before ≡ start ++ before_done s t
    → OnOk r (new ≡ start ++ report s t)
report-ok (Ok done) start before new s t grew was = report-done start s t grew was
report-ok (Err why) start before new s t grew was = tt
