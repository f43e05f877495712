-- The document of a scenario and its choices: the canonical text, and the report of their run.
use Rattle.std.specs.Prelude.{ℕ, List, [], ◌++◌, Result, Ok, Err}
use Rattle.xrf_scenario.specs.Canonical.{canon, at_lines}
use Rattle.xrf_scenario.specs.Reading.{Reads}
use Rattle.xrf_setup.specs.Scenario.{Scen}
use Rattle.xrf_setup.specs.declared.choice.Choice.{Choice}
use Rattle.xrf_trace.specs.Runs.{run, Refusal}
use Rattle.xrf_trace.specs.declared.entry.Entry.{Entry}
use Rattle.xrf_report.specs.Report.{report}

-- of choices that are refused there is none
abbrev pub document_of : Scen → List Choice → Result (List Entry) Refusal → List ℕ
document_of s choices (Ok t) = canon s choices ++ report s t
document_of s choices (Err refusal) = []

-- the document of a scenario and its choices: the canonical text, and the report of their run
abbrev pub doc : Scen → List Choice → List ℕ
doc s choices = document_of s choices (run s choices)

-- A text is read as a scenario and choices, each choice at its line in the canonical text.
abbrev pub ReadsAgain : Scen → List Choice → List ℕ → Type 0
ReadsAgain s choices text = Reads text s (at_lines s choices)
