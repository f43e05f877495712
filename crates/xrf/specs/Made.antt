-- What is made of an input before anything is written.
use Rattle.std.specs.Prelude.{◌≡◌, ℕ, ◌≤◌, List, length, Result, Ok, Err}
use Rattle.xrf_setup.specs.Scenario.{Scen}
use Rattle.xrf_scenario.specs.Reading.{Reads}
use Rattle.xrf_scenario.specs.declared.numbered.Numbered.{Numbered}
use Rattle.xrf_trace.specs.declared.entry.Entry.{Entry}
use Rattle.xrf_trace.specs.Runs.{run}
use Rattle.xrf_trace.specs.Safe.{Safe}
use Rattle.xrf_trace.specs.Promises.{Promises}
use Rattle.xrf_world.specs.Runs.{Run}
use Rattle.xrf_report.specs.Document.{doc}
use Rattle.xrf_setup.specs.declared.ranges.TheConstants.{INPUT_MOST}
use Rattle.xrf.specs.Refusals.{plain, IsRefusal}
use Rattle.xrf_setup.specs.declared.choice.Choice.{Choice}
use Rattle.xrf.specs.declared.running.Stop.{Stop}
use Rattle.xrf.specs.declared.made.Made.{Made}
use Rattle.xrf.specs.declared.made.Made.TheVariants.{Document, Refusal, NoMemory}

-- THE HEADLINE of an input: its bytes spell a scenario and choices, the choices are a run, its trace is safe and keeps the
-- promises, and the text is their document.
pub record IsDocument (bytes text : List ℕ) : Type 0 where
  pub scenario : Scen
  pub choices : List Numbered
  pub size : length bytes ≤ INPUT_MOST
  pub reads : Reads bytes scenario choices
  pub trace : List Entry
  pub is_run : run scenario (plain choices) ≡ Ok trace
  pub safe : Safe scenario trace
  pub keeps : Promises scenario trace
  pub document : text ≡ doc scenario (plain choices)

-- All choices of a run were made, and the World has its trace; or the run stops at one.
abbrev pub RunGives : Run → List Choice → Result (Unit {0}) Stop → Run → Type 0
RunGives old choices (Ok done) new = (run old.scenario choices ≡ Ok new.trace) × (new.scenario ≡ old.scenario)
RunGives old choices (Err stop) new = run old.scenario choices ≡ Err (record { place = stop.place; reason = stop.reason })

-- What is made of an input is its document, which as an input has the same document; or its refusal,
-- unless memory runs out.
abbrev pub IsMade : List ℕ → Made → Type 0
IsMade bytes (Document text) = IsDocument bytes text.items × IsDocument text.items text.items
IsMade bytes (Refusal number reason) = IsRefusal bytes number reason
IsMade bytes NoMemory = Unit {0}
