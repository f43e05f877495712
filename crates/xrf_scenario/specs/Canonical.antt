-- The canonical text of a scenario and its choices.
use Rattle.std.specs.Prelude.{◌≡◌, ◌≤◌, ℕ, ◌+◌, List, [], ◌∷◌, ◌++◌, length, map, flat_map}
use Rattle.std.specs.List.{AllByRecursion}
use Rattle.xrf_base.specs.declared.items.Item.{Item}
use Rattle.xrf_base.specs.declared.site.Site.TheVariants.{A, B}
use Rattle.xrf_clt.specs.Kept.{Kept}
use Rattle.xrf_grammar.specs.LineText.{header_text, line_text}
use Rattle.xrf_grammar.specs.Spelling.{choice_text}
use Rattle.xrf_setup.specs.Choices.{HasLine}
use Rattle.xrf_setup.specs.declared.choice.Choice.{Choice}
use Rattle.xrf_setup.specs.declared.ranges.TheConstants.{CHOICES_MOST}
use Rattle.xrf_grammar.specs.declared.line.Line.TheVariants.{Record, Work, Plan, Choices, End}
use Rattle.xrf_scenario.specs.Reading.{Reads}
use Rattle.xrf_setup.specs.Scenario.{Scen, IsScen}
use Rattle.xrf_scenario.specs.SettingLines.{setting_lines}
use Rattle.xrf_setup.specs.Commands.{kept_line}
use Rattle.xrf_scenario.specs.Taking.{numbered}
use Rattle.xrf_scenario.specs.declared.numbered.Numbered.{Numbered}

-- a line with its line feed
abbrev pub fed : List ℕ → List ℕ
fed line = line ++ 10 ∷ []

-- lines with their line feeds, one after the other
abbrev pub text_of : List (List ℕ) → List ℕ
text_of lines = flat_map fed lines

-- the parts of a scenario, as lines
abbrev pub record_lines : List (ℕ × List ℕ) → List (List ℕ)
record_lines records = map (λ (r : ℕ × List ℕ). line_text (Record r.0 r.1)) records

abbrev pub clt_lines : List Kept → List (List ℕ)
clt_lines clt = map kept_line clt

abbrev pub plan_lines : List (ℕ × Choice) → List (List ℕ)
plan_lines plan = map (λ (p : ℕ × Choice). line_text (Plan p.0 p.1)) plan

-- The header; every setting; the records by number; the command list; the work of A, then that of
-- B; the plan.
abbrev pub scenario_lines : Scen → List (List ℕ)
scenario_lines s =
    header_text s.settings.format ∷ map line_text (setting_lines s.settings)
    ++ record_lines s.records
    ++ clt_lines s.clt
    ++ map (λ (i : Item). line_text (Work A i)) s.work_a
    ++ map (λ (i : Item). line_text (Work B i)) s.work_b
    ++ plan_lines s.plan

-- CHOICES, one line for each choice, without counts, and END
abbrev pub choice_lines : List Choice → List (List ℕ)
choice_lines choices = line_text Choices ∷ map choice_text choices ++ line_text End ∷ []

abbrev pub canon : Scen → List Choice → List ℕ
canon s choices = text_of (scenario_lines s) ++ text_of (choice_lines choices)

-- the choices, each at the number of its line, from a number on
abbrev pub numbered_from : ℕ → List Choice → List Numbered
numbered_from number [] = []
numbered_from number (choice ∷ choices) = numbered number choice ∷ numbered_from (number + 1) choices

-- the choices at their lines in the canonical text
abbrev pub at_lines : Scen → List Choice → List Numbered
at_lines s choices = numbered_from (length (scenario_lines s) + 2) choices

-- lines that may stand behind END: each begins with `*` (byte 42), and has no line feed and no
-- carriage return
pub record IsReportLine (line : List ℕ) : Type 0 where
  pub rest : List ℕ
  pub marked : line ≡ 42 ∷ rest
  pub bytes : AllByRecursion (λ (b : ℕ). 32 ≤ b) rest

pub record IsReport (text : List ℕ) : Type 0 where
  pub lines : List (List ℕ)
  pub each : AllByRecursion IsReportLine lines
  pub fed : text ≡ text_of lines

-- choices that a text can hold
pub record AreChoices (choices : List Choice) : Type 0 where
  pub each : AllByRecursion HasLine choices
  pub few : length choices ≤ CHOICES_MOST

-- What is written of a scenario and its choices is read again as the same, also with a report behind it.
abbrev pub ReadAgain : Type 0
ReadAgain = (s : Scen) (choices : List Choice) (report : List ℕ) → IsScen s → AreChoices choices → IsReport report
    → Reads (canon s choices ++ report) s (at_lines s choices)
