-- Reading as it goes on from what is said so far.
use Rattle.std.specs.Prelude.{◌≡◌, ℕ, ◌+◌, max, false, List, [], ◌∷◌, Some, None, Result, Ok, Err, if◌then◌else◌}
use Rattle.xrf_text.specs.Text.{words}
use Rattle.xrf_grammar.specs.Reading.{header_of, line_of}
use Rattle.xrf_grammar.specs.Table.{settings_of, choices_table}
use Rattle.xrf_setup.specs.declared.format.Format.{Format}
use Rattle.xrf_grammar.specs.declared.line.Line.{Line}
use Rattle.xrf_grammar.specs.declared.line.Line.TheVariants.{Once}
use Rattle.xrf_setup.specs.declared.choice.Choice.{Choice}
use Rattle.xrf_grammar.specs.declared.reason.Reason.{Reason}
use Rattle.xrf_grammar.specs.declared.reason.Reason.TheVariants.{AfterEnd, NoEnd}
use Rattle.xrf_scenario.specs.Lines.{text_lines, is_skipped, is_report, bytes_fault}
use Rattle.xrf_scenario.specs.Reading.{begun}
use Rattle.xrf_scenario.specs.SoFar.{SoFar, nothing_said, is_whole}
use Rattle.xrf_scenario.specs.Taking.{take}
use Rattle.xrf_scenario.specs.declared.section.Section.{Section}
use Rattle.xrf_scenario.specs.declared.section.Section.TheVariants.{Start, Settings, Making, Whole}

abbrev pub take_line : ℕ → SoFar → List (List ℕ) → Result Line Reason → Result SoFar Reason
take_line number so ws (Ok line) = take number so ws line
take_line number so ws (Err reason) = Err reason

abbrev pub take_header : SoFar → Result Format Reason → Result SoFar Reason
take_header so (Ok format) = Ok (begun so format)
take_header so (Err reason) = Err reason

-- what is said once some words have come, or the first reason for which they may not
abbrev pub take_words : Section → ℕ → SoFar → List (List ℕ) → Result SoFar Reason
take_words Start number so ws = take_header so (header_of ws)
take_words Settings number so ws = take_line number so ws (line_of (settings_of so.format) ws)
take_words Making number so ws = take_line number so ws (line_of choices_table ws)
take_words Whole number so ws = Err AfterEnd

-- What is said once a line has come, or the first reason, in the order of the reasons, for which it
-- may not come. Nothing is tested in a line that is skipped, and nothing but `*` behind END.
abbrev pub step : ℕ → SoFar → List ℕ → Result SoFar Reason
step number so line =
    if is_skipped line then Ok so
    else if is_whole so.section then (if is_report line then Ok so else Err AfterEnd)
    else elim (bytes_fault line) [ Some reason ↦ Err reason | None ↦ take_words so.section number so (words line) ]

-- A line behind CHOICES that says a choice once.
pub record SaysOnce (line : List ℕ) (choice : Choice) : Type 0 where
  pub shown : is_skipped line ≡ false
  pub bytes : bytes_fault line ≡ None
  pub spelled : line_of choices_table (words line) ≡ Ok (Once choice)

-- the number of a line and the reason for which it is bad
pub record Fault : Type 0 where
  pub line : ℕ
  pub reason : Reason

-- what the lines that are left make of what is said behind a number of lines
abbrev pub read_on : SoFar → ℕ → List (List ℕ) → Result SoFar Fault
read_on so count [] = if is_whole so.section then Ok so else Err (record { line = max 1 count; reason = NoEnd })
read_on so count (line ∷ lines) = elim (step (count + 1) so line) [ Err reason ↦ Err (record { line = count + 1; reason = reason }) | Ok next ↦ read_on next (count + 1) lines ]

abbrev pub read_whole : List ℕ → Result SoFar Fault
read_whole text = read_on nothing_said 0 (text_lines text)
