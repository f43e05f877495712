-- Why an input is refused, and at which line.
use Rattle.std.specs.Prelude.{◌≡◌, ◌⊎◌, ℕ, ◌≤◌, ◌<◌, List, ◌++◌, codes, map, length, slice_get, Some, Err}
use Rattle.std.specs.Fmt.{decimal}
use Rattle.xrf_setup.specs.Scenario.{Scen}
use Rattle.xrf_scenario.specs.Reading.{Reads, HasBad}
use Rattle.xrf_scenario.specs.Canonical.{fed}
use Rattle.xrf_report.specs.Words.{blank}
use Rattle.xrf_setup.specs.declared.choice.Choice.{Choice}
use Rattle.xrf_setup.specs.declared.ranges.TheConstants.{INPUT_MOST}
use Rattle.xrf_scenario.specs.declared.numbered.Numbered.{Numbered}
use Rattle.xrf_grammar.specs.declared.reason.Reason as grammar
use Rattle.xrf_grammar.specs.declared.reason.Reason.TheVariants.{TooLarge, BadByte, LongLine, NoHeader, BadFormat, ChoicesGiven, AfterEnd, UnknownWord, WordCount, BadSite, BadNumber, OutOfRange, BadName, BadValue, BadHex, BadOption, BadItem, BadCebt, BadPlan, PlanOrder, Twice, TooMany, RrnRange, NoEnd}
use Rattle.xrf_trace.specs.declared.entry.Refused.{Refused}
use Rattle.xrf_trace.specs.declared.entry.Refused.TheVariants.{NotEnabled, Dishonest, TornLength, NotAllowed}
use Rattle.xrf_trace.specs.Runs.{run}
use Rattle.xrf.specs.declared.refusal.Reason.{Reason}
use Rattle.xrf.specs.declared.refusal.Reason.TheVariants.{Grammar, Choosing}

-- choices without the numbers of their lines
abbrev pub plain : List Numbered → List Choice
plain numbered = map (λ n. n.choice) numbered

-- The run of the choices stops at the choice of a line for a reason.
pub record Stops (bytes : List ℕ) (number : ℕ) (reason : Refused) : Type 0 where
  pub scenario : Scen
  pub choices : List Numbered
  pub reads : Reads bytes scenario choices
  pub place : ℕ
  pub stopped : run scenario (plain choices) ≡ Err (record { place = place; reason = reason })
  pub stopping : Numbered
  pub at : slice_get choices place ≡ Some stopping
  pub line : number ≡ stopping.line

-- The input is refused at a line for a reason: it is too large, which is answered at line 0; or else its
-- grammar is bad first there; or else the run stops there.
abbrev pub IsRefusal : List ℕ → ℕ → Reason → Type 0
IsRefusal bytes number (Grammar reason) = ((INPUT_MOST < length bytes) × (number ≡ 0) × (reason ≡ TooLarge)) ⊎ ((length bytes ≤ INPUT_MOST) × HasBad bytes number reason)
IsRefusal bytes number (Choosing reason) = (length bytes ≤ INPUT_MOST) × Stops bytes number reason

abbrev pub grammar_text : grammar.Reason → List ℕ
grammar_text TooLarge = codes "TOO-LARGE"
grammar_text BadByte = codes "BAD-BYTE"
grammar_text LongLine = codes "LONG-LINE"
grammar_text NoHeader = codes "NO-HEADER"
grammar_text BadFormat = codes "BAD-FORMAT"
grammar_text ChoicesGiven = codes "CHOICES-GIVEN"
grammar_text AfterEnd = codes "AFTER-END"
grammar_text UnknownWord = codes "UNKNOWN-WORD"
grammar_text WordCount = codes "WORD-COUNT"
grammar_text BadSite = codes "BAD-SITE"
grammar_text BadNumber = codes "BAD-NUMBER"
grammar_text OutOfRange = codes "OUT-OF-RANGE"
grammar_text BadName = codes "BAD-NAME"
grammar_text BadValue = codes "BAD-VALUE"
grammar_text BadHex = codes "BAD-HEX"
grammar_text BadOption = codes "BAD-OPTION"
grammar_text BadItem = codes "BAD-ITEM"
grammar_text BadCebt = codes "BAD-CEBT"
grammar_text BadPlan = codes "BAD-PLAN"
grammar_text PlanOrder = codes "PLAN-ORDER"
grammar_text Twice = codes "TWICE"
grammar_text TooMany = codes "TOO-MANY"
grammar_text RrnRange = codes "RRN-RANGE"
grammar_text NoEnd = codes "NO-END"

abbrev pub choosing_text : Refused → List ℕ
choosing_text NotEnabled = codes "NOT-ENABLED"
choosing_text Dishonest = codes "DISHONEST"
choosing_text TornLength = codes "TORN-LENGTH"
choosing_text NotAllowed = codes "NOT-ALLOWED"

abbrev pub reason_text : Reason → List ℕ
reason_text (Grammar reason) = grammar_text reason
reason_text (Choosing reason) = choosing_text reason

abbrev pub refusal_line : ℕ → Reason → List ℕ
refusal_line number reason = fed (codes "XRF REFUSED LINE " ++ decimal number ++ blank (reason_text reason))
