-- Where each reason holds of a line of a text, apart from the others.
use Rattle.std.specs.Prelude.{◌≡◌, ◌≢◌, ◌⊎◌, ◌<◌, ℕ, Bool, true, false, not, List, [], length, codes}
use Rattle.std.specs.List.{list_all}
use Rattle.std.specs.Option.{is_some}
use Rattle.xrf_base.specs.declared.site.Site.TheVariants.{A, B}
use Rattle.xrf_text.specs.Text.{words}
use Rattle.xrf_grammar.specs.Faults.{IsFaultOf}
use Rattle.xrf_grammar.specs.Grammar.{Spells}
use Rattle.xrf_grammar.specs.LineText.{header_text}
use Rattle.xrf_grammar.specs.Places.{first}
use Rattle.xrf_grammar.specs.Table.{settings_of, choices_table}
use Rattle.xrf_grammar.specs.declared.form.Form.{Form}
use Rattle.xrf_setup.specs.declared.format.Format.{Format}
use Rattle.xrf_setup.specs.declared.ranges.TheConstants.{LINE_MOST}
use Rattle.xrf_grammar.specs.declared.line.Line.{Line}
use Rattle.xrf_grammar.specs.declared.line.Line.TheVariants.{Applid, Takeovr, Quantity, Images, Level, Xrfsoff, Record, Clt, Work, Plan, Choices, Once, Times}
use Rattle.xrf_grammar.specs.declared.reason.Reason.{Reason}
use Rattle.xrf_grammar.specs.declared.reason.Reason.TheVariants.{BadByte, LongLine, NoHeader, BadFormat, AfterEnd, PlanOrder, Twice, TooMany, RrnRange}
use Rattle.xrf_scenario.specs.Lines.{is_report}
use Rattle.xrf_text.specs.Text.{is_printable}
use Rattle.xrf_scenario.specs.SoFar.{SoFar, is_whole, quantity_given}
use Rattle.xrf_scenario.specs.Taking.{are_within, has_choice_room, has_clt_room, has_plan_room, has_work_room, is_early, is_free}
use Rattle.xrf_scenario.specs.declared.section.Section.{Section}
use Rattle.xrf_scenario.specs.declared.section.Section.TheVariants.{Start, Settings, Making, Whole}

-- the words of a header, as it is written
abbrev pub header_words : Format → List (List ℕ)
header_words format = words (header_text format)

-- the forms of a section of the text, before and behind CHOICES
abbrev pub forms_of : Section → Format → List Form
forms_of Settings format = settings_of format
forms_of Making format = choices_table
forms_of _ format = []

abbrev pub has_forms : Section → Bool
has_forms Settings = true
has_forms Making = true
has_forms _ = false

-- the words of a line spell a line of the section of the text that is next
abbrev pub SpellsNext : SoFar → List ℕ → Line → Type 0
SpellsNext so text line = Spells (forms_of so.section so.format) (words text) line

-- a setting, or a record number, that was given before
abbrev pub is_given : SoFar → Line → Bool
is_given so (Applid A name) = is_some so.given.applid_a
is_given so (Applid B name) = is_some so.given.applid_b
is_given so (Takeovr mode) = is_some so.given.takeovr
is_given so (Quantity quantity n) = is_some (quantity_given so.given quantity)
is_given so (Images on) = is_some so.given.images
is_given so (Level A n) = is_some so.given.level_a
is_given so (Level B n) = is_some so.given.level_b
is_given so (Xrfsoff force) = is_some so.given.force
is_given so (Record n value) = not (is_free so n)
is_given so _ = false

-- a line for which there is no room
abbrev pub is_over : SoFar → Line → Bool
is_over so Clt = not (has_clt_room so)
is_over so (Work A item) = not (has_work_room so.work_a)
is_over so (Work B item) = not (has_work_room so.work_b)
is_over so (Plan tick choice) = not (has_plan_room so)
is_over so (Once choice) = not (has_choice_room so 1)
is_over so (Times choice count) = not (has_choice_room so count)
is_over so _ = false

abbrev pub falls : SoFar → Line → Bool
falls so (Plan tick choice) = is_early so tick
falls so _ = false

abbrev pub is_outside : SoFar → Line → Bool
is_outside so Choices = not (are_within so)
is_outside so _ = false

-- the words spell a line of which a test is true
pub record SpellsBad (so : SoFar) (text : List ℕ) (test : Line → Bool) : Type 0 where
  pub line : Line
  pub spelled : SpellsNext so text line
  pub bad : test line ≡ true

-- Where a reason of a text holds of a line: of its bytes, its place, and what was said before.
abbrev pub HoldsOfText : SoFar → List ℕ → Reason → Type 0
HoldsOfText so text BadByte = (is_whole so.section ≡ false) × (list_all is_printable text ≡ false)
HoldsOfText so text LongLine = (is_whole so.section ≡ false) × (LINE_MOST < length text)
HoldsOfText so text NoHeader = (so.section ≡ Start) × (first (words text) ≢ codes "XRF")
HoldsOfText so text BadFormat = (so.section ≡ Start) × ((format : Format) → words text ≢ header_words format)
HoldsOfText so text AfterEnd = (so.section ≡ Whole) × (is_report text ≡ false)
HoldsOfText so text PlanOrder = SpellsBad so text (falls so)
HoldsOfText so text Twice = SpellsBad so text (is_given so)
HoldsOfText so text TooMany = SpellsBad so text (is_over so)
HoldsOfText so text RrnRange = SpellsBad so text (is_outside so)
HoldsOfText so text reason = ⊥

-- A reason holds of a line that is not skipped, behind lines that say so much: one of the text, or
-- one of its words by the forms of its section.
abbrev pub Holds : SoFar → List ℕ → Reason → Type 0
Holds so text reason = HoldsOfText so text reason ⊎ ((has_forms so.section ≡ true) × IsFaultOf (forms_of so.section so.format) (words text) reason)
