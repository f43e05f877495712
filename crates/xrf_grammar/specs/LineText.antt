-- How a line is written, and which lines a text can spell.
use Rattle.std.specs.Prelude.{◌≡◌, ◌≢◌, ◌⊎◌, ℕ, Bool, true, false, List, [], ◌∷◌, ◌++◌, codes}
use Rattle.std.specs.Fmt.{decimal}
use Rattle.xrf_base.specs.Names.{IsName}
use Rattle.xrf_base.specs.Values.{IsValue}
use Rattle.xrf_cebt.specs.Command.{mode_word}
use Rattle.xrf_setup.specs.declared.choice.Choice.{Choice}
use Rattle.xrf_setup.specs.declared.choice.Choice.TheVariants as choice
use Rattle.xrf_setup.specs.declared.format.Format.{Format}
use Rattle.xrf_setup.specs.declared.format.Format.TheVariants.{One, Two}
use Rattle.xrf_grammar.specs.declared.keyword.Keyword.{Keyword}
use Rattle.xrf_grammar.specs.declared.keyword.Keyword.TheVariants as key
use Rattle.xrf_grammar.specs.declared.line.Line.{Line}
use Rattle.xrf_grammar.specs.declared.line.Line.TheVariants.{Applid, Takeovr, Quantity, Images, Level, Xrfsoff, Record, Clt, Work, Plan, Choices, Once, Times, End}
use Rattle.xrf_grammar.specs.Quantities.{quantity_text, range_of, IsOfRange}
use Rattle.xrf_grammar.specs.Spelling.{site_text, choice_text, work_text}
use Rattle.xrf_setup.specs.Choices.{HasLine, is_planned}
use Rattle.xrf_setup.specs.Items.{IsItemOf}
use Rattle.xrf_setup.specs.Ranges.{IsIn}
use Rattle.xrf_setup.specs.declared.ranges.TheConstants.{FILE_LEAST, FILE_MOST, TICKS_MOST}

-- the header of a format
abbrev pub header_text : Format → List ℕ
header_text One = codes "XRF 1"
header_text Two = codes "XRF 2"

-- one blank between the words
abbrev pub line_text : Line → List ℕ
line_text (Applid site name) = site_text (codes "APPLID") site (codes " " ++ name)
line_text (Takeovr mode) = codes "TAKEOVR " ++ mode_word mode
line_text (Quantity quantity n) = quantity_text quantity ++ codes " " ++ decimal n
line_text (Images true) = codes "IMAGES ON"
line_text (Images false) = codes "IMAGES OFF"
line_text (Level site n) = site_text (codes "LEVEL") site (codes " " ++ decimal n)
line_text (Xrfsoff true) = codes "XRFSOFF FORCE"
line_text (Xrfsoff false) = codes "XRFSOFF NOFORCE"
line_text (Record n value) = codes "RECORD " ++ decimal n ++ codes " " ++ value
line_text Clt = codes "CLT"
line_text (Work site i) = work_text site i
line_text (Plan tick c) = codes "PLAN " ++ decimal tick ++ codes " " ++ choice_text c
line_text Choices = codes "CHOICES"
line_text (Once c) = choice_text c
line_text (Times c count) = choice_text c ++ codes " " ++ decimal count
line_text End = codes "END"

-- the word with which a choice begins
abbrev pub choice_keyword : Choice → Keyword
choice_keyword choice.Tick = key.Tick
choice_keyword (choice.Step site) = key.Step
choice_keyword (choice.Lose site) = key.Lose
choice_keyword (choice.Stop site landing) = key.Stop
choice_keyword (choice.StartActive site) = key.Start
choice_keyword (choice.StartStandby site) = key.Start
choice_keyword (choice.Abend site) = key.Abend
choice_keyword (choice.Confirm number) = key.Confirm
choice_keyword (choice.Reply site go) = key.Reply
choice_keyword (choice.Cebt site command) = key.Cebt
choice_keyword (choice.Exit site answer) = key.Exit
choice_keyword (choice.Fail site landing) = key.Fail

-- What stands behind XRF 2 alone.
abbrev pub IsOfTwo : Format → Type 0
IsOfTwo format = format ≡ Two

-- A line before the choices that a text of this format can spell, but for the lines of the command
-- list, with the ranges of their numbers.
abbrev pub IsSetting : Format → Line → Type 0
IsSetting format (Applid site name) = IsName name
IsSetting format (Takeovr mode) = Unit {0}
IsSetting format (Quantity quantity n) = IsOfRange (range_of quantity) n
IsSetting format (Images on) = Unit {0}
IsSetting format (Level site n) = IsOfTwo format × IsIn 1 2 n
IsSetting format (Xrfsoff force) = IsOfTwo format
IsSetting format (Record n value) = IsIn FILE_LEAST FILE_MOST n × IsValue value
IsSetting format (Work site i) = IsItemOf format i
IsSetting format (Plan tick c) = IsIn 0 TICKS_MOST tick × (is_planned c ≡ true) × HasLine c
IsSetting format Choices = Unit {0}
IsSetting format Clt = ⊥
IsSetting format (Once c) = ⊥
IsSetting format (Times c count) = ⊥
IsSetting format End = ⊥

-- A line of the choices that a text can spell: a choice, a choice with its count, or END.
abbrev pub is_timed : Choice → Bool
is_timed choice.Tick = true
is_timed (choice.Step site) = true
is_timed _ = false

abbrev pub IsChoosing : Line → Type 0
IsChoosing (Once c) = HasLine c
IsChoosing (Times c count) = (is_timed c ≡ true) × IsIn 1 9999 count
IsChoosing End = Unit {0}
IsChoosing _ = ⊥

-- What stands behind the applid in a line of the command list: CANCEL and one name, or COMMAND or WTO
-- and any words, at least one.
abbrev pub IsOneName : List (List ℕ) → Type 0
IsOneName (name ∷ []) = IsName name
IsOneName _ = ⊥

abbrev pub IsCommand : List ℕ → List (List ℕ) → Type 0
IsCommand kind operands = ((kind ≡ codes "CANCEL") × IsOneName operands) ⊎ (((kind ≡ codes "COMMAND") ⊎ (kind ≡ codes "WTO")) × (operands ≢ []))
