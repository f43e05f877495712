-- Reading a text line by line: what each line adds to what is said, and the first line that may not come.
use Rattle.std.specs.Prelude.{◌≡◌, ◌⊎◌, ℕ, ◌+◌, max, Bool, true, false, List, [], ◌∷◌, ◌++◌, length, None, IsTrue, Ok}
use Rattle.xrf_text.specs.Text.{words}
use Rattle.xrf_grammar.specs.Faults.{IsFirst}
use Rattle.xrf_grammar.specs.Grammar.{Spells}
use Rattle.xrf_grammar.specs.Table.{settings_of, choices_table}
use Rattle.xrf_setup.specs.declared.format.Format.{Format}
use Rattle.xrf_grammar.specs.declared.line.Line.{Line}
use Rattle.xrf_grammar.specs.declared.reason.Reason.{Reason}
use Rattle.xrf_grammar.specs.declared.reason.Reason.TheVariants.{NoEnd}
use Rattle.xrf_scenario.specs.Lines.{text_lines, is_skipped, is_report, bytes_fault}
use Rattle.xrf_scenario.specs.Reasons.{Holds, header_words}
use Rattle.xrf_setup.specs.Scenario.{Scen}
use Rattle.xrf_scenario.specs.Settled.{scenario_of}
use Rattle.xrf_scenario.specs.SoFar.{SoFar, nothing_said, is_whole}
use Rattle.xrf_scenario.specs.Taking.{take}
use Rattle.xrf_scenario.specs.declared.section.Section.{Section}
use Rattle.xrf_scenario.specs.declared.section.Section.TheVariants.{Start, Settings, Making, Whole}
use Rattle.xrf_scenario.specs.declared.numbered.Numbered.{Numbered}

-- what is said once the header has come
abbrev pub begun : SoFar → Format → SoFar
begun so format = record so { section = Settings; format = format }

-- Some words say something in a section of the text: they are a header, or they spell a line of the
-- section, and what was said before lets it come.
abbrev pub SaysIn : Section → ℕ → SoFar → List (List ℕ) → SoFar → Type 0
SaysIn Start number so ws next = (format : Format) × ((ws ≡ header_words format) × (next ≡ begun so format))
SaysIn Settings number so ws next = (line : Line) × (Spells (settings_of so.format) ws line × (take number so ws line ≡ Ok next))
SaysIn Making number so ws next = (line : Line) × (Spells choices_table ws line × (take number so ws line ≡ Ok next))
SaysIn Whole number so ws next = ⊥

-- The next line of a text, which has this number, is skipped, or is one of a report behind END, or
-- is of bytes from blank to `~`, at most 300, and its words say something in its section.
abbrev pub SaysThen : Bool → Bool → ℕ → SoFar → List ℕ → SoFar → Type 0
SaysThen true ended number so line next = next ≡ so
SaysThen false true number so line next = IsTrue (is_report line) × (next ≡ so)
SaysThen false false number so line next = (bytes_fault line ≡ None) × SaysIn so.section number so (words line) next

abbrev pub Says : ℕ → SoFar → List ℕ → SoFar → Type 0
Says number so line next = SaysThen (is_skipped line) (is_whole so.section) number so line next

-- the lines behind so many lines say, one after the other
abbrev pub SaysAll : ℕ → SoFar → List (List ℕ) → SoFar → Type 0
SaysAll count so [] last = last ≡ so
SaysAll count so (line ∷ lines) last = (next : SoFar) × (Says (count + 1) so line next × SaysAll (count + 1) next lines last)

-- The text spells the scenario and the choices: its lines say them, and END is among them.
pub record Reads (text : List ℕ) (s : Scen) (choices : List Numbered) : Type 0 where
  pub last : SoFar
  pub said : SaysAll 0 nothing_said (text_lines text) last
  pub whole : IsTrue (is_whole last.section)
  pub scenario : s ≡ scenario_of last
  pub made : choices ≡ last.choices

-- The text has a first line that may not come: those before it say something, it is not skipped, and
-- this is the first of the reasons that hold of it.
pub record HasBadLine (text : List ℕ) (number : ℕ) (reason : Reason) : Type 0 where
  pub before : List (List ℕ)
  pub bad : List ℕ
  pub rest : List (List ℕ)
  pub so : SoFar
  pub spelled : text_lines text ≡ before ++ bad ∷ rest
  pub said : SaysAll 0 nothing_said before so
  pub shown : is_skipped bad ≡ false
  pub is_first : IsFirst (Holds so bad) reason
  pub place : number ≡ length before + 1

-- The text's lines all say something and END is not among them; the fault is that of the last line,
-- or of line 1 where there is none.
pub record EndsEarly (text : List ℕ) (number : ℕ) (reason : Reason) : Type 0 where
  pub last : SoFar
  pub said : SaysAll 0 nothing_said (text_lines text) last
  pub early : is_whole last.section ≡ false
  pub place : number ≡ max 1 (length (text_lines text))
  pub no_end : reason ≡ NoEnd

-- the first bad line of the text, and its first reason
abbrev pub HasBad : List ℕ → ℕ → Reason → Type 0
HasBad text number reason = HasBadLine text number reason ⊎ EndsEarly text number reason

-- A text is read in one way, no text is both read and refused, and it is refused in one way.
abbrev pub OneReading : Type 0
OneReading = (text : List ℕ) (s s' : Scen) (choices choices' : List Numbered) → Reads text s choices → Reads text s' choices' → (s ≡ s') × (choices ≡ choices')

abbrev pub NeverBoth : Type 0
NeverBoth = (text : List ℕ) (s : Scen) (choices : List Numbered) (number : ℕ) (reason : Reason) → Reads text s choices → HasBad text number reason → ⊥

abbrev pub OneFault : Type 0
OneFault = (text : List ℕ) (number number' : ℕ) (reason reason' : Reason) → HasBad text number reason → HasBad text number' reason' → (number ≡ number') × (reason ≡ reason')
