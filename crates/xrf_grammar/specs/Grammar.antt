-- The grammar of a line: which words are of a form, and which lines there are.
use Rattle.std.specs.Prelude.{◌≡◌, ◌⊎◌, ◌≤◌, ℕ, Bool, true, false, List, [], ◌∷◌, Some, IsTrue, codes}
use Rattle.std.specs.Option.{is_some}
use Rattle.xrf_base.specs.declared.items.Item.{Item}
use Rattle.xrf_base.specs.declared.site.Site.{Site as Place}
use Rattle.xrf_base.specs.Names.{IsName}
use Rattle.xrf_base.specs.Values.{IsValue}
use Rattle.xrf_grammar.specs.declared.form.Part.{Part}
use Rattle.xrf_grammar.specs.declared.form.Part.TheVariants.{Keyword, Refused, Site, Number, Multiple, Name, Value, Hex, Words}
use Rattle.xrf_grammar.specs.declared.form.Form.{Form}
use Rattle.xrf_grammar.specs.declared.line.Line.{Line}
use Rattle.xrf_grammar.specs.declared.line.Line.TheVariants.{Work}
use Rattle.xrf_grammar.specs.Fitting.{takes_all}
use Rattle.xrf_grammar.specs.Hex.{is_hex}
use Rattle.xrf_grammar.specs.Keywords.{keyword_text}
use Rattle.xrf_grammar.specs.Numbers.{number_of}
use Rattle.xrf_grammar.specs.Operands.{site_of, is_multiple_of}
use Rattle.xrf_grammar.specs.Saying.{said}
use Rattle.xrf_grammar.specs.Table.{parts_of, settings_of}
use Rattle.xrf_setup.specs.declared.format.Format.{Format}

-- a number in a range that also passes a test
pub record IsNumber (least most : ℕ) (also : ℕ → Bool) (word : List ℕ) : Type 0 where
  pub value : ℕ
  pub spelled : number_of word ≡ Some value
  pub low : least ≤ value
  pub high : value ≤ most
  pub also_kept : IsTrue (also value)

-- a word is of a part
abbrev pub IsOfPart : Part → List ℕ → Type 0
IsOfPart (Keyword keyword reason) word = word ≡ keyword_text keyword
IsOfPart (Refused keyword reason) word = ⊥
IsOfPart Site word = IsTrue (is_some (site_of word))
IsOfPart (Number least most) word = IsNumber least most (λ n. true) word
IsOfPart (Multiple least most unit) word = IsNumber least most (λ n. is_multiple_of n unit) word
IsOfPart Name word = IsName word
IsOfPart Value word = IsValue word
IsOfPart Hex word = IsTrue (is_hex word)
IsOfPart Words word = Unit {0}

-- where the part takes any words to the end there is nothing more to say
abbrev pub Unless : Bool → Type 0 → Type 0
Unless true fact = Unit {0}
Unless false fact = fact

-- some words are of a form: one word is of each part
abbrev pub AreOfForm : List Part → List (List ℕ) → Type 0
AreOfForm [] [] = Unit {0}
AreOfForm [] (word ∷ ws) = ⊥
AreOfForm (part ∷ parts) [] = ⊥
AreOfForm (part ∷ parts) (word ∷ ws) = Unless (takes_all part parts) (IsOfPart part word × AreOfForm parts ws)

abbrev pub IsAmong : Form → List Form → Type 0
IsAmong form [] = ⊥
IsAmong form (other ∷ forms) = (other ≡ form) ⊎ IsAmong form forms

-- each of some forms is among others
abbrev pub AreAmong : List Form → List Form → Type 0
AreAmong forms all = (form : Form) → IsAmong form forms → IsAmong form all

-- some words spell a line by the forms of a part of the text
pub record Spells (forms : List Form) (ws : List (List ℕ)) (says : Line) : Type 0 where
  pub form : Form
  pub among : IsAmong form forms
  pub fit : AreOfForm (parts_of form) ws
  pub line : said form ws ≡ Some says

-- some words spell an item: behind WORK and any site they spell a line of work
abbrev pub SpellsItem : Format → List (List ℕ) → Item → Type 0
SpellsItem format ws says = (word : List ℕ) (site : Place) → site_of word ≡ Some site → Spells (settings_of format) (codes "WORK" ∷ word ∷ ws) (Work site says)

-- some words are of none of the forms
abbrev pub AreOfNone : List Form → List (List ℕ) → Type 0
AreOfNone forms ws = (form : Form) → IsAmong form forms → AreOfForm (parts_of form) ws → ⊥
