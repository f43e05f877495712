-- The fitting forms of a line, and the first reason for which it is none of them.
use Rattle.std.specs.Prelude.{ℕ, Bool, true, false, ◌+◌, ◌==◌, ◌&&◌, nat_lt, List, [], ◌∷◌, Option, Some, None, Result, Err, if◌then◌else◌}
use Rattle.std.specs.Option.{ok_or}
use Rattle.std.specs.Str.{bytes_eq}
use Rattle.xrf_grammar.specs.declared.reason.Reason.{Reason}
use Rattle.xrf_grammar.specs.declared.reason.Reason.TheVariants.{UnknownWord, WordCount}
use Rattle.xrf_grammar.specs.declared.keyword.Keyword.{Keyword as Word}
use Rattle.xrf_grammar.specs.declared.form.Part.{Part}
use Rattle.xrf_grammar.specs.declared.form.Part.TheVariants.{Keyword, Refused, Words}
use Rattle.xrf_grammar.specs.declared.form.Form.{Form}
use Rattle.xrf_grammar.specs.Keywords.{keyword_text}
use Rattle.xrf_grammar.specs.Operands.{operand_fault}
use Rattle.xrf_grammar.specs.Reasons.{earlier}
use Rattle.xrf_grammar.specs.Table.{parts_of}

-- the word that a part asks for, where it is a keyword
abbrev pub keyword_of : Part → Option Word
keyword_of (Keyword keyword reason) = Some keyword
keyword_of (Refused keyword reason) = Some keyword
keyword_of _ = None

-- one more where the word is the keyword, and none from the first that differs on
abbrev pub agreed_by : Option Word → List ℕ → ℕ → ℕ
agreed_by None word later = later
agreed_by (Some keyword) word later = if bytes_eq word (keyword_text keyword) then later + 1 else 0

-- in how many keywords a form and some words agree from the left, before the first that differs or is missing
abbrev pub agreed : List Part → List (List ℕ) → ℕ
agreed [] ws = 0
agreed (part ∷ parts) [] = 0
agreed (part ∷ parts) (word ∷ ws) = agreed_by (keyword_of part) word (agreed parts ws)

-- a part that takes any words to the end
abbrev pub takes_all : Part → List Part → Bool
takes_all Words [] = true
takes_all _ _ = false

-- whether a form takes so many words
abbrev pub takes : List Part → List (List ℕ) → Bool
takes [] [] = true
takes [] (word ∷ ws) = false
takes (part ∷ parts) [] = false
takes (part ∷ parts) (word ∷ ws) = if takes_all part parts then true else takes parts ws

-- the most keywords in which some form agrees
abbrev pub most_agreed : List Form → List (List ℕ) → ℕ
most_agreed [] ws = 0
most_agreed (form ∷ forms) ws = if nat_lt (agreed (parts_of form) ws) (most_agreed forms ws) then most_agreed forms ws else agreed (parts_of form) ws

-- a form that agrees in the most keywords fits; here it also takes so many words
abbrev pub fits_best : ℕ → Form → List (List ℕ) → Bool
fits_best most form ws = agreed (parts_of form) ws == most && takes (parts_of form) ws

abbrev pub fitting : ℕ → List Form → List (List ℕ) → Option Form
fitting most [] ws = None
fitting most (form ∷ forms) ws = if fits_best most form ws then Some form else fitting most forms ws

-- The form by which some words are read. No form agrees in any keyword where the first word is
-- unknown, and words are missing or too many where no fitting form takes so many.
abbrev pub form_for : List Form → List (List ℕ) → Result Form Reason
form_for forms ws = if most_agreed forms ws == 0 then Err UnknownWord else ok_or (fitting (most_agreed forms ws) forms ws) WordCount

-- the reason of a word that is wrong in the place of a keyword
abbrev pub wrong : Part → List ℕ → Option Reason
wrong (Keyword keyword reason) word = if bytes_eq word (keyword_text keyword) then None else Some reason
wrong (Refused keyword reason) word = Some reason
wrong _ word = None

-- a wrong keyword hides what stands behind it
abbrev pub before_wrong : Option Reason → Option Reason → Option Reason → Option Reason
before_wrong (Some reason) here later = Some reason
before_wrong None here later = earlier here later

-- The first reason, in the order of the reasons, for which some words are not of a form. No word
-- behind a wrong keyword is tested.
abbrev pub first_fault : List Part → List (List ℕ) → Option Reason
first_fault [] ws = None
first_fault (part ∷ parts) [] = None
first_fault (part ∷ parts) (word ∷ ws) = before_wrong (wrong part word) (operand_fault part word) (first_fault parts ws)
