-- What a line says by the forms of its part of the text, or the first reason for which it is none.
use Rattle.std.specs.Prelude.{ℕ, Bool, true, false, not, List, [], ◌∷◌, codes, Option, Some, None, Result, Ok, Err, if◌then◌else◌}
use Rattle.std.specs.Option.{ok_or}
use Rattle.std.specs.Str.{bytes_eq}
use Rattle.xrf_grammar.specs.declared.reason.Reason.{Reason}
use Rattle.xrf_grammar.specs.declared.reason.Reason.TheVariants.{NoHeader, BadFormat, WordCount}
use Rattle.xrf_grammar.specs.declared.form.Form.{Form}
use Rattle.xrf_grammar.specs.declared.line.Line.{Line}
use Rattle.xrf_grammar.specs.Table.{parts_of}
use Rattle.xrf_grammar.specs.Fitting.{form_for, first_fault}
use Rattle.xrf_grammar.specs.Saying.{said}
use Rattle.xrf_grammar.specs.Places.{first, second}
use Rattle.xrf_setup.specs.declared.format.Format.{Format}
use Rattle.xrf_setup.specs.declared.format.Format.TheVariants.{One, Two}

-- the reason where there is one, else what the words say
abbrev pub unless_fault : Option Reason → Option Line → Result Line Reason
unless_fault (Some reason) line = Err reason
unless_fault None line = ok_or line WordCount

abbrev pub line_of_form : Form → List (List ℕ) → Result Line Reason
line_of_form form ws = unless_fault (first_fault (parts_of form) ws) (said form ws)

abbrev pub by_form : Result Form Reason → List (List ℕ) → Result Line Reason
by_form (Ok form) ws = line_of_form form ws
by_form (Err reason) ws = Err reason

abbrev pub line_of : List Form → List (List ℕ) → Result Line Reason
line_of forms ws = by_form (form_for forms ws) ws

abbrev pub are_two : List (List ℕ) → Bool
are_two [] = false
are_two (first ∷ []) = false
are_two (first ∷ second ∷ []) = true
are_two (first ∷ second ∷ third ∷ more) = false

-- The header is `XRF 1` or `XRF 2`.
abbrev pub header_of : List (List ℕ) → Result Format Reason
header_of ws =
    if not (bytes_eq (first ws) (codes "XRF")) then Err NoHeader
    else if not (are_two ws) then Err BadFormat
    else if bytes_eq (second ws) (codes "1") then Ok One
    else if bytes_eq (second ws) (codes "2") then Ok Two
    else Err BadFormat
