-- Every reason for which some words are no line, and the first of some reasons in their order.
use Rattle.std.specs.Prelude.{◌≡◌, ◌⊎◌, ◌≤◌, ℕ, List, [], ◌∷◌, Option, Some, None, Result, Ok, Err}
use Rattle.xrf_grammar.specs.declared.form.Form.{Form}
use Rattle.xrf_grammar.specs.declared.form.Part.{Part}
use Rattle.xrf_grammar.specs.declared.reason.Reason.{Reason}
use Rattle.xrf_grammar.specs.Fitting.{wrong, form_for}
use Rattle.xrf_grammar.specs.Operands.{operand_fault}
use Rattle.xrf_grammar.specs.Reasons.{rank}
use Rattle.xrf_grammar.specs.Table.{parts_of}

-- a wrong keyword has its reason; else it is that of the word, or one of the words behind it
abbrev pub IsHereOr : Option Reason → Option Reason → Type 0 → Reason → Type 0
IsHereOr (Some at) here later reason = at ≡ reason
IsHereOr None here later reason = (here ≡ Some reason) ⊎ later

-- a reason for which some words are not of a form: no word behind a wrong keyword has one
abbrev pub IsFault : List Part → List (List ℕ) → Reason → Type 0
IsFault [] ws reason = ⊥
IsFault (part ∷ parts) [] reason = ⊥
IsFault (part ∷ parts) (word ∷ ws) reason = IsHereOr (wrong part word) (operand_fault part word) (IsFault parts ws reason) reason

abbrev pub IsFaultBy : Result Form Reason → List (List ℕ) → Reason → Type 0
IsFaultBy (Ok form) ws reason = IsFault (parts_of form) ws reason
IsFaultBy (Err none) ws reason = none ≡ reason

-- a reason for which some words are none of the forms: of the form by which they are read, or that
-- there is no such form
abbrev pub IsFaultOf : List Form → List (List ℕ) → Reason → Type 0
IsFaultOf forms ws reason = IsFaultBy (form_for forms ws) ws reason

-- of the reasons that hold the first in their order
pub record IsFirst (Holds : Reason → Type 0) (reason : Reason) : Type 0 where
  pub holds : Holds reason
  pub first : (other : Reason) → Holds other → rank reason ≤ rank other
