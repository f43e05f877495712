-- The command list as a table, and what a text gives.
use Rattle.std.specs.Prelude.{◌≡◌, ℕ, zero, suc, List, [], ◌∷◌, map, filter, Some, None}
use Rattle.std.specs.List.{AllByRecursion, flat_map}
use Rattle.std.specs.Str.{bytes_eq}
use Rattle.xrf_text.specs.Text.{words}
use Rattle.xrf_clt.specs.declared.CltReason.{CltReason}
use Rattle.xrf_clt.specs.declared.CltError.{CltError}
use Rattle.xrf_clt.specs.declared.CltError.TheVariants.{Fault, NoMemory}
use Rattle.xrf_clt.specs.Kept.{Kept}
use Rattle.xrf_clt.specs.Lines.{Line, IsLine, line_words, line_kept, fault_of}

-- What is kept is of lines that the texts spell, one for each text and in their order.
pub record AreKept (texts : List (List ℕ)) (kept : List Kept) : Type 0 where
  pub lines : List Line
  pub are_lines : AllByRecursion IsLine lines
  pub spelled : map words texts ≡ map line_words lines
  pub entries : kept ≡ map line_kept lines

-- The text at the place, from 0, is the first that is no line, and this is the first reason.
abbrev pub IsFirstFault : List (List ℕ) → ℕ → CltReason → Type 0
IsFirstFault [] place reason = ⊥
IsFirstFault (text ∷ texts) zero reason = fault_of (words text) ≡ Some reason
IsFirstFault (text ∷ texts) (suc place) reason = (fault_of (words text) ≡ None) × IsFirstFault texts place reason

abbrev pub IsError : List (List ℕ) → CltError → Type 0
IsError texts (Fault place reason) = IsFirstFault texts place reason
IsError texts NoMemory = Unit {0}

-- the texts of an applid's entries, in their order
abbrev pub texts_for : List ℕ → List Kept → List (List ℕ)
texts_for applid kept = map (λ (k : Kept). k.text) (filter (λ (k : Kept). bytes_eq k.applid applid) kept)

-- some words, each behind a blank
abbrev pub with_blanks : List (List ℕ) → List ℕ
with_blanks ws = flat_map (λ (word : List ℕ). 32 ∷ word) ws
