-- The lines of a scenario text, and which of them are skipped.
use Rattle.std.specs.Prelude.{ℕ, Bool, true, false, ◌==◌, ◌&&◌, ◌||◌, not, nat_lt, List, [], ◌∷◌, length, Option, Some, None, if◌then◌else◌}
use Rattle.std.specs.List.{list_all}
use Rattle.xrf_grammar.specs.declared.reason.Reason.{Reason}
use Rattle.xrf_grammar.specs.declared.reason.Reason.TheVariants.{BadByte, LongLine}
use Rattle.xrf_text.specs.Text.{lines, words}
use Rattle.xrf_text.specs.Text.{is_printable}
use Rattle.xrf_setup.specs.declared.ranges.TheConstants.{LINE_MOST}

-- A carriage return (byte 13) before a line feed (byte 10) is dropped.
abbrev pub without_returns : List ℕ → List ℕ
without_returns [] = []
without_returns (byte ∷ []) = byte ∷ []
without_returns (byte ∷ next ∷ more) = if byte == 13 && next == 10 then without_returns (next ∷ more) else byte ∷ without_returns (next ∷ more)

-- a line without a carriage return at its end
abbrev pub without_return : List ℕ → List ℕ
without_return [] = []
without_return (byte ∷ []) = if byte == 13 then [] else byte ∷ []
without_return (byte ∷ next ∷ more) = byte ∷ without_return (next ∷ more)

-- A line ends at a line feed or at the end of the text, and no line begins at the end of the text.
abbrev pub text_lines : List ℕ → List (List ℕ)
text_lines text = lines (without_returns text)

abbrev pub begins_with : ℕ → List ℕ → Bool
begins_with mark [] = false
begins_with mark (byte ∷ bytes) = byte == mark

abbrev pub are_none : List (List ℕ) → Bool
are_none [] = true
are_none (word ∷ ws) = false

-- Blank lines and lines whose first character is `#` (byte 35) are skipped.
abbrev pub is_skipped : List ℕ → Bool
is_skipped line = begins_with 35 line || are_none (words line)

-- Behind END lines may come whose first character is `*` (byte 42).
abbrev pub is_report : List ℕ → Bool
is_report line = begins_with 42 line

-- what is wrong with the bytes of a line
abbrev pub bytes_fault : List ℕ → Option Reason
bytes_fault line = if not (list_all is_printable line) then Some BadByte else if nat_lt LINE_MOST (length line) then Some LongLine else None
