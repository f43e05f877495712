-- The lines of a command list: how they are spelled, and what is wrong with a line that is none.
use Rattle.std.specs.Prelude.{◌≢◌, ℕ, Bool, ◌&&◌, ◌||◌, not, if◌then◌else◌, List, [], ◌∷◌, Option, Some, None, codes}
use Rattle.std.specs.List.{join_with_byte}
use Rattle.std.specs.Str.{bytes_eq}
use Rattle.xrf_base.specs.Names.{IsName, is_name}
use Rattle.xrf_text.specs.Text.{are_some}
use Rattle.xrf_clt.specs.Kept.{Kept}
use Rattle.xrf_clt.specs.declared.CltKind.{CltKind}
use Rattle.xrf_clt.specs.declared.CltKind.TheVariants.{Cancel, Command, Wto}
use Rattle.xrf_clt.specs.declared.CltReason.{CltReason}
use Rattle.xrf_clt.specs.declared.CltReason.TheVariants.{BadName, BadOption, WordCount}

abbrev pub kind_word : CltKind → List ℕ
kind_word Cancel = codes "CANCEL"
kind_word Command = codes "COMMAND"
kind_word Wto = codes "WTO"

-- a line: whose it is, what it orders, and the words behind that
pub record Line : Type 0 where
  pub applid : List ℕ
  pub kind : CltKind
  pub operands : List (List ℕ)

-- CANCEL has a name behind it; COMMAND and WTO have any words, at least one
abbrev pub AreOperands : CltKind → List (List ℕ) → Type 0
AreOperands Cancel [] = ⊥
AreOperands Cancel (name ∷ []) = IsName name
AreOperands Cancel (name ∷ next ∷ more) = ⊥
AreOperands Command operands = operands ≢ []
AreOperands Wto operands = operands ≢ []

pub record IsLine (line : Line) : Type 0 where
  pub applid : IsName line.applid
  pub operands : AreOperands line.kind line.operands

abbrev pub line_words : Line → List (List ℕ)
line_words line = line.applid ∷ kind_word line.kind ∷ line.operands

-- What is kept of a line: the applid, and the words behind it with one blank between them.
abbrev pub line_kept : Line → Kept
line_kept line = record { applid = line.applid; text = join_with_byte 32 (kind_word line.kind ∷ line.operands) }

-- what is kept of some words
abbrev pub words_kept : List (List ℕ) → Kept
words_kept [] = record { applid = []; text = [] }
words_kept (applid ∷ order) = record { applid = applid; text = join_with_byte 32 order }

abbrev pub is_cancel : List ℕ → Bool
is_cancel word = bytes_eq word (codes "CANCEL")

abbrev pub is_kind : List ℕ → Bool
is_kind word = is_cancel word || bytes_eq word (codes "COMMAND") || bytes_eq word (codes "WTO")

-- The first reason for which some words are no line: too few words or too many, then a name that
-- is none, then a word that is no kind. No word behind a wrong kind is tested.
abbrev pub fault_of : List (List ℕ) → Option CltReason
fault_of [] = Some WordCount
fault_of (applid ∷ []) = Some WordCount
fault_of (applid ∷ kind ∷ []) = Some WordCount
fault_of (applid ∷ kind ∷ operand ∷ more) =
    if is_cancel kind && are_some more then Some WordCount else
    (if not (is_name applid) then Some BadName else
    (if is_cancel kind && not (is_name operand) then Some BadName else
    (if not (is_kind kind) then Some BadOption else None)))
