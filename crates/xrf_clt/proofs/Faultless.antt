-- The words without a fault are those of the lines of the grammar.
use Rattle.std.proofs.Common.{◌≡◌, ℕ, List, [], ◌∷◌, Option, Some, None, Bool, true, false, cond, not, ◌&&◌, ◌||◌, IsTrue, codes, refl, ap}
use Rattle.std.proofs.lemmas.Slice.Eq.{bytes_eq-Decides}
use Rattle.std.specs.Str.{bytes_eq}
use Rattle.xrf_base.specs.Names.{IsName, is_name}
use Rattle.xrf_text.specs.Text.{are_some}
use Rattle.xrf_clt.specs.declared.CltKind.{CltKind}
use Rattle.xrf_clt.specs.declared.CltKind.TheVariants.{Cancel, Command, Wto}
use Rattle.xrf_clt.specs.declared.CltReason.{CltReason}
use Rattle.xrf_clt.specs.declared.CltReason.TheVariants.{BadName, BadOption, WordCount}
use Rattle.xrf_clt.specs.Lines.{Line, IsLine, kind_word, AreOperands, line_words, is_cancel, is_kind, fault_of}

-- the line that some words spell
pub record Spelled (ws : List (List ℕ)) : Type 0 where
  pub line : Line
  pub is_line : IsLine line
  pub words_are : ws ≡ line_words line

none_if : (wrong : Bool) (reason : CltReason) (others : Option CltReason) → cond wrong (Some reason) others ≡ None → (wrong ≡ false) × (others ≡ None)
none_if true reason others e = cc
none_if false reason others e = (refl, e)

not_wrong : (b : Bool) → not b ≡ false → IsTrue b
not_wrong true e = refl
not_wrong false e = cc

same : (word key : List ℕ) → bytes_eq word key ≡ true → word ≡ key
same word key e = (bytes_eq-Decides word key).0 e

-- a line that cancels
cancels : (applid kind operand : List ℕ) (more : List (List ℕ)) → is_cancel kind ≡ true → are_some more ≡ false → IsName applid → IsName operand
    → Spelled (applid ∷ kind ∷ operand ∷ more)
cancels applid kind operand [] cancel none name operand_name = record {
  line = record { applid = applid; kind = Cancel; operands = operand ∷ [] };
  is_line = record { applid = name; operands = operand_name };
  words_are = ap (λ (k : List ℕ). applid ∷ k ∷ operand ∷ []) (same kind (codes "CANCEL") cancel);
}
cancels applid kind operand (next ∷ more) cancel none name operand_name = cc

-- a line of another kind
others : (applid kind operand : List ℕ) (more : List (List ℕ)) (command : Bool) → bytes_eq kind (codes "COMMAND") ≡ command
    → (command || bytes_eq kind (codes "WTO")) ≡ true → IsName applid → Spelled (applid ∷ kind ∷ operand ∷ more)
others applid kind operand more true e is name = record {
  line = record { applid = applid; kind = Command; operands = operand ∷ more };
  is_line = record { applid = name; operands = λ (empty : operand ∷ more ≡ []). cc };
  words_are = ap (λ (k : List ℕ). applid ∷ k ∷ operand ∷ more) (same kind (codes "COMMAND") e);
}
others applid kind operand more false e is name = record {
  line = record { applid = applid; kind = Wto; operands = operand ∷ more };
  is_line = record { applid = name; operands = λ (empty : operand ∷ more ≡ []). cc };
  words_are = ap (λ (k : List ℕ). applid ∷ k ∷ operand ∷ more) (same kind (codes "WTO") is);
}

by_cancel : (applid kind operand : List ℕ) (more : List (List ℕ)) (cancel : Bool) → is_cancel kind ≡ cancel → (cancel && are_some more) ≡ false → IsName applid
    → (cancel && not (is_name operand)) ≡ false → not (cancel || bytes_eq kind (codes "COMMAND") || bytes_eq kind (codes "WTO")) ≡ false
    → Spelled (applid ∷ kind ∷ operand ∷ more)
by_cancel applid kind operand more true e count name operand_name is = cancels applid kind operand more e count name (not_wrong (is_name operand) operand_name)
by_cancel applid kind operand more false e count name operand_name is =
    others applid kind operand more (bytes_eq kind (codes "COMMAND")) refl (not_wrong (bytes_eq kind (codes "COMMAND") || bytes_eq kind (codes "WTO")) is) name

-- Words without a fault spell a line.
pub faultless : (ws : List (List ℕ)) → fault_of ws ≡ None → Spelled ws
faultless [] e = cc
faultless (applid ∷ []) e = cc
faultless (applid ∷ kind ∷ []) e = cc
faultless (applid ∷ kind ∷ operand ∷ more) e =
    let count = none_if (is_cancel kind && are_some more) WordCount _ e in
    let name = none_if (not (is_name applid)) BadName _ count.1 in
    let operand_name = none_if (is_cancel kind && not (is_name operand)) BadName _ name.1 in
    let is = none_if (not (is_kind kind)) BadOption None operand_name.1 in
    by_cancel applid kind operand more (is_cancel kind) refl count.0 (not_wrong (is_name applid) name.0) operand_name.0 is.0

by_operands : (applid : List ℕ) (kind : CltKind) (operands : List (List ℕ)) → IsName applid → AreOperands kind operands → fault_of (applid ∷ kind_word kind ∷ operands) ≡ None
by_operands applid Cancel [] name are = absurd are
by_operands applid Cancel (operand ∷ []) name are = rw (name, are) refl
by_operands applid Cancel (operand ∷ next ∷ more) name are = absurd are
by_operands applid Command [] name are = absurd (are refl)
by_operands applid Command (operand ∷ more) name are = rw name refl
by_operands applid Wto [] name are = absurd (are refl)
by_operands applid Wto (operand ∷ more) name are = rw name refl

-- The words of a line have no fault.
pub line_faultless : (line : Line) → IsLine line → fault_of (line_words line) ≡ None
line_faultless line is = by_operands line.applid line.kind line.operands is.applid is.operands
