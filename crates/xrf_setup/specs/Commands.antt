-- What a scenario keeps of a line of the command list.
use Rattle.std.specs.Prelude.{◌≡◌, ◌≤◌, ℕ, IsTrue, List, ◌∷◌, ◌++◌, length, codes, None}
use Rattle.std.specs.List.{AllByRecursion, join_with_byte}
use Rattle.xrf_text.specs.Text.{is_printable, words}
use Rattle.xrf_clt.specs.Kept.{Kept}
use Rattle.xrf_clt.specs.Lines.{fault_of}
use Rattle.xrf_setup.specs.declared.ranges.TheConstants.{LINE_MOST}

-- what a line of the command list spells, as it is written behind CLT
abbrev pub kept_text : Kept → List ℕ
kept_text k = k.applid ++ codes " " ++ k.text

-- the whole line
abbrev pub kept_line : Kept → List ℕ
kept_line k = codes "CLT " ++ kept_text k

-- It has no fault, one blank between its words, and bytes from blank to `~`, as many as a line has at most.
pub record IsKept (k : Kept) : Type 0 where
  pub no_fault : fault_of (k.applid ∷ words k.text) ≡ None
  pub again : join_with_byte 32 (words k.text) ≡ k.text
  pub bytes : AllByRecursion (λ (b : ℕ). IsTrue (is_printable b)) k.text
  pub short : length (kept_line k) ≤ LINE_MOST
