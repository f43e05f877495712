-- What a command list keeps of its lines.
use Rattle.std.specs.Prelude.{◌≤◌, ℕ, List, map, length, slice_range}
use Rattle.std.specs.List.{AllByRecursion, filter}
use Rattle.std.specs.Str.{bytes_eq}
use Rattle.xrf_clt.specs.declared.Entry.{Entry}

-- whose line it is, and its words with one blank between them
pub record Kept : Type 0 where
  pub applid : List ℕ
  pub text : List ℕ

-- the text of an entry among the texts of all lines
abbrev pub text_at : List ℕ → Entry → List ℕ
text_at texts e = slice_range texts e.start e.end

-- what some entries of the program keep
abbrev pub kept_of : List ℕ → List Entry → List Kept
kept_of texts entries = map (λ (e : Entry). record { applid = e.applid; text = text_at texts e }) entries

-- The text of an entry lies within the texts.
abbrev pub IsWithin : List ℕ → Entry → Type 0
IsWithin texts e = (e.start ≤ e.end) × (e.end ≤ length texts)

abbrev pub AreWithin : List ℕ → List Entry → Type 0
AreWithin texts entries = AllByRecursion (IsWithin texts) entries

-- the entries of an applid, in their order
abbrev pub own_entries : List ℕ → List Entry → List Entry
own_entries applid entries = filter (λ (e : Entry). bytes_eq e.applid applid) entries
