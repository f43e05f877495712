-- A terminal table: rows in the order of their terminals' names.
use Rattle.std.specs.Prelude.{◌≡◌, ℕ, ◌≤◌, length, Bool, ◌==◌, if◌then◌else◌, List, [], ◌∷◌, count_by, Option, Some, None, is_some}
use Rattle.std.specs.declared.cmp.Ordering.{Ordering}
use Rattle.std.specs.Ordering.{nat_cmp, is_lt}
use Rattle.std.specs.declared.cmp.Ordering.TheVariants.{Less}
use Rattle.std.specs.Cmp.Lexicographic.{slice_cmp}
use Rattle.std.specs.Str.{bytes_eq}
use Rattle.xrf_terms.specs.declared.rows.Row.{Row}

-- names in their order, byte by byte; a name comes before a longer one that begins with it
abbrev pub compare_names : List ℕ → List ℕ → Ordering
compare_names a b = slice_cmp nat_cmp a b

-- the first of some rows, if there is one, comes after a row
abbrev pub FirstComesAfter : Row → List Row → Type 0
FirstComesAfter row [] = Unit {0}
FirstComesAfter row (next ∷ rows) = compare_names row.term next.term ≡ Less

-- each row comes before the next, so no terminal has two
abbrev pub AreOrdered : List Row → Type 0
AreOrdered [] = Unit {0}
AreOrdered (row ∷ rows) = FirstComesAfter row rows × AreOrdered rows

-- whether a row is of a terminal, and whether its name is later
abbrev pub is_of : List ℕ → Row → Bool
is_of term row = bytes_eq row.term term

abbrev pub is_later : List ℕ → Row → Bool
is_later term row = is_lt (compare_names term row.term)

-- the row of a terminal
abbrev pub row_of : List ℕ → List Row → Option Row
row_of term [] = None
row_of term (row ∷ rows) = if is_of term row then Some row else row_of term rows

abbrev pub has_row : List ℕ → List Row → Bool
has_row term rows = is_some (row_of term rows)

-- a row in place of the one of its terminal
abbrev pub replaced : Row → List Row → List Row
replaced row [] = []
replaced row (old ∷ rows) = if is_of row.term old then row ∷ rows else old ∷ replaced row rows

-- a row before the first whose name comes after its own
abbrev pub inserted : Row → List Row → List Row
inserted row [] = row ∷ []
inserted row (next ∷ rows) = if is_later row.term next then row ∷ next ∷ rows else next ∷ inserted row rows

-- the rows without the one of a terminal
abbrev pub without : List ℕ → List Row → List Row
without term [] = []
without term (row ∷ rows) = if is_of term row then rows else row ∷ without term rows

-- a row with another user, or with none
abbrev pub with_user : Row → Option (List ℕ) → Row
with_user row user = record { term = row.term; class = row.class; how = row.how; user = user }

-- the number of terminals with a backup session, which are those of class 1
abbrev pub backups : List Row → ℕ
backups rows = count_by (λ (row : Row). row.class == 1) rows

-- What a table keeps: its rows are in order, and at most 64.
pub record IsTable (rows : List Row) : Type 0 where
  pub ordered : AreOrdered rows
  pub few : length rows ≤ 64
