-- The changes of a table at the place of a terminal.
use Rattle.std.proofs.Common.{◌≡◌, ◌≢◌, ℕ, zero, suc, ◌+◌, ◌≤◌, ◌<◌, Bool, true, false, not, cond, List, [], ◌∷◌, length, slice_get, get_or, Option, Some, None, is_some, nat_lt, unwrap_or, refl, sym, ap, ◌∙◌, subst, arith}
use Rattle.std.specs.Prelude.{insert, remove, slice_set}
use Rattle.std.specs.List.{position, position_or_len}
use Rattle.std.proofs.lemmas.Bool.Decides.{nat_tests}
use Rattle.std.proofs.lemmas.List.Sums.{prefix_len-le-length}
use Rattle.std.proofs.lemmas.Option.{slice_get_read}
use Rattle.std.proofs.lemmas.Slice.Eq.{bytes_eq-Decides}
use Rattle.xrf_terms.specs.declared.rows.Row.{Row}
use Rattle.xrf_terms.specs.Table.{is_of, is_later, row_of, has_row, replaced, inserted, without}

-- What holds where a terminal's row stands at a place.
pub record StandsAt (term : List ℕ) (rows : List Row) (place : ℕ) : Type 0 where
  pub inside : place < length rows
  pub found : row_of term rows ≡ slice_get rows place
  pub removed : without term rows ≡ remove rows place
  pub set : (row : Row) → row.term ≡ term → replaced row rows ≡ slice_set rows place row

pub record StandsNowhere (term : List ℕ) (rows : List Row) : Type 0 where
  pub absent : row_of term rows ≡ None
  pub kept : without term rows ≡ rows

here : (term : List ℕ) (first : Row) (rows : List Row) → is_of term first ≡ true → StandsAt term (first ∷ rows) 0
here term first rows own = record {
  inside = omega arith;
  found = rw own refl;
  removed = rw own refl;
  set = λ row same. let own_row : is_of row.term first ≡ true = subst (λ (t : List ℕ). is_of t first ≡ true) (sym same) own in rw own_row refl;
}

further : (term : List ℕ) (first : Row) (rows : List Row) (place : ℕ) → is_of term first ≡ false → StandsAt term rows place → StandsAt term (first ∷ rows) (suc place)
further term first rows place other more = record {
  inside = let inside = more.inside in omega arith;
  found = rw other more.found;
  removed = rw other (ap (λ (rest : List Row). first ∷ rest) more.removed);
  set = λ row same. let other_row : is_of row.term first ≡ false = subst (λ (t : List ℕ). is_of t first ≡ false) (sym same) other in rw other_row (ap (λ (rest : List Row). first ∷ rest) (more.set row same));
}

nowhere_further : (term : List ℕ) (first : Row) (rows : List Row) → is_of term first ≡ false → StandsNowhere term rows → StandsNowhere term (first ∷ rows)
nowhere_further term first rows other more = record {
  absent = rw other more.absent;
  kept = rw other (ap (λ (rest : List Row). first ∷ rest) more.kept);
}

-- where a terminal stands, by the first place that passes
abbrev Stands : List ℕ → List Row → ℕ → Type 0
Stands term rows place = (place < length rows → StandsAt term rows place) × (length rows ≤ place → StandsNowhere term rows)

stands_further : (term : List ℕ) (first : Row) (rows : List Row) (place : ℕ) → is_of term first ≡ false → Stands term rows place → Stands term (first ∷ rows) (1 + place)
stands_further term first rows place other more =
    let one : 1 + place ≡ suc place = omega arith in (
      λ inside. subst (StandsAt term (first ∷ rows)) (sym one) (further term first rows place other (more.0 (omega arith))),
      λ outside. nowhere_further term first rows other (more.1 (omega arith)),
    )

by_first : (term : List ℕ) (first : Row) (rows : List Row) (own : Bool) → is_of term first ≡ own → Stands term rows (position_or_len (is_of term) rows)
    → Stands term (first ∷ rows) (cond (not own) (1 + position_or_len (is_of term) rows) 0)
by_first term first rows true own more = (λ inside. here term first rows own, λ outside. absurd (omega arith))
by_first term first rows false own more = stands_further term first rows (position_or_len (is_of term) rows) own more

stands : (term : List ℕ) (rows : List Row) → Stands term rows (position_or_len (is_of term) rows)
stands term [] = (λ inside. absurd (omega arith), λ outside. record { absent = refl; kept = refl })
stands term (first ∷ rows) = by_first term first rows (is_of term first) refl (stands term rows)

by_inside : (term : List ℕ) (rows : List Row) (inside : Bool) → nat_lt (position_or_len (is_of term) rows) (length rows) ≡ inside
    → (place : ℕ) → Some place ≡ cond inside (Some (position_or_len (is_of term) rows)) None → StandsAt term rows place
by_inside term rows true within place e =
    let same : position_or_len (is_of term) rows ≡ place = cc in
    subst (StandsAt term rows) same ((stands term rows).0 (grind (arith, nat_tests)))
by_inside term rows false within place e = cc

-- A terminal stands where the code finds it.
pub stands_at : (term : List ℕ) (rows : List Row) (place : ℕ) → Some place ≡ position (is_of term) rows → StandsAt term rows place
stands_at term rows place e = by_inside term rows (nat_lt (position_or_len (is_of term) rows) (length rows)) refl place e

by_outside : (term : List ℕ) (rows : List Row) (inside : Bool) → nat_lt (position_or_len (is_of term) rows) (length rows) ≡ inside
    → None ≡ cond inside (Some (position_or_len (is_of term) rows)) None → StandsNowhere term rows
by_outside term rows true within e = cc
by_outside term rows false within e = (stands term rows).1 (grind (arith, nat_tests))

pub stands_nowhere : (term : List ℕ) (rows : List Row) → None ≡ position (is_of term) rows → StandsNowhere term rows
stands_nowhere term rows e = by_outside term rows (nat_lt (position_or_len (is_of term) rows) (length rows)) refl e

-- A row comes before the first whose name is later.
pub inserted-insert : (row : Row) (rows : List Row) → inserted row rows ≡ insert rows (position_or_len (is_later row.term) rows) row
inserted-insert row [] = refl
inserted-insert row (next ∷ rows) = by (is_later row.term next) refl (inserted-insert row rows)
  where
    by : (later : Bool) → is_later row.term next ≡ later → inserted row rows ≡ insert rows (position_or_len (is_later row.term) rows) row
        → cond later (row ∷ next ∷ rows) (next ∷ inserted row rows) ≡ insert (next ∷ rows) (cond (not later) (1 + position_or_len (is_later row.term) rows) 0) row
    by true e more = refl
    by false e more = let one : 1 + position_or_len (is_later row.term) rows ≡ suc (position_or_len (is_later row.term) rows) = omega arith in rw one (ap (λ (rest : List Row). next ∷ rest) more)

-- the place of the first that passes, or the end
pub unwrap_or-position : (p : Row → Bool) (rows : List Row) → unwrap_or (position p rows) (length rows) ≡ position_or_len p rows
unwrap_or-position p rows = by (nat_lt (position_or_len p rows) (length rows)) refl
  where
    by : (inside : Bool) → nat_lt (position_or_len p rows) (length rows) ≡ inside
        → unwrap_or (cond inside (Some (position_or_len p rows)) None) (length rows) ≡ position_or_len p rows
    by true e = refl
    by false e = let le = prefix_len-le-length (λ row. not (p row)) rows in grind (arith, nat_tests)

pub length-inserted : (row : Row) (rows : List Row) → length (inserted row rows) ≡ length rows + 1
length-inserted row [] = refl
length-inserted row (next ∷ rows) = by (is_later row.term next) refl (length-inserted row rows)
  where
    by : (later : Bool) → is_later row.term next ≡ later → length (inserted row rows) ≡ length rows + 1 → length (cond later (row ∷ next ∷ rows) (next ∷ inserted row rows)) ≡ length (next ∷ rows) + 1
    by true e more = omega arith
    by false e more = omega arith

pub inserted-other : (row : Row) (rows : List Row) → inserted row rows ≢ rows
inserted-other row rows e = let longer = ap length e in let by_one = length-inserted row rows in omega arith

-- a row that is put where the code finds the first later one
pub inserted_at : (row : Row) (rows after : List Row) (later : Option ℕ) (place len : ℕ) → later ≡ position (is_later row.term) rows → place ≡ unwrap_or later len → len ≡ length rows
    → after ≡ insert rows place row → after ≡ inserted row rows
inserted_at row rows after later place len at place_is len_is put =
    let same : place ≡ position_or_len (is_later row.term) rows = place_is ∙ ap (λ (n : ℕ). unwrap_or later n) len_is ∙ ap (λ (o : Option ℕ). unwrap_or o (length rows)) at ∙ unwrap_or-position (is_later row.term) rows in
    put ∙ ap (λ (p : ℕ). insert rows p row) same ∙ sym (inserted-insert row rows)

-- a row that is read where the code finds the terminal's
pub row_read : (term : List ℕ) (rows : List Row) (place : ℕ) (row : Row) → Some place ≡ position (is_of term) rows → row ≡ get_or rows place row → Some row ≡ row_of term rows
row_read term rows place row at read =
    let there = stands_at term rows place at in
    sym (there.found ∙ slice_get_read rows (length rows) place row refl there.inside read)

-- the terminal of a row that is there stands somewhere
pub has_row-nowhere : (term : List ℕ) (rows : List Row) → has_row term rows ≡ true → None ≡ position (is_of term) rows → ⊥
has_row-nowhere term rows has none = let absent = ap is_some (stands_nowhere term rows none).absent in cc

set_same : (rows : List Row) (place : ℕ) (row : Row) → row ≡ get_or rows place row → slice_set rows place row ≡ rows
set_same [] place row e = refl
set_same (first ∷ rows) zero row e = ap (λ (r : Row). r ∷ rows) e
set_same (first ∷ rows) (suc place) row e = ap (λ (rest : List Row). first ∷ rest) (set_same rows place row e)

-- a row that is there already replaces itself
pub replaced_same : (row old : Row) (rows : List Row) (place : ℕ) → Some place ≡ position (is_of row.term) rows → old ≡ get_or rows place old → old ≡ row → rows ≡ replaced row rows
replaced_same row old rows place at read same =
    let mine : row ≡ get_or rows place row = subst (λ (r : Row). r ≡ get_or rows place r) same read in
    sym ((stands_at row.term rows place at).set row refl ∙ set_same rows place row mine)

-- the row that is found is of the terminal
pub row_of-term : (term : List ℕ) (rows : List Row) (row : Row) → row_of term rows ≡ Some row → row.term ≡ term
row_of-term term [] row e = cc
row_of-term term (first ∷ rows) row e = by (is_of term first) refl e (row_of-term term rows row)
  where
    by : (own : Bool) → is_of term first ≡ own → cond own (Some first) (row_of term rows) ≡ Some row → (row_of term rows ≡ Some row → row.term ≡ term) → row.term ≡ term
    by true own found more = let one : first ≡ row = cc in subst (λ (r : Row). r.term ≡ term) one ((bytes_eq-Decides first.term term).0 own)
    by false own found more = more found

-- so its terminal has a row
pub has_row-found : (term : List ℕ) (rows : List Row) (row : Row) → Some row ≡ row_of term rows → has_row row.term rows ≡ true
has_row-found term rows row e = ap (λ (t : List ℕ). is_some (row_of t rows)) (row_of-term term rows row (sym e)) ∙ ap is_some (sym e)

pub has_row-at : (term : List ℕ) (rows : List Row) (place : ℕ) → Some place ≡ position (is_of term) rows → has_row term rows ≡ true
has_row-at term rows place at =
    let there = stands_at term rows place at in
    ap is_some there.found ∙ inside_is rows place there.inside
  where
    inside_is : (list : List Row) (at : ℕ) → at < length list → is_some (slice_get list at) ≡ true
    inside_is [] at inside = absurd (omega arith)
    inside_is (x ∷ xs) zero inside = refl
    inside_is (x ∷ xs) (suc at) inside = inside_is xs at (omega arith)

pub has_row-none : (term : List ℕ) (rows : List Row) → None ≡ position (is_of term) rows → has_row term rows ≡ false
has_row-none term rows none = ap is_some (stands_nowhere term rows none).absent
