-- A message that is applied a second time changes nothing.
use Rattle.std.proofs.Common.{Bool, List, Some, ap, false, refl, sym, true, ◌≡◌, if◌then◌else◌, [], ◌∷◌, Option, is_some, ◌∙◌, None, length, nat_le, ℕ}
use Rattle.std.proofs.lemmas.Slice.Eq.{bytes_eq-Decides}
use Rattle.std.specs.declared.cmp.Ordering.TheVariants.{Less}
use Rattle.std.specs.Str.{bytes_eq}
use Rattle.xrf_msg.specs.declared.messages.Message.TheVariants.{Begin, End, Term, User}
use Rattle.xrf_msg.specs.declared.messages.Message.{Message}
use Rattle.xrf_terms.specs.declared.rows.Row.{Row}
use Rattle.xrf_terms.specs.Table.{is_of, replaced, row_of, has_row, inserted, without, compare_names, AreOrdered, FirstComesAfter, IsTable}
use Rattle.xrf_terms.specs.Tracking.{set_row, switched, tracked_after, tracked_row, tracked}
use Rattle.xrf_message_law.proofs.ToldRows.{found-here, found-there}
use Rattle.xrf_message_law.proofs.ToldItems.{set-old}
use Rattle.xrf_message_law.proofs.ToldPlaces.{found-inserted, less-other, after-rest}
use Rattle.xrf_message_law.proofs.Tables.{empty-table, tracked-table}

-- a row that is there already is set without a change
replaced-found : (row : Row) (rows : List Row) → row_of row.term rows ≡ Some row → replaced row rows ≡ rows
replaced-found row [] found = refl
replaced-found row (first ∷ rows) found = by (is_of row.term first) refl (λ there. replaced-found row rows there)
  where
    by : (own : Bool) → is_of row.term first ≡ own → (row_of row.term rows ≡ Some row → replaced row rows ≡ rows)
        → (if own then row ∷ rows else first ∷ replaced row rows) ≡ first ∷ rows
    by true own more = ap (λ (r : Row). r ∷ rows) (sym (found-here row.term first row rows own found))
    by false other more = ap (λ (l : List Row). first ∷ l) (more (found-there row.term first row rows other found))

-- a row that is found is there
some-there : (o : Option Row) (row : Row) → o ≡ Some row → is_some o ≡ true
some-there o row is = ap (λ (one : Option Row). is_some one) is

-- so a row that is there is set without a change
set-found : (row : Row) (rows : List Row) → row_of row.term rows ≡ Some row → set_row row rows ≡ rows
set-found row rows found = set-old row rows (some-there (row_of row.term rows) row found) ∙ replaced-found row rows found

-- a row that replaced another is there
found-after : (row : Row) (rows : List Row) → has_row row.term rows ≡ true → row_of row.term (replaced row rows) ≡ Some row
found-after row [] has = absurd (cc)
found-after row (first ∷ rows) has = by (is_of row.term first) refl has (λ there. found-after row rows there)
  where
    by : (own : Bool) → is_of row.term first ≡ own → is_some (if own then Some first else row_of row.term rows) ≡ true
        → (has_row row.term rows ≡ true → row_of row.term (replaced row rows) ≡ Some row)
        → row_of row.term (if own then row ∷ rows else first ∷ replaced row rows) ≡ Some row
    by true own has more = ap (λ (b : Bool). if b then Some row else row_of row.term rows) ((bytes_eq-Decides row.term row.term).1 refl)
    by false other has more = ap (λ (b : Bool). if b then Some first else row_of row.term (replaced row rows)) other ∙ more has

-- a row that is not there is not found
none-there : (o : Option Row) → is_some o ≡ false → o ≡ None
none-there None is = refl
none-there (Some row) is = absurd (cc)

-- a row that is set twice is set once
set-twice : (row : Row) (rows : List Row) → set_row row (set_row row rows) ≡ set_row row rows
set-twice row rows = by (has_row row.term rows) (nat_le 64 (length rows)) refl refl
  where
    by : (has full : Bool) → has_row row.term rows ≡ has → nat_le 64 (length rows) ≡ full
        → set_row row (if has then replaced row rows else (if full then rows else inserted row rows))
        ≡ (if has then replaced row rows else (if full then rows else inserted row rows))
    by true full has is_full = set-found row (replaced row rows) (found-after row rows has)
    by false true has is_full =
        ap (λ (b : Bool). if b then replaced row rows else (if nat_le 64 (length rows) then rows else inserted row rows)) has
        ∙ ap (λ (b : Bool). if b then rows else inserted row rows) is_full
    by false false has is_full = set-found row (inserted row rows) (found-inserted row rows (none-there (row_of row.term rows) has))

-- a row that is gone is removed without a change
without-absent : (term : List ℕ) (rows : List Row) → row_of term rows ≡ None → without term rows ≡ rows
without-absent term [] absent = refl
without-absent term (first ∷ rows) absent = by (is_of term first) absent (λ none. without-absent term rows none)
  where
    by : (own : Bool) → (if own then Some first else row_of term rows) ≡ None → (row_of term rows ≡ None → without term rows ≡ rows)
        → (if own then rows else first ∷ without term rows) ≡ first ∷ rows
    by true none more = absurd (cc)
    by false none more = ap (λ (l : List Row). first ∷ l) (more none)

-- a terminal that comes after another is not that one
after-other : (a b : List ℕ) → compare_names a b ≡ Less → bytes_eq b a ≡ false
after-other a b is = by (bytes_eq b a) refl
  where
    by : (same : Bool) → bytes_eq b a ≡ same → same ≡ false
    by true same =
        let other : bytes_eq a b ≡ false = less-other a b is in
        let one : bytes_eq a b ≡ true = (bytes_eq-Decides a b).1 (sym ((bytes_eq-Decides b a).0 same)) in absurd (cc)
    by false same = refl

-- in an ordered table the rows after one are of other terminals
rest-absent : (first : Row) (rows : List Row) → FirstComesAfter first rows → AreOrdered rows → row_of first.term rows ≡ None
rest-absent first [] after ordered = refl
rest-absent first (second ∷ rows) after ordered =
    ap (λ (b : Bool). if b then Some second else row_of first.term rows) (after-other first.term second.term after)
    ∙ rest-absent first rows (after-rest first second rows after ordered.0) ordered.1

-- a row that was removed is not there
without-gone : (term : List ℕ) (rows : List Row) → AreOrdered rows → row_of term (without term rows) ≡ None
without-gone term [] ordered = refl
without-gone term (first ∷ rows) ordered = by (is_of term first) refl (without-gone term rows ordered.1)
  where
    by : (own : Bool) → is_of term first ≡ own → row_of term (without term rows) ≡ None
        → row_of term (if own then rows else first ∷ without term rows) ≡ None
    by true own more =
        let same : first.term ≡ term = (bytes_eq-Decides first.term term).0 own in
        ap (λ (name : List ℕ). row_of name rows) (sym same) ∙ rest-absent first rows ordered.0 ordered.1
    by false other more = ap (λ (b : Bool). if b then Some first else row_of term (without term rows)) other ∙ more

-- a row that is switched twice is switched once
switched-twice : (row : Row) (on : Bool) (rows : List Row) → AreOrdered rows → switched row on (switched row on rows) ≡ switched row on rows
switched-twice row true rows ordered = set-twice row rows
switched-twice row false rows ordered = without-absent row.term (without row.term rows) (without-gone row.term rows ordered)

-- a message that is applied twice is applied once
tracked-twice : (rows : List Row) (m : Message) → AreOrdered rows → tracked_after (tracked_after rows m) m ≡ tracked_after rows m
tracked-twice rows (Begin epoch) ordered = refl
tracked-twice rows (Term epoch number term class on) ordered = switched-twice (tracked_row term class None) on rows ordered
tracked-twice rows (End epoch number) ordered = refl
tracked-twice rows (User epoch number term class on user) ordered = switched-twice (tracked_row term class user) on rows ordered

-- what messages track is a table
are-table : (messages : List Message) → IsTable (tracked messages)
are-table [] = empty-table
are-table (m ∷ older) = tracked-table (tracked older) m (are-table older)

-- **the last message once more**
pub once-more : (m : Message) (older : List Message) → tracked_after (tracked (m ∷ older)) m ≡ tracked (m ∷ older)
once-more m older = tracked-twice (tracked older) m (are-table older).ordered
