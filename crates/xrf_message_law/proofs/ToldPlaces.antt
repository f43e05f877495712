-- What is told of a table in order: a new row, and the rows one after another.
use Rattle.std.specs.declared.cmp.Ordering.TheVariants.{Less, Equal, Greater}
use Rattle.std.proofs.Common.{List, ap, true, ◌≡◌, ℕ, refl, false, ◌∙◌, sym, [], ◌∷◌, Bool, subst, cond, None, Some, arith, length, suc, ◌≤◌, is_some, nat_le, ◌<◌, if◌then◌else◌, slice_get, zero, take, map}
use Rattle.std.specs.Ordering.{is_lt, is_eq}
use Rattle.std.specs.declared.cmp.Ordering.{Ordering}
use Rattle.std.proofs.lemmas.Cmp.{nat_list_cmp_total}
use Rattle.std.specs.Str.{bytes_eq}
use Rattle.std.proofs.lemmas.Map.Text.{is_eq-slice_cmp}
use Rattle.std.proofs.lemmas.Slice.Eq.{bytes_eq-Decides}
use Rattle.xrf_ctl.specs.declared.parts.Level.{Level}
use Rattle.xrf_msg.specs.Messages.{is_tracked}
use Rattle.xrf_terms.specs.Table.{compare_names, FirstComesAfter, AreOrdered, inserted, is_later, is_of, row_of, has_row, replaced}
use Rattle.xrf_terms.specs.declared.rows.Row.{Row}
use Rattle.xrf_terms.specs.Tracking.{set_row}
use Rattle.xrf_history.specs.Sending.{told_rows, told_row}
use Rattle.xrf_message_law.proofs.ToldRows.{seen-term, told-cons, told_with, told-yes, told-no, seen-is_of}

-- an order as a test
less-lt : (a b : List ℕ) → compare_names a b ≡ Less → is_lt (compare_names a b) ≡ true
less-lt a b is = ap is_lt is

-- and back
lt-less : (order : Ordering) → is_lt order ≡ true → order ≡ Less
lt-less Less is = refl
lt-less Equal is = absurd (cc)
lt-less Greater is = absurd (cc)

-- what comes before is neither later nor the same
less-not_later : (a b : List ℕ) → compare_names a b ≡ Less → is_lt (compare_names b a) ≡ false
less-not_later a b is = let flipped : compare_names b a ≡ Greater = nat_list_cmp_total.antisymm b a ∙ rw is refl in ap is_lt flipped

-- nor the same
pub less-other : (a b : List ℕ) → compare_names a b ≡ Less → bytes_eq a b ≡ false
less-other a b is = sym (is_eq-slice_cmp a b) ∙ ap is_eq is

-- what comes before the first of some rows comes before the second
pub after-rest : (earlier next : Row) (rows : List Row) → compare_names earlier.term next.term ≡ Less → FirstComesAfter next rows → FirstComesAfter earlier rows
after-rest earlier next [] before after = tt
after-rest earlier next (third ∷ rows) before after = nat_list_cmp_total.trans earlier.term next.term third.term before after

-- what is told of an ordered table is ordered
after-told : (level : Level) (row : Row) (rows : List Row) → FirstComesAfter row rows → AreOrdered rows → FirstComesAfter row (told_rows level rows)
after-told level row [] after ordered = tt
after-told level row (next ∷ rows) after ordered =
    subst (FirstComesAfter row) (sym (told-cons level next rows))
    (by (is_tracked next.class) (after-told level row rows (after-rest row next rows after ordered.0) ordered.1))
  where
    by : (b : Bool) → FirstComesAfter row (told_rows level rows) → FirstComesAfter row (told_with level b next (told_rows level rows))
    by true more = subst (λ (t : List ℕ). compare_names row.term t ≡ Less) (sym (seen-term level next)) after
    by false more = more

-- what is told of a row comes in its place
seen-after : (level : Level) (row : Row) (rows : List Row) → FirstComesAfter row rows → FirstComesAfter (told_row level row) rows
seen-after level row [] after = tt
seen-after level row (next ∷ rows) after = subst (λ (t : List ℕ). compare_names t next.term ≡ Less) (sym (seen-term level row)) after

-- so what is told of a table is in order
pub ordered-told : (level : Level) (rows : List Row) → AreOrdered rows → AreOrdered (told_rows level rows)
ordered-told level [] ordered = tt
ordered-told level (row ∷ rows) ordered = subst AreOrdered (sym (told-cons level row rows)) (by (is_tracked row.class) (ordered-told level rows ordered.1))
  where
    by : (b : Bool) → AreOrdered (told_rows level rows) → AreOrdered (told_with level b row (told_rows level rows))
    by true more = (seen-after level row (told_rows level rows) (after-told level row rows ordered.0 ordered.1), more)
    by false more = more

-- LOGON
inserted-first : (row : Row) (rows : List Row) → FirstComesAfter row rows → inserted row rows ≡ row ∷ rows
inserted-first row [] after = refl
inserted-first row (next ∷ rows) after = ap (λ (b : Bool). cond b (row ∷ next ∷ rows) (next ∷ inserted row rows)) (less-lt row.term next.term after)

-- a row is inserted further on
inserted-no : (row next : Row) (rows : List Row) → is_later row.term next ≡ false → inserted row (next ∷ rows) ≡ next ∷ inserted row rows
inserted-no row next rows is = ap (λ (b : Bool). cond b (row ∷ next ∷ rows) (next ∷ inserted row rows)) is

-- a row that is told is inserted in what is told
pub inserted-told : (level : Level) (row : Row) (rows : List Row) → AreOrdered rows → is_tracked row.class ≡ true
    → told_rows level (inserted row rows) ≡ inserted (told_row level row) (told_rows level rows)
inserted-told level row [] ordered tracked = told-yes level row [] tracked
inserted-told level row (next ∷ rows) ordered tracked = by (is_later row.term next) refl (inserted-told level row rows ordered.1 tracked)
  where
    seen-no : is_later row.term next ≡ false → is_later (told_row level row).term (told_row level next) ≡ false
    seen-no is =
        ap (λ (t : List ℕ). is_lt (compare_names t (told_row level next).term)) (seen-term level row) ∙ ap
        (λ (t : List ℕ). is_lt (compare_names row.term t)) (seen-term level next) ∙ is

    further : (b : Bool) → is_later row.term next ≡ false
        → told_with level b next (inserted (told_row level row) (told_rows level rows)) ≡ inserted (told_row level row)
        (told_with level b next (told_rows level rows))
    further true no_it = sym (inserted-no (told_row level row) (told_row level next) (told_rows level rows) (seen-no no_it))
    further false no_it = refl

    by : (later : Bool) → is_later row.term next ≡ later → told_rows level (inserted row rows) ≡ inserted (told_row level row) (told_rows level rows)
        → told_rows level (cond later (row ∷ next ∷ rows) (next ∷ inserted row rows)) ≡ inserted (told_row level row) (told_rows level (next ∷ rows))
    by true later more =
        told-yes level row (next ∷ rows) tracked
        ∙ sym (inserted-first (told_row level row) (told_rows level (next ∷ rows))
        (seen-after level row (told_rows level (next ∷ rows)) (after-told level row (next ∷ rows) (lt-less (compare_names row.term next.term) later) ordered)))
    by false later more =
        told-cons level next (inserted row rows) ∙ ap (told_with level (is_tracked next.class) next) more ∙ further (is_tracked next.class) later
        ∙ ap (inserted (told_row level row)) (sym (told-cons level next rows))

-- one that is not leaves it
pub inserted-untold : (level : Level) (row : Row) (rows : List Row) → is_tracked row.class ≡ false → told_rows level (inserted row rows) ≡ told_rows level rows
inserted-untold level row [] untracked = told-no level row [] untracked
inserted-untold level row (next ∷ rows) untracked = by (is_later row.term next) (inserted-untold level row rows untracked)
  where
    by : (later : Bool) → told_rows level (inserted row rows) ≡ told_rows level rows
        → told_rows level (cond later (row ∷ next ∷ rows) (next ∷ inserted row rows)) ≡ told_rows level (next ∷ rows)
    by true more = told-no level row (next ∷ rows) untracked
    by false more = told-cons level next (inserted row rows) ∙ ap (told_with level (is_tracked next.class) next) more ∙ sym (told-cons level next rows)

-- a row that is inserted is found
pub found-inserted : (row : Row) (rows : List Row) → row_of row.term rows ≡ None → row_of row.term (inserted row rows) ≡ Some row
found-inserted row [] absent = ap (λ (b : Bool). cond b (Some row) None) ((bytes_eq-Decides row.term row.term).1 refl)
found-inserted row (next ∷ rows) absent = by (is_later row.term next) (is_of row.term next) refl absent (λ none. found-inserted row rows none)
  where
    by : (later own : Bool) → is_of row.term next ≡ own → cond own (Some next) (row_of row.term rows) ≡ None
        → (row_of row.term rows ≡ None → row_of row.term (inserted row rows) ≡ Some row)
        → row_of row.term (cond later (row ∷ next ∷ rows) (next ∷ inserted row rows)) ≡ Some row
    by later true own none more = absurd (cc)
    by true false other none more = ap (λ (b : Bool). cond b (Some row) (row_of row.term (next ∷ rows))) ((bytes_eq-Decides row.term row.term).1 refl)
    by false false other none more = ap (λ (b : Bool). cond b (Some next) (row_of row.term (inserted row rows))) other ∙ more none

-- a terminal without a row is not told
pub absent-told : (level : Level) (term : List ℕ) (rows : List Row) → row_of term rows ≡ None → row_of term (told_rows level rows) ≡ None
absent-told level term [] absent = refl
absent-told level term (next ∷ rows) absent =
    ap (row_of term) (told-cons level next rows) ∙ by (is_tracked next.class) (is_of term next) refl absent (λ none. absent-told level term rows none)
  where
    by : (b own : Bool) → is_of term next ≡ own → cond own (Some next) (row_of term rows) ≡ None
        → (row_of term rows ≡ None → row_of term (told_rows level rows) ≡ None)
        → row_of term (told_with level b next (told_rows level rows)) ≡ None
    by b true own none more = absurd (cc)
    by true false other none more =
        ap (λ (o : Bool). cond o (Some (told_row level next)) (row_of term (told_rows level rows))) (seen-is_of level term next ∙ other) ∙ more none
    by false false other none more = more none

-- no more rows are told than there are
pub length-told : (level : Level) (rows : List Row) → length (told_rows level rows) ≤ length rows
length-told level [] = omega arith
length-told level (row ∷ rows) =
    subst (λ (l : List Row). length l ≤ suc (length rows)) (sym (told-cons level row rows)) (by (is_tracked row.class) (length-told level rows))
  where
    by : (b : Bool) → length (told_rows level rows) ≤ length rows → length (told_with level b row (told_rows level rows)) ≤ suc (length rows)
    by true few = omega (arith, few)
    by false few = omega (arith, few)

-- a new row that finds its place
pub set-new : (row : Row) (rows : List Row) → row_of row.term rows ≡ None → length rows < 64 → set_row row rows ≡ inserted row rows
set-new row rows absent few = by (has_row row.term rows) (nat_le 64 (length rows)) refl (ap is_some absent)
  where
    by : (has full : Bool) → nat_le 64 (length rows) ≡ full → has ≡ false
        → (if has then replaced row rows else (if full then rows else inserted row rows)) ≡ inserted row rows
    by true full is no_it = absurd (cc)
    by false true is no_it = absurd (grind (arith, is, few))
    by false false is no_it = refl

-- the rows of an ordered table one after another
before-next : (first row : Row) (rest : List Row) (k : ℕ) → FirstComesAfter first rest → AreOrdered rest → slice_get rest k ≡ Some row
    → compare_names first.term row.term ≡ Less
before-next first row [] k after ordered is = absurd (cc)
before-next first row (next ∷ rest) zero after ordered is = let same : next ≡ row = cc in subst (λ (r : Row). compare_names first.term r.term ≡ Less) same after
before-next first row (next ∷ rest) (suc k) after ordered is = before-next first row rest k (after-rest first next rest after ordered.0) ordered.1 is

-- so the next row is inserted at the end
pub inserted-next : (row : Row) (rows : List Row) (k : ℕ) → AreOrdered rows → slice_get rows k ≡ Some row → inserted row (take k rows) ≡ take (suc k) rows
inserted-next row [] k ordered is = absurd (cc)
inserted-next row (first ∷ rows) zero ordered is = let same : first ≡ row = cc in ap (λ (r : Row). r ∷ []) (sym same)
inserted-next row (first ∷ rows) (suc k) ordered is =
    inserted-no row first (take k rows) (less-not_later first.term row.term (before-next first row rows k ordered.0 ordered.1 is))
    ∙ ap (λ (rest : List Row). first ∷ rest) (inserted-next row rows k ordered.1 is)

-- it is not there yet
pub absent-next : (row : Row) (rows : List Row) (k : ℕ) → AreOrdered rows → slice_get rows k ≡ Some row → row_of row.term (take k rows) ≡ None
absent-next row [] k ordered is = absurd (cc)
absent-next row (first ∷ rows) zero ordered is = refl
absent-next row (first ∷ rows) (suc k) ordered is =
    ap (λ (b : Bool). cond b (Some first) (row_of row.term (take k rows)))
    (less-other first.term row.term (before-next first row rows k ordered.0 ordered.1 is))
    ∙ absent-next row rows k ordered.1 is

-- and there is room
pub few-next : (row : Row) (rows : List Row) (k : ℕ) → slice_get rows k ≡ Some row → length (take k rows) < length rows
few-next row [] k is = absurd (cc)
few-next row (first ∷ rows) zero is = omega arith
few-next row (first ∷ rows) (suc k) is = let more = few-next row rows k is in omega (arith, more)

-- so the next row is set at the end
pub set-next : (row : Row) (rows : List Row) (k : ℕ) → AreOrdered rows → length rows ≤ 64 → slice_get rows k ≡ Some row
    → set_row row (take k rows) ≡ take (suc k) rows
set-next row rows k ordered few is =
    let short = few-next row rows k is in
    set-new row (take k rows) (absent-next row rows k ordered is) (omega (arith, short, few)) ∙ inserted-next row rows k ordered is

-- what is told of the row of a place
pub told-get : (level : Level) (rows : List Row) (k : ℕ) (row : Row) → slice_get rows k ≡ Some row
    → slice_get (map (told_row level) rows) k ≡ Some (told_row level row)
told-get level [] k row is = absurd (cc)
told-get level (first ∷ rows) zero row is = let same : first ≡ row = cc in ap (λ (r : Row). Some (told_row level r)) same
told-get level (first ∷ rows) (suc k) row is = told-get level rows k row is

-- past the last
pub take-past : (level : Level) (rows : List Row) (k : ℕ) → slice_get rows k ≡ None → take k (map (told_row level) rows) ≡ map (told_row level) rows
take-past level [] zero is = refl
take-past level [] (suc k) is = refl
take-past level (first ∷ rows) zero is = absurd (cc)
take-past level (first ∷ rows) (suc k) is = ap (λ (rest : List Row). told_row level first ∷ rest) (take-past level rows k is)
