-- What is told of a table after its changes.
use Rattle.std.proofs.Common.{refl, ◌≡◌, List, ap, ℕ, Bool, cond, ◌∷◌, false, filter, map, true, ◌∙◌, Some, sym, subst, [], Option, is_some}
use Rattle.std.specs.Str.{bytes_eq}
use Rattle.std.proofs.lemmas.Slice.Eq.{bytes_eq-Decides}
use Rattle.xrf_ctl.specs.declared.parts.Level.{Level}
use Rattle.xrf_ctl.specs.declared.parts.Level.TheVariants.{One, Two}
use Rattle.xrf_msg.specs.Messages.{is_tracked}
use Rattle.xrf_terms.specs.declared.rows.Row.{Row}
use Rattle.xrf_terms.specs.Table.{is_of, without, row_of, replaced, with_user, has_row}
use Rattle.xrf_history.specs.Sending.{told_row, told_rows}

-- what is told of a row is of its terminal
pub seen-term : (level : Level) (row : Row) → (told_row level row).term ≡ row.term
seen-term One row = refl
seen-term Two row = refl

-- and is found under the same name
pub seen-is_of : (level : Level) (term : List ℕ) (row : Row) → is_of term (told_row level row) ≡ is_of term row
seen-is_of level term row = ap (λ (t : List ℕ). bytes_eq t term) (seen-term level row)

-- what is told of a first row, by whether it is tracked
abbrev pub told_with : Level → Bool → Row → List Row → List Row
told_with level b row rows = cond b (told_row level row ∷ rows) rows

-- what is told of a table, first row first
pub told-cons : (level : Level) (row : Row) (rows : List Row) → told_rows level (row ∷ rows) ≡ told_with level (is_tracked row.class) row (told_rows level rows)
told-cons level row rows = by (is_tracked row.class)
  where
    by : (b : Bool)
        → map (told_row level) (cond b (row ∷ filter (λ (r : Row). is_tracked r.class) rows)
        (filter (λ (r : Row). is_tracked r.class) rows)) ≡ told_with level b row (told_rows level rows)
    by true = refl
    by false = refl

-- a first row that is told
pub told-yes : (level : Level) (row : Row) (rows : List Row) → is_tracked row.class ≡ true
    → told_rows level (row ∷ rows) ≡ told_row level row ∷ told_rows level rows
told-yes level row rows is = told-cons level row rows ∙ ap (λ (b : Bool). told_with level b row (told_rows level rows)) is

-- and one that is not
pub told-no : (level : Level) (row : Row) (rows : List Row) → is_tracked row.class ≡ false → told_rows level (row ∷ rows) ≡ told_rows level rows
told-no level row rows is = told-cons level row rows ∙ ap (λ (b : Bool). told_with level b row (told_rows level rows)) is

-- LOGOFF
without-yes : (term : List ℕ) (row : Row) (rows : List Row) → is_of term row ≡ true → without term (row ∷ rows) ≡ rows
without-yes term row rows is = rw is refl

-- a first row of another terminal
without-no : (term : List ℕ) (row : Row) (rows : List Row) → is_of term row ≡ false → without term (row ∷ rows) ≡ row ∷ without term rows
without-no term row rows is = rw is refl

-- a row that is found is the first
pub found-here : (term : List ℕ) (first row : Row) (rows : List Row) → is_of term first ≡ true → row_of term (first ∷ rows) ≡ Some row → first ≡ row
found-here term first row rows own found = let one : Some first ≡ Some row = sym (ap (λ (b : Bool). cond b (Some first) (row_of term rows)) own) ∙ found in cc

-- or is found among the others
pub found-there : (term : List ℕ) (first row : Row) (rows : List Row) → is_of term first ≡ false → row_of term (first ∷ rows) ≡ Some row
    → row_of term rows ≡ Some row
found-there term first row rows other found = sym (ap (λ (b : Bool). cond b (Some first) (row_of term rows)) other) ∙ found

-- a table whose first row is told, or is not
pub without-told : (level : Level) (term : List ℕ) (rows : List Row) (row : Row) → row_of term rows ≡ Some row → is_tracked row.class ≡ true
    → told_rows level (without term rows) ≡ without term (told_rows level rows)
without-told level term [] row found tracked = absurd (cc)
without-told level term (first ∷ rows) row found tracked =
    by (is_of term first) (is_tracked first.class) refl refl (λ there. without-told level term rows row there tracked)
  where
    by : (own b : Bool) → is_of term first ≡ own → is_tracked first.class ≡ b
        → (row_of term rows ≡ Some row → told_rows level (without term rows) ≡ without term (told_rows level rows))
        → told_rows level (without term (first ∷ rows)) ≡ without term (told_rows level (first ∷ rows))
    by true b own class_is more =
        let yes_it : is_tracked first.class ≡ true = subst (λ (r : Row). is_tracked r.class ≡ true) (sym (found-here term first row rows own found)) tracked in
        ap (told_rows level) (without-yes term first rows own)
        ∙ sym
        (ap (without term) (told-yes level first rows yes_it) ∙ without-yes term (told_row level first) (told_rows level rows) (seen-is_of level term first
        ∙ own))
    by false true other class_is more =
        ap (told_rows level) (without-no term first rows other) ∙ told-yes level first (without term rows) class_is
        ∙ ap (λ (rest : List Row). told_row level first ∷ rest) (more (found-there term first row rows other found))
        ∙ sym
        (ap (without term) (told-yes level first rows class_is) ∙ without-no term (told_row level first) (told_rows level rows) (seen-is_of level term first
        ∙ other))
    by false false other class_is more =
        ap (told_rows level) (without-no term first rows other) ∙ told-no level first (without term rows) class_is
        ∙ more (found-there term first row rows other found)
        ∙ sym (ap (without term) (told-no level first rows class_is))

-- a row that is not told is removed without a change of what is told
pub without-untold : (level : Level) (term : List ℕ) (rows : List Row) (row : Row) → row_of term rows ≡ Some row → is_tracked row.class ≡ false
    → told_rows level (without term rows) ≡ told_rows level rows
without-untold level term [] row found untracked = absurd (cc)
without-untold level term (first ∷ rows) row found untracked =
    by (is_of term first) (is_tracked first.class) refl refl (λ there. without-untold level term rows row there untracked)
  where
    by : (own b : Bool) → is_of term first ≡ own → is_tracked first.class ≡ b
        → (row_of term rows ≡ Some row → told_rows level (without term rows) ≡ told_rows level rows)
        → told_rows level (without term (first ∷ rows)) ≡ told_rows level (first ∷ rows)
    by true b own class_is more =
        let no_it : is_tracked first.class ≡ false = subst (λ (r : Row). is_tracked r.class ≡ false)
        (sym (found-here term first row rows own found)) untracked in
        ap (told_rows level) (without-yes term first rows own) ∙ sym (told-no level first rows no_it)
    by false true other class_is more =
        ap (told_rows level) (without-no term first rows other) ∙ told-yes level first (without term rows) class_is
        ∙ ap (λ (rest : List Row). told_row level first ∷ rest) (more (found-there term first row rows other found))
        ∙ sym (told-yes level first rows class_is)
    by false false other class_is more =
        ap (told_rows level) (without-no term first rows other) ∙ told-no level first (without term rows) class_is
        ∙ more (found-there term first row rows other found)
        ∙ sym (told-no level first rows class_is)

-- SIGNON and SIGNOFF
replaced-yes : (row first : Row) (rows : List Row) → is_of row.term first ≡ true → replaced row (first ∷ rows) ≡ row ∷ rows
replaced-yes row first rows is = rw is refl

-- a first row of another terminal
replaced-no : (row first : Row) (rows : List Row) → is_of row.term first ≡ false → replaced row (first ∷ rows) ≡ first ∷ replaced row rows
replaced-no row first rows is = rw is refl

-- what is told of a row has its terminal
seen-own : (level : Level) (row first : Row) (b : Bool) → is_of row.term first ≡ b → is_of (told_row level row).term (told_row level first) ≡ b
seen-own level row first b is = seen-is_of level (told_row level row).term first ∙ ap (λ (t : List ℕ). is_of t first) (seen-term level row) ∙ is

-- a row that is told is replaced in what is told
pub replaced-told : (level : Level) (row : Row) (user : Option (List ℕ)) (rows : List Row) → row_of row.term rows ≡ Some row → is_tracked row.class ≡ true
    → told_rows level (replaced (with_user row user) rows) ≡ replaced (told_row level (with_user row user)) (told_rows level rows)
replaced-told level row user [] found tracked = absurd (cc)
replaced-told level row user (first ∷ rows) found tracked =
    by (is_of row.term first) (is_tracked first.class) refl refl (λ there. replaced-told level row user rows there tracked)
  where
    new : Row
    new = with_user row user

    by : (own b : Bool) → is_of row.term first ≡ own → is_tracked first.class ≡ b
        → (row_of row.term rows ≡ Some row → told_rows level (replaced (with_user row user) rows) ≡ replaced (told_row level (with_user row user))
        (told_rows level rows))
        → told_rows level (replaced (with_user row user) (first ∷ rows)) ≡ replaced (told_row level (with_user row user)) (told_rows level (first ∷ rows))
    by true b own class_is more =
        let yes_it : is_tracked first.class ≡ true = subst (λ (r : Row). is_tracked r.class ≡ true)
        (sym (found-here row.term first row rows own found)) tracked in
        ap (told_rows level) (replaced-yes new first rows own) ∙ told-yes level new rows tracked
        ∙ sym
        (ap (replaced (told_row level new)) (told-yes level first rows yes_it) ∙ replaced-yes (told_row level new) (told_row level first)
        (told_rows level rows) (seen-own level new first true own))
    by false true other class_is more =
        ap (told_rows level) (replaced-no new first rows other) ∙ told-yes level first (replaced new rows) class_is
        ∙ ap (λ (rest : List Row). told_row level first ∷ rest) (more (found-there row.term first row rows other found))
        ∙ sym
        (ap (replaced (told_row level new)) (told-yes level first rows class_is) ∙ replaced-no (told_row level new) (told_row level first)
        (told_rows level rows) (seen-own level new first false other))
    by false false other class_is more =
        ap (told_rows level) (replaced-no new first rows other) ∙ told-no level first (replaced new rows) class_is
        ∙ more (found-there row.term first row rows other found)
        ∙ sym (ap (replaced (told_row level new)) (told-no level first rows class_is))

-- where the row is not told, or told without its user, nothing changes
pub replaced-untold : (level : Level) (row : Row) (user : Option (List ℕ)) (rows : List Row) → row_of row.term rows ≡ Some row
    → (is_tracked row.class ≡ true → told_row level (with_user row user) ≡ told_row level row)
    → told_rows level (replaced (with_user row user) rows) ≡ told_rows level rows
replaced-untold level row user [] found same = absurd (cc)
replaced-untold level row user (first ∷ rows) found same = by (is_of row.term first) refl (λ there. replaced-untold level row user rows there same)
  where
    new : Row
    new = with_user row user

    here : (b : Bool) → is_tracked row.class ≡ b → told_rows level (with_user row user ∷ rows) ≡ told_rows level (row ∷ rows)
    here true class_is = told-yes level new rows class_is ∙ ap (λ (r : Row). r ∷ told_rows level rows) (same class_is) ∙ sym (told-yes level row rows class_is)
    here false class_is = told-no level new rows class_is ∙ sym (told-no level row rows class_is)

    by : (own : Bool) → is_of row.term first ≡ own
        → (row_of row.term rows ≡ Some row → told_rows level (replaced (with_user row user) rows) ≡ told_rows level rows)
        → told_rows level (replaced (with_user row user) (first ∷ rows)) ≡ told_rows level (first ∷ rows)
    by true own more =
        ap (told_rows level) (replaced-yes new first rows own) ∙ here (is_tracked row.class) refl
        ∙ ap (λ (r : Row). told_rows level (r ∷ rows)) (sym (found-here row.term first row rows own found))
    by false other more =
        ap (told_rows level) (replaced-no new first rows other) ∙ told-cons level first (replaced new rows)
        ∙ ap (told_with level (is_tracked first.class) first) (more (found-there row.term first row rows other found)) ∙ sym (told-cons level first rows)

-- a row that replaced another is found
pub found-replaced : (row : Row) (user : Option (List ℕ)) (rows : List Row) → row_of row.term rows ≡ Some row
    → row_of row.term (replaced (with_user row user) rows) ≡ Some (with_user row user)
found-replaced row user [] found = absurd (cc)
found-replaced row user (first ∷ rows) found = by (is_of row.term first) refl (λ there. found-replaced row user rows there)
  where
    own_row : is_of row.term (with_user row user) ≡ true
    own_row = (bytes_eq-Decides row.term row.term).1 refl

    by : (own : Bool) → is_of row.term first ≡ own
        → (row_of row.term rows ≡ Some row → row_of row.term (replaced (with_user row user) rows) ≡ Some (with_user row user))
        → row_of row.term (cond own (with_user row user ∷ rows) (first ∷ replaced (with_user row user) rows)) ≡ Some (with_user row user)
    by true own more = ap (λ (b : Bool). cond b (Some (with_user row user)) (row_of row.term rows)) own_row
    by false other more =
        ap (λ (b : Bool). cond b (Some first) (row_of row.term (replaced (with_user row user) rows))) other ∙ more
        (found-there row.term first row rows other found)

-- a row that is told is found among what is told
pub found-told : (level : Level) (term : List ℕ) (rows : List Row) (row : Row) → row_of term rows ≡ Some row → is_tracked row.class ≡ true
    → has_row term (told_rows level rows) ≡ true
found-told level term [] row found tracked = absurd (cc)
found-told level term (first ∷ rows) row found tracked =
    by (is_of term first) (is_tracked first.class) refl refl (λ there. found-told level term rows row there tracked)
  where
    cons : (own : Bool) (rest : List Row) → is_of term first ≡ own → (own ≡ false → has_row term rest ≡ true)
        → has_row term (told_row level first ∷ rest) ≡ true
    cons true rest own more = ap (λ (b : Bool). is_some (cond b (Some (told_row level first)) (row_of term rest))) (seen-is_of level term first ∙ own)
    cons false rest other more =
        ap (λ (b : Bool). is_some (cond b (Some (told_row level first)) (row_of term rest))) (seen-is_of level term first ∙ other) ∙ more refl

    by : (own b : Bool) → is_of term first ≡ own → is_tracked first.class ≡ b → (row_of term rows ≡ Some row → has_row term (told_rows level rows) ≡ true)
        → has_row term (told_rows level (first ∷ rows)) ≡ true
    by own true is class_is more =
        ap (has_row term) (told-yes level first rows class_is) ∙ cons own (told_rows level rows) is
        (λ no_it. more (found-there term first row rows (is ∙ no_it) found))
    by true false own class_is more =
        let yes_it : is_tracked first.class ≡ true = subst (λ (r : Row). is_tracked r.class ≡ true)
        (sym (found-here term first row rows own found)) tracked in cc
    by false false other class_is more = ap (has_row term) (told-no level first rows class_is) ∙ more (found-there term first row rows other found)
