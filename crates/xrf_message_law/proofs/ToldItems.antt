-- The message of an item tells what the item makes of the table.
use Rattle.std.proofs.Common.{List, refl, ◌≡◌, ℕ, Bool, false, length, nat_le, true, if◌then◌else◌, None, Some, ◌∙◌, Option, ap, arith, is_some, sym, ◌<◌, subst}
use Rattle.xrf_base.specs.declared.items.Item.{Item}
use Rattle.xrf_base.specs.declared.items.ItemAnswer.TheVariants.{Done, TermUsed, TermsFull, NotOn}
use Rattle.xrf_base.specs.declared.items.Item.TheVariants as items
use Rattle.xrf_ctl.specs.declared.parts.Level.{Level}
use Rattle.xrf_ctl.specs.declared.parts.Level.TheVariants.{One, Two}
use Rattle.xrf_msg.specs.Messages.{is_tracked}
use Rattle.xrf_terms.specs.declared.rows.Row.{Row}
use Rattle.xrf_terms.specs.Tracking.{set_row, tracked_after}
use Rattle.xrf_terms.specs.Table.{without, has_row, inserted, replaced, IsTable, row_of, with_user}
use Rattle.xrf_terms.specs.Items.{Answered, answered, logon, logoff, signon_at, signon_in, signoff_at, signoff_in}
use Rattle.xrf_terms.specs.declared.rows.How.TheVariants.{On}
use Rattle.xrf_terms.proofs.Places.{row_of-term}
use Rattle.xrf_history.specs.Sending.{on_message, told_row, off_message, if_tracked, told_rows, change_message, is_done, at_level_two}
use Rattle.xrf_history.specs.Terminals.{after_message, terminal_answer}
use Rattle.xrf_message_law.proofs.ToldPlaces.{absent-told, found-inserted, inserted-told, inserted-untold, length-told, set-new}
use Rattle.xrf_message_law.proofs.ToldRows.{seen-term, without-told, without-untold, found-replaced, found-told, replaced-told, replaced-untold}

-- an on sets its row, and an off removes it
pub on-sets : (level : Level) (n q : ℕ) (row : Row) (rows : List Row) → tracked_after rows (on_message level n q row) ≡ set_row (told_row level row) rows
on-sets One n q row rows = refl
on-sets Two n q row rows = refl

-- an off removes its row
off-removes : (level : Level) (n q : ℕ) (row : Row) (rows : List Row) → tracked_after rows (off_message level n q row) ≡ without row.term rows
off-removes One n q row rows = refl
off-removes Two n q row rows = refl

-- a row that is there is replaced
pub set-old : (row : Row) (rows : List Row) → has_row row.term rows ≡ true → set_row row rows ≡ replaced row rows
set-old row rows has = by (has_row row.term rows) has
  where
    by : (b : Bool) → b ≡ true → (if b then replaced row rows else (if nat_le 64 (length rows) then rows else inserted row rows)) ≡ replaced row rows
    by true is = refl
    by false is = absurd (cc)

-- what is told where a row is, by whether it is told at all
on-told : (level : Level) (n q : ℕ) (row : Row) (rows after : List Row) → (is_tracked row.class ≡ true → set_row (told_row level row) rows ≡ after)
    → (is_tracked row.class ≡ false → rows ≡ after)
    → after_message (if_tracked level n q true (Some row)) rows ≡ after
on-told level n q row rows after yes_it no_it = by (is_tracked row.class) refl
  where
    by : (b : Bool) → is_tracked row.class ≡ b → after_message (if b then Some (on_message level n q row) else None) rows ≡ after
    by true is = on-sets level n q row rows ∙ yes_it is
    by false is = no_it is

-- the same of an off
off-told : (level : Level) (n q : ℕ) (row : Row) (rows after : List Row) → (is_tracked row.class ≡ true → without row.term rows ≡ after)
    → (is_tracked row.class ≡ false → rows ≡ after)
    → after_message (if_tracked level n q false (Some row)) rows ≡ after
off-told level n q row rows after yes_it no_it = by (is_tracked row.class) refl
  where
    by : (b : Bool) → is_tracked row.class ≡ b → after_message (if b then Some (off_message level n q row) else None) rows ≡ after
    by true is = off-removes level n q row rows ∙ yes_it is
    by false is = no_it is

-- LOGON
new-told : (level : Level) (n q : ℕ) (row : Row) (rows : List Row) → IsTable rows → has_row row.term rows ≡ false → nat_le 64 (length rows) ≡ false
    → after_message (if_tracked level n q true (row_of row.term (inserted row rows))) (told_rows level rows) ≡ told_rows level (inserted row rows)
new-told level n q row rows is absent few =
    ap (λ (o : Option Row). after_message (if_tracked level n q true o) (told_rows level rows)) (found-inserted row rows none)
    ∙ on-told level n q row (told_rows level rows) (told_rows level (inserted row rows))
    (λ tracked. set-new (told_row level row) (told_rows level rows) (ap (λ (t : List ℕ). row_of t (told_rows level rows)) (seen-term level row)
    ∙ absent-told level row.term rows none) short
    ∙ sym (inserted-told level row rows is.ordered tracked))
    (λ untracked. sym (inserted-untold level row rows untracked))
  where
    none : row_of row.term rows ≡ None
    none = by (row_of row.term rows) absent
      where
        by : (o : Option Row) → is_some o ≡ false → o ≡ None
        by None is = refl
        by (Some one) is = absurd (cc)

    short : length (told_rows level rows) < 64
    short = let less = length-told level rows in grind (arith, less, few)

-- an item with its answer, and the table told after it
abbrev pub Tells : Level → ℕ → ℕ → Item → List Row → Answered → Type 0
Tells level n q item rows a =
    after_message (if is_done a.answer then change_message level n q item rows a.rows else None) (told_rows level rows) ≡ told_rows level a.rows

-- LOGON
logon-told : (level : Level) (n q : ℕ) (term : List ℕ) (class : ℕ) (rows : List Row) → IsTable rows
    → Tells level n q (items.Logon term class) rows (logon term class rows)
logon-told level n q term class rows is = by (has_row term rows) (nat_le 64 (length rows)) refl refl
  where
    by : (a b : Bool) → has_row term rows ≡ a → nat_le 64 (length rows) ≡ b
        → Tells level n q (items.Logon term class) rows (if a then answered TermUsed rows else (if b then answered TermsFull rows else answered Done
        (inserted (record { term = term; class = class; how = On; user = None }) rows)))
    by true b has full = refl
    by false true has full = refl
    by false false has full = new-told level n q (record { term = term; class = class; how = On; user = None }) rows is has full

-- LOGOFF
logoff-told : (level : Level) (n q : ℕ) (term : List ℕ) (rows : List Row) → Tells level n q (items.Logoff term) rows (logoff term rows)
logoff-told level n q term rows = by (row_of term rows) refl
  where
    by : (o : Option Row) → row_of term rows ≡ o
        → Tells level n q (items.Logoff term) rows (if is_some o then answered Done (without term rows) else answered NotOn rows)
    by None is = refl
    by (Some row) is =
        ap (λ (o : Option Row). after_message (if_tracked level n q false o) (told_rows level rows)) is
        ∙ off-told level n q row (told_rows level rows) (told_rows level (without term rows))
        (λ tracked. ap (λ (t : List ℕ). without t (told_rows level rows)) (row_of-term term rows row is) ∙ sym (without-told level term rows row is tracked))
        (λ untracked. sym (without-untold level term rows row is untracked))

-- SIGNON and SIGNOFF
user-told : (level : Level) (n q : ℕ) (term : List ℕ) (row : Row) (user : Option (List ℕ)) (rows : List Row) → row_of term rows ≡ Some row
    → after_message (at_level_two level (if_tracked level n q true (row_of term (replaced (with_user row user) rows))))
    (told_rows level rows) ≡ told_rows level (replaced (with_user row user) rows)
user-told One n q term row user rows found =
    sym (replaced-untold One row user rows (subst (λ (t : List ℕ). row_of t rows ≡ Some row) (sym (row_of-term term rows row found)) found) (λ tracked. refl))
user-told Two n q term row user rows found =
    let own : row_of row.term rows ≡ Some row = subst (λ (t : List ℕ). row_of t rows ≡ Some row) (sym (row_of-term term rows row found)) found in
    ap (λ (t : List ℕ). after_message (if_tracked Two n q true (row_of t (replaced (with_user row user) rows))) (told_rows Two rows))
    (sym (row_of-term term rows row found))
    ∙ ap (λ (o : Option Row). after_message (if_tracked Two n q true o) (told_rows Two rows)) (found-replaced row user rows own)
    ∙ on-told Two n q (with_user row user) (told_rows Two rows) (told_rows Two (replaced (with_user row user) rows))
    (λ tracked. set-old (told_row Two (with_user row user)) (told_rows Two rows) (found-told Two row.term rows row own tracked) ∙ sym
    (replaced-told Two row user rows own tracked))
    (λ untracked. sym (replaced-untold Two row user rows own (λ tracked. absurd (apart (is_tracked row.class) tracked untracked))))
  where
    apart : (b : Bool) → b ≡ true → b ≡ false → ⊥
    apart b yes_it no_it = cc

-- SIGNON
signon-told : (level : Level) (n q : ℕ) (term user : List ℕ) (rows : List Row)
    → Tells level n q (items.Signon term user) rows (signon_in user rows (row_of term rows))
signon-told level n q term user rows = by (row_of term rows) refl
  where
    at : (row : Row) → row_of term rows ≡ Some row → (old : Option (List ℕ)) → Tells level n q (items.Signon term user) rows (signon_at user rows row old)
    at row is None = user-told level n q term row (Some user) rows is
    at row is (Some other) = refl

    by : (o : Option Row) → row_of term rows ≡ o → Tells level n q (items.Signon term user) rows (signon_in user rows o)
    by None is = refl
    by (Some row) is = at row is row.user

-- SIGNOFF
signoff-told : (level : Level) (n q : ℕ) (term : List ℕ) (rows : List Row) → Tells level n q (items.Signoff term) rows (signoff_in rows (row_of term rows))
signoff-told level n q term rows = by (row_of term rows) refl
  where
    at : (row : Row) → row_of term rows ≡ Some row → (old : Option (List ℕ)) → Tells level n q (items.Signoff term) rows (signoff_at rows row old)
    at row is None = refl
    at row is (Some user) = user-told level n q term row None rows is

    by : (o : Option Row) → row_of term rows ≡ o → Tells level n q (items.Signoff term) rows (signoff_in rows o)
    by None is = refl
    by (Some row) is = at row is row.user

-- **the message of an item tells what it makes of the table**
pub answer-told : (level : Level) (n q : ℕ) (item : Item) (rows : List Row) → IsTable rows → Tells level n q item rows (terminal_answer item rows)
answer-told level n q (items.Logon term class) rows is = logon-told level n q term class rows is
answer-told level n q (items.Logoff term) rows is = logoff-told level n q term rows
answer-told level n q (items.Signon term user) rows is = signon-told level n q term user rows
answer-told level n q (items.Signoff term) rows is = signoff-told level n q term rows
answer-told level n q _ rows is = refl
