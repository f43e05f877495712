-- The table of a history is one.
use Rattle.std.proofs.Common.{List, arith, false, length, nat_le, refl, ◌≡◌, Bool, true, if◌then◌else◌, [], None, ℕ, Option, Some, ◌∷◌}
use Rattle.xrf_base.specs.declared.items.ItemAnswer.TheVariants.{Done, TermUsed, TermsFull, NotOn}
use Rattle.xrf_base.specs.declared.items.Item.{Item}
use Rattle.xrf_base.specs.declared.items.Item.TheVariants as items
use Rattle.xrf_msg.specs.declared.messages.Message.TheVariants.{Begin, End, Term, User}
use Rattle.xrf_msg.specs.declared.messages.Message.{Message}
use Rattle.xrf_msg.specs.Numbers.{given}
use Rattle.xrf_terms.specs.Table.{IsTable, has_row, inserted, replaced, without, with_user, row_of}
use Rattle.xrf_terms.specs.declared.rows.Row.{Row}
use Rattle.xrf_terms.proofs.TableLaws.{table-inserted, table-replaced, table-without, table-settled}
use Rattle.xrf_terms.specs.Tracking.{set_row, switched, tracked_after, tracked_row, settled}
use Rattle.xrf_terms.specs.declared.rows.How.TheVariants.{On}
use Rattle.xrf_terms.specs.Items.{answered, logon, logoff, signon_at, signon_in, signoff_at, signoff_in}
use Rattle.xrf_history.specs.Terminals.{terminal_answer, after_message, table}
use Rattle.xrf_history.specs.Events.{Event, MessageRead, Given, RestartDeclared}
use Rattle.xrf_history.specs.declared.settings.Settings.{Settings}
use Rattle.xrf_history.specs.Taking.{expected}
use Rattle.xrf_history.specs.Holding.{is_restarted, number}

-- a row that is inserted
put-table : (row : Row) (rows : List Row) → IsTable rows → has_row row.term rows ≡ false → nat_le 64 (length rows) ≡ false → IsTable (inserted row rows)
put-table row rows is absent few = table-inserted row rows (inserted row rows) is absent (grind (arith, few)) refl

-- a row that is set
set-table : (row : Row) (rows : List Row) → IsTable rows → IsTable (set_row row rows)
set-table row rows is = by (has_row row.term rows) (nat_le 64 (length rows)) refl refl
  where
    by : (a b : Bool) → has_row row.term rows ≡ a → nat_le 64 (length rows) ≡ b
        → IsTable (if a then replaced row rows else (if b then rows else inserted row rows))
    by true b has full = table-replaced row rows (replaced row rows) is refl
    by false true has full = is
    by false false has full = put-table row rows is has full

-- a row that is switched on or off
switched-table : (row : Row) (on : Bool) (rows : List Row) → IsTable rows → IsTable (switched row on rows)
switched-table row true rows is = set-table row rows is
switched-table row false rows is = table-without row.term rows (without row.term rows) is refl

-- the empty table is one
pub empty-table : IsTable []
empty-table = record { ordered = tt; few = omega arith }

-- a message leaves a table
pub tracked-table : (rows : List Row) (m : Message) → IsTable rows → IsTable (tracked_after rows m)
tracked-table rows (Begin epoch) is = empty-table
tracked-table rows (Term epoch seq term class on) is = switched-table (tracked_row term class None) on rows is
tracked-table rows (End epoch seq) is = is
tracked-table rows (User epoch seq term class on user) is = switched-table (tracked_row term class user) on rows is

-- LOGON
logon-table : (term : List ℕ) (class : ℕ) (rows : List Row) → IsTable rows → IsTable (logon term class rows).rows
logon-table term class rows is = by (has_row term rows) (nat_le 64 (length rows)) refl refl
  where
    by : (a b : Bool) → has_row term rows ≡ a → nat_le 64 (length rows) ≡ b
        → IsTable (if a then answered TermUsed rows else (if b then answered TermsFull rows else answered Done
        (inserted (record { term = term; class = class; how = On; user = None }) rows))).rows
    by true b has full = is
    by false true has full = is
    by false false has full = put-table (record { term = term; class = class; how = On; user = None }) rows is has full

-- LOGOFF
logoff-table : (term : List ℕ) (rows : List Row) → IsTable rows → IsTable (logoff term rows).rows
logoff-table term rows is = by (has_row term rows)
  where
    by : (a : Bool) → IsTable (if a then answered Done (without term rows) else answered NotOn rows).rows
    by true = table-without term rows (without term rows) is refl
    by false = is

-- SIGNON
signon-table : (user : List ℕ) (rows : List Row) (o : Option Row) → IsTable rows → IsTable (signon_in user rows o).rows
signon-table user rows None is = is
signon-table user rows (Some row) is = by row.user
  where
    by : (old : Option (List ℕ)) → IsTable (signon_at user rows row old).rows
    by None = table-replaced (with_user row (Some user)) rows (replaced (with_user row (Some user)) rows) is refl
    by (Some other) = is

-- SIGNOFF
signoff-table : (rows : List Row) (o : Option Row) → IsTable rows → IsTable (signoff_in rows o).rows
signoff-table rows None is = is
signoff-table rows (Some row) is = by row.user
  where
    by : (old : Option (List ℕ)) → IsTable (signoff_at rows row old).rows
    by None = is
    by (Some user) = table-replaced (with_user row None) rows (replaced (with_user row None) rows) is refl

-- an item leaves a table
answer-table : (item : Item) (rows : List Row) → IsTable rows → IsTable (terminal_answer item rows).rows
answer-table (items.Logon term class) rows is = logon-table term class rows is
answer-table (items.Logoff term) rows is = logoff-table term rows is
answer-table (items.Signon term user) rows is = signon-table user rows (row_of term rows) is
answer-table (items.Signoff term) rows is = signoff-table rows (row_of term rows) is
answer-table _ rows is = is

-- so does what a slot gives
after-table : (o : Option Message) (rows : List Row) → IsTable rows → IsTable (after_message o rows)
after-table None rows is = is
after-table (Some m) rows is = tracked-table rows m is

-- and a MSGREAD
read-table : (p : Settings) (h : List Event) (k : ℕ) (slot : List ℕ) → IsTable (table p h) → IsTable (table p (MessageRead k slot ∷ h))
read-table p h k slot is = by (is_restarted h)
  where
    by : (b : Bool) → IsTable (if b then table p h else after_message (given slot (number h) (expected h)) (table p h))
    by true = is
    by false = after-table (given slot (number h) (expected h)) (table p h) is

-- **the table of each history is one**
pub tables : (p : Settings) (h : List Event) → IsTable (table p h)
tables p [] = empty-table
tables p (MessageRead k slot ∷ h) = read-table p h k slot (tables p h)
tables p (RestartDeclared ∷ h) = table-settled p.force (table p h) (settled p.force (table p h)) (tables p h) refl
tables p (Given item ∷ h) = answer-table item (table p h) (tables p h)
tables p (_ ∷ h) = tables p h
