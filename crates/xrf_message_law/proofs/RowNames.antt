-- The rows of a table whose names are names stay so.
use Rattle.std.proofs.Common.{Bool, IfSome, List, Some, false, true, ℕ, [], ◌∷◌, if◌then◌else◌, length, nat_le, None, Option, drop, slice_index, subst, take, ◌≡◌, cond, refl, ◌==◌, nat_eq, ◌&&◌}
use Rattle.std.specs.Option.{option_map, option_and_then}
use Rattle.std.specs.Cmp.Lexicographic.{pointwise}
use Rattle.xrf_base.specs.declared.items.ItemAnswer.TheVariants.{Done, TermUsed, TermsFull, NotOn}
use Rattle.xrf_base.specs.Names.{IsName, padded_name}
use Rattle.xrf_base.specs.declared.items.Item.{Item}
use Rattle.xrf_base.proofs.NameLaws.{padded_name-IsName}
use Rattle.xrf_base.specs.declared.items.Item.TheVariants as items
use Rattle.xrf_msg.specs.declared.messages.Message.TheVariants.{Begin, End, Term, User}
use Rattle.xrf_msg.specs.Messages.{HasNames, epoch_in, number_in, on_in, term_in, IsUser, user_in, term_fields, user_fields, fields_of, has_ranges, if_spelled, message_reading, spelling, epoch_of, number_of}
use Rattle.xrf_msg.specs.declared.messages.Message.{Message}
use Rattle.xrf_msg.specs.Numbers.{given, if_expected}
use Rattle.xrf_terms.specs.declared.rows.Row.{Row}
use Rattle.xrf_terms.specs.Table.{is_of, row_of, replaced, inserted, is_later, without, has_row, with_user}
use Rattle.xrf_terms.specs.Tracking.{set_row, switched, tracked_after, tracked_row, settled_row, settled}
use Rattle.xrf_terms.specs.declared.rows.How.TheVariants.{Acquired, On, Switched, Tracked}
use Rattle.xrf_terms.specs.declared.rows.How.{How}
use Rattle.xrf_terms.specs.Items.{answered, logon, logoff, signon_at, signon_in, signoff_at, signoff_in}
use Rattle.xrf_history.specs.Terminals.{terminal_answer, after_message}
use Rattle.xrf_message_law.specs.Names.{AreNamed, RowNamed, ItemNamed}

-- a row that is found has names
pub row_of-named : (term : List ℕ) (rows : List Row) → AreNamed rows → IfSome (row_of term rows) RowNamed
row_of-named term [] named = tt
row_of-named term (row ∷ rows) named = by (is_of term row) (row_of-named term rows named.1)
  where
    by : (b : Bool) → IfSome (row_of term rows) RowNamed → IfSome (if b then Some row else row_of term rows) RowNamed
    by true rest = named.0
    by false rest = rest

-- a row that replaces another
replaced-named : (row : Row) (rows : List Row) → RowNamed row → AreNamed rows → AreNamed (replaced row rows)
replaced-named row [] is named = tt
replaced-named row (old ∷ rows) is named = by (is_of row.term old) (replaced-named row rows is named.1)
  where
    by : (b : Bool) → AreNamed (replaced row rows) → AreNamed (if b then row ∷ rows else old ∷ replaced row rows)
    by true rest = (is, named.1)
    by false rest = (named.0, rest)

-- a row that is inserted
inserted-named : (row : Row) (rows : List Row) → RowNamed row → AreNamed rows → AreNamed (inserted row rows)
inserted-named row [] is named = (is, tt)
inserted-named row (next ∷ rows) is named = by (is_later row.term next) (inserted-named row rows is named.1)
  where
    by : (b : Bool) → AreNamed (inserted row rows) → AreNamed (if b then row ∷ next ∷ rows else next ∷ inserted row rows)
    by true rest = (is, named)
    by false rest = (named.0, rest)

-- a row that is removed
without-named : (term : List ℕ) (rows : List Row) → AreNamed rows → AreNamed (without term rows)
without-named term [] named = tt
without-named term (row ∷ rows) named = by (is_of term row) (without-named term rows named.1)
  where
    by : (b : Bool) → AreNamed (without term rows) → AreNamed (if b then rows else row ∷ without term rows)
    by true rest = named.1
    by false rest = (named.0, rest)

-- a row that is set
set_row-named : (row : Row) (rows : List Row) → RowNamed row → AreNamed rows → AreNamed (set_row row rows)
set_row-named row rows is named = by (has_row row.term rows) (nat_le 64 (length rows))
  where
    by : (a b : Bool) → AreNamed (if a then replaced row rows else (if b then rows else inserted row rows))
    by true b = replaced-named row rows is named
    by false true = named
    by false false = inserted-named row rows is named

-- a row that is switched on or off
switched-named : (row : Row) (on : Bool) (rows : List Row) → RowNamed row → AreNamed rows → AreNamed (switched row on rows)
switched-named row true rows is named = set_row-named row rows is named
switched-named row false rows is named = without-named row.term rows named

-- a message that is applied
tracked-named : (rows : List Row) (m : Message) → HasNames m → AreNamed rows → AreNamed (tracked_after rows m)
tracked-named rows (Begin epoch) is named = tt
tracked-named rows (Term epoch seq term class on) is named = switched-named (tracked_row term class None) on rows (record { term = is; user = tt }) named
tracked-named rows (End epoch seq) is named = named
tracked-named rows (User epoch seq term class on user) is named =
    switched-named (tracked_row term class user) on rows (record { term = is.0; user = is.1 }) named

-- a row that is settled
settled_row-named : (force : Bool) (row : Row) (how : How) → RowNamed row → RowNamed (settled_row force row how)
settled_row-named true row Tracked is = record { term = is.term; user = tt }
settled_row-named false row Tracked is = record { term = is.term; user = is.user }
settled_row-named force row On is = is
settled_row-named force row Switched is = is
settled_row-named force row Acquired is = is

-- a table that is settled
pub settled-named : (force : Bool) (rows : List Row) → AreNamed rows → AreNamed (settled force rows)
settled-named force [] named = tt
settled-named force (row ∷ rows) named = (settled_row-named force row row.how named.0, settled-named force rows named.1)

-- an item
logon-named : (term : List ℕ) (class : ℕ) (rows : List Row) → IsName term → AreNamed rows → AreNamed (logon term class rows).rows
logon-named term class rows is named = by (has_row term rows) (nat_le 64 (length rows))
  where
    row : Row
    row = record { term = term; class = class; how = On; user = None }

    by : (a b : Bool)
        → AreNamed (if a then answered TermUsed rows else (if b then answered TermsFull rows else answered Done
        (inserted (record { term = term; class = class; how = On; user = None }) rows))).rows
    by true b = named
    by false true = named
    by false false = inserted-named (record { term = term; class = class; how = On; user = None }) rows (record { term = is; user = tt }) named

-- LOGOFF
logoff-named : (term : List ℕ) (rows : List Row) → AreNamed rows → AreNamed (logoff term rows).rows
logoff-named term rows named = by (has_row term rows)
  where
    by : (a : Bool) → AreNamed (if a then answered Done (without term rows) else answered NotOn rows).rows
    by true = without-named term rows named
    by false = named

-- SIGNON
signon-named : (user : List ℕ) (rows : List Row) (o : Option Row) → IsName user → IfSome o RowNamed → AreNamed rows → AreNamed (signon_in user rows o).rows
signon-named user rows None is row named = named
signon-named user rows (Some row) is row_is named = by row.user
  where
    by : (old : Option (List ℕ)) → AreNamed (signon_at user rows row old).rows
    by None = replaced-named (with_user row (Some user)) rows (record { term = row_is.term; user = is }) named
    by (Some other) = named

-- SIGNOFF
signoff-named : (rows : List Row) (o : Option Row) → IfSome o RowNamed → AreNamed rows → AreNamed (signoff_in rows o).rows
signoff-named rows None row named = named
signoff-named rows (Some row) row_is named = by row.user
  where
    by : (old : Option (List ℕ)) → AreNamed (signoff_at rows row old).rows
    by None = named
    by (Some user) = replaced-named (with_user row None) rows (record { term = row_is.term; user = tt }) named

-- **an item whose names are names leaves a table whose names are**
pub answer-named : (item : Item) (rows : List Row) → ItemNamed item → AreNamed rows → AreNamed (terminal_answer item rows).rows
answer-named (items.Logon term class) rows is named = logon-named term class rows is named
answer-named (items.Logoff term) rows is named = logoff-named term rows named
answer-named (items.Signon term user) rows is named = signon-named user rows (row_of term rows) is (row_of-named term rows named) named
answer-named (items.Signoff term) rows is named = signoff-named rows (row_of term rows) (row_of-named term rows named) named
answer-named _ rows is named = named

-- what is read of a body has names (as in the laws of messages, but of any body, of bytes or not)
term-names : (body : List ℕ) (found : Option (List ℕ)) (m : Message) → term_in body ≡ found
    → option_map (λ term. Term (epoch_in body) (number_in body) term (slice_index body 17) (on_in body)) found ≡ Some m → HasNames m
term-names body None m is e = cc
term-names body (Some term) m is e =
    let same : Term (epoch_in body) (number_in body) term (slice_index body 17) (on_in body) ≡ m = cc in
    subst HasNames same (padded_name-IsName (take 8 (drop 9 body)) term is)

-- a user's field
user-name : (body : List ℕ) (user : Option (List ℕ)) → user_in body ≡ Some user → IsUser user
user-name body user e = by (slice_index body 19 == 0) (padded_name (take 8 (drop 19 body))) refl e
  where
    by : (none : Bool) (name : Option (List ℕ)) → padded_name (take 8 (drop 19 body)) ≡ name
        → cond none (Some None) (option_map Some name) ≡ Some user → IsUser user
    by true name is s = let same : None ≡ user = cc in subst IsUser same tt
    by false None is s = cc
    by false (Some name) is s = let same : Some name ≡ user = cc in subst IsUser same (padded_name-IsName (take 8 (drop 19 body)) name is)

-- and what is read of it
user-names : (body : List ℕ) (found : Option (List ℕ)) (user : Option (Option (List ℕ))) (m : Message) → term_in body ≡ found → user_in body ≡ user
    → option_and_then (λ term. option_map (λ u. User (epoch_in body) (number_in body) term (slice_index body 17) (on_in body) u) user) found ≡ Some m
    → HasNames m
user-names body None user m is user_is e = cc
user-names body (Some term) None m is user_is e = cc
user-names body (Some term) (Some user) m is user_is e =
    let same : User (epoch_in body) (number_in body) term (slice_index body 17) (on_in body) user ≡ m = cc in
    subst HasNames same (padded_name-IsName (take 8 (drop 9 body)) term is, user-name body user user_is)

-- by the kind of a message
by_kind : (body : List ℕ) (m : Message) (first second third fourth : Bool)
    → cond first (Some (Begin (epoch_in body))) (cond second (term_fields body) (cond third (Some (End (epoch_in body) (number_in body)))
    (cond fourth (user_fields body) None))) ≡ Some m
    → HasNames m
by_kind body m true second third fourth e = let same : Begin (epoch_in body) ≡ m = cc in subst HasNames same tt
by_kind body m false true third fourth e = term-names body (term_in body) m refl e
by_kind body m false false true fourth e = let same : End (epoch_in body) (number_in body) ≡ m = cc in subst HasNames same tt
by_kind body m false false false true e = user-names body (term_in body) (user_in body) m refl refl e
by_kind body m false false false false e = cc

-- the fields of a message
fields-names : (body : List ℕ) (m : Message) → fields_of body ≡ Some m → HasNames m
fields-names body m e = by_kind body m (slice_index body 0 == 1) (slice_index body 0 == 2) (slice_index body 0 == 3) (slice_index body 0 == 4) e

-- a message that is read of a body
read-names : (body : List ℕ) (m : Message) → message_reading body ≡ Some m → HasNames m
read-names body m e = by (fields_of body) refl e
  where
    spelled : (found : Message) (b : Bool) → (if b then Some found else None) ≡ Some m → found ≡ m
    spelled found true is = cc
    spelled found false is = absurd (cc)

    by : (o : Option Message) → fields_of body ≡ o → option_and_then (if_spelled body) o ≡ Some m → HasNames m
    by None is none = absurd (cc)
    by (Some found) is some = subst HasNames (spelled found (has_ranges found && pointwise nat_eq (spelling found) body) some) (fields-names body found is)

-- and so what a slot gives
given-names : (slot : List ℕ) (n q : ℕ) → IfSome (given slot n q) HasNames
given-names slot n q = by (slice_index slot 0 == 0xc1)
  where
    expected : (m : Message) → HasNames m → (b : Bool) → IfSome (if b then Some m else None) HasNames
    expected m names true = names
    expected m names false = tt

    read : (o : Option Message) → message_reading (drop 1 slot) ≡ o → IfSome (option_and_then (if_expected n q) o) HasNames
    read None is = tt
    read (Some m) is = expected m (read-names (drop 1 slot) m is) (epoch_of m == n && number_of m == q)

    by : (b : Bool) → IfSome (if b then option_and_then (if_expected n q) (message_reading (drop 1 slot)) else None) HasNames
    by true = read (message_reading (drop 1 slot)) refl
    by false = tt

-- so a MSGREAD leaves a table whose names are names
pub after-named : (slot : List ℕ) (n q : ℕ) (rows : List Row) → AreNamed rows → AreNamed (after_message (given slot n q) rows)
after-named slot n q rows named = by (given slot n q) (given-names slot n q)
  where
    by : (o : Option Message) → IfSome o HasNames → AreNamed (after_message o rows)
    by None is = named
    by (Some m) is = tracked-named rows m is named
