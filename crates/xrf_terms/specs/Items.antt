-- The items of terminals: what each is answered, and the table after it. The tests are in the order
-- of the answers.
use Rattle.std.specs.Prelude.{ℕ, nat_le, if◌then◌else◌, List, length, Option, Some, None}
use Rattle.xrf_base.specs.declared.items.ItemAnswer.{ItemAnswer}
use Rattle.xrf_base.specs.declared.items.ItemAnswer.TheVariants.{Done, TermUsed, TermsFull, NotOn, UserOn, NoUser}
use Rattle.xrf_terms.specs.declared.rows.Row.{Row}
use Rattle.xrf_terms.specs.declared.rows.How.TheVariants.{On}
use Rattle.xrf_terms.specs.Table.{row_of, has_row, replaced, inserted, without, with_user}

-- an answer, and the rows after it
pub record Answered : Type 0 where
  pub answer : ItemAnswer
  pub rows : List Row

abbrev pub answered : ItemAnswer → List Row → Answered
answered answer rows = record { answer = answer; rows = rows }

-- a terminal comes on, without a user; there are at most 64 rows
abbrev pub logon : List ℕ → ℕ → List Row → Answered
logon term class rows =
    if has_row term rows then answered TermUsed rows else
    (if nat_le 64 (length rows) then answered TermsFull rows else
    answered Done (inserted (record { term = term; class = class; how = On; user = None }) rows))

-- a terminal goes off
abbrev pub logoff : List ℕ → List Row → Answered
logoff term rows = if has_row term rows then answered Done (without term rows) else answered NotOn rows

-- a user signs on at the row of a terminal
abbrev pub signon_at : List ℕ → List Row → Row → Option (List ℕ) → Answered
signon_at user rows row (Some other) = answered UserOn rows
signon_at user rows row None = answered Done (replaced (with_user row (Some user)) rows)

abbrev pub signon_in : List ℕ → List Row → Option Row → Answered
signon_in user rows None = answered NotOn rows
signon_in user rows (Some row) = signon_at user rows row row.user

abbrev pub signon : (term user : List ℕ) → List Row → Answered
signon term user rows = signon_in user rows (row_of term rows)

-- the user of a terminal's row signs off
abbrev pub signoff_at : List Row → Row → Option (List ℕ) → Answered
signoff_at rows row None = answered NoUser rows
signoff_at rows row (Some user) = answered Done (replaced (with_user row None) rows)

abbrev pub signoff_in : List Row → Option Row → Answered
signoff_in rows None = answered NotOn rows
signoff_in rows (Some row) = signoff_at rows row row.user

abbrev pub signoff : List ℕ → List Row → Answered
signoff term rows = signoff_in rows (row_of term rows)
