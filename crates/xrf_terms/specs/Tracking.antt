-- The table of an alternate as the fold of the messages it has taken, and what a takeover makes of it.
use Rattle.std.specs.Prelude.{◌≡◌, ◌≢◌, ℕ, Bool, true, false, ◌==◌, ◌&&◌, not, nat_le, if◌then◌else◌, List, [], ◌∷◌, length, map, Option, None}
use Rattle.xrf_msg.specs.declared.messages.Message.{Message}
use Rattle.xrf_msg.specs.declared.messages.Message.TheVariants.{Begin, Term, End, User}
use Rattle.xrf_terms.specs.declared.rows.Row.{Row}
use Rattle.xrf_terms.specs.declared.rows.How.{How}
use Rattle.xrf_terms.specs.declared.rows.How.TheVariants.{On, Tracked, Switched, Acquired}
use Rattle.xrf_terms.specs.declared.rows.Applied.{Applied}
use Rattle.xrf_terms.specs.declared.rows.Applied.TheVariants.{Changed, Same, Full}
use Rattle.xrf_terms.specs.Table.{has_row, replaced, inserted, without}

-- the row of a terminal that is tracked
abbrev pub tracked_row : List ℕ → ℕ → Option (List ℕ) → Row
tracked_row term class user = record { term = term; class = class; how = Tracked; user = user }

-- a row replaces the one of its terminal, or comes in its place where fewer than 64 rows are there
abbrev pub set_row : Row → List Row → List Row
set_row row rows =
    if has_row row.term rows then replaced row rows else
    (if nat_le 64 (length rows) then rows else inserted row rows)

abbrev pub switched : Row → Bool → List Row → List Row
switched row true rows = set_row row rows
switched row false rows = without row.term rows

-- Begin empties the table, an on sets its row, an off removes it, and End changes nothing.
abbrev pub tracked_after : List Row → Message → List Row
tracked_after rows (Begin epoch) = []
tracked_after rows (Term epoch seq term class on) = switched (tracked_row term class None) on rows
tracked_after rows (End epoch seq) = rows
tracked_after rows (User epoch seq term class on user) = switched (tracked_row term class user) on rows

-- whether a row finds no place
abbrev pub no_place : List ℕ → List Row → Bool
no_place term rows = not (has_row term rows) && nat_le 64 (length rows)

-- whether a message is an on of a new terminal, and 64 rows are there
abbrev pub is_full : List Row → Message → Bool
is_full rows (Begin epoch) = false
is_full rows (Term epoch seq term class on) = on && no_place term rows
is_full rows (End epoch seq) = false
is_full rows (User epoch seq term class on user) = on && no_place term rows

-- At a takeover a tracked terminal of class 1 is switched to its backup session, and another one is
-- acquired again. Where users are signed off by force, neither keeps its user.
abbrev pub settled_how : ℕ → How
settled_how class = if class == 1 then Switched else Acquired

abbrev pub settled_row : Bool → Row → How → Row
settled_row force row Tracked = record { term = row.term; class = row.class; how = settled_how row.class; user = if force then None else row.user }
settled_row force row On = row
settled_row force row Switched = row
settled_row force row Acquired = row

abbrev pub settled : Bool → List Row → List Row
settled force rows = map (λ (row : Row). settled_row force row row.how) rows

-- What applying a message answers: Full where its row finds no place, else Same where the table is
-- what it was, else Changed.
abbrev pub IsApplied : Applied → (full : Bool) → (old new : List Row) → Type 0
IsApplied Full full old new = full ≡ true
IsApplied Same full old new = (full ≡ false) × (new ≡ old)
IsApplied Changed full old new = (full ≡ false) × (new ≢ old)

-- the table that some messages leave, the newest first
abbrev pub tracked : List Message → List Row
tracked [] = []
tracked (message ∷ older) = tracked_after (tracked older) message
