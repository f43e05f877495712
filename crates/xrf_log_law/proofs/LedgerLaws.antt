-- The ledger of a job at work against the log.
use Rattle.std.proofs.Common.{Bool, List, ap, cond, false, filter, length, map, refl, true, ◌≡◌, [], ◌∷◌, not, ℕ, ◌==◌, ◌&&◌, ◌||◌, ◌∙◌, if◌then◌else◌, sym, ◌++◌, subst, arith, ◌+◌, ◌≤◌, Some, ◌<◌}
use Rattle.std.specs.List.{list_any}
use Rattle.std.proofs.lemmas.List.Sums.{length-filter}
use Rattle.xrf_base.specs.declared.items.UnitId.{UnitId}
use Rattle.xrf_logrec.specs.declared.records.LogRec.TheVariants.{Backout, Commit, Put}
use Rattle.xrf_logrec.specs.declared.records.LogRec.{LogRec}
use Rattle.xrf_logrec.specs.LogRecords.{same_unit}
use Rattle.xrf_logrec.specs.declared.records.Undo.{Undo}
use Rattle.xrf_logrec.proofs.LogLaws.{same_unit-true}
use Rattle.xrf_log.specs.declared.taken.Row.{Row}
use Rattle.xrf_log.specs.Flight.{puts, has_ended, open_puts, put_units, flight}
use Rattle.xrf_log.proofs.FlightLaws.{in_flight-not_ended}
use Rattle.xrf_file.specs.declared.rows.LoggedPut.{LoggedPut}
use Rattle.xrf_file.specs.Rows.{is_locked, undo_of, is_hot, hot_with}
use Rattle.xrf_file.specs.declared.rows.OpenUnit.{OpenUnit}
use Rattle.xrf_file.specs.Ledger.{least_number}
use Rattle.xrf_trace.specs.Items.{numbered}
use Rattle.xrf_trace.proofs.PromiseLaws.{same_unit-refl}
use Rattle.xrf_log_law.specs.AtWork.{open_numbered, IsOpenUnit}
use Rattle.xrf_log_law.specs.BeforeImages.{other_has_put, undo_at, covers, has_put}
use Rattle.xrf_log_law.proofs.NewestParts.{found-passing}
use Rattle.xrf_log_law.specs.LogSlots.{nth_old}
use Rattle.xrf_log_law.specs.State.{AreOver}
use Rattle.xrf_log_law.proofs.Tests.{eq-of-true, false-if, no-clash, of-not-false, or-none, or-parts}
use Rattle.xrf_log_law.proofs.SameRecords.{same-put-unit}

-- the numbered puts are the puts, with their numbers
abbrev row_of : LoggedPut → Row
row_of put = record { unit = put.unit; undo = put.undo }

-- the puts of a log with their numbers are its puts
numbered-rows : (p : UnitId → Bool) (log : List LogRec) → map row_of (filter (λ put. p put.unit) (numbered log)) ≡ filter (λ row. p row.unit) (puts log)
numbered-rows p [] = refl
numbered-rows p (Put unit rrn before ∷ log) = by (p unit) (numbered-rows p log)
  where
    by : (b : Bool) → map row_of (filter (λ put. p put.unit) (numbered log)) ≡ filter (λ row. p row.unit) (puts log)
        → map row_of (cond b
        (record { unit = unit; number = length log; undo = record { rrn = rrn; before = before } } ∷ filter (λ put. p put.unit) (numbered log))
        (filter (λ put. p put.unit) (numbered log)))
        ≡ cond b (record { unit = unit; undo = record { rrn = rrn; before = before } } ∷ filter (λ row. p row.unit) (puts log))
        (filter (λ row. p row.unit) (puts log))
    by true rest = ap (λ (l : List Row). record { unit = unit; undo = record { rrn = rrn; before = before } } ∷ l) rest
    by false rest = rest
numbered-rows p (Commit unit ∷ log) = numbered-rows p log
numbered-rows p (Backout unit ∷ log) = numbered-rows p log

-- so are those of the units that have not ended
pub open-rows : (log : List LogRec) → map row_of (open_numbered log) ≡ open_puts log
open-rows log = numbered-rows (λ unit. not (has_ended unit log)) log

-- what the table asks of the puts, said of the rows
locked-rows : (unit : UnitId) (r : ℕ) (puts : List LoggedPut) → is_locked unit r puts ≡ other_has_put unit r (map row_of puts)
locked-rows unit r [] = refl
locked-rows unit r (put ∷ puts) = ap (λ (b : Bool). (put.undo.rrn == r && not (same_unit put.unit unit)) || b) (locked-rows unit r puts)

-- a record is locked to a unit where another open one has put it
pub locked-free : (log : List LogRec) (unit : UnitId) (r : ℕ) → is_locked unit r (open_numbered log) ≡ other_has_put unit r (open_puts log)
locked-free log unit r = locked-rows unit r (open_numbered log) ∙ ap (other_has_put unit r) (open-rows log)

-- the undo rows of a unit are those of its puts
undo_of-rows : (unit : UnitId) (puts : List LoggedPut) → undo_of unit puts ≡ map (λ (row : Row). row.undo) (filter (λ row. same_unit row.unit unit)
    (map row_of puts))
undo_of-rows unit [] = refl
undo_of-rows unit (put ∷ puts) = by (same_unit put.unit unit) (undo_of-rows unit puts)
  where
    by : (b : Bool) → undo_of unit puts ≡ map (λ (row : Row). row.undo) (filter (λ row. same_unit row.unit unit) (map row_of puts))
        → map (λ (q : LoggedPut). q.undo) (cond b (put ∷ filter (λ q. same_unit q.unit unit) puts) (filter (λ q. same_unit q.unit unit) puts))
        ≡ map (λ (row : Row). row.undo) (cond b (row_of put ∷ filter (λ row. same_unit row.unit unit) (map row_of puts))
        (filter (λ row. same_unit row.unit unit) (map row_of puts)))
    by true rest = ap (λ (l : List Undo). put.undo ∷ l) rest
    by false rest = rest

-- the rows of a unit alone, at a record that no other unit has put
pub own-undone : (unit : UnitId) (r : ℕ) (rows : List Row) (slot : List ℕ) → other_has_put unit r rows ≡ false
    → undo_at r (map (λ row. row.undo) (filter (λ row. same_unit row.unit unit) rows)) slot ≡ undo_at r (map (λ row. row.undo) rows) slot
own-undone unit r [] slot none = refl
own-undone unit r (row ∷ rows) slot none = by (same_unit row.unit unit) (row.undo.rrn == r) refl (λ x. own-undone unit r rows x) none
  where
    by : (own here : Bool) → (row.undo.rrn == r) ≡ here
        → ((x : List ℕ) → other_has_put unit r rows ≡ false
        → undo_at r (map (λ row. row.undo) (filter (λ row. same_unit row.unit unit) rows)) x ≡ undo_at r (map (λ row. row.undo) rows) x)
        → ((here && not own) || other_has_put unit r rows) ≡ false
        → undo_at r (map (λ row. row.undo) (cond own (row ∷ filter (λ row. same_unit row.unit unit) rows) (filter (λ row. same_unit row.unit unit) rows))) slot
        ≡ undo_at r (map (λ row. row.undo) rows) (if row.undo.rrn == r then row.undo.before else slot)
    by true true e rest none = rest (if row.undo.rrn == r then row.undo.before else slot) none
    by true false e rest none = rest (if row.undo.rrn == r then row.undo.before else slot) none
    by false true e rest none = absurd (cc)
    by false false e rest none = rw e (rest slot none)

-- what they cover the unit has put
pub own-covers : (unit : UnitId) (r : ℕ) (rows : List Row) → covers r (map (λ row. row.undo) (filter (λ row. same_unit row.unit unit) rows)) ≡ true
    → has_put unit r rows ≡ true
own-covers unit r [] covered = absurd (cc)
own-covers unit r (row ∷ rows) covered = by (same_unit row.unit unit) (row.undo.rrn == r) refl (own-covers unit r rows) covered
  where
    by : (own here : Bool) → (row.undo.rrn == r) ≡ here → (covers r (map (λ row. row.undo) (filter (λ row. same_unit row.unit unit) rows)) ≡ true
        → has_put unit r rows ≡ true)
        → covers r (map (λ row. row.undo) (cond own (row ∷ filter (λ row. same_unit row.unit unit) rows) (filter (λ row. same_unit row.unit unit) rows))) ≡ true
        → ((here && own) || has_put unit r rows) ≡ true
    by true true e rest covered = refl
    by true false e rest covered = rest (sym (rw e refl) ∙ covered)
    by false true e rest covered = rest covered
    by false false e rest covered = rest covered

-- found among those that pass, found among all
abbrev pub Found : UnitId → List UnitId → Type 0
Found unit units = list_any (λ u. same_unit u unit) units ≡ true

-- a unit that is found among those that pass is found
pub found-filter : (q : UnitId → Bool) (unit : UnitId) (units : List UnitId) → Found unit (filter q units) → Found unit units
found-filter q unit [] found = found
found-filter q unit (u ∷ units) found = by (q u) (same_unit u unit) refl (found-filter q unit units) found
  where
    by : (a b : Bool) → same_unit u unit ≡ b → (Found unit (filter q units) → Found unit units)
        → list_any (λ w. same_unit w unit) (cond a (u ∷ filter q units) (filter q units)) ≡ true
        → (b || list_any (λ w. same_unit w unit) units) ≡ true
    by a true e rest found = refl
    by true false e rest found = rest (sym (rw e refl) ∙ found)
    by false false e rest found = rest found

-- a unit is found in a longer list, or is the last
found-last : (unit u : UnitId) (units : List UnitId) → list_any (λ w. same_unit w unit) (units ++ u ∷ []) ≡ (list_any (λ w. same_unit w unit) units
    || same_unit u unit)
found-last unit u [] = or-none (same_unit u unit)
  where
    or-none : (b : Bool) → (b || false) ≡ b
    or-none true = refl
    or-none false = refl
found-last unit u (w ∷ units) = by (same_unit w unit) (found-last unit u units)
  where
    by : (b : Bool) → list_any (λ w. same_unit w unit) (units ++ u ∷ []) ≡ (list_any (λ w. same_unit w unit) units || same_unit u unit)
        → (b || list_any (λ w. same_unit w unit) (units ++ u ∷ [])) ≡ ((b || list_any (λ w. same_unit w unit) units) || same_unit u unit)
    by true rest = refl
    by false rest = rest

-- the units of the puts are those that have one
abbrev pub has_row : UnitId → List LogRec → Bool
has_row unit [] = false
has_row unit (Put u rrn before ∷ log) = same_unit u unit || has_row unit log
has_row unit (Commit u ∷ log) = has_row unit log
has_row unit (Backout u ∷ log) = has_row unit log

-- two tests in either order
or-swap : (a b : Bool) → (a || b) ≡ (b || a)
or-swap true true = refl
or-swap true false = refl
or-swap false true = refl
or-swap false false = refl

-- a unit of the puts is one that has a row
pub units-rows : (unit : UnitId) (log : List LogRec) → list_any (λ w. same_unit w unit) (put_units log) ≡ has_row unit log
units-rows unit [] = refl
units-rows unit (Put u rrn before ∷ log) = by (list_any (λ w. same_unit w u) (put_units log)) (same_unit u unit) refl refl (units-rows unit log)
  where
    by : (a b : Bool) → list_any (λ w. same_unit w u) (put_units log) ≡ a → same_unit u unit ≡ b
        → list_any (λ w. same_unit w unit) (put_units log) ≡ has_row unit log
        → list_any (λ w. same_unit w unit) (if a then put_units log else put_units log ++ u ∷ []) ≡ (b || has_row unit log)
    by true true e f rest = sym (ap (λ (v : UnitId). list_any (λ w. same_unit w v) (put_units log)) (same_unit-true u unit f)) ∙ e
    by true false e f rest = rest
    by false b e f rest =
        found-last unit u (put_units log) ∙ or-swap (list_any (λ w. same_unit w unit) (put_units log)) (same_unit u unit)
        ∙ ap (λ (c : Bool). same_unit u unit || c) rest ∙ ap (λ (c : Bool). c || has_row unit log) f
units-rows unit (Commit u ∷ log) = units-rows unit log
units-rows unit (Backout u ∷ log) = units-rows unit log

-- an open unit is hot where it has a row
pub hot-rows : (q : UnitId → Bool) (unit : UnitId) (log : List LogRec) → q unit ≡ true
    → is_hot unit (filter (λ put. q put.unit) (numbered log)) ≡ has_row unit log
hot-rows q unit [] open_yet = refl
hot-rows q unit (Put u rrn before ∷ log) open_yet = by (q u) (same_unit u unit) refl refl (hot-rows q unit log open_yet)
  where
    by : (a b : Bool) → q u ≡ a → same_unit u unit ≡ b → is_hot unit (filter (λ put. q put.unit) (numbered log)) ≡ has_row unit log
        → is_hot unit (cond a
        (record { unit = u; number = length log; undo = record { rrn = rrn; before = before } } ∷ filter (λ put. q put.unit) (numbered log))
        (filter (λ put. q put.unit) (numbered log)))
        ≡ (b || has_row unit log)
    by true b e f rest = rw f (ap (λ (c : Bool). b || c) rest)
    by false true e f rest = no-clash (q u) (subst (λ (v : UnitId). q v ≡ true) (sym (same_unit-true u unit f)) open_yet) e
    by false false e f rest = rest
hot-rows q unit (Commit u ∷ log) open_yet = hot-rows q unit log open_yet
hot-rows q unit (Backout u ∷ log) open_yet = hot-rows q unit log open_yet

-- a hot unit has not ended
hot-open : (q : UnitId → Bool) (unit : UnitId) (puts : List LoggedPut) → is_hot unit (filter (λ put. q put.unit) puts) ≡ true → q unit ≡ true
hot-open q unit [] hot = absurd (cc)
hot-open q unit (put ∷ puts) hot = by (q put.unit) (same_unit put.unit unit) refl refl (hot-open q unit puts) hot
  where
    by : (a b : Bool) → q put.unit ≡ a → same_unit put.unit unit ≡ b → (is_hot unit (filter (λ put. q put.unit) puts) ≡ true → q unit ≡ true)
        → is_hot unit (cond a (put ∷ filter (λ put. q put.unit) puts) (filter (λ put. q put.unit) puts)) ≡ true → q unit ≡ true
    by true true e f rest hot = subst (λ (v : UnitId). q v ≡ true) (same_unit-true put.unit unit f) e
    by true false e f rest hot = rest (sym (rw f refl) ∙ hot)
    by false b e f rest hot = rest hot

-- a unit is hot exactly where it is in flight
pub hot-in_flight : (log : List LogRec) (unit : UnitId) → is_hot unit (open_numbered log) ≡ true → Found unit (flight log)
hot-in_flight log unit hot =
    let q : UnitId → Bool = λ u. not (has_ended u log) in
    let open_yet : q unit ≡ true = hot-open q unit (numbered log) hot in
    found-passing q unit (put_units log) open_yet ∙ units-rows unit log ∙ sym (hot-rows q unit log open_yet) ∙ hot

-- a unit in flight is hot
pub in_flight-hot : (log : List LogRec) (unit : UnitId) → has_ended unit log ≡ false → Found unit (flight log) → is_hot unit (open_numbered log) ≡ true
in_flight-hot log unit open_yet found =
    let q : UnitId → Bool = λ u. not (has_ended u log) in
    hot-rows q unit log (ap not open_yet) ∙ sym (units-rows unit log) ∙ found-filter q unit (put_units log) found

-- the units in flight are different ones
abbrev Distinct : List UnitId → Type 0
Distinct [] = Unit {0}
Distinct (unit ∷ units) = (list_any (λ u. same_unit u unit) units ≡ false) × Distinct units

-- what is not found is not found among those that pass
filter-missing : (q : UnitId → Bool) (unit : UnitId) (units : List UnitId) → list_any (λ u. same_unit u unit) units ≡ false
    → list_any (λ u. same_unit u unit) (filter q units) ≡ false
filter-missing q unit units none =
    false-if (list_any (λ u. same_unit u unit) (filter q units))
    (λ e. no-clash (list_any (λ u. same_unit u unit) units) (found-filter q unit units e) none)

-- distinct units that pass are distinct
filter-distinct : (q : UnitId → Bool) (units : List UnitId) → Distinct units → Distinct (filter q units)
filter-distinct q [] distinct = tt
filter-distinct q (u ∷ units) distinct = by (q u) (filter-missing q u units distinct.0) (filter-distinct q units distinct.1)
  where
    by : (b : Bool) → list_any (λ w. same_unit w u) (filter q units) ≡ false → Distinct (filter q units)
        → Distinct (cond b (u ∷ filter q units) (filter q units))
    by true none rest = (none, rest)
    by false none rest = rest

-- units that differ differ in either order
pub same-turned : (a b : UnitId) → same_unit a b ≡ false → same_unit b a ≡ false
same-turned a b differ =
    false-if (same_unit b a)
    (λ e. no-clash (same_unit a b) (subst (λ (w : UnitId). same_unit w b ≡ true) (same_unit-true b a e) (same_unit-refl b)) differ)

-- a unit that is not found joins distinct ones
last-distinct : (units : List UnitId) (unit : UnitId) → list_any (λ u. same_unit u unit) units ≡ false → Distinct units → Distinct (units ++ unit ∷ [])
last-distinct [] unit none distinct = (refl, tt)
last-distinct (u ∷ units) unit none distinct =
    let parts = or-parts (same_unit u unit) (list_any (λ w. same_unit w unit) units) none in (
      found-last u unit units
          ∙ or-none (list_any (λ w. same_unit w u) units) (same_unit unit u) distinct.0 (same-turned u unit parts.0),
      last-distinct units unit parts.1 distinct.1,
    )

-- the units of the puts are distinct
units-distinct : (log : List LogRec) → Distinct (put_units log)
units-distinct [] = tt
units-distinct (Put unit rrn before ∷ log) = by (list_any (λ u. same_unit u unit) (put_units log)) refl (units-distinct log)
  where
    by : (b : Bool) → list_any (λ u. same_unit u unit) (put_units log) ≡ b → Distinct (put_units log)
        → Distinct (if b then put_units log else put_units log ++ unit ∷ [])
    by true e rest = rest
    by false e rest = last-distinct (put_units log) unit e rest
units-distinct (Commit unit ∷ log) = units-distinct log
units-distinct (Backout unit ∷ log) = units-distinct log

-- without one of them there is at most one less
same-all : (u : UnitId) (units : List UnitId) → list_any (λ w. same_unit w u) units ≡ false → length (filter (λ w. not (same_unit w u)) units) ≡ length units
same-all u [] none = refl
same-all u (w ∷ units) none = by (same_unit w u) (same-all u units) none
  where
    by : (b : Bool) → (list_any (λ w. same_unit w u) units ≡ false → length (filter (λ w. not (same_unit w u)) units) ≡ length units)
        → (b || list_any (λ w. same_unit w u) units) ≡ false
        → length (cond (not b) (w ∷ filter (λ w. not (same_unit w u)) units) (filter (λ w. not (same_unit w u)) units)) ≡ length (w ∷ units)
    by true rest none = absurd (cc)
    by false rest none = omega (arith, rest none)

-- of distinct units a test of one leaves out one at most
one-less : (u : UnitId) (units : List UnitId) → Distinct units → length units ≤ length (filter (λ w. not (same_unit w u)) units) + 1
one-less u [] distinct = omega arith
one-less u (w ∷ units) distinct = by (same_unit w u) refl (one-less u units distinct.1)
  where
    by : (b : Bool) → same_unit w u ≡ b → length units ≤ length (filter (λ w. not (same_unit w u)) units) + 1
        → length (w ∷ units) ≤ length (cond (not b) (w ∷ filter (λ w. not (same_unit w u)) units) (filter (λ w. not (same_unit w u)) units)) + 1
    by true e rest = omega (arith, same-all u units (subst (λ (v : UnitId). list_any (λ y. same_unit y v) units ≡ false) (same_unit-true w u e) distinct.0))
    by false e rest = omega (arith, rest)

-- different ones that are all among some open units of a kind are no more than those
filter-differs : (u unit : UnitId) (units : List UnitId) → Found unit (filter (λ w. not (same_unit w u)) units) → same_unit u unit ≡ false
filter-differs u unit units found =
    false-if (same_unit u unit) (λ e. no-clash (list_any (λ w. same_unit w unit) (filter (λ w. not (same_unit w u)) units)) found
    (gone u unit units e))
  where
    gone : (u unit : UnitId) (units : List UnitId) → same_unit u unit ≡ true
        → list_any (λ w. same_unit w unit) (filter (λ w. not (same_unit w u)) units) ≡ false
    gone u unit units e =
        subst (λ (v : UnitId). list_any (λ w. same_unit w v) (filter (λ w. not (same_unit w u)) units) ≡ false) (same_unit-true u unit e)
        (none u units)
      where
        none : (u : UnitId) (units : List UnitId) → list_any (λ w. same_unit w u) (filter (λ w. not (same_unit w u)) units) ≡ false
        none u [] = refl
        none u (w ∷ units) = by (same_unit w u) refl (none u units)
          where
            by : (b : Bool) → same_unit w u ≡ b → list_any (λ w. same_unit w u) (filter (λ w. not (same_unit w u)) units) ≡ false
                → list_any (λ w. same_unit w u) (cond (not b) (w ∷ filter (λ w. not (same_unit w u)) units) (filter (λ w. not (same_unit w u)) units)) ≡ false
            by true e rest = rest
            by false e rest = rw e rest

-- where none is found there is none
none-length : (units : List UnitId) → ((unit : UnitId) → Found unit units → ⊥) → length units ≡ 0
none-length [] none = refl
none-length (u ∷ units) none = absurd (none u (found-first u units))
  where
    found-first : (u : UnitId) (units : List UnitId) → (same_unit u u || list_any (λ w. same_unit w u) units) ≡ true
    found-first u units = let e : same_unit u u ≡ true = same_unit-refl u in rw e refl

-- the open units that pass a test
abbrev of_kind : (UnitId → Bool) → List OpenUnit → List OpenUnit
of_kind p opens = filter (λ o. p o.unit) opens

-- distinct units that are all open are no more than the open ones
pub no-more : (p : UnitId → Bool) (opens : List OpenUnit) (units : List UnitId) → Distinct units
    → ((unit : UnitId) → Found unit units → IsOpenUnit unit opens × (p unit ≡ true))
    → length units ≤ length (of_kind p opens)
no-more p [] units distinct all = omega (arith, none-length units (λ unit found. no-clash false ((all unit found).0) refl))
no-more p (o ∷ opens) units distinct all =
    let fewer : List UnitId = filter (λ w. not (same_unit w o.unit)) units in
    let rest : length fewer ≤ length (of_kind p opens) =
    no-more p opens fewer (filter-distinct (λ w. not (same_unit w o.unit)) units distinct)
    (λ unit found. (
      later unit found ((all unit (found-filter (λ w. not (same_unit w o.unit)) unit units found)).0),
      (all unit (found-filter (λ w. not (same_unit w o.unit)) unit units found)).1,
    )) in
    by (list_any (λ w. same_unit w o.unit) units) refl rest
  where
    later : (unit : UnitId) → Found unit (filter (λ w. not (same_unit w o.unit)) units)
        → (same_unit o.unit unit || list_any (λ (q : OpenUnit). same_unit q.unit unit) opens) ≡ true
        → list_any (λ (q : OpenUnit). same_unit q.unit unit) opens ≡ true
    later unit found either = let e : same_unit o.unit unit ≡ false = filter-differs o.unit unit units found in sym (rw e refl) ∙ either

    at_least : (b : Bool) → length (of_kind p opens) ≤ length (cond b (o ∷ of_kind p opens) (of_kind p opens))
    at_least true = omega arith
    at_least false = omega arith

    by : (b : Bool) → list_any (λ w. same_unit w o.unit) units ≡ b → length (filter (λ w. not (same_unit w o.unit)) units) ≤ length (of_kind p opens)
        → length units ≤ length (of_kind p (o ∷ opens))
    by true e rest = let own : p o.unit ≡ true = (all o.unit e).1 in rw own (omega (arith, one-less o.unit units distinct, rest))
    by false e rest = omega (arith, same-all o.unit units e, rest, at_least (p o.unit))

-- the units that would be in flight after a put of an open unit are no more than the hot ones, counting this one
pub flight-hot_with : (log : List LogRec) (unit : UnitId) (rrn : ℕ) (before : List ℕ) (opens : List OpenUnit) → has_ended unit log ≡ false
    → IsOpenUnit unit opens
    → ((u : UnitId) → is_hot u (open_numbered log) ≡ true → IsOpenUnit u opens)
    → length (flight (Put unit rrn before ∷ log)) ≤ hot_with unit opens (open_numbered log)
flight-hot_with log unit rrn before opens open_yet here named =
    let after : List LogRec = Put unit rrn before ∷ log in
    let p : UnitId → Bool = λ u. same_unit u unit || is_hot u (open_numbered log) in
    let distinct : Distinct (flight after) = filter-distinct (λ u. not (has_ended u after)) (put_units after) (units-distinct after) in
    let all : (u : UnitId) → Found u (flight after) → IsOpenUnit u opens × (p u ≡ true) =
    λ u found. by u (same_unit unit u) refl (sym (hot-put u) ∙ in_flight-hot after u (in_flight-not_ended after u found) found) in
    omega (arith, no-more p opens (flight after) distinct all, length-filter (λ (o : OpenUnit). p o.unit) opens)
  where
    hot-put : (u : UnitId) → is_hot u (open_numbered (Put unit rrn before ∷ log)) ≡ (same_unit unit u || is_hot u (open_numbered log))
    hot-put u = rw open_yet refl

    by : (u : UnitId) (b : Bool) → same_unit unit u ≡ b → (same_unit unit u || is_hot u (open_numbered log)) ≡ true
        → IsOpenUnit u opens × ((same_unit u unit || is_hot u (open_numbered log)) ≡ true)
    by u true e either =
        let same : unit ≡ u = same_unit-true unit u e in
        (subst (λ (w : UnitId). IsOpenUnit w opens) same here, first u (subst (λ (w : UnitId). same_unit w unit ≡ true) same (same_unit-refl unit)))
      where
        first : (u : UnitId) → same_unit u unit ≡ true → (same_unit u unit || is_hot u (open_numbered log)) ≡ true
        first u f = rw f refl
    by u false e either =
        let hot : is_hot u (open_numbered log) ≡ true = sym (rw e refl) ∙ either in
        (named u hot, second (same_unit u unit) (is_hot u (open_numbered log)) hot)
      where
        second : (a b : Bool) → b ≡ true → (a || b) ≡ true
        second true b f = refl
        second false b f = f

-- the puts before the least number of an open one are of units that have ended
pub least-le : (n : ℕ) (puts : List LoggedPut) → least_number n puts ≤ n
least-le n [] = omega arith
least-le n (put ∷ puts) = omega (arith, least-le n puts)

-- no put has a smaller number
abbrev AreLeast : ℕ → List LoggedPut → Type 0
AreLeast least [] = Unit {0}
AreLeast least (put ∷ puts) = (least ≤ put.number) × AreLeast least puts

-- what is at most the least is at most each
least-lower : (a b : ℕ) (puts : List LoggedPut) → a ≤ b → AreLeast b puts → AreLeast a puts
least-lower a b [] less are = tt
least-lower a b (put ∷ puts) less are = (omega (arith, are.0), least-lower a b puts less are.1)

-- the least number is at most each
are-least : (n : ℕ) (puts : List LoggedPut) → AreLeast (least_number n puts) puts
are-least n [] = tt
are-least n (put ∷ puts) = (omega arith, least-lower (least_number n (put ∷ puts)) (least_number n puts) puts (omega arith) (are-least n puts))

-- before the least number no put passes
number-over : (q : UnitId → Bool) (least : ℕ) (log : List LogRec) → AreLeast least (filter (λ put. q put.unit) (numbered log))
    → (k : ℕ) (unit : UnitId) (rrn : ℕ) (before : List ℕ) → k < least → nth_old log k ≡ Some (Put unit rrn before) → q unit ≡ false
number-over q least [] are k unit rrn before early is = absurd (cc)
number-over q least (Commit u ∷ log) are k unit rrn before early is = by (k == length log) is (number-over q least log are k unit rrn before early)
  where
    by : (b : Bool) → (if b then Some (Commit u) else nth_old log k) ≡ Some (Put unit rrn before)
        → (nth_old log k ≡ Some (Put unit rrn before) → q unit ≡ false) → q unit ≡ false
    by true is rest = absurd (cc)
    by false is rest = rest is
number-over q least (Backout u ∷ log) are k unit rrn before early is = by (k == length log) is (number-over q least log are k unit rrn before early)
  where
    by : (b : Bool) → (if b then Some (Backout u) else nth_old log k) ≡ Some (Put unit rrn before)
        → (nth_old log k ≡ Some (Put unit rrn before) → q unit ≡ false) → q unit ≡ false
    by true is rest = absurd (cc)
    by false is rest = rest is
number-over q least (Put u r b ∷ log) are k unit rrn before early is =
    by (k == length log) (q u) refl refl is are (λ smaller. number-over q least log smaller k unit rrn before early)
  where
    by : (a c : Bool) → (k == length log) ≡ a → q u ≡ c → (if a then Some (Put u r b) else nth_old log k) ≡ Some (Put unit rrn before)
        → AreLeast least (cond c
        (record { unit = u; number = length log; undo = record { rrn = r; before = b } } ∷ filter (λ put. q put.unit) (numbered log))
        (filter (λ put. q put.unit) (numbered log)))
        → (AreLeast least (filter (λ put. q put.unit) (numbered log)) → nth_old log k ≡ Some (Put unit rrn before) → q unit ≡ false) → q unit ≡ false
    by true true e f is are rest = let same : k ≡ length log = eq-of-true k (length log) e in absurd (omega (arith, are.0))
    by true false e f is are rest = ap q (sym (same-put-unit u unit r rrn b before is)) ∙ f
    by false true e f is are rest = rest are.1 is
    by false false e f is are rest = rest are is

-- so the puts before the oldest open one are of units that have ended
pub oldest-over : (log : List LogRec) (n : ℕ) → AreOver (least_number n (open_numbered log)) log
oldest-over log n k unit rrn before early is =
    of-not-false (has_ended unit log) (number-over (λ u. not (has_ended u log)) (least_number n (open_numbered log)) log
    (are-least n (open_numbered log)) k unit rrn before early is)

-- a roll of a unit: its rows
pub own-rows : (log : List LogRec) (unit : UnitId) → undo_of unit (open_numbered log) ≡ map (λ (row : Row). row.undo) (filter
    (λ row. same_unit row.unit unit) (open_puts log))
own-rows log unit =
    undo_of-rows unit (open_numbered log) ∙ ap (λ (l : List Row). map (λ (row : Row). row.undo) (filter (λ row. same_unit row.unit unit) l))
    (open-rows log)
