-- How the units in flight and their puts change with a record.
use Rattle.std.proofs.Common.{◌≡◌, ℕ, ◌+◌, ◌-◌, ◌≤◌, ◌<◌, Bool, true, false, not, ◌||◌, cond, List, [], ◌∷◌, ◌++◌, length, reverse, filter, get_or, Some, refl, sym, ◌∙◌, ap, subst, arith}
use Rattle.std.specs.List.{list_any}
use Rattle.std.specs.Prelude.{slice_get}
use Rattle.std.proofs.Math.ListN.{get_or-map}
use Rattle.std.proofs.lemmas.Option.{slice_get-get_or}
use Rattle.std.proofs.lemmas.List.{append-nil, length-append, length-map, length-reverse, get_or-reverse}
use Rattle.std.proofs.lemmas.List.Elements.{filter-append}
use Rattle.xrf_base.specs.declared.items.UnitId.{UnitId}
use Rattle.xrf_logrec.specs.declared.records.LogRec.{LogRec}
use Rattle.xrf_logrec.specs.declared.records.LogRec.TheVariants.{Put, Commit, Backout}
use Rattle.xrf_log.specs.declared.taken.Row.{Row}
use Rattle.xrf_logrec.specs.LogRecords.{same_unit}
use Rattle.xrf_log.specs.Flight.{has_ended, put_units, flight, put_of, puts, open_puts, undo_rows}
use Rattle.xrf_logrec.proofs.LogLaws.{same_unit-true}
use Rattle.xrf_logrec.proofs.Lists.{filter-neither, length-filter-le}

-- one that is found among those that pass passes itself
found-passes : (p : UnitId → Bool) (unit : UnitId) (units : List UnitId) → list_any (λ u. same_unit u unit) (filter p units) ≡ true → p unit ≡ true
found-passes p unit [] h = absurd (cc)
found-passes p unit (u ∷ units) h = by (p u) (same_unit u unit) refl refl (found-passes p unit units) h
  where
    by : (a b : Bool) → p u ≡ a → same_unit u unit ≡ b → (list_any (λ v. same_unit v unit) (filter p units) ≡ true → p unit ≡ true)
        → list_any (λ v. same_unit v unit) (cond a (u ∷ filter p units) (filter p units)) ≡ true → p unit ≡ true
    by true true e f rest k = subst (λ v. p v ≡ true) (same_unit-true u unit f) e
    by true false e f rest k = rest (rw f at k)
    by false b e f rest k = rest k

-- one that passes and is found is found among those that pass
passes-found : (p : UnitId → Bool) (unit : UnitId) (units : List UnitId) → p unit ≡ true → list_any (λ u. same_unit u unit) units ≡ true → list_any (λ u. same_unit u unit) (filter p units) ≡ true
passes-found p unit [] passes h = absurd (cc)
passes-found p unit (u ∷ units) passes h = by (p u) (same_unit u unit) refl refl (passes-found p unit units passes) h
  where
    by : (a b : Bool) → p u ≡ a → same_unit u unit ≡ b → (list_any (λ v. same_unit v unit) units ≡ true → list_any (λ v. same_unit v unit) (filter p units) ≡ true)
        → (b || list_any (λ v. same_unit v unit) units) ≡ true → list_any (λ v. same_unit v unit) (cond a (u ∷ filter p units) (filter p units)) ≡ true
    by true true e f rest k = rw f refl
    by true false e f rest k = rw f (rest k)
    by false true e f rest k = let clash : false ≡ true = sym e ∙ subst (λ v. p v ≡ true) (sym (same_unit-true u unit f)) passes in absurd (cc)
    by false false e f rest k = rest k

not-found : (p : UnitId → Bool) (unit : UnitId) (units : List UnitId) → p unit ≡ true → list_any (λ u. same_unit u unit) (filter p units) ≡ false → list_any (λ u. same_unit u unit) units ≡ false
not-found p unit units passes h = by (list_any (λ u. same_unit u unit) units) refl
  where
    by : (b : Bool) → list_any (λ u. same_unit u unit) units ≡ b → b ≡ false
    by true e = let clash : false ≡ true = sym h ∙ passes-found p unit units passes e in absurd (cc)
    by false e = refl

not-true : (b : Bool) → not b ≡ true → b ≡ false
not-true true h = absurd (cc)
not-true false h = refl

-- a unit in flight has not ended
pub in_flight-not_ended : (log : List LogRec) (unit : UnitId) → list_any (λ u. same_unit u unit) (flight log) ≡ true → has_ended unit log ≡ false
in_flight-not_ended log unit h = not-true (has_ended unit log) (found-passes (λ u. not (has_ended u log)) unit (put_units log) h)

-- whether the unit of a put is there already decides how the list of units grows
grown : (p : UnitId → Bool) (unit : UnitId) (units : List UnitId) (b : Bool) → list_any (λ u. same_unit u unit) units ≡ b → filter p (cond (list_any (λ u. same_unit u unit) units) units (units ++ unit ∷ [])) ≡ filter p (cond b units (units ++ unit ∷ []))
grown p unit units b e = ap (λ c. filter p (cond c units (units ++ unit ∷ []))) e

-- what is found among those that pass is found
found-all : (t p : UnitId → Bool) (units : List UnitId) → list_any t (filter p units) ≡ true → list_any t units ≡ true
found-all t p [] h = h
found-all t p (u ∷ units) h = by (p u) (t u) refl (found-all t p units) h
  where
    by : (a b : Bool) → t u ≡ b → (list_any t (filter p units) ≡ true → list_any t units ≡ true) → list_any t (cond a (u ∷ filter p units) (filter p units)) ≡ true → (b || list_any t units) ≡ true
    by a true e rest k = refl
    by true false e rest k = rest (rw e at k)
    by false false e rest k = rest k

-- a put of a unit in flight changes none of the units
pub flight-put_again : (log : List LogRec) (row : Row) → list_any (λ u. same_unit u row.unit) (flight log) ≡ true → flight (put_of row ∷ log) ≡ flight log
flight-put_again log row h =
    grown (λ u. not (has_ended u log)) row.unit (put_units log) true (found-all (λ u. same_unit u row.unit) (λ u. not (has_ended u log)) (put_units log) h)

-- a put of a unit that has ended changes nothing
pub flight-put_ended : (log : List LogRec) (row : Row) → has_ended row.unit log ≡ true → flight (put_of row ∷ log) ≡ flight log
flight-put_ended log row h = by (list_any (λ u. same_unit u row.unit) (put_units log)) refl
  where
    last : filter (λ u. not (has_ended u log)) (row.unit ∷ []) ≡ []
    last = rw h refl

    by : (b : Bool) → list_any (λ u. same_unit u row.unit) (put_units log) ≡ b → flight (put_of row ∷ log) ≡ flight log
    by true e = grown (λ u. not (has_ended u log)) row.unit (put_units log) true e
    by false e =
        grown (λ u. not (has_ended u log)) row.unit (put_units log) false e
        ∙ filter-append (λ u. not (has_ended u log)) (put_units log) (row.unit ∷ [])
        ∙ ap (λ l. flight log ++ l) last ∙ append-nil (flight log)

pub open_puts-put_ended : (log : List LogRec) (row : Row) → has_ended row.unit log ≡ true → open_puts (put_of row ∷ log) ≡ open_puts log
open_puts-put_ended log row h = rw h refl

-- the first put of a unit that has not ended adds it
pub flight-put_first : (log : List LogRec) (row : Row) → list_any (λ u. same_unit u row.unit) (flight log) ≡ false → has_ended row.unit log ≡ false → flight (put_of row ∷ log) ≡ flight log ++ row.unit ∷ []
flight-put_first log row h open_yet =
    let passes : not (has_ended row.unit log) ≡ true = rw open_yet refl in
    let last : filter (λ u. not (has_ended u log)) (row.unit ∷ []) ≡ row.unit ∷ [] = rw open_yet refl in
    grown (λ u. not (has_ended u log)) row.unit (put_units log) false (not-found (λ u. not (has_ended u log)) row.unit (put_units log) passes h)
    ∙ filter-append (λ u. not (has_ended u log)) (put_units log) (row.unit ∷ [])
    ∙ ap (λ l. flight log ++ l) last

pub open_puts-put : (log : List LogRec) (row : Row) → has_ended row.unit log ≡ false → open_puts (put_of row ∷ log) ≡ row ∷ open_puts log
open_puts-put log row open_yet = rw open_yet refl

-- a record that ends a unit takes it out, and its puts
pub flight-commit : (log : List LogRec) (unit : UnitId) → flight (Commit unit ∷ log) ≡ filter (λ u. not (same_unit u unit)) (flight log)
flight-commit log unit = filter-neither (λ u. same_unit u unit) (λ u. has_ended u log) (put_units log)

pub flight-backout : (log : List LogRec) (unit : UnitId) → flight (Backout unit ∷ log) ≡ filter (λ u. not (same_unit u unit)) (flight log)
flight-backout log unit = filter-neither (λ u. same_unit u unit) (λ u. has_ended u log) (put_units log)

pub open_puts-commit : (log : List LogRec) (unit : UnitId) → open_puts (Commit unit ∷ log) ≡ filter (λ row. not (same_unit row.unit unit)) (open_puts log)
open_puts-commit log unit = filter-neither (λ row. same_unit row.unit unit) (λ row. has_ended row.unit log) (puts log)

pub open_puts-backout : (log : List LogRec) (unit : UnitId) → open_puts (Backout unit ∷ log) ≡ filter (λ row. not (same_unit row.unit unit)) (open_puts log)
open_puts-backout log unit = filter-neither (λ row. same_unit row.unit unit) (λ row. has_ended row.unit log) (puts log)

one-more : (b : Bool) (units : List UnitId) (unit : UnitId) (n : ℕ) → length units ≤ n → length (cond b units (units ++ unit ∷ [])) ≤ n + 1
one-more true units unit n h = omega arith
one-more false units unit n h = omega (arith, length-append units (unit ∷ []))

-- there are no more of them than records
pub length-put_units : (log : List LogRec) → length (put_units log) ≤ length log
length-put_units [] = omega arith
length-put_units (Put unit rrn before ∷ log) = let h = one-more (list_any (λ u. same_unit u unit) (put_units log)) (put_units log) unit (length log) (length-put_units log) in omega arith
length-put_units (Commit unit ∷ log) = let h = length-put_units log in omega arith
length-put_units (Backout unit ∷ log) = let h = length-put_units log in omega arith

pub length-flight : (log : List LogRec) → length (flight log) ≤ length log
length-flight log = omega (arith, length-filter-le (λ u. not (has_ended u log)) (put_units log), length-put_units log)

length-puts : (log : List LogRec) → length (puts log) ≤ length log
length-puts [] = omega arith
length-puts (Put unit rrn before ∷ log) = let h = length-puts log in omega arith
length-puts (Commit unit ∷ log) = let h = length-puts log in omega arith
length-puts (Backout unit ∷ log) = let h = length-puts log in omega arith

pub length-open_puts : (log : List LogRec) → length (open_puts log) ≤ length log
length-open_puts log = omega (arith, length-filter-le (λ row. not (has_ended row.unit log)) (puts log), length-puts log)

-- undo row k is that of the put that stands k from the end of the puts, oldest first
pub row_from_end : (log : List LogRec) (rows : List Row) (k : ℕ) (row : Row) → rows ≡ reverse (open_puts log) → k < length (undo_rows log) → row ≡ get_or rows (length rows - 1 - k) row → slice_get (undo_rows log) k ≡ Some row.undo
row_from_end log rows k row are below read =
    let count : length (undo_rows log) ≡ length (open_puts log) = length-map (open_puts log) (λ r. r.undo) in
    let size : length rows ≡ length (open_puts log) = ap length are ∙ length-reverse (open_puts log) in
    let here : k < length (open_puts log) = omega (arith, count) in
    let there : length rows - 1 - k < length (open_puts log) = omega (arith, count, size) in
    let back : length (open_puts log) - 1 - (length rows - 1 - k) ≡ k = omega (arith, count, size) in
    let same : row ≡ get_or (open_puts log) k row =
    read ∙ ap (λ r. get_or r (length rows - 1 - k) row) are ∙ get_or-reverse (open_puts log) (length rows - 1 - k) row there
    ∙ ap (λ i. get_or (open_puts log) i row) back in
    slice_get-get_or (undo_rows log) k row.undo below
    ∙ ap Some (get_or-map (λ (r : Row). r.undo) (open_puts log) k row)
    ∙ ap (λ (r : Row). Some r.undo) (sym same)
