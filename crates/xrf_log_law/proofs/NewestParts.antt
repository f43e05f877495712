-- The open puts and the flight of a log are those of its records from the start on.
use Rattle.std.proofs.Common.{List, length, ◌≡◌, ℕ, ◌++◌, Some, refl, true, ◌==◌, ◌∷◌, ap, arith, sym, ◌+◌, [], ◌∙◌, Bool, false, ◌||◌, cond, filter, ◌<◌, length-append, not, subst}
use Rattle.std.proofs.lemmas.List.{append-nil}
use Rattle.std.proofs.lemmas.List.Elements.{filter-append}
use Rattle.std.specs.List.{list_any}
use Rattle.xrf_base.specs.declared.items.UnitId.{UnitId}
use Rattle.xrf_logrec.specs.declared.records.LogRec.{LogRec}
use Rattle.xrf_logrec.specs.declared.records.LogRec.TheVariants.{Backout, Commit, Put}
use Rattle.xrf_logrec.specs.LogRecords.{same_unit}
use Rattle.xrf_logrec.proofs.LogLaws.{same_unit-true}
use Rattle.xrf_log.specs.Flight.{ends, has_ended, puts, open_puts, put_units, flight}
use Rattle.xrf_log.specs.declared.taken.Row.{Row}
use Rattle.xrf_log_law.proofs.SlotWrites.{push-other}
use Rattle.xrf_log_law.specs.LogSlots.{nth_old}
use Rattle.xrf_log_law.specs.LogParts.{IsPart}
use Rattle.xrf_log_law.specs.State.{AreOrdered, AreOver}
use Rattle.xrf_log_law.proofs.SameRecords.{same-record}
use Rattle.xrf_log_law.proofs.Tests.{eq-true}

-- a whole part is the newest of the log
pub record Newest (log : List LogRec) (start : ℕ) (records : List LogRec) : Type 0 where
  pub older : List LogRec
  pub split : log ≡ records ++ older
  pub count : length older ≡ start

-- the record that joins has the number of those before it
nth_old-last : (log : List LogRec) (rec : LogRec) → nth_old (rec ∷ log) (length log) ≡ Some rec
nth_old-last log rec = let e : (length log == length log) ≡ true = eq-true (length log) (length log) refl in rw e refl

-- a part up to the end is the newest of the log
pub newest : (log : List LogRec) (start : ℕ) (records : List LogRec) → IsPart log start records → start + length records ≡ length log → Newest log start records
newest log start [] part all = record { older = log; split = refl; count = omega arith }
newest [] start (rec ∷ records) part all = absurd (omega (arith, all))
newest (first ∷ log) start (rec ∷ records) part all =
    let count : start + length records ≡ length log = omega (arith, all) in
    let same : Some rec ≡ Some first =
    sym (nth_old-last records rec) ∙ part.same (length records) (omega arith) ∙ ap (nth_old (first ∷ log)) count ∙ nth_old-last log first in
    let smaller : IsPart log start records = record {
      within = omega (arith, count);
      same = λ j less.
          sym (push-other records rec j (length records) refl (λ e. omega arith)) ∙ part.same j (omega arith)
          ∙ push-other log first (start + j) (length log) refl (λ e. omega (arith, count));
    } in
    let rest = newest log start records smaller count in
    record {
      older = rest.older;
      split = ap (λ (l : List LogRec). first ∷ l) rest.split
          ∙ ap (λ (r : LogRec). r ∷ (records ++ rest.older)) (sym (same-record rec first same));
      count = rest.count;
    }

-- an end stands in one part or the other
ended-split : (unit : UnitId) (records older : List LogRec) → has_ended unit (records ++ older) ≡ (has_ended unit records || has_ended unit older)
ended-split unit [] older = refl
ended-split unit (rec ∷ records) older = by (ends unit rec) (ended-split unit records older)
  where
    by : (b : Bool) → has_ended unit (records ++ older) ≡ (has_ended unit records || has_ended unit older)
        → (b || has_ended unit (records ++ older)) ≡ ((b || has_ended unit records) || has_ended unit older)
    by true rest = refl
    by false rest = rest

-- so do the puts
puts-split : (records older : List LogRec) → puts (records ++ older) ≡ puts records ++ puts older
puts-split [] older = refl
puts-split (Put unit rrn before ∷ records) older =
    ap (λ (l : List Row). record { unit = unit; undo = record { rrn = rrn; before = before } } ∷ l) (puts-split records older)
puts-split (Commit unit ∷ records) older = puts-split records older
puts-split (Backout unit ∷ records) older = puts-split records older

-- said of each row, and of each unit
abbrev EachRow : (Row → Type 0) → List Row → Type 0
EachRow fact [] = Unit {0}
EachRow fact (row ∷ rows) = fact row × EachRow fact rows

-- tests that agree on the rows leave the same
filter-same : (p q : Row → Bool) (rows : List Row) → EachRow (λ row. p row ≡ q row) rows → filter p rows ≡ filter q rows
filter-same p q [] same = refl
filter-same p q (row ∷ rows) same = rw same.0 (ap (λ (l : List Row). cond (q row) (row ∷ l) l) (filter-same p q rows same.1))

-- a test that no row passes leaves none
filter-none : (p : Row → Bool) (rows : List Row) → EachRow (λ row. p row ≡ false) rows → filter p rows ≡ []
filter-none p [] none = refl
filter-none p (row ∷ rows) none = rw none.0 (filter-none p rows none.1)

-- the units of the newer puts had not ended in the older part
or-right : (a b : Bool) → (a || b) ≡ false → b ≡ false
or-right true b e = absurd (cc)
or-right false b e = e

-- none of them had ended
newer-open : (records older : List LogRec) → AreOrdered (records ++ older) → EachRow (λ row. has_ended row.unit older ≡ false) (puts records)
newer-open [] older ordered = tt
newer-open (Put unit rrn before ∷ records) older ordered =
    (or-right (has_ended unit records) (has_ended unit older) (sym (ended-split unit records older) ∙ ordered.1), newer-open records older ordered.0)
newer-open (Commit unit ∷ records) older ordered = newer-open records older ordered
newer-open (Backout unit ∷ records) older ordered = newer-open records older ordered

-- those of the older puts have ended
older-over : (log older : List LogRec) → ((k : ℕ) (unit : UnitId) (rrn : ℕ) (before : List ℕ) → k < length older
    → nth_old older k ≡ Some (Put unit rrn before) → has_ended unit log ≡ true)
    → EachRow (λ row. has_ended row.unit log ≡ true) (puts older)
older-over log [] over = tt
older-over log (Put unit rrn before ∷ older) over = (
  over (length older) unit rrn before (omega arith) (nth_old-last older (Put unit rrn before)),
  older-over log older (λ k u r b less is. over k u r b (omega arith) (push-other older (Put unit rrn before) k (length older) refl (λ e. omega arith) ∙ is)),
)
older-over log (Commit unit ∷ older) over =
    older-over log older (λ k u r b less is. over k u r b (omega arith)
    (push-other older (Commit unit) k (length older) refl (λ e. omega arith) ∙ is))
older-over log (Backout unit ∷ older) over =
    older-over log older (λ k u r b less is. over k u r b (omega arith)
    (push-other older (Backout unit) k (length older) refl (λ e. omega arith) ∙ is))

-- a record of the older part has its number there
nth_old-older : (records older : List LogRec) (k : ℕ) → k < length older → nth_old (records ++ older) k ≡ nth_old older k
nth_old-older [] older k less = refl
nth_old-older (rec ∷ records) older k less =
    push-other (records ++ older) rec k (length (records ++ older)) refl (λ e. omega (arith, length-append records older)) ∙ nth_old-older records older k less

-- a fact of each row that follows from another
map-row : (P Q : Row → Type 0) (rows : List Row) → ((row : Row) → P row → Q row) → EachRow P rows → EachRow Q rows
map-row P Q [] f each = tt
map-row P Q (row ∷ rows) f each = (f row each.0, map-row P Q rows f each.1)

-- two tests that are the same turned round
not-same : (a b c : Bool) → a ≡ (b || c) → c ≡ false → not a ≡ not b
not-same a true c e f = ap not e
not-same a false c e f = ap not (e ∙ f)

-- so the open puts are those of the newer part
pub open_puts-newest : (records older : List LogRec) → AreOrdered (records ++ older) → AreOver (length older) (records ++ older)
    → open_puts (records ++ older) ≡ open_puts records
open_puts-newest records older ordered over =
    let log : List LogRec = records ++ older in
    let p : Row → Bool = λ row. not (has_ended row.unit log) in
    let new : filter p (puts records) ≡ open_puts records =
    filter-same p (λ row. not (has_ended row.unit records)) (puts records)
    (map-row (λ row. has_ended row.unit older ≡ false) (λ row. p row ≡ not (has_ended row.unit records)) (puts records)
    (λ row f. not-same (has_ended row.unit log) (has_ended row.unit records) (has_ended row.unit older) (ended-split row.unit records older) f)
    (newer-open records older ordered)) in
    let old : filter p (puts older) ≡ [] =
    filter-none p (puts older)
    (map-row (λ row. has_ended row.unit log ≡ true) (λ row. p row ≡ false) (puts older) (λ row e. ap not e)
    (older-over log older (λ k u r b less is. over k u r b less (nth_old-older records older k less ∙ is)))) in
    ap (filter p) (puts-split records older) ∙ filter-append p (puts records) (puts older) ∙ ap (λ (l : List Row). filter p (puts records) ++ l) old
    ∙ append-nil (filter p (puts records)) ∙ new

-- a unit that passes is found among those that pass exactly where it is found
pub found-passing : (q : UnitId → Bool) (unit : UnitId) (units : List UnitId) → q unit ≡ true
    → list_any (λ u. same_unit u unit) (filter q units) ≡ list_any (λ u. same_unit u unit) units
found-passing q unit [] passes = refl
found-passing q unit (u ∷ units) passes = by (q u) (same_unit u unit) refl refl (found-passing q unit units passes)
  where
    by : (a b : Bool) → q u ≡ a → same_unit u unit ≡ b → list_any (λ v. same_unit v unit) (filter q units) ≡ list_any (λ v. same_unit v unit) units
        → list_any (λ v. same_unit v unit) (cond a (u ∷ filter q units) (filter q units)) ≡ (b || list_any (λ v. same_unit v unit) units)
    by true b e f rest = rw f (ap (λ (c : Bool). b || c) rest)
    by false true e f rest = let clash : false ≡ true = sym e ∙ subst (λ (v : UnitId). q v ≡ true) (sym (same_unit-true u unit f)) passes in absurd (cc)
    by false false e f rest = rest

-- a test passes a longer list as it passes the last
filter-last : (q : UnitId → Bool) (units : List UnitId) (unit : UnitId) (b : Bool) → q unit ≡ b
    → filter q (units ++ unit ∷ []) ≡ filter q units ++ cond b (unit ∷ []) []
filter-last q units unit b e = filter-append q units (unit ∷ []) ∙ ap (λ (l : List UnitId). filter q units ++ l) (rw e refl)

-- and the list of units, which takes none twice
filter-grown : (q : UnitId → Bool) (units : List UnitId) (unit : UnitId) → filter q (cond (list_any (λ u. same_unit u unit) units) units (units ++ unit ∷ []))
    ≡ cond (q unit) (cond (list_any (λ u. same_unit u unit) (filter q units)) (filter q units) (filter q units ++ unit ∷ [])) (filter q units)
filter-grown q units unit = by (q unit) (list_any (λ u. same_unit u unit) units) refl refl
  where
    by : (a b : Bool) → q unit ≡ a → list_any (λ u. same_unit u unit) units ≡ b
        → filter q (cond b units (units ++ unit ∷ [])) ≡ cond a
        (cond (list_any (λ u. same_unit u unit) (filter q units)) (filter q units) (filter q units ++ unit ∷ [])) (filter q units)
    by true true e f = rw (found-passing q unit units e ∙ f) refl
    by true false e f = rw (found-passing q unit units e ∙ f) (filter-last q units unit true e)
    by false true e f = refl
    by false false e f = filter-last q units unit false e ∙ append-nil (filter q units)

-- of the older part no unit passes
units-over : (q : UnitId → Bool) (older : List LogRec) → EachRow (λ row. q row.unit ≡ false) (puts older) → filter q (put_units older) ≡ []
units-over q [] over = refl
units-over q (Put unit rrn before ∷ older) over = filter-grown q (put_units older) unit ∙ rw over.0 (units-over q older over.1)
units-over q (Commit unit ∷ older) over = units-over q older over
units-over q (Backout unit ∷ older) over = units-over q older over

-- so the units that pass are those of the newer part
units-newest : (q : UnitId → Bool) (records older : List LogRec) → EachRow (λ row. q row.unit ≡ false) (puts older)
    → filter q (put_units (records ++ older)) ≡ filter q (put_units records)
units-newest q [] older over = units-over q older over
units-newest q (Put unit rrn before ∷ records) older over =
    filter-grown q (put_units (records ++ older)) unit
    ∙ ap (λ (l : List UnitId). cond (q unit) (cond (list_any (λ u. same_unit u unit) l) l (l ++ unit ∷ [])) l) (units-newest q records older over)
    ∙ sym (filter-grown q (put_units records) unit)
units-newest q (Commit unit ∷ records) older over = units-newest q records older over
units-newest q (Backout unit ∷ records) older over = units-newest q records older over

-- two tests that agree on the units of the puts
units-agree : (p q : UnitId → Bool) (records : List LogRec) → EachRow (λ row. p row.unit ≡ q row.unit) (puts records)
    → filter p (put_units records) ≡ filter q (put_units records)
units-agree p q [] same = refl
units-agree p q (Put unit rrn before ∷ records) same =
    filter-grown p (put_units records) unit
    ∙ ap (λ (b : Bool). cond b
    (cond (list_any (λ u. same_unit u unit) (filter p (put_units records))) (filter p (put_units records))
    (filter p (put_units records) ++ unit ∷ [])) (filter p (put_units records))) same.0
    ∙ ap (λ (l : List UnitId). cond (q unit) (cond (list_any (λ u. same_unit u unit) l) l (l ++ unit ∷ [])) l) (units-agree p q records same.1)
    ∙ sym (filter-grown q (put_units records) unit)
units-agree p q (Commit unit ∷ records) same = units-agree p q records same
units-agree p q (Backout unit ∷ records) same = units-agree p q records same

-- so is the flight
pub flight-newest : (records older : List LogRec) → AreOrdered (records ++ older) → AreOver (length older) (records ++ older)
    → flight (records ++ older) ≡ flight records
flight-newest records older ordered over =
    let log : List LogRec = records ++ older in
    let q : UnitId → Bool = λ unit. not (has_ended unit log) in
    units-newest q records older
    (map-row (λ row. has_ended row.unit log ≡ true) (λ row. q row.unit ≡ false) (puts older) (λ row e. ap not e)
    (older-over log older (λ k u r b less is. over k u r b less (nth_old-older records older k less ∙ is))))
    ∙ units-agree q (λ unit. not (has_ended unit records)) records
    (map-row (λ row. has_ended row.unit older ≡ false) (λ row. q row.unit ≡ not (has_ended row.unit records)) (puts records)
    (λ row f. not-same (has_ended row.unit log) (has_ended row.unit records) (has_ended row.unit older) (ended-split row.unit records older) f)
    (newer-open records older ordered))

-- so of a scan that has ended
pub record AllOf (log records : List LogRec) : Type 0 where
  pub open_ones : open_puts records ≡ open_puts log
  pub in_flight : flight records ≡ flight log

-- the records of a scan that has ended have the open puts and the flight of the log
pub scanned-all : (log : List LogRec) (start : ℕ) (records : List LogRec) → AreOrdered log → AreOver start log → IsPart log start records
    → start + length records ≡ length log → AllOf log records
scanned-all log start records ordered over part all =
    let new = newest log start records part all in
    let ordered_new : AreOrdered (records ++ new.older) = subst AreOrdered new.split ordered in
    let over_new : AreOver (length new.older) (records ++ new.older) =
    subst (λ (n : ℕ). AreOver n (records ++ new.older)) (sym new.count) (subst (AreOver start) new.split over) in
    record {
      open_ones = sym (ap open_puts new.split ∙ open_puts-newest records new.older ordered_new over_new);
      in_flight = sym (ap flight new.split ∙ flight-newest records new.older ordered_new over_new);
    }
