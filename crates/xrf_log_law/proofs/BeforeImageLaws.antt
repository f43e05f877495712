-- The before-images over the file give the book: what each act makes of them.
use Rattle.std.proofs.Common.{Bool, List, false, refl, true, ◌≡◌, ℕ, ◌==◌, ◌||◌, [], ◌∷◌, if◌then◌else◌, map, filter, not, cond, ◌&&◌, arith, subst, ap, ◌∙◌, sym}
use Rattle.std.specs.List.{list_any}
use Rattle.std.proofs.lemmas.Grind.{common_steps}
use Rattle.xrf_base.specs.declared.items.UnitId.{UnitId}
use Rattle.xrf_logrec.specs.declared.records.Undo.{Undo}
use Rattle.xrf_logrec.specs.LogRecords.{same_unit}
use Rattle.xrf_logrec.proofs.LogLaws.{same_unit-true}
use Rattle.xrf_log.specs.declared.taken.Row.{Row}
use Rattle.xrf_log_law.specs.BeforeImages.{covers, undo_at, has_put, other_has_put, AreLocked, IsUndone}
use Rattle.xrf_log_law.proofs.Tests.{eq-of-true, false-if, no-clash}
use Rattle.xrf_trace.proofs.PromiseLaws.{same_unit-refl}

-- where a row is of the record, what stood there does not matter
pub covered-same : (r : ℕ) (rows : List Undo) (x y : List ℕ) → covers r rows ≡ true → undo_at r rows x ≡ undo_at r rows y
covered-same r [] x y covered = absurd (cc)
covered-same r (row ∷ rows) x y covered = by (row.rrn == r) (covered-same r rows x y) covered
  where
    by : (b : Bool) → (covers r rows ≡ true → undo_at r rows x ≡ undo_at r rows y) → (b || covers r rows) ≡ true
        → undo_at r rows (if b then row.before else x) ≡ undo_at r rows (if b then row.before else y)
    by true rest covered = refl
    by false rest covered = rest covered

-- and where none is, it stays
pub uncovered-as_is : (r : ℕ) (rows : List Undo) (x : List ℕ) → covers r rows ≡ false → undo_at r rows x ≡ x
uncovered-as_is r [] x none = refl
uncovered-as_is r (row ∷ rows) x none = by (row.rrn == r) (uncovered-as_is r rows x) none
  where
    by : (b : Bool) → (covers r rows ≡ false → undo_at r rows x ≡ x) → (b || covers r rows) ≡ false → undo_at r rows (if b then row.before else x) ≡ x
    by true rest none = absurd (cc)
    by false rest none = rest none

-- the undo rows of some puts
abbrev pub undos : List Row → List Undo
undos rows = map (λ row. row.undo) rows

-- without the rows of a unit
abbrev pub without : UnitId → List Row → List Row
without unit rows = filter (λ row. not (same_unit row.unit unit)) rows

-- at a record that the unit has not put, its rows can go
pub without-unput : (unit : UnitId) (r : ℕ) (rows : List Row) (x : List ℕ) → has_put unit r rows ≡ false
    → undo_at r (undos (without unit rows)) x ≡ undo_at r (undos rows) x
without-unput unit r [] x none = refl
without-unput unit r (row ∷ rows) x none = by (same_unit row.unit unit) (row.undo.rrn == r) refl (λ y. without-unput unit r rows y) none
  where
    by : (own here : Bool) → (row.undo.rrn == r) ≡ here
        → ((y : List ℕ) → has_put unit r rows ≡ false → undo_at r (undos (without unit rows)) y ≡ undo_at r (undos rows) y)
        → ((here && own) || has_put unit r rows) ≡ false
        → undo_at r (undos (cond (not own) (row ∷ without unit rows) (without unit rows))) x ≡ undo_at r (undos rows)
        (if row.undo.rrn == r then row.undo.before else x)
    by true true e rest none = absurd (cc)
    by true false e rest none = rw e (rest x none)
    by false true e rest none = rest (if row.undo.rrn == r then row.undo.before else x) none
    by false false e rest none = rest (if row.undo.rrn == r then row.undo.before else x) none

-- at a record that no other unit has put, none is left without them
pub without-uncovered : (unit : UnitId) (r : ℕ) (rows : List Row) → other_has_put unit r rows ≡ false → covers r (undos (without unit rows)) ≡ false
without-uncovered unit r [] none = refl
without-uncovered unit r (row ∷ rows) none = by (same_unit row.unit unit) (row.undo.rrn == r) refl (without-uncovered unit r rows) none
  where
    by : (own here : Bool) → (row.undo.rrn == r) ≡ here → (other_has_put unit r rows ≡ false → covers r (undos (without unit rows)) ≡ false)
        → ((here && not own) || other_has_put unit r rows) ≡ false
        → covers r (undos (cond (not own) (row ∷ without unit rows) (without unit rows))) ≡ false
    by true true e rest none = rest none
    by true false e rest none = rest none
    by false true e rest none = absurd (cc)
    by false false e rest none = rw e (rest none)

-- what is found after some are left out was there
any-filter : (p q : Row → Bool) (rows : List Row) → list_any p rows ≡ false → list_any p (filter q rows) ≡ false
any-filter p q [] none = refl
any-filter p q (row ∷ rows) none = by (q row) (p row) refl (any-filter p q rows) none
  where
    by : (kept found : Bool) → p row ≡ found → (list_any p rows ≡ false → list_any p (filter q rows) ≡ false) → (found || list_any p rows) ≡ false
        → list_any p (cond kept (row ∷ filter q rows) (filter q rows)) ≡ false
    by kept true e rest none = absurd (cc)
    by true false e rest none = rw e (rest none)
    by false false e rest none = rest none

-- without the rows of a unit the others are locked still
pub without-locked : (unit : UnitId) (rows : List Row) → AreLocked rows → AreLocked (without unit rows)
without-locked unit rows locked u r put =
    any-filter (λ row. row.undo.rrn == r && not (same_unit row.unit u)) (λ row. not (same_unit row.unit unit)) rows
    (locked u r (by (has_put u r rows) refl))
  where
    by : (b : Bool) → has_put u r rows ≡ b → b ≡ true
    by true e = refl
    by false e =
        no-clash (has_put u r (without unit rows)) put
        (any-filter (λ row. row.undo.rrn == r && same_unit row.unit u) (λ row. not (same_unit row.unit unit)) rows e)

-- a put joins, of a record that no other open unit has put
abbrev pub put_row : UnitId → ℕ → List ℕ → Row
put_row u r b = record { unit = u; undo = record { rrn = r; before = b } }

-- of a unit that has put, another one finds it as another
pub put-found : (u v : UnitId) (r : ℕ) (rows : List Row) → same_unit u v ≡ false → has_put u r rows ≡ true → other_has_put v r rows ≡ true
put-found u v r [] differ put = absurd (cc)
put-found u v r (row ∷ rows) differ put = by (row.undo.rrn == r) (same_unit row.unit u) (same_unit row.unit v) refl refl (put-found u v r rows differ) put
  where
    by : (here own own_v : Bool) → same_unit row.unit u ≡ own → same_unit row.unit v ≡ own_v → (has_put u r rows ≡ true → other_has_put v r rows ≡ true)
        → ((here && own) || has_put u r rows) ≡ true → ((here && not own_v) || other_has_put v r rows) ≡ true
    by true true true e f rest put =
        no-clash (same_unit u v) (subst (λ (w : UnitId). same_unit w v ≡ true) (same_unit-true row.unit u e) f) differ
    by true true false e f rest put = refl
    by true false true e f rest put = rest put
    by true false false e f rest put = refl
    by false own own_v e f rest put = rest put

-- a put of a record that no other open unit has put keeps the locks
push-locked : (u : UnitId) (r : ℕ) (b : List ℕ) (rows : List Row) → other_has_put u r rows ≡ false → AreLocked rows → AreLocked (put_row u r b ∷ rows)
push-locked u r b rows free locked v k put = by (r == k) (same_unit u v) refl refl put
  where
    by : (here own : Bool) → (r == k) ≡ here → same_unit u v ≡ own → ((here && own) || has_put v k rows) ≡ true
        → ((here && not own) || other_has_put v k rows) ≡ false
    by true true e f put =
        subst (λ (n : ℕ). other_has_put v n rows ≡ false) (eq-of-true r k e)
        (subst (λ (w : UnitId). other_has_put w r rows ≡ false) (same_unit-true u v f) free)
    by true false e f put =
        no-clash (other_has_put u k rows) (put-found v u k rows (differ f) put) (subst (λ (n : ℕ). other_has_put u n rows ≡ false) (eq-of-true r k e) free)
      where
        differ : same_unit u v ≡ false → same_unit v u ≡ false
        differ f =
            false-if (same_unit v u) (λ g. no-clash (same_unit u v)
            (subst (λ (w : UnitId). same_unit w v ≡ true) (same_unit-true v u g) (same_unit-refl v)) f)
    by false own e f put = locked v k put

-- and its before-image is what stands there
pub put-undone : (u : UnitId) (r : ℕ) (b : List ℕ) (rows : List Row) (image booked : ℕ → List ℕ) → other_has_put u r rows ≡ false → b ≡ image r
    → IsUndone rows image booked → IsUndone (put_row u r b ∷ rows) image booked
put-undone u r b rows image booked free read undone = record {
  locked = push-locked u r b rows free undone.locked;
  back = λ k. by k (r == k) refl ∙ undone.back k;
}
  where
    by : (k : ℕ) (here : Bool) → (r == k) ≡ here → undo_at k (undos rows) (if here then b else image k) ≡ undo_at k (undos rows) (image k)
    by k true e = ap (undo_at k (undos rows)) (read ∙ ap image (eq-of-true r k e))
    by k false e = refl

-- a record of an open put is written, whatever of it lands
pub write-undone : (r : ℕ) (change : List ℕ → List ℕ) (rows : List Row) (image booked : ℕ → List ℕ) → covers r (undos rows) ≡ true
    → IsUndone rows image booked → IsUndone rows (λ i. elim (i == r) [ true ↦ change (image i) | false ↦ image i ]) booked
write-undone r change rows image booked covered undone = record {
  locked = undone.locked;
  back = λ k. by k (k == r) refl ∙ undone.back k;
}
  where
    by : (k : ℕ) (here : Bool) → (k == r) ≡ here → undo_at k (undos rows) (elim here [ true ↦ change (image k) | false ↦ image k ]) ≡ undo_at k
        (undos rows) (image k)
    by k true e = covered-same k (undos rows) (change (image k)) (image k) (subst (λ (n : ℕ). covers n (undos rows) ≡ true) (sym (eq-of-true k r e)) covered)
    by k false e = refl

-- a unit ends: its rows go, and the book is the file at its records
pub end-undone : (u : UnitId) (rows : List Row) (image booked after : ℕ → List ℕ) → ((r : ℕ) → has_put u r rows ≡ true → image r ≡ after r)
    → ((r : ℕ) → has_put u r rows ≡ false → booked r ≡ after r) → IsUndone rows image booked → IsUndone (without u rows) image after
end-undone u rows image booked after own others undone = record {
  locked = without-locked u rows undone.locked;
  back = λ r. by r (has_put u r rows) refl;
}
  where
    by : (r : ℕ) (b : Bool) → has_put u r rows ≡ b → undo_at r (undos (without u rows)) (image r) ≡ after r
    by r true e = uncovered-as_is r (undos (without u rows)) (image r) (without-uncovered u r rows (undone.locked u r e)) ∙ own r e
    by r false e = without-unput u r rows (image r) e ∙ undone.back r ∙ others r e

-- one that is undone as far as some rows are left: the first of them is written
pub left-at : (row : Undo) (rows : List Undo) (r : ℕ) (slot book : List ℕ) → undo_at r (row ∷ rows) slot ≡ book
    → undo_at r rows (elim (r == row.rrn) [ true ↦ row.before | false ↦ slot ]) ≡ book
left-at row rows r slot book left = by (row.rrn == r) (r == row.rrn) refl refl left
  where
    by : (a b : Bool) → (row.rrn == r) ≡ a → (r == row.rrn) ≡ b → undo_at r rows (if a then row.before else slot) ≡ book
        → undo_at r rows (elim b [ true ↦ row.before | false ↦ slot ]) ≡ book
    by true true e f same = same
    by true false e f same = absurd (grind (arith, common_steps))
    by false true e f same = absurd (grind (arith, common_steps))
    by false false e f same = same
