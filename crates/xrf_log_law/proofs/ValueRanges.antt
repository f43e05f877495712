-- Values, units and incarnations of a log.
use Rattle.std.proofs.Common.{Bool, false, refl, true, ◌≡◌, ◌&&◌, List, arith, length, length-append, nat_le, replicate, ℕ, ◌-◌, ◌≤◌, IfSome, None, Option, Some, [], ◌∷◌, ◌||◌, ap, subst, ◌==◌, not, sym, ◌∙◌}
use Rattle.std.proofs.lemmas.Grind.{common_steps}
use Rattle.std.proofs.lemmas.List.{length-replicate}
use Rattle.std.specs.List.{list_all, list_any}
use Rattle.xrf_base.specs.Values.{IsValue, is_value_byte, slot_of}
use Rattle.xrf_base.specs.Padding.{padded}
use Rattle.xrf_base.specs.declared.items.UnitId.{UnitId}
use Rattle.xrf_logrec.specs.declared.records.LogRec.TheVariants.{Backout, Commit, Put}
use Rattle.xrf_logrec.specs.LogRecords.{IsUnit, same_unit}
use Rattle.xrf_logrec.specs.declared.records.LogRec.{LogRec}
use Rattle.xrf_log.specs.Flight.{flight, has_ended, put_units}
use Rattle.xrf_trace.specs.declared.entry.Entry.{Entry}
use Rattle.xrf_trace.specs.Book.{puts, value_after, value_of_units, book}
use Rattle.xrf_trace.specs.Scenario.{Scen, first_value}
use Rattle.xrf_trace.specs.Log.{committed, log}
use Rattle.xrf_log_law.specs.Ranges.{AreUnits, uses}
use Rattle.xrf_log_law.proofs.LedgerLaws.{has_row, found-filter, units-rows}
use Rattle.xrf_log_law.specs.BeforeImages.{value_by}
use Rattle.xrf_history.proofs.Tests.{or-right}
use Rattle.xrf_log_law.proofs.Tests.{eq-false, eq-of-false, eq-true, or-parts}
use Rattle.xrf_logrec.proofs.LogLaws.{same_unit-true}

-- a slot has 32 bytes
and-true : (a b : Bool) → (a && b) ≡ true → (a ≡ true) × (b ≡ true)
and-true true b e = (refl, e)
and-true false b e = absurd (cc)

-- a value is padded to 24 bytes
value-size : (value : List ℕ) → IsValue value → length (padded 24 value) ≡ 24
value-size value fits =
    let sized : nat_le (length value) 24 ≡ true = (and-true (nat_le 1 (length value)) (nat_le (length value) 24)
    (and-true (nat_le 1 (length value) && nat_le (length value) 24) (list_all is_value_byte value) fits).0).1 in
    let most : length value ≤ 24 = grind (arith, common_steps) in
    omega (arith, length-append value (replicate (24 - length value) 32), length-replicate {A = ℕ} (24 - length value) 32, most)

-- so a slot has 32
pub slot-size : (o : Option (List ℕ)) → IfSome o IsValue → length (slot_of o) ≡ 32
slot-size None fits = refl
slot-size (Some value) fits = omega (arith, value-size value fits)

-- the book has values
units-value : (t : List Entry) (k : ℕ) (units : List UnitId) (before : Option (List ℕ))
    → ((unit : UnitId) (o : Option (List ℕ)) → IfSome o IsValue → IfSome (value_after k (puts t unit) o) IsValue)
    → IfSome before IsValue → IfSome (value_of_units (puts t) k units before) IsValue
units-value t k [] before values fits = fits
units-value t k (unit ∷ units) before values fits = units-value t k units (value_after k (puts t unit) before) values (values unit before fits)

-- the value by the puts of units is the book's
pub value_by-units : (t : List Entry) (r : ℕ) (units : List UnitId) (before : Option (List ℕ))
    → value_by (puts t) r units before ≡ value_of_units (puts t) r units before
value_by-units t r [] before = refl
value_by-units t r (unit ∷ units) before = value_by-units t r units (value_after r (puts t unit) before)

-- so the book has values
pub book-value : (s : Scen) (t : List Entry) (k : ℕ) → ((unit : UnitId) (o : Option (List ℕ)) → IfSome o IsValue
    → IfSome (value_after k (puts t unit) o) IsValue) → IfSome (first_value s k) IsValue → IfSome (book s t k) IsValue
book-value s t k values fits = units-value t k (committed (log t)) (first_value s k) values fits

-- a unit in flight is one of the log
row-unit : (unit : UnitId) (records : List LogRec) → has_row unit records ≡ true → AreUnits records → IsUnit unit × (uses unit.inc records ≡ true)
row-unit unit [] has are = absurd (cc)
row-unit unit (Put u rrn before ∷ records) has are = by (same_unit u unit) refl has (λ e. row-unit unit records e are.0)
  where
    by : (b : Bool) → same_unit u unit ≡ b → (b || has_row unit records) ≡ true
        → (has_row unit records ≡ true → IsUnit unit × (uses unit.inc records ≡ true))
        → IsUnit unit × ((u.inc == unit.inc || uses unit.inc records) ≡ true)
    by true e has rest = (
      subst IsUnit (same_unit-true u unit e) are.1,
      ap (λ (b : Bool). b || uses unit.inc records) (eq-true u.inc unit.inc (ap (λ (w : UnitId). w.inc) (same_unit-true u unit e))),
    )
    by false e has rest = let found = rest has in (found.0, or-right (u.inc == unit.inc) (uses unit.inc records) found.1)
row-unit unit (Commit u ∷ records) has are =
    let found = row-unit unit records has are.0 in (found.0, or-right (u.inc == unit.inc) (uses unit.inc records) found.1)
row-unit unit (Backout u ∷ records) has are =
    let found = row-unit unit records has are.0 in (found.0, or-right (u.inc == unit.inc) (uses unit.inc records) found.1)

-- so is a unit in flight
pub flight-unit : (unit : UnitId) (records : List LogRec) → list_any (λ u. same_unit u unit) (flight records) ≡ true → AreUnits records
    → IsUnit unit × (uses unit.inc records ≡ true)
flight-unit unit records found are =
    row-unit unit records (sym (units-rows unit records) ∙ found-filter (λ u. not (has_ended u records)) unit (put_units records) found) are

-- an incarnation that no record is of has ended no unit
other-inc : (unit u : UnitId) → (u.inc == unit.inc) ≡ false → same_unit unit u ≡ false
other-inc unit u e = ap (λ (b : Bool). b && unit.serial == u.serial) (eq-false unit.inc u.inc (λ same. eq-of-false u.inc unit.inc e (sym same)))

-- an incarnation that no record is of has ended no unit
pub unused-open : (unit : UnitId) (records : List LogRec) → uses unit.inc records ≡ false → has_ended unit records ≡ false
unused-open unit [] none = refl
unused-open unit (Put u rrn before ∷ records) none = unused-open unit records (or-parts (u.inc == unit.inc) (uses unit.inc records) none).1
unused-open unit (Commit u ∷ records) none =
    let parts = or-parts (u.inc == unit.inc) (uses unit.inc records) none in
    ap (λ (b : Bool). b || has_ended unit records) (other-inc unit u parts.0) ∙ unused-open unit records parts.1
unused-open unit (Backout u ∷ records) none =
    let parts = or-parts (u.inc == unit.inc) (uses unit.inc records) none in
    ap (λ (b : Bool). b || has_ended unit records) (other-inc unit u parts.0) ∙ unused-open unit records parts.1
