-- What a log tells of the end of a unit.
use Rattle.std.proofs.Common.{List, refl, ◌≡◌, [], ◌∷◌, ◌++◌, Bool, false, true, if◌then◌else◌, ◌∙◌, ◌||◌, map, not, ℕ, ◌==◌, ◌&&◌}
use Rattle.std.specs.List.{list_any}
use Rattle.xrf_base.specs.declared.items.UnitId.{UnitId}
use Rattle.xrf_logrec.specs.declared.records.LogRec.TheVariants.{Backout, Commit, Put}
use Rattle.xrf_logrec.specs.declared.records.LogRec.{LogRec}
use Rattle.xrf_logrec.specs.LogRecords.{same_unit}
use Rattle.xrf_log.specs.Flight.{has_ended}
use Rattle.xrf_log.specs.declared.taken.Row.{Row}
use Rattle.xrf_trace.specs.Log.{committed, is_committed}
use Rattle.xrf_trace.proofs.PromiseLaws.{same_unit-refl}
use Rattle.xrf_log_law.specs.BeforeImages.{covers, has_put, other_has_put}
use Rattle.xrf_history.proofs.Tests.{or-right}
use Rattle.xrf_log_law.proofs.Tests.{or-none, or-parts}

-- a unit that has not ended is not committed
pub any-last : (unit u : UnitId) (units : List UnitId) → list_any (same_unit unit) (units ++ u ∷ []) ≡ (list_any (same_unit unit) units || same_unit unit u)
any-last unit u [] = or-none (same_unit unit u)
  where
    or-none : (b : Bool) → (b || false) ≡ b
    or-none true = refl
    or-none false = refl
any-last unit u (w ∷ units) = by (same_unit unit w) (any-last unit u units)
  where
    by : (b : Bool) → list_any (same_unit unit) (units ++ u ∷ []) ≡ (list_any (same_unit unit) units || same_unit unit u)
        → (b || list_any (same_unit unit) (units ++ u ∷ [])) ≡ ((b || list_any (same_unit unit) units) || same_unit unit u)
    by true rest = refl
    by false rest = rest

-- a unit that has not ended is not committed
pub open-uncommitted : (unit : UnitId) (records : List LogRec) → has_ended unit records ≡ false → is_committed records unit ≡ false
open-uncommitted unit [] e = refl
open-uncommitted unit (Put u rrn before ∷ records) e = open-uncommitted unit records e
open-uncommitted unit (Backout u ∷ records) e = open-uncommitted unit records (or-parts (same_unit unit u) (has_ended unit records) e).1
open-uncommitted unit (Commit u ∷ records) e =
    let parts = or-parts (same_unit unit u) (has_ended unit records) e in
    by (list_any (same_unit u) (committed records)) parts.0 (open-uncommitted unit records parts.1)
  where
    by : (b : Bool) → same_unit unit u ≡ false → is_committed records unit ≡ false
        → list_any (same_unit unit) (if b then committed records else committed records ++ u ∷ []) ≡ false
    by true differ rest = rest
    by false differ rest = any-last unit u (committed records) ∙ or-none (list_any (same_unit unit) (committed records)) (same_unit unit u) rest differ

-- a Commit commits its unit
pub commit-commits : (unit : UnitId) (records : List LogRec) → is_committed (Commit unit ∷ records) unit ≡ true
commit-commits unit records = by (list_any (same_unit unit) (committed records)) refl
  where
    by : (b : Bool) → list_any (same_unit unit) (committed records) ≡ b
        → list_any (same_unit unit) (if b then committed records else committed records ++ unit ∷ []) ≡ true
    by true e = e
    by false e = any-last unit unit (committed records) ∙ or-right (list_any (same_unit unit) (committed records)) (same_unit unit unit) (same_unit-refl unit)

-- rows of no unit cover nothing
pub none-covers : (unit : UnitId) (r : ℕ) (rows : List Row) → has_put unit r rows ≡ false → other_has_put unit r rows ≡ false
    → covers r (map (λ row. row.undo) rows) ≡ false
none-covers unit r [] own theirs = refl
none-covers unit r (row ∷ rows) own theirs = by (row.undo.rrn == r) (same_unit row.unit unit) (λ a b. none-covers unit r rows a b) own theirs
  where
    by : (here is : Bool) → (has_put unit r rows ≡ false → other_has_put unit r rows ≡ false → covers r (map (λ row. row.undo) rows) ≡ false)
        → ((here && is) || has_put unit r rows) ≡ false → ((here && not is) || other_has_put unit r rows) ≡ false
        → (here || covers r (map (λ row. row.undo) rows)) ≡ false
    by true true rest own theirs = absurd (cc)
    by true false rest own theirs = absurd (cc)
    by false is rest own theirs = rest own theirs
