-- The newest unit that has ended, with a record more.
use Rattle.std.proofs.Common.{◌≡◌, ℕ, ◌≤◌, ◌<◌, Bool, true, false, ◌||◌, List, ◌∷◌, reverse, refl, sym, ◌∙◌, subst, arith}
use Rattle.std.specs.List.{list_any}
use Rattle.xrf_base.specs.declared.items.UnitId.{UnitId}
use Rattle.xrf_logrec.specs.declared.records.LogRec.{LogRec}
use Rattle.xrf_logrec.specs.declared.records.LogRec.TheVariants.{Put, Commit, Backout}
use Rattle.xrf_logrec.specs.LogRecords.{same_unit}
use Rattle.xrf_logrec.proofs.Lists.{list_any-reverse}
use Rattle.xrf_logrec.proofs.LogLaws.{same_unit-true}
use Rattle.xrf_log.specs.Flight.{ends, has_ended}
use Rattle.xrf_log.specs.Kept.{order_of, IsNewest}

-- it is one unit, or one of those that ended before
either : (newest later : ℕ) (ended unit : UnitId) (log : List LogRec) → IsNewest newest log → newest ≤ later → order_of ended ≤ later
    → (b : Bool) → same_unit unit ended ≡ b → (b || has_ended unit log) ≡ true → order_of unit ≤ later
either newest later ended unit log known over above true same has = subst (λ u. order_of u ≤ later) (sym (same_unit-true unit ended same)) above
either newest later ended unit log known over above false same has = omega (arith, known.most unit has, over)

pub newest_put : (newest : ℕ) (unit : UnitId) (rrn : ℕ) (before : List ℕ) (log : List LogRec) → IsNewest newest log → IsNewest newest (Put unit rrn before ∷ log)
newest_put newest unit rrn before log known = record { most = known.most }

pub newest_commit : (newest later : ℕ) (ended : UnitId) (log : List LogRec) → IsNewest newest log → (newest ≤ later) × (order_of ended ≤ later)
    → IsNewest later (Commit ended ∷ log)
newest_commit newest later ended log known over = record { most = λ unit has. either newest later ended unit log known over.0 over.1 (same_unit unit ended) refl has }

pub newest_backout : (newest later : ℕ) (ended : UnitId) (log : List LogRec) → IsNewest newest log → (newest ≤ later) × (order_of ended ≤ later)
    → IsNewest later (Backout ended ∷ log)
newest_backout newest later ended log known over = record { most = λ unit has. either newest later ended unit log known over.0 over.1 (same_unit unit ended) refl has }

-- one that is later than all that have ended has not
pub later-open : (newest : ℕ) (unit : UnitId) (records : List LogRec) → IsNewest newest (reverse records) → newest < order_of unit → list_any (ends unit) records ≡ false
later-open newest unit records known after = by (list_any (ends unit) records) refl
  where
    by : (b : Bool) → list_any (ends unit) records ≡ b → list_any (ends unit) records ≡ false
    by false is = is
    by true is = absurd (omega (arith, known.most unit (list_any-reverse (ends unit) records ∙ is), after))
