-- Units that are shut stay so, in each ledger and job.
use Rattle.std.proofs.Common.{Bool, List, None, Option, Some, arith, false, if◌then◌else◌, refl, sym, true, ◌+◌, ◌≡◌, ◌≤◌, ◌∙◌, ℕ}
use Rattle.std.specs.List.{list_any}
use Rattle.xrf_base.specs.declared.items.Item.{Item}
use Rattle.xrf_base.specs.declared.items.ItemAnswer.{ItemAnswer}
use Rattle.xrf_base.specs.declared.items.ItemAnswer.TheVariants.{Done}
use Rattle.xrf_base.specs.declared.items.UnitId.{UnitId}
use Rattle.xrf_logrec.specs.LogRecords.{same_unit}
use Rattle.xrf_logrec.specs.declared.records.LogRec.{LogRec}
use Rattle.xrf_logrec.specs.declared.records.LogRec.TheVariants.{Backout, Commit, Put}
use Rattle.xrf_file.specs.Ledger.{Ledger, after_begin, after_end, begin_answer, closed, ended, opened, planned}
use Rattle.xrf_file.specs.Rows.{is_hot, unit_named}
use Rattle.xrf_file.specs.declared.rows.OpenUnit.{OpenUnit}
use Rattle.xrf_history.specs.Working.{after_record}
use Rattle.xrf_log_law.specs.ClosedUnits.{IsShut}
use Rattle.xrf_log_law.proofs.ServingSteps.{gone}
use Rattle.xrf_log_law.proofs.LedgerSteps.{found-last, new-differs, open-left}
use Rattle.xrf_log_law.proofs.Tests.{no-clash, or-cases}
use Rattle.xrf_base.specs.declared.items.Item.TheVariants as items

-- a BEGIN opens another unit
shut-opened : (l : Ledger) (name : List ℕ) (unit : UnitId) → IsShut l unit → IsShut (opened l name) unit
shut-opened l name unit is = record {
  begun = omega (arith, is.begun);
  shut = λ here.
      or-cases (list_any (λ (o : OpenUnit). same_unit o.unit unit) l.units) (same_unit (record { inc = l.inc; serial = l.begun + 1 }) unit)
      (sym (found-last unit (record { name = name; unit = record { inc = l.inc; serial = l.begun + 1 } }) l.units) ∙ here)
      is.shut
      (λ e. no-clash (same_unit (record { inc = l.inc; serial = l.begun + 1 }) unit) e (new-differs l.inc (l.begun + 1) l.begun unit is.begun (omega arith)));
}

-- where it is answered Done
shut-begun : (l : Ledger) (name : List ℕ) (answer : ItemAnswer) (unit : UnitId) → IsShut l unit → IsShut (after_begin l name answer) unit
shut-begun l name Done unit is = shut-opened l name unit is
shut-begun l name _ unit is = is

-- the end of a unit opens none
shut-closed : (l : Ledger) (u unit : UnitId) → IsShut l unit → IsShut (closed l u) unit
shut-closed l u unit is = record { begun = is.begun; shut = λ here. is.shut (open-left unit u l.units here).0 }

-- also at once
shut-ended : (l : Ledger) (o : Option UnitId) (unit : UnitId) → IsShut l unit → IsShut (after_end l o) unit
shut-ended l None unit is = is
shut-ended l (Some u) unit is = by (is_hot u l.puts)
  where
    by : (b : Bool) → IsShut (if b then l else closed l u) unit
    by true = is
    by false = shut-closed l u unit is

-- so no item opens it again
pub shut-planned : (l : Ledger) (item : Item) (unit : UnitId) → IsShut l unit → IsShut (planned l item) unit
shut-planned l (items.Begin name) unit is = shut-begun l name (begin_answer l name) unit is
shut-planned l (items.Commit name) unit is = shut-ended l (unit_named name l.units) unit is
shut-planned l (items.Roll name) unit is = shut-ended l (unit_named name l.units) unit is
shut-planned l _ unit is = is

-- and no record does
pub shut-recorded : (rec : LogRec) (l : Ledger) (unit : UnitId) → IsShut l unit → IsShut (after_record rec l) unit
shut-recorded (Put u rrn before) l unit is = record { begun = is.begun; shut = is.shut }
shut-recorded (Commit u) l unit is = record { begun = is.begun; shut = λ here. is.shut (open-left unit u l.units here).0 }
shut-recorded (Backout u) l unit is = record { begun = is.begun; shut = λ here. is.shut (open-left unit u l.units here).0 }

-- a unit that has put nothing is shut by its COMMIT or ROLL at once
pub cold-shut : (l : Ledger) (unit : UnitId) → unit.serial ≤ l.begun → is_hot unit l.puts ≡ false → IsShut (after_end l (Some unit)) unit
cold-shut l unit begun cold = by (is_hot unit l.puts) cold
  where
    by : (b : Bool) → b ≡ false → IsShut (if b then l else closed l unit) unit
    by true e = absurd (cc)
    by false e = record { begun = begun; shut = λ here. gone unit unit l.units refl here }

-- one that has put is shut by its Commit or Backout
pub ended-shut : (l : Ledger) (unit : UnitId) → unit.serial ≤ l.begun → IsShut (ended l unit) unit
ended-shut l unit begun = record { begun = begun; shut = λ here. gone unit unit l.units refl here }
