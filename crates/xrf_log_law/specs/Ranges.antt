-- The ranges of a trace: the units, incarnations and record numbers of its log, and the values that were put.
use Rattle.std.specs.Prelude.{IfSome, List, ◌≡◌, ℕ, ◌≤◌, false, true, Bool, ◌==◌, [], ◌∷◌, Option}
use Rattle.std.specs.List.{list_any}
use Rattle.xrf_base.specs.Values.{IsValue}
use Rattle.xrf_base.specs.declared.site.Site.{Site}
use Rattle.xrf_base.specs.declared.items.UnitId.{UnitId}
use Rattle.xrf_logrec.specs.declared.records.LogRec.{LogRec}
use Rattle.xrf_logrec.specs.declared.records.LogRec.TheVariants.{Backout, Commit, Put}
use Rattle.xrf_logrec.specs.LogRecords.{unit_of, IsUnit}
use Rattle.xrf_history.specs.Events.{Event}
use Rattle.xrf_history.specs.Holding.{is_granted, number, is_restarted}
use Rattle.xrf_trace.specs.Scenario.{Scen}
use Rattle.xrf_trace.specs.declared.entry.Entry.{Entry}
use Rattle.xrf_trace.specs.Devices.{control}
use Rattle.xrf_trace.specs.Jobs.{hist}
use Rattle.xrf_trace.specs.Log.{log}
use Rattle.xrf_trace.specs.Book.{puts, value_after}

-- a record of the log is of this incarnation
abbrev pub uses : ℕ → List LogRec → Bool
uses n log = list_any (λ rec. (unit_of rec).inc == n) log

-- the units of a log are units
abbrev pub AreUnits : List LogRec → Type 0
AreUnits [] = Unit {0}
AreUnits (rec ∷ log) = AreUnits log × IsUnit (unit_of rec)

-- the Puts of a log are of records of the file
abbrev pub IsOfFile : ℕ → LogRec → Type 0
IsOfFile file (Put unit rrn before) = (1 ≤ rrn) × (rrn ≤ file)
IsOfFile file (Commit unit) = Unit {0}
IsOfFile file (Backout unit) = Unit {0}

-- so are those of a log
abbrev pub AreOfFile : ℕ → List LogRec → Type 0
AreOfFile file [] = Unit {0}
AreOfFile file (rec ∷ log) = AreOfFile file log × IsOfFile file rec

-- a number that is granted and not restarted is of no record
abbrev pub IsFresh : List LogRec → List Event → Type 0
IsFresh log h = is_granted h ≡ true → is_restarted h ≡ false → uses (number h) log ≡ false

-- the ranges of a trace
pub record InRanges (s : Scen) (t : List Entry) : Type 0 where
  pub units : AreUnits (log t)
  pub file : AreOfFile s.settings.file (log t)
  pub below : (n : ℕ) → uses n (log t) ≡ true → n ≤ (control t).last
  pub fresh : (x : Site) → IfSome (hist s t x) (IsFresh (log t))
  pub values : (unit : UnitId) (r : ℕ) (before : Option (List ℕ)) → IfSome before IsValue → IfSome (value_after r (puts t unit) before) IsValue
