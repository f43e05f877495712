-- A job at work: its ledger against the log, and the last values of its units.
use Rattle.std.specs.Prelude.{List, filter, not, true, ◌≡◌, false, length, ℕ, ◌≤◌, ◌<◌, Bool, Option, ◌==◌, ◌&&◌, None, Some}
use Rattle.std.specs.List.{list_any}
use Rattle.xrf_base.specs.declared.items.UnitId.{UnitId}
use Rattle.xrf_base.specs.Values.{slot_of}
use Rattle.xrf_logrec.specs.declared.records.LogRec.{LogRec}
use Rattle.xrf_logrec.specs.LogRecords.{same_unit}
use Rattle.xrf_log.specs.Flight.{has_ended, open_puts}
use Rattle.xrf_file.specs.declared.rows.LoggedPut.{LoggedPut}
use Rattle.xrf_file.specs.declared.rows.OpenUnit.{OpenUnit}
use Rattle.xrf_file.specs.Ledger.{Ledger}
use Rattle.xrf_file.specs.Rows.{is_hot}
use Rattle.xrf_file.specs.declared.answers.Plan.{Plan}
use Rattle.xrf_history.specs.declared.want.Want.{Want}
use Rattle.xrf_history.specs.Events.{Event}
use Rattle.xrf_history.specs.declared.settings.Settings.{Settings}
use Rattle.xrf_history.specs.Next.{inside}
use Rattle.xrf_history.specs.Restarting.{last_keypoint}
use Rattle.xrf_history.specs.Working.{last_plan, ledger}
use Rattle.xrf_trace.specs.Items.{numbered}
use Rattle.xrf_trace.specs.Book.{value_after}
use Rattle.xrf_log_law.specs.State.{View, value_at}
use Rattle.xrf_log_law.specs.BeforeImages.{has_put}
use Rattle.xrf_file.specs.declared.answers.Plan.TheVariants as plans
use Rattle.xrf_history.specs.declared.want.Want.TheVariants as want

-- the open puts of a log with their numbers, the newest first
abbrev pub open_numbered : List LogRec → List LoggedPut
open_numbered log = filter (λ put. not (has_ended put.unit log)) (numbered log)

-- a unit is open
abbrev pub IsOpenUnit : UnitId → List OpenUnit → Type 0
IsOpenUnit unit units = list_any (λ o. same_unit o.unit unit) units ≡ true

-- the ledger against the log
pub record Ledgers (size : ℕ) (log : List LogRec) (start : ℕ) (l : Ledger) : Type 0 where
  pub slots : l.slots ≡ size
  pub next : l.next ≡ length log
  pub begins : l.start ≡ start
  pub puts : l.puts ≡ open_numbered log
  pub named : (unit : UnitId) → is_hot unit l.puts ≡ true → IsOpenUnit unit l.units
  pub unended : (unit : UnitId) → IsOpenUnit unit l.units → has_ended unit log ≡ false
  pub new : (serial : ℕ) → l.begun < serial → has_ended (record { inc = l.inc; serial = serial }) log ≡ false
  pub small : (unit : UnitId) → IsOpenUnit unit l.units → unit.serial ≤ l.begun

-- the last values: each record that an open unit put holds its last value, but at those of a test
abbrev pub LastBut : (UnitId → ℕ → Bool) → (ℕ → Option (List ℕ)) → View → Type 0
LastBut but first v =
    (unit : UnitId) (r : ℕ) → has_put unit r (open_puts v.log) ≡ true → but unit r ≡ false
    → v.image r ≡ slot_of (value_after r (v.puts unit) (value_at first v r))

-- all the last values
abbrev pub Last : (ℕ → Option (List ℕ)) → View → Type 0
Last first v = LastBut (λ unit r. false) first v

-- what of the last values holds where an act is the next one
abbrev pub RollLast : (ℕ → Option (List ℕ)) → View → Plan → Type 0
RollLast first v (plans.Roll unit place) = LastBut (λ u r. same_unit unit u) first v
RollLast first v _ = Last first v

-- where an act is next
abbrev pub LastAt : (ℕ → Option (List ℕ)) → View → Plan → Want → Type 0
LastAt first v plan (want.LogLook place) = RollLast first v plan
LastAt first v plan (want.LogClose place) = RollLast first v plan
LastAt first v plan (want.LogBody place rec) = RollLast first v plan
LastAt first v plan (want.LogOpen place rec) = RollLast first v plan
LastAt first v plan (want.Undo rrn own) = RollLast first v plan
LastAt first v plan (want.FileWrite unit rrn value) = LastBut (λ u r. same_unit unit u && rrn == r) first v
LastAt first v plan _ = Last first v

-- inside a sequence
abbrev pub LastIn : (ℕ → Option (List ℕ)) → View → Plan → Option Want → Type 0
LastIn first v plan None = Last first v
LastIn first v plan (Some w) = LastAt first v plan w

-- the unit of a plan that is carried out is open
abbrev pub PlanNamed : List OpenUnit → Plan → Type 0
PlanNamed units (plans.Put unit rrn value place) = IsOpenUnit unit units
PlanNamed units (plans.Commit unit place) = IsOpenUnit unit units
PlanNamed units (plans.Roll unit place) = IsOpenUnit unit units
PlanNamed units _ = Unit {0}

-- where an act is next
abbrev pub NamedAt : List OpenUnit → Plan → Want → Type 0
NamedAt units plan (want.LogLook place) = PlanNamed units plan
NamedAt units plan (want.LogClose place) = PlanNamed units plan
NamedAt units plan (want.LogBody place rec) = PlanNamed units plan
NamedAt units plan (want.LogOpen place rec) = PlanNamed units plan
NamedAt units plan (want.Undo rrn own) = PlanNamed units plan
NamedAt units plan (want.FileRead rrn) = PlanNamed units plan
NamedAt units plan _ = Unit {0}

-- inside a sequence
abbrev pub NamedIn : List OpenUnit → Plan → Option Want → Type 0
NamedIn units plan None = Unit {0}
NamedIn units plan (Some w) = NamedAt units plan w

-- a job at work
abbrev pub Working : (size : ℕ) → (ℕ → Option (List ℕ)) → View → Settings → List Event → Type 0
Working size first v p h =
    Ledgers size v.log v.start (ledger p h)
    × (last_keypoint p h ≡ record { number = v.number; start = v.start })
    × LastIn first v (last_plan p h) (inside p h)
    × NamedIn (ledger p h).units (last_plan p h) (inside p h)
