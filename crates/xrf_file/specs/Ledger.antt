-- What a job knows of its units: a ledger, how each step changes it, and what it answers an item.
use Rattle.std.specs.Prelude.{◌≡◌, ℕ, ◌+◌, ◌-◌, min, Bool, ◌==◌, ◌||◌, nat_lt, nat_le, if◌then◌else◌, List, [], ◌∷◌, ◌++◌, length, Option, Some, None, is_some}
use Rattle.xrf_base.specs.declared.items.UnitId.{UnitId}
use Rattle.xrf_base.specs.declared.items.Item.{Item}
use Rattle.xrf_base.specs.declared.items.Item.TheVariants as items
use Rattle.xrf_base.specs.declared.items.ItemAnswer.{ItemAnswer}
use Rattle.xrf_base.specs.declared.items.ItemAnswer.TheVariants.{Done, NotOpen, NameUsed, UnitsFull, BadRrn, Locked, LogFull}
use Rattle.xrf_logrec.specs.declared.records.Undo.{Undo}
use Rattle.xrf_file.specs.declared.answers.Plan.{Plan}
use Rattle.xrf_file.specs.declared.answers.Plan.TheVariants as plans
use Rattle.xrf_file.specs.declared.rows.OpenUnit.{OpenUnit}
use Rattle.xrf_file.specs.declared.rows.LoggedPut.{LoggedPut}
use Rattle.xrf_file.specs.Rows.{unit_named, is_hot, is_locked, hot_with, without_unit, without_puts, undo_of}

pub record Ledger : Type 0 where
  -- LOG, and FILE
  pub slots : ℕ
  pub records : ℕ
  -- the job's incarnation, and how many units it has opened
  pub inc : ℕ
  pub begun : ℕ
  -- the number of the next log record, and of the first that is still needed
  pub next : ℕ
  pub start : ℕ
  -- the open units, in the order of their BEGIN
  pub units : List OpenUnit
  -- their puts in the log, the newest first
  pub puts : List LoggedPut

-- The table of item answers. A BEGIN is answered:
abbrev pub begin_answer : Ledger → List ℕ → ItemAnswer
begin_answer l name = if is_some (unit_named name l.units) then NameUsed else if nat_le 8 (length l.units) then UnitsFull else Done

-- a record number is 0 or above FILE
abbrev pub is_bad_rrn : Ledger → ℕ → Bool
is_bad_rrn l rrn = rrn == 0 || nat_lt l.records rrn

-- the log has no room for one more record beside the ends of the hot units, counting this one
abbrev pub is_log_full : Ledger → UnitId → Bool
is_log_full l unit = nat_lt l.slots (l.next - l.start + hot_with unit l.units l.puts + 1)

-- a PUT of the unit of the name given, if one is open
abbrev pub put_plan : Ledger → Option UnitId → ℕ → List ℕ → Plan
put_plan l None rrn value = plans.Answer NotOpen
put_plan l (Some unit) rrn value = if is_bad_rrn l rrn then plans.Answer BadRrn else if is_locked unit rrn l.puts then plans.Answer Locked else if is_log_full l unit then plans.Answer LogFull else plans.Put unit rrn value l.next

-- a GET
abbrev pub get_plan : Ledger → Option UnitId → ℕ → Plan
get_plan l None rrn = plans.Answer NotOpen
get_plan l (Some unit) rrn = if is_bad_rrn l rrn then plans.Answer BadRrn else if is_locked unit rrn l.puts then plans.Answer Locked else plans.Get rrn

-- a COMMIT, and a ROLL: a unit that is not hot has no record of its end
abbrev pub commit_plan : Ledger → Option UnitId → Plan
commit_plan l None = plans.Answer NotOpen
commit_plan l (Some unit) = if is_hot unit l.puts then plans.Commit unit l.next else plans.Answer Done

abbrev pub roll_plan : Ledger → Option UnitId → Plan
roll_plan l None = plans.Answer NotOpen
roll_plan l (Some unit) = if is_hot unit l.puts then plans.Roll unit l.next else plans.Answer Done

-- the items on units
abbrev pub IsUnitItem : Item → Type 0
IsUnitItem (items.Begin name) = Unit {0}
IsUnitItem (items.Put name rrn value) = Unit {0}
IsUnitItem (items.Get name rrn) = Unit {0}
IsUnitItem (items.Commit name) = Unit {0}
IsUnitItem (items.Roll name) = Unit {0}
IsUnitItem _ = ⊥

-- what a job does for an item on a unit
abbrev pub plan_of : Ledger → Item → Plan
plan_of l (items.Begin name) = plans.Answer (begin_answer l name)
plan_of l (items.Put name rrn value) = put_plan l (unit_named name l.units) rrn value
plan_of l (items.Get name rrn) = get_plan l (unit_named name l.units) rrn
plan_of l (items.Commit name) = commit_plan l (unit_named name l.units)
plan_of l (items.Roll name) = roll_plan l (unit_named name l.units)
plan_of l _ = plans.Answer Done

-- The steps. A BEGIN that is answered Done opens a unit, whose serial is its place among those that
-- the job opened.
abbrev pub opened : Ledger → List ℕ → Ledger
opened l name = record l { begun = l.begun + 1; units = l.units ++ record { name = name; unit = record { inc = l.inc; serial = l.begun + 1 } } ∷ [] }

abbrev pub after_begin : Ledger → List ℕ → ItemAnswer → Ledger
after_begin l name Done = opened l name
after_begin l name _ = l

-- a unit that is no more open
abbrev pub closed : Ledger → UnitId → Ledger
closed l unit = record l { units = without_unit unit l.units }

-- a COMMIT or a ROLL of a unit that is not hot closes it
abbrev pub after_end : Ledger → Option UnitId → Ledger
after_end l None = l
after_end l (Some unit) = if is_hot unit l.puts then l else closed l unit

-- an item was planned
abbrev pub planned : Ledger → Item → Ledger
planned l (items.Begin name) = after_begin l name (begin_answer l name)
planned l (items.Commit name) = after_end l (unit_named name l.units)
planned l (items.Roll name) = after_end l (unit_named name l.units)
planned l _ = l

-- a put of a unit is in the log
abbrev pub logged : Ledger → UnitId → ℕ → List ℕ → Ledger
logged l unit rrn before = record l { next = l.next + 1; puts = record { unit = unit; number = l.next; undo = record { rrn = rrn; before = before } } ∷ l.puts }

-- the end of a unit is in the log
abbrev pub ended : Ledger → UnitId → Ledger
ended l unit = record l { next = l.next + 1; units = without_unit unit l.units; puts = without_puts unit l.puts }

-- a keypoint is in force, so that no record below its start is needed
abbrev pub keyed : Ledger → ℕ → Ledger
keyed l start = record l { start = start }

-- a job begins, with no unit
abbrev pub started : Ledger → ℕ → ℕ → ℕ → Ledger
started l inc next start = record { slots = l.slots; records = l.records; inc = inc; begun = 0; next = next; start = start; units = []; puts = [] }

abbrev pub fresh : ℕ → ℕ → Ledger
fresh slots records = record { slots = slots; records = records; inc = 0; begun = 0; next = 0; start = 0; units = []; puts = [] }

-- the least number of a put, and n where there is none
abbrev pub least_number : ℕ → List LoggedPut → ℕ
least_number n [] = n
least_number n (put ∷ puts) = min put.number (least_number n puts)

-- the least number of a put of an open unit, and next where there is none
abbrev pub oldest : Ledger → ℕ
oldest l = least_number l.next l.puts

-- the undo rows of a unit, the newest first
abbrev pub undo_rows : UnitId → Ledger → List Undo
undo_rows unit l = undo_of unit l.puts

-- this is what the job does for an item
abbrev pub IsPlanned : Ledger → Plan → Type 0
IsPlanned l plan = (item : Item) × (plan_of l item ≡ plan)

-- A plan to log something waits: it is what the job does for an item still, and its record gets the
-- number next.
abbrev pub IsPending : Ledger → Plan → Type 0
IsPending l (plans.Answer answer) = Unit {0}
IsPending l (plans.Put unit rrn value place) = (place ≡ l.next) × IsPlanned l (plans.Put unit rrn value place)
IsPending l (plans.Get rrn) = Unit {0}
IsPending l (plans.Commit unit place) = (place ≡ l.next) × IsPlanned l (plans.Commit unit place)
IsPending l (plans.Roll unit place) = (place ≡ l.next) × IsPlanned l (plans.Roll unit place)
