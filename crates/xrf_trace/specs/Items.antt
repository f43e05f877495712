-- The units of a site, and what its items are answered, as the trace has them.
use Rattle.std.specs.Prelude.{ℕ, ◌==◌, Bool, true, false, ◌&&◌, List, [], ◌∷◌, length, filter, Option, Some, None}
use Rattle.std.specs.List.{list_any}
use Rattle.std.specs.Option.{option_map_or}
use Rattle.xrf_base.specs.declared.site.Site.{Site}
use Rattle.xrf_base.specs.declared.items.UnitId.{UnitId}
use Rattle.xrf_base.specs.declared.items.Item.{Item}
use Rattle.xrf_base.specs.declared.items.Item.TheVariants as items
use Rattle.xrf_base.specs.declared.items.ItemAnswer.{ItemAnswer}
use Rattle.xrf_base.specs.declared.items.ItemAnswer.TheVariants.{Done}
use Rattle.xrf_logrec.specs.declared.records.LogRec.{LogRec}
use Rattle.xrf_logrec.specs.declared.records.LogRec.TheVariants.{Put, Commit, Backout}
use Rattle.xrf_logrec.specs.LogRecords.{same_unit}
use Rattle.xrf_file.specs.declared.rows.OpenUnit.{OpenUnit}
use Rattle.xrf_file.specs.declared.rows.LoggedPut.{LoggedPut}
use Rattle.xrf_file.specs.declared.answers.Plan.{Plan}
use Rattle.xrf_file.specs.declared.answers.Plan.TheVariants as plans
use Rattle.xrf_file.specs.Rows.{without_unit}
use Rattle.xrf_file.specs.Ledger.{Ledger, planned, plan_of}
use Rattle.xrf_history.specs.Events.{Event}
use Rattle.xrf_history.specs.Holding.{number, is_restarted}
use Rattle.xrf_history.specs.Reserving.{or_else}
use Rattle.xrf_history.specs.Terminals.{terminal_answer, table}
use Rattle.xrf_history.specs.Working.{answer_of_plan, answer_of_read, answer_of_record}
use Rattle.xrf_trace.specs.declared.entry.Entry.{Entry}
use Rattle.xrf_trace.specs.declared.entry.Act.{Act}
use Rattle.xrf_trace.specs.declared.entry.Act.TheVariants as act
use Rattle.xrf_trace.specs.declared.entry.Land.{Land}
use Rattle.xrf_trace.specs.declared.entry.Land.TheVariants as land
use Rattle.xrf_trace.specs.Scenario.{Scen, settings, item_at}
use Rattle.xrf_trace.specs.Landing.{is_in_full}
use Rattle.xrf_trace.specs.Words.{is_of, items_taken}
use Rattle.xrf_trace.specs.Devices.{image}
use Rattle.xrf_trace.specs.Jobs.{hist}
use Rattle.xrf_trace.specs.Log.{log, start}

-- The Puts of a log, the newest first, each with its number: as many records stand before it.
abbrev pub numbered : List LogRec → List LoggedPut
numbered [] = []
numbered (Put unit rrn before ∷ records) = record { unit = unit; number = length records; undo = record { rrn = rrn; before = before } } ∷ numbered records
numbered (Commit unit ∷ records) = numbered records
numbered (Backout unit ∷ records) = numbered records

-- the units of a job: how many it opened, and those that are open, in the order of their BEGIN
pub record Opened : Type 0 where
  pub begun : ℕ
  pub units : List OpenUnit

abbrev pub nothing_open : Opened
nothing_open = record { begun = 0; units = [] }

abbrev pub is_open_unit : List OpenUnit → LoggedPut → Bool
is_open_unit units put = list_any (λ (u : OpenUnit). same_unit u.unit put.unit) units

abbrev pub number_of_job : Option (List Event) → ℕ
number_of_job job = option_map_or number job 0

-- What the table of item answers goes by, right before an ITEM: the length of the log and its start, the open
-- units, and the Puts that the log has of them.
abbrev pub ledger_by : Scen → List Entry → Site → Opened → Ledger
ledger_by s t x o = record {
  slots = s.settings.log;
  records = s.settings.file;
  inc = number_of_job (hist s t x);
  begun = o.begun;
  next = length (log t);
  start = start t;
  units = o.units;
  puts = filter (is_open_unit o.units) (numbered (log t));
}

-- The k-th BEGIN of a job that is answered Done opens its unit of serial k. A unit is open until its COMMIT or
-- ROLL is answered Done, or its job is gone.
abbrev pub opened_by_item : Scen → List Entry → Site → Opened → Option Item → Opened
opened_by_item s t x o None = o
opened_by_item s t x o (Some item) = record { begun = (planned (ledger_by s t x o) item).begun; units = (planned (ledger_by s t x o) item).units }

abbrev pub without : UnitId → Opened → Opened
without unit o = record { begun = o.begun; units = without_unit unit o.units }

abbrev pub opened_by_record : LogRec → Opened → Opened
opened_by_record (Put unit rrn before) o = o
opened_by_record (Commit unit) o = without unit o
opened_by_record (Backout unit) o = without unit o

abbrev pub opened_by : Scen → List Entry → Site → Act → Opened → Opened
opened_by s t x act.StartActive o = nothing_open
opened_by s t x act.StartStandby o = nothing_open
opened_by s t x (act.Ended reason) o = nothing_open
opened_by s t x (act.Item k) o = opened_by_item s t x o (item_at s x k)
opened_by s t x (act.LogOpen p rec) o = opened_by_record rec o
opened_by s t x _ o = o

abbrev pub opened_after : Scen → List Entry → Site → Act → Land → Opened → Opened
opened_after s t x a land.Full o = opened_by s t x a o
opened_after s t x a land.Lost o = o
opened_after s t x a (land.Stop landing) o = nothing_open
opened_after s t x a (land.Fail landing) o = o

abbrev pub opened : Scen → List Entry → Site → Opened
opened s [] x = nothing_open
opened s (e ∷ t) x = elim (is_of e.who x) [ true ↦ opened_after s t x e.act e.land (opened s t x) | false ↦ opened s t x ]

-- what that table goes by at a site, by the trace before the ITEM
abbrev pub ledger_at : Scen → List Entry → Site → Ledger
ledger_at s t x = ledger_by s t x (opened s t x)

-- what an item makes its job do, if it is taken next; without an item it is never asked
abbrev pub plan_at : Scen → List Entry → Site → Option Item → Plan
plan_at s t x None = plans.Answer Done
plan_at s t x (Some item) = plan_of (ledger_at s t x) item

-- and what the item taken last made it do; before the first it is never asked
abbrev pub plan_after : Scen → List Entry → Site → Act → Plan → Plan
plan_after s t x (act.Item k) before = plan_at s t x (item_at s x k)
plan_after s t x _ before = before

abbrev pub last_plan : Scen → List Entry → Site → Plan
last_plan s [] x = plans.Answer Done
last_plan s (e ∷ t) x = elim (is_of e.who x) [ true ↦ plan_after s t x e.act (last_plan s t x) | false ↦ last_plan s t x ]

-- the answer at ITEM, where the item is answered there: by the table of item answers, and of a terminal by the
-- terminal table right before it
abbrev pub answer_of_terminals : Scen → Site → Item → Option (List Event) → Option ItemAnswer
answer_of_terminals s x item None = None
answer_of_terminals s x item (Some h) = Some (terminal_answer item (table (settings s x) h)).answer

abbrev pub is_unit_item : Item → Bool
is_unit_item (items.Begin name) = true
is_unit_item (items.Put name rrn value) = true
is_unit_item (items.Get name rrn) = true
is_unit_item (items.Commit name) = true
is_unit_item (items.Roll name) = true
is_unit_item _ = false

abbrev pub answer_at_item : Scen → List Entry → Site → Option Item → Option ItemAnswer
answer_at_item s t x None = None
answer_at_item s t x (Some item) =
    elim (is_unit_item item) [
      | true ↦ answer_of_plan (plan_at s t x (Some item))
      | false ↦ answer_of_terminals s x item (hist s t x)
    ]

-- the end of a unit answers its COMMIT or ROLL; in a restart no item is at hand
abbrev pub is_working : Option (List Event) → Bool
is_working job = option_map_or is_restarted job false

abbrev pub answer_of_end : Bool → LogRec → Option ItemAnswer
answer_of_end true rec = answer_of_record rec
answer_of_end false rec = None

-- What an act that is made in full answers the item taken last: a GET is answered by the slot that its FILEREAD
-- was handed.
abbrev pub answer_by : Scen → List Entry → Site → Act → Option ItemAnswer
answer_by s t x (act.Item k) = answer_at_item s t x (item_at s x k)
answer_by s t x (act.FileRead k) = answer_of_read (last_plan s t x) (image s t k)
answer_by s t x (act.FileWrite unit k value) = Some Done
answer_by s t x (act.LogOpen p rec) = answer_of_end (is_working (hist s t x)) rec
answer_by s t x _ = None

-- The answer of the item of a number from 1 of a site, and none while it is not answered. An item is answered
-- at its last act, where that act is neither stopped nor failed.
abbrev pub answer : Scen → List Entry → Site → ℕ → Option ItemAnswer
answer s [] x k = None
answer s (e ∷ t) x k =
    elim (is_of e.who x && is_in_full e.land && items_taken (e ∷ t) x == k) [
      | true ↦ or_else (answer_by s t x e.act) (answer s t x k)
      | false ↦ answer s t x k
    ]
