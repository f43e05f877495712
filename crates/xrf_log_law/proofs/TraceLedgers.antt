-- The ledger of a job is that of the trace.
use Rattle.std.proofs.Common.{Bool, false, refl, true, ◌≡◌, List, ℕ, None, Option, Some, if◌then◌else◌, [], ◌∷◌, ◌∙◌, ap, filter, not, sym}
use Rattle.xrf_base.specs.declared.items.ItemAnswer.TheVariants.{Done}
use Rattle.xrf_base.specs.declared.items.ItemAnswer.{ItemAnswer}
use Rattle.xrf_base.specs.declared.items.UnitId.{UnitId}
use Rattle.xrf_base.specs.declared.items.Item.{Item}
use Rattle.xrf_base.specs.declared.site.Site.{Site}
use Rattle.xrf_logrec.specs.declared.records.LogRec.TheVariants.{Backout, Commit, Put}
use Rattle.xrf_logrec.specs.declared.records.LogRec.{LogRec}
use Rattle.xrf_logrec.specs.LogRecords.{same_unit}
use Rattle.xrf_log.specs.Flight.{has_ended}
use Rattle.xrf_file.specs.Ledger.{Ledger, after_begin, after_end, closed, begin_answer, planned}
use Rattle.xrf_file.specs.declared.rows.OpenUnit.{OpenUnit}
use Rattle.xrf_file.specs.Rows.{is_hot, without_unit, unit_named}
use Rattle.xrf_file.specs.declared.rows.LoggedPut.{LoggedPut}
use Rattle.xrf_history.specs.Working.{after_record, ledger}
use Rattle.xrf_history.specs.Events.{Event, Given, LogOpened, KeyOpened, ActFailed, RestartDeclared}
use Rattle.xrf_history.specs.declared.settings.Settings.{Settings}
use Rattle.xrf_history.specs.Holding.{number}
use Rattle.xrf_trace.specs.Items.{is_open_unit, Opened, ledger_by, number_of_job, numbered}
use Rattle.xrf_trace.specs.Log.{start, log}
use Rattle.xrf_trace.specs.declared.entry.Entry.{Entry}
use Rattle.xrf_trace.specs.Scenario.{Scen, settings}
use Rattle.xrf_trace.specs.Jobs.{hist}
use Rattle.xrf_trace.proofs.PromiseLaws.{same_unit-refl}
use Rattle.xrf_log_law.specs.AtWork.{IsOpenUnit, Ledgers}
use Rattle.xrf_log_law.specs.Serving.{opened_of}
use Rattle.xrf_history.proofs.Tests.{or-left, or-right}
use Rattle.xrf_log_law.proofs.Tests.{no-clash, not-of-false}
use Rattle.xrf_base.specs.declared.items.Item.TheVariants as items
use Rattle.xrf_history.specs.declared.want.Want.TheVariants as want

-- what stays of a ledger
keeps-begin : {T : Type 0} (f : Ledger → T) (l : Ledger) (name : List ℕ)
    → ((begun : ℕ) (units : List OpenUnit) → f (record l { begun = begun; units = units }) ≡ f l) → (answer : ItemAnswer)
    → f (after_begin l name answer) ≡ f l
keeps-begin f l name keeps Done = keeps _ _
keeps-begin f l name keeps _ = refl

-- the end of a unit
keeps-end : {T : Type 0} (f : Ledger → T) (l : Ledger) → ((begun : ℕ) (units : List OpenUnit) → f (record l { begun = begun; units = units }) ≡ f l)
    → (o : Option UnitId) → f (after_end l o) ≡ f l
keeps-end f l keeps None = refl
keeps-end f l keeps (Some unit) = by (is_hot unit l.puts)
  where
    by : (b : Bool) → f (if b then l else closed l unit) ≡ f l
    by true = refl
    by false = keeps l.begun (without_unit unit l.units)

-- each item
pub planned-keeps : {T : Type 0} (f : Ledger → T) (l : Ledger)
    → ((begun : ℕ) (units : List OpenUnit) → f (record l { begun = begun; units = units }) ≡ f l) → (item : Item) → f (planned l item) ≡ f l
planned-keeps f l keeps (items.Begin name) = keeps-begin f l name keeps (begin_answer l name)
planned-keeps f l keeps (items.Commit name) = keeps-end f l keeps (unit_named name l.units)
planned-keeps f l keeps (items.Roll name) = keeps-end f l keeps (unit_named name l.units)
planned-keeps f l keeps _ = refl

-- a record leaves the number of records of the file
record-records : (rec : LogRec) (l : Ledger) → (after_record rec l).records ≡ l.records
record-records (Put unit rrn before) l = refl
record-records (Commit unit) l = refl
record-records (Backout unit) l = refl

-- and the incarnation
pub record-inc : (rec : LogRec) (l : Ledger) → (after_record rec l).inc ≡ l.inc
record-inc (Put unit rrn before) l = refl
record-inc (Commit unit) l = refl
record-inc (Backout unit) l = refl

-- a ledger has the records of the file
pub ledger-records : (p : Settings) (h : List Event) → (ledger p h).records ≡ p.limits.file
ledger-records p [] = refl
ledger-records p (RestartDeclared ∷ h) = refl
ledger-records p (Given item ∷ h) = planned-keeps (λ l. l.records) (ledger p h) (λ b u. refl) item ∙ ledger-records p h
ledger-records p (LogOpened place rec ∷ h) = record-records rec (ledger p h) ∙ ledger-records p h
ledger-records p (KeyOpened place keypoint ∷ h) = ledger-records p h
ledger-records p (ActFailed (want.LogOpen place rec) at ∷ h) = record-records rec (ledger p h) ∙ ledger-records p h
ledger-records p (ActFailed (want.KpOpen place keypoint) at ∷ h) = ledger-records p h
ledger-records p (ActFailed _ at ∷ h) = ledger-records p h
ledger-records p (_ ∷ h) = ledger-records p h

-- the puts of the open units are the open puts
filter-open : (units : List OpenUnit) (q : UnitId → Bool) (puts : List LoggedPut)
    → ((unit : UnitId) → is_hot unit (filter (λ put. q put.unit) puts) ≡ true → IsOpenUnit unit units)
    → ((unit : UnitId) → IsOpenUnit unit units → q unit ≡ true) → filter (is_open_unit units) puts ≡ filter (λ put. q put.unit) puts
filter-open units q [] named kept = refl
filter-open units q (put ∷ puts) named kept =
    by (q put.unit) (is_open_unit units put) refl refl named (λ later. filter-open units q puts later kept)
  where
    by : (b c : Bool) → q put.unit ≡ b → is_open_unit units put ≡ c
        → ((unit : UnitId) → is_hot unit (if b then put ∷ filter (λ put. q put.unit) puts else filter (λ put. q put.unit) puts) ≡ true → IsOpenUnit unit units)
        → (((unit : UnitId) → is_hot unit (filter (λ put. q put.unit) puts) ≡ true → IsOpenUnit unit units)
        → filter (is_open_unit units) puts ≡ filter (λ put. q put.unit) puts)
        → (if c then put ∷ filter (is_open_unit units) puts else filter (is_open_unit units) puts) ≡
        (if b then put ∷ filter (λ put. q put.unit) puts else filter (λ put. q put.unit) puts)
    by true true is here named rest = ap (λ (left : List LoggedPut). put ∷ left) (rest (λ unit hot. named unit (or-right (same_unit put.unit unit) _ hot)))
    by true false is here named rest =
        no-clash (is_open_unit units put) (named put.unit (or-left (same_unit put.unit put.unit) _ (same_unit-refl put.unit))) here
    by false true is here named rest = no-clash (q put.unit) (kept put.unit here) is
    by false false is here named rest = rest named

-- the ledger of the job is that of the trace
ledger-made : (sl sl' re re' inc inc' be be' ne ne' st st' : ℕ) (un un' : List OpenUnit) (pu pu' : List LoggedPut) → sl ≡ sl' → re ≡ re' → inc ≡ inc'
    → be ≡ be' → ne ≡ ne' → st ≡ st' → un ≡ un' → pu ≡ pu'
    → ◌≡◌ {A = Ledger} (record { slots = sl; records = re; inc = inc; begun = be; next = ne; start = st; units = un; puts = pu })
    (record { slots = sl'; records = re'; inc = inc'; begun = be'; next = ne'; start = st'; units = un'; puts = pu' })
ledger-made sl sl' re re' inc inc' be be' ne ne' st st' un un' pu pu' a b c d e f g h = cc

-- ledgers whose fields are the same are
ledger-is : (l m : Ledger) → l.slots ≡ m.slots → l.records ≡ m.records → l.inc ≡ m.inc → l.begun ≡ m.begun → l.next ≡ m.next → l.start ≡ m.start
    → l.units ≡ m.units → l.puts ≡ m.puts → l ≡ m
ledger-is l m a b c d e f g h =
    ledger-made l.slots m.slots l.records m.records l.inc m.inc l.begun m.begun l.next m.next l.start m.start l.units m.units l.puts m.puts a b c d e f g h

-- so the ledger of the trace is the job's
pub joined : (s : Scen) (t : List Entry) (x : Site) (h : List Event) (o : Opened) → hist s t x ≡ Some h
    → Ledgers s.settings.log (log t) (start t) (ledger (settings s x) h)
    → (ledger (settings s x) h).inc ≡ number h → o ≡ opened_of (ledger (settings s x) h) → ledger_by s t x o ≡ ledger (settings s x) h
joined s t x h o job is inc opened =
    let l : Ledger = ledger (settings s x) h in
    let units : o.units ≡ l.units = ap (λ (p : Opened). p.units) opened in
    let puts : filter (is_open_unit l.units) (numbered (log t)) ≡ l.puts =
    filter-open l.units (λ unit. not (has_ended unit (log t))) (numbered (log t)) (λ unit hot. is.named unit (ap (is_hot unit) is.puts ∙ hot))
    (λ unit here. not-of-false (has_ended unit (log t)) (is.unended unit here)) ∙ sym is.puts in
    ledger-is (ledger_by s t x o) l (sym is.slots) (sym (ledger-records (settings s x) h)) (ap (number_of_job) job ∙ sym inc)
    (ap (λ (p : Opened). p.begun) opened) (sym is.next) (sym is.begins) units
    (ap (λ (u : List OpenUnit). filter (is_open_unit u) (numbered (log t))) units ∙ puts)
