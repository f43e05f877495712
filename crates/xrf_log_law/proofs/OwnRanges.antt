-- What a job writes is in its ranges: what its own history tells.
use Rattle.std.proofs.Common.{◌≡◌, ◌≤◌, false, true, Bool, refl, ◌||◌, List, arith, subst, sym, ℕ, ◌+◌, ◌∙◌, None, Option, Some, if◌then◌else◌, [], ◌∷◌, length, nat_lt, ◌==◌, IfSome}
use Rattle.std.specs.List.{list_any}
use Rattle.std.proofs.lemmas.Grind.{common_steps}
use Rattle.xrf_base.specs.declared.items.UnitId.{UnitId}
use Rattle.xrf_base.specs.declared.items.ItemAnswer.TheVariants.{Done}
use Rattle.xrf_base.specs.declared.items.ItemAnswer.{ItemAnswer}
use Rattle.xrf_base.specs.declared.items.Item.{Item}
use Rattle.xrf_base.specs.declared.site.Site.{Site}
use Rattle.xrf_logrec.specs.LogRecords.{same_unit}
use Rattle.xrf_logrec.specs.declared.records.LogRec.TheVariants.{Backout, Commit, Put}
use Rattle.xrf_logrec.specs.declared.records.LogRec.{LogRec}
use Rattle.xrf_file.specs.Ledger.{Ledger, opened, after_begin, closed, after_end, begin_answer, planned, is_bad_rrn, commit_plan, get_plan, is_log_full, plan_of, put_plan, roll_plan}
use Rattle.xrf_file.specs.declared.rows.OpenUnit.{OpenUnit}
use Rattle.xrf_file.specs.Rows.{is_hot, unit_named, is_locked}
use Rattle.xrf_file.specs.declared.answers.Plan.{Plan}
use Rattle.xrf_history.specs.Working.{after_record, ledger, last_plan}
use Rattle.xrf_history.specs.Events.{Event, Given, LogOpened, KeyOpened, ActFailed, RestartDeclared}
use Rattle.xrf_history.specs.declared.settings.Settings.{Settings}
use Rattle.xrf_trace.specs.declared.entry.Act.{Act}
use Rattle.xrf_trace.specs.declared.entry.Entry.{Entry}
use Rattle.xrf_trace.specs.Scenario.{Scen}
use Rattle.xrf_trace.specs.Jobs.{after_act, after_own, after_other, hist}
use Rattle.xrf_trace.specs.declared.entry.Land.{Land}
use Rattle.xrf_trace.specs.Words.{is_of}
use Rattle.xrf_log_law.specs.AtWork.{IsOpenUnit}
use Rattle.xrf_log_law.proofs.LedgerSteps.{found-last, open-left}
use Rattle.xrf_log_law.proofs.Tests.{choose_if, false-true, or-cases}
use Rattle.xrf_log_law.proofs.TraceLedgers.{ledger-records}
use Rattle.xrf_logrec.proofs.LogLaws.{same_unit-true}
use Rattle.xrf_base.specs.declared.items.Item.TheVariants as items
use Rattle.xrf_file.specs.declared.answers.Plan.TheVariants as plans
use Rattle.xrf_history.specs.declared.want.Want.TheVariants as want
use Rattle.xrf_trace.specs.declared.entry.Act.TheVariants as act
use Rattle.xrf_trace.specs.declared.entry.Land.TheVariants as land

-- the units of a ledger are of its incarnation, and numbered from 1
abbrev pub Units : Ledger → Type 0
Units l = (unit : UnitId) → IsOpenUnit unit l.units → (unit.inc ≡ l.inc) × (1 ≤ unit.serial)

-- a BEGIN opens a unit with the next serial number
units-opened : (l : Ledger) (name : List ℕ) → Units l → Units (opened l name)
units-opened l name units unit here =
    or-cases (list_any (λ (o : OpenUnit). same_unit o.unit unit) l.units) (same_unit (record { inc = l.inc; serial = l.begun + 1 }) unit)
    (sym (found-last unit (record { name = name; unit = record { inc = l.inc; serial = l.begun + 1 } }) l.units) ∙ here)
    (λ e. units unit e)
    (λ e. subst (λ (u : UnitId). (u.inc ≡ l.inc) × (1 ≤ u.serial)) (same_unit-true (record { inc = l.inc; serial = l.begun + 1 }) unit e) (refl, omega arith))

-- where it is answered Done
units-begun : (l : Ledger) (name : List ℕ) (answer : ItemAnswer) → Units l → Units (after_begin l name answer)
units-begun l name Done units = units-opened l name units
units-begun l name _ units = units

-- the end of a unit leaves the others
units-without : (l : Ledger) (unit : UnitId) → Units l → Units (closed l unit)
units-without l unit units u here = units u (open-left u unit l.units here).0

-- also at once
units-ended : (l : Ledger) (o : Option UnitId) → Units l → Units (after_end l o)
units-ended l None units = units
units-ended l (Some unit) units = by (is_hot unit l.puts)
  where
    by : (b : Bool) → Units (if b then l else closed l unit)
    by true = units
    by false = units-without l unit units

-- so each item
units-planned : (l : Ledger) (item : Item) → Units l → Units (planned l item)
units-planned l (items.Begin name) units = units-begun l name (begin_answer l name) units
units-planned l (items.Commit name) units = units-ended l (unit_named name l.units) units
units-planned l (items.Roll name) units = units-ended l (unit_named name l.units) units
units-planned l _ units = units

-- and each record
units-recorded : (rec : LogRec) (l : Ledger) → Units l → Units (after_record rec l)
units-recorded (Put unit rrn before) l units = units
units-recorded (Commit unit) l units = units-without l unit units
units-recorded (Backout unit) l units = units-without l unit units

-- so in each history
pub units-of : (p : Settings) (h : List Event) → Units (ledger p h)
units-of p [] = λ unit here. false-true here
units-of p (RestartDeclared ∷ h) = λ unit here. false-true here
units-of p (Given item ∷ h) = units-planned (ledger p h) item (units-of p h)
units-of p (LogOpened place rec ∷ h) = units-recorded rec (ledger p h) (units-of p h)
units-of p (KeyOpened place keypoint ∷ h) = units-of p h
units-of p (ActFailed (want.LogOpen place rec) at ∷ h) = units-recorded rec (ledger p h) (units-of p h)
units-of p (ActFailed (want.KpOpen place keypoint) at ∷ h) = units-of p h
units-of p (ActFailed _ at ∷ h) = units-of p h
units-of p (_ ∷ h) = units-of p h

-- they are no more than the events
begun-one : (l : Ledger) (name : List ℕ) (answer : ItemAnswer) → (after_begin l name answer).begun ≤ l.begun + 1
begun-one l name Done = omega arith
begun-one l name _ = omega arith

-- the end of a unit begins none
begun-end : (l : Ledger) (o : Option UnitId) → (after_end l o).begun ≤ l.begun + 1
begun-end l None = omega arith
begun-end l (Some unit) = by (is_hot unit l.puts)
  where
    by : (b : Bool) → (if b then l else closed l unit).begun ≤ l.begun + 1
    by true = omega arith
    by false = omega arith

-- an item begins one unit at most
begun-planned : (l : Ledger) (item : Item) → (planned l item).begun ≤ l.begun + 1
begun-planned l (items.Begin name) = begun-one l name (begin_answer l name)
begun-planned l (items.Commit name) = begun-end l (unit_named name l.units)
begun-planned l (items.Roll name) = begun-end l (unit_named name l.units)
begun-planned l _ = omega arith

-- a record begins none
begun-recorded : (rec : LogRec) (l : Ledger) → (after_record rec l).begun ≤ l.begun
begun-recorded (Put unit rrn before) l = omega arith
begun-recorded (Commit unit) l = omega arith
begun-recorded (Backout unit) l = omega arith

-- so there are no more than events
pub begun-of : (p : Settings) (h : List Event) → (ledger p h).begun ≤ length h
begun-of p [] = omega arith
begun-of p (RestartDeclared ∷ h) = omega arith
begun-of p (Given item ∷ h) = omega (arith, begun-planned (ledger p h) item, begun-of p h)
begun-of p (LogOpened place rec ∷ h) = omega (arith, begun-recorded rec (ledger p h), begun-of p h)
begun-of p (KeyOpened place keypoint ∷ h) = omega (arith, begun-of p h)
begun-of p (ActFailed (want.LogOpen place rec) at ∷ h) = omega (arith, begun-recorded rec (ledger p h), begun-of p h)
begun-of p (ActFailed (want.KpOpen place keypoint) at ∷ h) = omega (arith, begun-of p h)
begun-of p (ActFailed _ at ∷ h) = omega (arith, begun-of p h)
begun-of p (_ ∷ h) = omega (arith, begun-of p h)

-- a PUT and a GET that are planned are of a record of the file
abbrev pub PlanRrn : ℕ → Plan → Type 0
PlanRrn file (plans.Put unit rrn value place) = (1 ≤ rrn) × (rrn ≤ file)
PlanRrn file (plans.Get rrn) = (1 ≤ rrn) × (rrn ≤ file)
PlanRrn file _ = Unit {0}

-- a record number that is not bad is one of the file
good-rrn : (l : Ledger) (rrn file : ℕ) → l.records ≡ file → is_bad_rrn l rrn ≡ false → (1 ≤ rrn) × (rrn ≤ file)
good-rrn l rrn file is good = by (rrn == 0) (nat_lt l.records rrn) refl refl good
  where
    by : (a b : Bool) → (rrn == 0) ≡ a → nat_lt l.records rrn ≡ b → (a || b) ≡ false → (1 ≤ rrn) × (rrn ≤ file)
    by true b e f none = absurd (cc)
    by false true e f none = absurd (cc)
    by false false e f none =
        let some : 1 ≤ rrn = grind (arith, common_steps) in
        let most : rrn ≤ l.records = grind (arith, common_steps) in
        (some, omega (arith, most, is))

-- the plan of each item
rrn-planned : (l : Ledger) (file : ℕ) (item : Item) → l.records ≡ file → PlanRrn file (plan_of l item)
rrn-planned l file (items.Put name rrn value) is = by (unit_named name l.units)
  where
    by : (o : Option UnitId) → PlanRrn file (put_plan l o rrn value)
    by None = tt
    by (Some unit) =
        choose_if (PlanRrn file) (is_bad_rrn l rrn) _ _ (λ b. tt)
        (λ b. choose_if (PlanRrn file) (is_locked unit rrn l.puts) _ _ (λ c. tt)
        (λ c. choose_if (PlanRrn file) (is_log_full l unit) _ _ (λ d. tt) (λ d. good-rrn l rrn file is b)))
rrn-planned l file (items.Get name rrn) is = by (unit_named name l.units)
  where
    by : (o : Option UnitId) → PlanRrn file (get_plan l o rrn)
    by None = tt
    by (Some unit) =
        choose_if (PlanRrn file) (is_bad_rrn l rrn) _ _ (λ b. tt)
        (λ b. choose_if (PlanRrn file) (is_locked unit rrn l.puts) _ _ (λ c. tt) (λ c. good-rrn l rrn file is b))
rrn-planned l file (items.Commit name) is = by (unit_named name l.units)
  where
    by : (o : Option UnitId) → PlanRrn file (commit_plan l o)
    by None = tt
    by (Some unit) = choose_if (PlanRrn file) (is_hot unit l.puts) _ _ (λ b. tt) (λ b. tt)
rrn-planned l file (items.Roll name) is = by (unit_named name l.units)
  where
    by : (o : Option UnitId) → PlanRrn file (roll_plan l o)
    by None = tt
    by (Some unit) = choose_if (PlanRrn file) (is_hot unit l.puts) _ _ (λ b. tt) (λ b. tt)
rrn-planned l file (items.Begin name) is = tt
rrn-planned l file _ is = tt

-- so in each history
pub rrn-of : (p : Settings) (h : List Event) → PlanRrn p.limits.file (last_plan p h)
rrn-of p [] = tt
rrn-of p (Given item ∷ h) = rrn-planned (ledger p h) p.limits.file item (ledger-records p h)
rrn-of p (_ ∷ h) = rrn-of p h

-- a history is no longer than the trace
act-count : (s : Scen) (t : List Entry) (x : Site) (at n : ℕ) (a : Act) (job : Option (List Event)) → IfSome job (λ h. length h ≤ n)
    → IfSome (after_act s t x at a job) (λ h. length h ≤ n + 1)
act-count s t x at n act.StartActive job before = omega arith
act-count s t x at n act.StartStandby job before = omega arith
act-count s t x at n (act.Ended reason) job before = tt
act-count s t x at n _ None before = tt
act-count s t x at n _ (Some h) before = omega (arith, before)

-- by an entry of its site it grows by one event at most
own-count : (s : Scen) (t : List Entry) (x : Site) (at n : ℕ) (a : Act) (l : Land) (job : Option (List Event)) → IfSome job (λ h. length h ≤ n)
    → IfSome (after_own s t x at a l job) (λ h. length h ≤ n + 1)
own-count s t x at n a land.Full job before = act-count s t x at n a job before
own-count s t x at n a land.Lost job before = act-count s t x at n a job before
own-count s t x at n a (land.Stop cut) job before = tt
own-count s t x at n a (land.Fail cut) None before = tt
own-count s t x at n a (land.Fail cut) (Some h) before = omega (arith, before)

-- what is short is so of a longer trace
more-count : (n : ℕ) (job : Option (List Event)) → IfSome job (λ h. length h ≤ n) → IfSome job (λ h. length h ≤ n + 1)
more-count n None before = tt
more-count n (Some h) before = omega (arith, before)

-- by an entry of another it grows by a tick at most
other-count : (n : ℕ) (a : Act) (job : Option (List Event)) → IfSome job (λ h. length h ≤ n) → IfSome (after_other a job) (λ h. length h ≤ n + 1)
other-count n act.Tick None before = tt
other-count n act.Tick (Some h) before = omega (arith, before)
other-count n _ job before = more-count n job before

-- an entry makes a trace longer by one
pub one-more : (e : Entry) (t : List Entry) → length t + 1 ≡ length (e ∷ t)
one-more e t = omega arith

-- so a history is no longer than the trace
pub hist-count : (s : Scen) (t : List Entry) (x : Site) → IfSome (hist s t x) (λ h. length h ≤ length t)
hist-count s [] x = tt
hist-count s (e ∷ t) x = subst (λ (n : ℕ). IfSome (hist s (e ∷ t) x) (λ h. length h ≤ n)) (one-more e t) (by (is_of e.who x) (hist-count s t x))
  where
    by : (b : Bool) → IfSome (hist s t x) (λ h. length h ≤ length t)
        → IfSome (elim b [ true ↦ after_own s t x e.tick e.act e.land (hist s t x) | false ↦ after_other e.act (hist s t x) ])
        (λ h. length h ≤ length t + 1)
    by true before = own-count s t x e.tick (length t) e.act e.land (hist s t x) before
    by false before = other-count (length t) e.act (hist s t x) before
