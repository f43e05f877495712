-- What is logged and put into the file is what the item at hand asks, and is of no unit that has ended.
use Rattle.std.proofs.Common.{List, Some, ◌≡◌, ℕ, Option, ap, ◌∙◌, IfSome, refl, subst, Bool, false, filter, sym, true, [], ◌∷◌, if◌then◌else◌, not, ◌||◌}
use Rattle.std.specs.Option.{option_map}
use Rattle.std.specs.List.{list_any}
use Rattle.xrf_base.specs.declared.items.UnitId.{UnitId}
use Rattle.xrf_base.specs.declared.items.Item.{Item}
use Rattle.xrf_base.specs.declared.site.Site.{Site}
use Rattle.xrf_logrec.specs.LogRecords.{same_unit, unit_of}
use Rattle.xrf_logrec.specs.declared.records.LogRec.{LogRec}
use Rattle.xrf_logrec.specs.declared.records.LogRec.TheVariants.{Backout, Commit, Put}
use Rattle.xrf_log.specs.Flight.{flight, has_ended, put_units}
use Rattle.xrf_file.specs.declared.answers.Plan.{Plan}
use Rattle.xrf_file.specs.Rows.{unit_named, is_hot}
use Rattle.xrf_history.specs.Events.{Event}
use Rattle.xrf_history.specs.Working.{ledger, last_plan as plan_of_job}
use Rattle.xrf_history.specs.declared.want.Want.{Want}
use Rattle.xrf_history.specs.Next.{record_of_plan, record_of_restart, slot_read}
use Rattle.xrf_trace.specs.declared.entry.Entry.{Entry}
use Rattle.xrf_trace.specs.Items.{Opened}
use Rattle.xrf_trace.specs.Scenario.{Scen, settings, first_value}
use Rattle.xrf_trace.specs.Acts.{act_of}
use Rattle.xrf_trace.specs.Log.{log}
use Rattle.xrf_trace.specs.declared.entry.Land.{Land}
use Rattle.xrf_trace.specs.Landing.{opens}
use Rattle.xrf_log_law.proofs.ReadsLaw.{AtWork, item-at, at-work, of-now}
use Rattle.xrf_log_law.specs.Serving.{IsWrite, Serving, given_last, OfPlan}
use Rattle.xrf_log_law.proofs.JobActs.{of-item, restart-hand}
use Rattle.xrf_log_law.proofs.ActsOfPlans.{next-of}
use Rattle.xrf_log_law.specs.State.{RecordDue, view}
use Rattle.xrf_log_law.proofs.LedgerLaws.{has_row, same-turned, hot-rows}
use Rattle.xrf_log_law.specs.AtWork.{open_numbered, IsOpenUnit, PlanNamed}
use Rattle.xrf_log_law.proofs.DueOfItems.{named-open}
use Rattle.xrf_log_law.proofs.BeforeActs.{Before}
use Rattle.xrf_trace.specs.UnitsAreItems.{IsOfNoEnded, IsAsked, LogsAsked, is_backout, is_put_of}
use Rattle.xrf_trace.specs.AtHand.{OfItem, asked_record, asked_write, item_at_hand, open_unit}
use Rattle.xrf_history.specs.Holding.{is_restarted}
use Rattle.xrf_trace.specs.Devices.{image}
use Rattle.xrf_log_law.proofs.DueInSequence.{plan-hand}
use Rattle.xrf_history.specs.Restarting.{backouts_left}
use Rattle.xrf_log_law.proofs.Tests.{not-of-false, of-not, where-is}
use Rattle.xrf_logrec.proofs.LogLaws.{same_unit-true}
use Rattle.xrf_base.specs.declared.items.Item.TheVariants as items
use Rattle.xrf_file.specs.declared.answers.Plan.TheVariants as plans
use Rattle.xrf_history.specs.declared.want.Want.TheVariants as want
use Rattle.xrf_trace.specs.declared.entry.Act.TheVariants as act

-- what is put into the file is what the PUT at hand asks
write-same : (u unit : UnitId) (k rrn : ℕ) (v value : List ℕ) → u ≡ unit → k ≡ rrn → v ≡ value
    → Some (act.FileWrite u k v) ≡ Some (act.FileWrite unit rrn value)
write-same u unit k rrn v value a b c = cc

-- the open unit of a name is that of the job
pub open-named : (s : Scen) (t : List Entry) (x : Site) (h : List Event) (w : Want) (name : List ℕ) → AtWork s t x h w
    → open_unit s t x name ≡ unit_named name (ledger (settings s x) h).units
open-named s t x h w name at = ap (λ (o : Opened). unit_named name o.units) at.serves.0

-- the item at hand asks this write
abbrev AsksWrite : Scen → List Entry → Site → UnitId → ℕ → List ℕ → Item → Type 0
AsksWrite s t x unit rrn value item = asked_write s t x item ≡ Some (act.FileWrite unit rrn value)

-- the write of a plan is what its item asks
asks-write : (s : Scen) (t : List Entry) (x : Site) (h : List Event) (unit : UnitId) (rrn : ℕ) (value : List ℕ) (plan : Plan)
    → Before s t x h (want.FileWrite unit rrn value)
    → AtWork s t x h (want.FileWrite unit rrn value) → Serving (given_last h) (ledger (settings s x) h) plan → IsWrite plan unit rrn value
    → OfItem (item_at_hand s t x) (AsksWrite s t x unit rrn value)
asks-write s t x h unit rrn value (plans.Put u k v place) b at serving same =
    of-now (AsksWrite s t x unit rrn value) (item_at_hand s t x) (items.Put serving.0 k v) (item-at s t x h _ b.serves serving.1).0
    (ap (option_map (λ (w : UnitId). act.FileWrite w k v)) (open-named s t x h _ serving.0 at ∙ serving.2)
    ∙ write-same u unit k rrn v value same.0 same.1 same.2)
asks-write s t x h unit rrn value (plans.Get k) b at serving same = absurd same
asks-write s t x h unit rrn value (plans.Commit u place) b at serving same = absurd same
asks-write s t x h unit rrn value (plans.Roll u place) b at serving same = absurd same
asks-write s t x h unit rrn value (plans.Answer a) b at serving same = absurd same

-- what is logged is what the item at hand asks
abbrev AsksRecord : Scen → List Entry → Site → LogRec → Item → Type 0
AsksRecord s t x rec item = asked_record s t x item ≡ Some rec

-- the Put that is asked has the slot as it is
put-record : (u unit : UnitId) (k rrn : ℕ) (slot before image : List ℕ) → ◌≡◌ {A = Option LogRec} (Some (Put u k slot)) (Some (Put unit rrn before))
    → before ≡ image
    → ◌≡◌ {A = Option LogRec} (Some (Put u k image)) (Some (Put unit rrn before))
put-record u unit k rrn slot before image same is = cc

-- Puts that are the same have one record number
same-rrn : (u unit : UnitId) (k rrn : ℕ) (slot before : List ℕ) → ◌≡◌ {A = Option LogRec} (Some (Put u k slot)) (Some (Put unit rrn before)) → rrn ≡ k
same-rrn u unit k rrn slot before same = cc

-- the record of a plan is what its item asks
asks-record : (s : Scen) (t : List Entry) (x : Site) (h : List Event) (w : Want) (slot : List ℕ) (rec : LogRec) (plan : Plan) → Before s t x h w
    → AtWork s t x h w
    → record_of_plan plan slot ≡ Some rec → PlanNamed (ledger (settings s x) h).units plan → Serving (given_last h) (ledger (settings s x) h) plan
    → RecordDue s.settings.log (first_value s) (view s t) rec → OfItem (item_at_hand s t x) (AsksRecord s t x rec)
asks-record s t x h w slot (Put unit rrn before) (plans.Put u k value place) b at hand named serving due =
    of-now (AsksRecord s t x (Put unit rrn before)) (item_at_hand s t x) (items.Put serving.0 k value) (item-at s t x h _ b.serves serving.1).0
    (ap (option_map (λ (w : UnitId). Put w k (image s t k))) (open-named s t x h w serving.0 at ∙ serving.2)
    ∙ put-record u unit k rrn slot before (image s t k) hand (due.0 ∙ ap (image s t) (same-rrn u unit k rrn slot before hand)))
asks-record s t x h w slot (Commit unit) (plans.Commit u place) b at hand named serving due =
    of-now (AsksRecord s t x (Commit unit)) (item_at_hand s t x) (items.Commit serving.0) (item-at s t x h _ b.serves serving.1).0
    (ap (option_map Commit) (open-named s t x h w serving.0 at ∙ serving.2 named) ∙ hand)
asks-record s t x h w slot (Backout unit) (plans.Roll u place) b at hand named serving due =
    of-now (AsksRecord s t x (Backout unit)) (item_at_hand s t x) (items.Roll serving.0) (item-at s t x h _ b.serves serving.1).0
    (ap (option_map Backout) (open-named s t x h w serving.0 at ∙ serving.2 named) ∙ hand)
asks-record s t x h w slot rec (plans.Get k) b at hand named serving due = absurd (cc)
asks-record s t x h w slot rec (plans.Answer a) b at hand named serving due = absurd (cc)
asks-record s t x h w slot (Commit unit) (plans.Put u k value place) b at hand named serving due = absurd (cc)
asks-record s t x h w slot (Commit unit) (plans.Roll u place) b at hand named serving due = absurd (cc)
asks-record s t x h w slot (Backout unit) (plans.Put u k value place) b at hand named serving due = absurd (cc)
asks-record s t x h w slot (Backout unit) (plans.Commit u place) b at hand named serving due = absurd (cc)
asks-record s t x h w slot (Put unit rrn before) (plans.Commit u place) b at hand named serving due = absurd (cc)
asks-record s t x h w slot (Put unit rrn before) (plans.Roll u place) b at hand named serving due = absurd (cc)

-- in a restart it is a Backout
pub restart-backout : (left : List UnitId) (rec : LogRec) → record_of_restart left ≡ Some rec → is_backout rec ≡ true
restart-backout [] rec hand = absurd (cc)
restart-backout (unit ∷ left) (Backout u) hand = refl
restart-backout (unit ∷ left) (Put u rrn before) hand = absurd (cc)
restart-backout (unit ∷ left) (Commit u) hand = absurd (cc)

-- so of a LOGOPEN, in a restart and at work
logs-asked : (s : Scen) (t : List Entry) (x : Site) (h : List Event) (place : ℕ) (rec : LogRec) → Before s t x h (want.LogOpen place rec)
    → (restarted : Bool) → is_restarted h ≡ restarted → LogsAsked s t x rec restarted
logs-asked s t x h place rec b true is =
    let at = at-work s t x h (want.LogOpen place rec) b refl is in
    let hand : record_of_plan (plan_of_job (settings s x) h) (slot_read h) ≡ Some rec = sym (plan-hand (settings s x) h is) ∙ b.due.3 in
    asks-record s t x h (want.LogOpen place rec) (slot_read h) rec (plan_of_job (settings s x) h) b at hand (b.named at.there at.sound is) at.serves.2 b.due.1
logs-asked s t x h place rec b false is = restart-backout (backouts_left (settings s x) h) rec (restart-hand (settings s x) h rec is b.due.3)

-- what each act logs or writes is asked
pub is-asked : (s : Scen) (t : List Entry) (x : Site) (h : List Event) (w : Want) → Before s t x h w → IfSome (act_of s t x h w) (IsAsked s t x h)
is-asked s t x h want.Nothing b = tt
is-asked s t x h (want.Exit told) b = tt
is-asked s t x h want.Item b = of-item s t x (IsAsked s t x h) tt
is-asked s t x h (want.LogOpen place rec) b = logs-asked s t x h place rec b (is_restarted h) refl
is-asked s t x h (want.FileWrite unit rrn value) b =
    let at = at-work s t x h (want.FileWrite unit rrn value) b refl b.due.2 in
    asks-write s t x h unit rrn value (plan_of_job (settings s x) h) b at at.serves.2
    (subst (OfPlan (plan_of_job (settings s x) h)) b.is (next-of (settings s x) h))
is-asked s t x h _ b = tt

-- a unit in flight has not ended
found-kept : (q : UnitId → Bool) (unit : UnitId) (units : List UnitId) → list_any (λ u. same_unit u unit) (filter q units) ≡ true → q unit ≡ true
found-kept q unit [] found = absurd (cc)
found-kept q unit (u ∷ units) found = by (q u) (same_unit u unit) refl refl (found-kept q unit units) found
  where
    by : (a b : Bool) → q u ≡ a → same_unit u unit ≡ b → (list_any (λ u. same_unit u unit) (filter q units) ≡ true → q unit ≡ true)
        → list_any (λ w. same_unit w unit) (if a then u ∷ filter q units else filter q units) ≡ true → q unit ≡ true
    by true true e f rest found = subst (λ (v : UnitId). q v ≡ true) (same_unit-true u unit f) e
    by true false e f rest found = rest (sym (rw f refl) ∙ found)
    by false b e f rest found = rest found

-- a unit in flight has not ended
flight-open : (unit : UnitId) (records : List LogRec) → list_any (λ u. same_unit u unit) (flight records) ≡ true → has_ended unit records ≡ false
flight-open unit records found = of-not (has_ended unit records) (found-kept (λ u. not (has_ended u records)) unit (put_units records) found)

-- nothing is logged of a unit that has ended
record-open : (s : Scen) (t : List Entry) (size : ℕ) (first : ℕ → Option (List ℕ)) (rec : LogRec) → RecordDue size first (view s t) rec
    → has_ended (unit_of rec) (log t) ≡ false
record-open s t size first (Put unit rrn before) due = due.1
record-open s t size first (Commit unit) due = flight-open unit (log t) due.0
record-open s t size first (Backout unit) due = flight-open unit (log t) due.0

-- no act logs or writes of a unit that has ended
pub of-no-ended : (s : Scen) (t : List Entry) (x : Site) (h : List Event) (w : Want) (l : Land) → Before s t x h w
    → IfSome (act_of s t x h w) (λ a. IsOfNoEnded t a l)
of-no-ended s t x h want.Nothing l b = tt
of-no-ended s t x h (want.Exit told) l b = tt
of-no-ended s t x h want.Item l b = of-item s t x (λ a. IsOfNoEnded t a l) tt
of-no-ended s t x h (want.LogOpen place rec) l b = where-is (opens l) _ (record-open s t s.settings.log _ rec b.due.1)
of-no-ended s t x h (want.FileWrite unit rrn value) l b = b.due.0
of-no-ended s t x h _ l b = tt

-- a unit that is open and has no put is in no record
row-put : (unit : UnitId) (records : List LogRec) → has_row unit records ≡ false → list_any (is_put_of unit) records ≡ false
row-put unit [] none = refl
row-put unit (Put u rrn before ∷ records) none = by (same_unit u unit) refl (row-put unit records) none
  where
    by : (b : Bool) → same_unit u unit ≡ b → (has_row unit records ≡ false → list_any (is_put_of unit) records ≡ false)
        → (b || has_row unit records) ≡ false → (same_unit unit u || list_any (is_put_of unit) records) ≡ false
    by true e rest none = absurd (cc)
    by false e rest none = ap (λ (b : Bool). b || list_any (is_put_of unit) records) (same-turned u unit e) ∙ rest none
row-put unit (Commit u ∷ records) none = row-put unit records none
row-put unit (Backout u ∷ records) none = row-put unit records none

-- an open unit that is not hot has no Put in the log
pub cold-put : (unit : UnitId) (records : List LogRec) → has_ended unit records ≡ false → is_hot unit (open_numbered records) ≡ false
    → list_any (is_put_of unit) records ≡ false
cold-put unit records open_yet cold =
    row-put unit records (sym (hot-rows (λ u. not (has_ended u records)) unit records (not-of-false (has_ended unit records) open_yet)) ∙ cold)

-- where an item is answered at once
pub open-here : (s : Scen) (t : List Entry) (x : Site) (h : List Event) (w : Want) (name : List ℕ) (unit : UnitId) → AtWork s t x h w
    → open_unit s t x name ≡ Some unit
    → IsOpenUnit unit (ledger (settings s x) h).units
open-here s t x h w name unit at is = named-open name (ledger (settings s x) h).units unit (sym (open-named s t x h w name at) ∙ is)
