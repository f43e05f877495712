-- What is written is in its ranges, and a number that is new is in no record: act by act.
use Rattle.std.proofs.Common.{List, false, true, ◌≡◌, ◌≤◌, Some, arith, subst, refl, ℕ, IfSome, Bool, ◌∷◌, if◌then◌else◌, ◌==◌, ◌||◌, Option, ◌&&◌}
use Rattle.xrf_base.specs.declared.site.Site.{Site}
use Rattle.xrf_base.specs.declared.items.UnitId.{UnitId}
use Rattle.xrf_base.specs.Values.{IsValue}
use Rattle.xrf_logrec.specs.declared.records.LogRec.{LogRec}
use Rattle.xrf_logrec.specs.declared.records.LogRec.TheVariants.{Backout, Commit, Put}
use Rattle.xrf_logrec.specs.LogRecords.{IsLogRecord, IsUnit, unit_of, same_unit}
use Rattle.xrf_file.specs.declared.answers.Plan.{Plan}
use Rattle.xrf_history.specs.Events.{Event}
use Rattle.xrf_history.specs.declared.want.Want.{Want}
use Rattle.xrf_history.specs.Holding.{number, is_owner, is_restarted}
use Rattle.xrf_history.specs.Next.{record_at_hand}
use Rattle.xrf_history.specs.Progress.{is_active}
use Rattle.xrf_history.proofs.Holding.{owner-granted}
use Rattle.xrf_history.specs.Working.{ledger, last_plan as plan_of_job}
use Rattle.xrf_trace.specs.declared.entry.Entry.{Entry}
use Rattle.xrf_trace.specs.Scenario.{Scen, first_value, settings}
use Rattle.xrf_trace.specs.Devices.{control, control_after, written_if}
use Rattle.xrf_trace.specs.Log.{log, log_after}
use Rattle.xrf_trace.specs.Acts.{act_of}
use Rattle.xrf_trace.specs.declared.entry.Land.{Land}
use Rattle.xrf_trace.specs.Landing.{opens, lands, is_in_full}
use Rattle.xrf_trace.specs.declared.entry.Act.{Act}
use Rattle.xrf_trace.specs.Words.{items_taken, confirmed}
use Rattle.xrf_trace.specs.Book.{puts, puts_after, value_after}
use Rattle.xrf_log_law.specs.Ranges.{AreUnits, uses, AreOfFile}
use Rattle.xrf_log_law.proofs.ServingActs.{sound-for}
use Rattle.xrf_log_law.specs.State.{view, RecordDue}
use Rattle.xrf_log_law.specs.Jobs.{is_idle, InRange}
use Rattle.xrf_log_law.proofs.JobActs.{of-item}
use Rattle.xrf_log_law.proofs.RecordRanges.{HandRanged, hand-ranged, IsOf}
use Rattle.xrf_log_law.specs.AtWork.{LastAt, NamedAt, PlanNamed, RollLast}
use Rattle.xrf_log_law.proofs.WorkBegins.{next-last, next-named}
use Rattle.xrf_log_law.specs.Serving.{IsWrite, Serves, Serving, given_last, site_view, OfPlan}
use Rattle.xrf_log_law.proofs.ReadsLaw.{item-at}
use Rattle.xrf_log_law.proofs.ActsOfPlans.{next-of}
use Rattle.xrf_log_law.proofs.BeforeActs.{Before, last-rises}
use Rattle.xrf_base.specs.declared.items.Item.{Item}
use Rattle.xrf_owner_law.specs.Owner.{IsHeld}
use Rattle.xrf_trace.proofs.ScenarioLaws.{IsInRanges, IsItem}
use Rattle.xrf_log_law.proofs.Tests.{and-left, eq-of-true}
use Rattle.xrf_file.specs.declared.answers.Plan.TheVariants as plans
use Rattle.xrf_history.specs.declared.want.Want.TheVariants as want

-- an active holds a number that was given
pub writer-held : (s : Scen) (t : List Entry) (x : Site) (h : List Event) (w : Want) → Before s t x h w → is_active h ≡ true
    → IsHeld (control t) (confirmed t) (number h)
writer-held s t x h w n there = n.held (owner-granted h (and-left (is_owner h) _ there))

-- the record that is written
now-hand : (s : Scen) (t : List Entry) (x : Site) (h : List Event) (w : Want) (rec : LogRec) → Before s t x h w → is_idle w ≡ false
    → ((plan : Plan) → LastAt (first_value s) (view s t) plan w → RollLast (first_value s) (view s t) plan)
    → (NamedAt (ledger (settings s x) h).units (plan_of_job (settings s x) h) w
    → PlanNamed (ledger (settings s x) h).units (plan_of_job (settings s x) h))
    → record_at_hand (settings s x) h ≡ Some rec → RecordDue s.settings.log (first_value s) (view s t) rec
    → HandRanged s.settings.file (number h) (log t) (is_restarted h) rec
now-hand s t x h w rec n acts lasts names hand due =
    let there = n.acts acts in
    let sound = sound-for h w n.idle acts in
    let held = writer-held s t x h w n there in
    hand-ranged s t x h rec n.scen n.ranges n.state
    (λ working.
    (let at = n.stands.5 there sound working in (
      record { job = n.job; held = (held.some, omega (arith, held.given, n.most)); few = n.few; ledgers = at.0; serves = n.serves.2 there sound working },
      names (subst (NamedAt (ledger (settings s x) h).units (plan_of_job (settings s x) h)) n.is
          (next-named s.settings.log (first_value s) (view s t) (settings s x) h working at)),
      lasts (plan_of_job (settings s x) h) (subst (LastAt (first_value s) (view s t) (plan_of_job (settings s x) h)) n.is
          (next-last s.settings.log (first_value s) (view s t) (settings s x) h at)),
    )))
    hand due

-- the record of a LOGBODY
body-hand : (s : Scen) (t : List Entry) (x : Site) (h : List Event) (place : ℕ) (rec : LogRec) → Before s t x h (want.LogBody place rec)
    → HandRanged s.settings.file (number h) (log t) (is_restarted h) rec
body-hand s t x h place rec n =
    let due = n.due in
    now-hand s t x h (want.LogBody place rec) rec n refl (λ plan last. last) (λ named. named) due.3 due.1

-- the record of a LOGOPEN
pub open-hand : (s : Scen) (t : List Entry) (x : Site) (h : List Event) (place : ℕ) (rec : LogRec) → Before s t x h (want.LogOpen place rec)
    → HandRanged s.settings.file (number h) (log t) (is_restarted h) rec
open-hand s t x h place rec n =
    let due = n.due in
    now-hand s t x h (want.LogOpen place rec) rec n refl (λ plan last. last) (λ named. named) due.3 due.1

-- what is written of a record is in its ranges
pub in-range : (s : Scen) (t : List Entry) (x : Site) (h : List Event) (w : Want) → Before s t x h w → IfSome (act_of s t x h w) InRange
in-range s t x h (want.LogBody place rec) n = (body-hand s t x h place rec n).ranged
in-range s t x h want.Nothing n = tt
in-range s t x h (want.Exit told) n = tt
in-range s t x h want.Item n = of-item s t x InRange tt
in-range s t x h _ n = tt

-- the units of the log
record-unit : (rec : LogRec) → IsLogRecord rec → IsUnit (unit_of rec)
record-unit (Put unit rrn before) is = is.0
record-unit (Commit unit) is = is
record-unit (Backout unit) is = is

-- the units of the log are units after each act
pub units-after : (s : Scen) (t : List Entry) (x : Site) (h : List Event) (l : Land) (w : Want) → Before s t x h w
    → IfSome (act_of s t x h w) (λ a. AreUnits (log_after a l (log t)))
units-after s t x h l (want.LogOpen place rec) n = by (opens l)
  where
    by : (b : Bool) → AreUnits (if b then rec ∷ log t else log t)
    by true = (n.ranges.units, record-unit rec (open-hand s t x h place rec n).ranged)
    by false = n.ranges.units
units-after s t x h l want.Nothing n = tt
units-after s t x h l (want.Exit told) n = tt
units-after s t x h l want.Item n = of-item s t x (λ a. AreUnits (log_after a l (log t))) n.ranges.units
units-after s t x h l _ n = n.ranges.units

-- and of records of the file
pub file-after : (s : Scen) (t : List Entry) (x : Site) (h : List Event) (l : Land) (w : Want) → Before s t x h w
    → IfSome (act_of s t x h w) (λ a. AreOfFile s.settings.file (log_after a l (log t)))
file-after s t x h l (want.LogOpen place rec) n = by (opens l)
  where
    by : (b : Bool) → AreOfFile s.settings.file (if b then rec ∷ log t else log t)
    by true = (n.ranges.file, (open-hand s t x h place rec n).file_of)
    by false = n.ranges.file
file-after s t x h l want.Nothing n = tt
file-after s t x h l (want.Exit told) n = tt
file-after s t x h l want.Item n = of-item s t x (λ a. AreOfFile s.settings.file (log_after a l (log t))) n.ranges.file
file-after s t x h l _ n = n.ranges.file

-- their incarnations are no greater than last
of-below : (s : Scen) (t : List Entry) (n inc last : ℕ) → (uses inc (log t) ≡ true → inc ≤ last) → (restarted : Bool) → (unit : UnitId)
    → unit.inc ≡ inc → n ≤ last → IsOf n (log t) unit restarted → inc ≤ last
of-below s t n inc last below true unit same held of = omega (arith, same, of, held)
of-below s t n inc last below false unit same held of = below (subst (λ (i : ℕ). uses i (log t) ≡ true) same of)

-- after an act each incarnation of the log is at most the last number
abbrev pub Below : Scen → List Entry → Land → Act → Type 0
Below s t l a = (n : ℕ) → uses n (log_after a l (log t)) ≡ true → n ≤ (control_after a l (control t)).last

-- after each act
pub below-after : (s : Scen) (t : List Entry) (x : Site) (h : List Event) (l : Land) (w : Want) → Before s t x h w → IfSome (act_of s t x h w) (Below s t l)
below-after s t x h l (want.LogOpen place rec) n = by (opens l)
  where
    one : (k : ℕ) (b : Bool) → ((unit_of rec).inc == k) ≡ b → (b || uses k (log t)) ≡ true → k ≤ (control t).last
    one k true e used =
        of-below s t (number h) k (control t).last (n.ranges.below k) (is_restarted h) (unit_of rec) (eq-of-true (unit_of rec).inc k e)
        (writer-held s t x h (want.LogOpen place rec) n (n.acts refl)).given (open-hand s t x h place rec n).of
    one k false e used = n.ranges.below k used

    by : (b : Bool) → (k : ℕ) → uses k (if b then rec ∷ log t else log t) ≡ true → k ≤ (control t).last
    by true k used = one k ((unit_of rec).inc == k) refl used
    by false k used = n.ranges.below k used
below-after s t x h l (want.CtlWrite written) n = by (lands l)
  where
    by : (b : Bool) → (k : ℕ) → uses k (log t) ≡ true → k ≤ (written_if b written (control t)).last
    by true k used = omega (arith, n.ranges.below k used, last-rises s t x h written (n.writes written refl))
    by false k used = n.ranges.below k used
below-after s t x h l want.Nothing n = tt
below-after s t x h l (want.Exit told) n = tt
below-after s t x h l want.Item n = of-item s t x (Below s t l) n.ranges.below
below-after s t x h l _ n = n.ranges.below

-- the values of the puts
put-value : (s : Scen) (t : List Entry) (x : Site) (h : List Event) (unit : UnitId) (rrn : ℕ) (value : List ℕ) (plan : Plan) → IsInRanges s
    → Serves (settings s x) h (site_view s t x) → Serving (given_last h) (ledger (settings s x) h) plan → IsWrite plan unit rrn value → IsValue value
put-value s t x h unit rrn value (plans.Put u k v place) scen serves serving same =
    subst IsValue same.2 (subst (λ (o : Option Item). IfSome o IsItem) (item-at s t x h _ serves serving.1).0 (scen.work x (items_taken t x))).1
put-value s t x h unit rrn value (plans.Get k) scen serves serving same = absurd same
put-value s t x h unit rrn value (plans.Commit u place) scen serves serving same = absurd same
put-value s t x h unit rrn value (plans.Roll u place) scen serves serving same = absurd same
put-value s t x h unit rrn value (plans.Answer a) scen serves serving same = absurd same

-- after an act what each unit has put is a value
abbrev pub Valued : Scen → List Entry → Land → Act → Type 0
Valued s t l a =
    (unit : UnitId) (r : ℕ) (before : Option (List ℕ)) → IfSome before IsValue
    → IfSome (value_after r (puts_after unit a l (puts t unit)) before) IsValue

-- after each act
pub values-after : (s : Scen) (t : List Entry) (x : Site) (h : List Event) (l : Land) (w : Want) → Before s t x h w → IfSome (act_of s t x h w) (Valued s t l)
values-after s t x h l (want.FileWrite u k value) n = λ unit r before fits. by unit r before fits (same_unit u unit && is_in_full l) (k == r)
  where
    fit : IsValue value
    fit =
        let there = n.acts refl in
        let sound = sound-for h (want.FileWrite u k value) n.idle refl in
        put-value s t x h u k value (plan_of_job (settings s x) h) n.scen n.serves (n.serves.2 there sound n.due.2).2
        (subst (OfPlan (plan_of_job (settings s x) h)) n.is (next-of (settings s x) h))

    on : (unit : UnitId) (r : ℕ) (before : Option (List ℕ)) → IfSome before IsValue → (b : Bool)
        → IfSome (if b then Some value else value_after r (puts t unit) before) IsValue
    on unit r before fits true = fit
    on unit r before fits false = n.ranges.values unit r before fits

    by : (unit : UnitId) (r : ℕ) (before : Option (List ℕ)) → IfSome before IsValue → (b c : Bool)
        → IfSome (value_after r (if b then (k, value) ∷ puts t unit else puts t unit) before) IsValue
    by unit r before fits true c = on unit r before fits (k == r)
    by unit r before fits false c = n.ranges.values unit r before fits
values-after s t x h l want.Nothing n = tt
values-after s t x h l (want.Exit told) n = tt
values-after s t x h l want.Item n = of-item s t x (Valued s t l) n.ranges.values
values-after s t x h l _ n = n.ranges.values
