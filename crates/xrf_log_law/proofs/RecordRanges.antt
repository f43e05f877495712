-- What a job writes is in its ranges: its records.
use Rattle.std.proofs.Common.{Bool, List, false, true, ◌≡◌, ℕ, Some, length, ◌≤◌, IfSome, Option, arith, subst, ◌∙◌, ap, [], ◌∷◌, refl, sym}
use Rattle.xrf_base.specs.declared.items.UnitId.{UnitId}
use Rattle.xrf_base.specs.declared.site.Site.{Site}
use Rattle.xrf_logrec.specs.declared.records.LogRec.{LogRec}
use Rattle.xrf_logrec.specs.LogRecords.{IsLogRecord, unit_of, IsUnit}
use Rattle.xrf_logrec.specs.declared.records.LogRec.TheVariants.{Put, Commit, Backout}
use Rattle.xrf_file.specs.Ledger.{Ledger}
use Rattle.xrf_file.specs.Rows.{is_locked}
use Rattle.xrf_file.specs.declared.answers.Plan.{Plan}
use Rattle.xrf_history.specs.Events.{Event}
use Rattle.xrf_history.specs.Working.{ledger, last_plan as plan_of_job}
use Rattle.xrf_history.specs.Holding.{number, is_restarted}
use Rattle.xrf_history.specs.Next.{record_of_plan, record_of_restart, record_at_hand, slot_read}
use Rattle.xrf_history.specs.Restarting.{backouts_left}
use Rattle.xrf_trace.specs.Log.{log}
use Rattle.xrf_trace.specs.declared.entry.Entry.{Entry}
use Rattle.xrf_trace.specs.Scenario.{Scen, settings, first_value}
use Rattle.xrf_trace.specs.Jobs.{hist}
use Rattle.xrf_trace.specs.Book.{book, puts, value_after}
use Rattle.xrf_log_law.specs.Ranges.{uses, InRanges, IsOfFile}
use Rattle.xrf_log_law.specs.AtWork.{Ledgers, IsOpenUnit, Last, PlanNamed, RollLast}
use Rattle.xrf_log_law.specs.Serving.{ServesWork, site_view}
use Rattle.xrf_log_law.specs.State.{view, RecordDue, State}
use Rattle.xrf_log_law.proofs.OwnRanges.{begun-of, hist-count, units-of, PlanRrn, rrn-of}
use Rattle.xrf_log_law.proofs.ValueRanges.{book-value, slot-size, flight-unit}
use Rattle.xrf_log_law.proofs.LedgerLaws.{locked-free}
use Rattle.xrf_log_law.proofs.ReadsLaw.{reads-value}
use Rattle.xrf_log_law.proofs.DueInSequence.{plan-hand}
use Rattle.xrf_log_law.proofs.JobActs.{restart-hand}
use Rattle.xrf_trace.proofs.ScenarioLaws.{IsInRanges}
use Rattle.xrf_log_law.proofs.SameRecords.{same-backout, same-commit, same-put}
use Rattle.xrf_file.specs.declared.answers.Plan.TheVariants as plans

-- a unit is of the job, or of one before
abbrev pub IsOf : ℕ → List LogRec → UnitId → Bool → Type 0
IsOf n log unit true = unit.inc ≡ n
IsOf n log unit false = uses unit.inc log ≡ true

-- a record is in its ranges, of this unit's incarnation, and of a record of the file
pub record HandRanged (file n : ℕ) (log : List LogRec) (restarted : Bool) (rec : LogRec) : Type 0 where
  pub ranged : IsLogRecord rec
  pub of : IsOf n log (unit_of rec) restarted
  pub file_of : IsOfFile file rec

-- a job that writes, at work
pub record Working (s : Scen) (t : List Entry) (x : Site) (h : List Event) : Type 0 where
  pub job : hist s t x ≡ Some h
  pub held : (1 ≤ number h) × (number h ≤ 65535)
  pub few : length t ≤ 65535
  pub ledgers : Ledgers s.settings.log (log t) (view s t).start (ledger (settings s x) h)
  pub serves : ServesWork (settings s x) h (site_view s t x)

-- the open units of a job are units of its incarnation
open-unit : (s : Scen) (t : List Entry) (x : Site) (h : List Event) (unit : UnitId) → Working s t x h
    → IsOpenUnit unit (ledger (settings s x) h).units → IsUnit unit × (unit.inc ≡ number h)
open-unit s t x h unit w here =
    let l : Ledger = ledger (settings s x) h in
    let own = units-of (settings s x) h unit here in
    let inc : unit.inc ≡ number h = own.0 ∙ w.serves.1 in
    let count : length h ≤ length t = subst (λ (o : Option (List Event)). IfSome o (λ g. length g ≤ length t)) w.job (hist-count s t x) in
    let small : unit.serial ≤ l.begun = w.ledgers.small unit here in
    let begun : l.begun ≤ length h = begun-of (settings s x) h in (
      record {
        inc_least = omega (arith, inc, w.held.0);
        inc_most = omega (arith, inc, w.held.1);
        serial_least = own.1;
        serial_most = omega (arith, small, begun, count, w.few);
      },
      inc,
    )

-- a before-image has the bytes of a slot
image-size : (s : Scen) (t : List Entry) (l : Ledger) (unit : UnitId) (k : ℕ) (before : List ℕ) → IsInRanges s → InRanges s t
    → State s.settings.log (first_value s) (view s t) → Ledgers s.settings.log (log t) (view s t).start l → Last (first_value s) (view s t)
    → IsOpenUnit unit l.units → RecordDue s.settings.log (first_value s) (view s t) (Put unit k before) → length before ≡ 32
image-size s t l unit k before scen ranges state is last here due =
    let read = reads-value s t l unit k state is last here (ap (is_locked unit k) is.puts ∙ locked-free (log t) unit k ∙ due.2) in
    ap length (due.0 ∙ read) ∙ slot-size (value_after k (puts t unit) (book s t k)) (ranges.values unit k (book s t k)
    (book-value s t k (λ u o fits. ranges.values u k o fits) (scen.records k)))

-- at work
work-ranged : (s : Scen) (t : List Entry) (x : Site) (h : List Event) (slot : List ℕ) (rec : LogRec) (plan : Plan) → IsInRanges s → InRanges s t
    → State s.settings.log (first_value s) (view s t) → Working s t x h
    → record_of_plan plan slot ≡ Some rec → PlanRrn s.settings.file plan → PlanNamed (ledger (settings s x) h).units plan
    → RollLast (first_value s) (view s t) plan → RecordDue s.settings.log (first_value s) (view s t) rec
    → HandRanged s.settings.file (number h) (log t) true rec
work-ranged s t x h slot (Put unit rrn before) (plans.Put u k value place) scen ranges state w hand fits named last due =
    let parts = same-put u unit k rrn slot before hand in
    let here : IsOpenUnit unit (ledger (settings s x) h).units = subst (λ (q : UnitId). IsOpenUnit q (ledger (settings s x) h).units) parts.0 named in
    let own = open-unit s t x h unit w here in
    record {
      ranged = (
        own.0,
        record {
          rrn_least = omega (arith, parts.1, fits.0);
          rrn_most = omega (arith, parts.1, fits.1, scen.limits.file_most);
          size = image-size s t (ledger (settings s x) h) unit rrn before scen ranges state w.ledgers last here due;
        },
      );
      of = own.1;
      file_of = (omega (arith, parts.1, fits.0), omega (arith, parts.1, fits.1));
    }
work-ranged s t x h slot (Commit unit) (plans.Commit u place) scen ranges state w hand fits named last due =
    let own = open-unit s t x h unit w (subst (λ (q : UnitId). IsOpenUnit q (ledger (settings s x) h).units) (same-commit u unit hand) named) in
    record { ranged = own.0; of = own.1; file_of = tt }
work-ranged s t x h slot (Backout unit) (plans.Roll u place) scen ranges state w hand fits named last due =
    let own = open-unit s t x h unit w (subst (λ (q : UnitId). IsOpenUnit q (ledger (settings s x) h).units) (same-backout u unit hand) named) in
    record { ranged = own.0; of = own.1; file_of = tt }
work-ranged s t x h slot rec (plans.Get k) scen ranges state w hand fits named last due = absurd (cc)
work-ranged s t x h slot rec (plans.Answer a) scen ranges state w hand fits named last due = absurd (cc)
work-ranged s t x h slot (Commit unit) (plans.Put u k value place) scen ranges state w hand fits named last due = absurd (cc)
work-ranged s t x h slot (Commit unit) (plans.Roll u place) scen ranges state w hand fits named last due = absurd (cc)
work-ranged s t x h slot (Backout unit) (plans.Put u k value place) scen ranges state w hand fits named last due = absurd (cc)
work-ranged s t x h slot (Backout unit) (plans.Commit u place) scen ranges state w hand fits named last due = absurd (cc)
work-ranged s t x h slot (Put unit rrn before) (plans.Commit u place) scen ranges state w hand fits named last due = absurd (cc)
work-ranged s t x h slot (Put unit rrn before) (plans.Roll u place) scen ranges state w hand fits named last due = absurd (cc)

-- in a restart
restart-ranged : (s : Scen) (t : List Entry) (n : ℕ) (left : List UnitId) (rec : LogRec) → InRanges s t → record_of_restart left ≡ Some rec
    → RecordDue s.settings.log (first_value s) (view s t) rec → HandRanged s.settings.file n (log t) false rec
restart-ranged s t n [] rec ranges hand due = absurd (cc)
restart-ranged s t n (unit ∷ left) (Backout u) ranges hand due =
    let found = flight-unit u (log t) due.0 ranges.units in
    record { ranged = found.0; of = found.1; file_of = tt }
restart-ranged s t n (unit ∷ left) (Put u rrn before) ranges hand due = absurd (cc)
restart-ranged s t n (unit ∷ left) (Commit u) ranges hand due = absurd (cc)

-- the record at hand
pub hand-ranged : (s : Scen) (t : List Entry) (x : Site) (h : List Event) (rec : LogRec) → IsInRanges s → InRanges s t
    → State s.settings.log (first_value s) (view s t)
    → (is_restarted h ≡ true
    → Working s t x h × PlanNamed (ledger (settings s x) h).units (plan_of_job (settings s x) h)
    × RollLast (first_value s) (view s t) (plan_of_job (settings s x) h))
    → record_at_hand (settings s x) h ≡ Some rec → RecordDue s.settings.log (first_value s) (view s t) rec
    → HandRanged s.settings.file (number h) (log t) (is_restarted h) rec
hand-ranged s t x h rec scen ranges state at hand due = by (is_restarted h) refl
  where
    by : (b : Bool) → is_restarted h ≡ b → HandRanged s.settings.file (number h) (log t) b rec
    by true is =
        let here = at is in
        work-ranged s t x h (slot_read h) rec (plan_of_job (settings s x) h) scen ranges state here.0 (sym (plan-hand (settings s x) h is) ∙ hand)
        (rrn-of (settings s x) h) here.1 here.2 due
    by false is = restart-ranged s t (number h) (backouts_left (settings s x) h) rec ranges (restart-hand (settings s x) h rec is hand) due
