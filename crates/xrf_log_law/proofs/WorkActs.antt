-- A job at work, act by act.
use Rattle.std.proofs.Common.{Bool, None, Option, Some, false, refl, true, ◌≡◌, if◌then◌else◌, List, ℕ, subst, ◌∷◌, ap, arith, ◌==◌, ◌∙◌, IfSome, sym, ◌+◌}
use Rattle.std.proofs.lemmas.Grind.{common_steps}
use Rattle.xrf_base.specs.declared.items.ItemAnswer.TheVariants.{Done}
use Rattle.xrf_base.specs.declared.items.Item.{Item}
use Rattle.xrf_base.specs.declared.items.UnitId.{UnitId}
use Rattle.xrf_base.specs.declared.site.Site.{Site}
use Rattle.xrf_gated.specs.declared.gated.TheConstants.{OPEN}
use Rattle.xrf_logrec.specs.declared.records.LogRec.{LogRec}
use Rattle.xrf_logrec.specs.declared.records.LogRec.TheVariants.{Put, Commit, Backout}
use Rattle.xrf_file.specs.Ledger.{Ledger, after_end, closed, commit_plan, get_plan, is_bad_rrn, is_log_full, plan_of, planned, put_plan, roll_plan}
use Rattle.xrf_file.specs.Rows.{is_hot, is_locked, unit_named}
use Rattle.xrf_file.specs.declared.answers.Plan.{Plan}
use Rattle.xrf_file.specs.declared.rows.OpenUnit.{OpenUnit}
use Rattle.xrf_history.specs.Working.{after_record, rolled_left, ledger, last_plan, next_keypoint}
use Rattle.xrf_history.specs.Next.{record_of_plan, after_log_open, after_undo, if_working, inside, record_at_hand, slot_read}
use Rattle.xrf_history.specs.Events.{Event, Given, LogOpened, RecordUndone}
use Rattle.xrf_history.specs.declared.settings.Settings.{Settings}
use Rattle.xrf_history.specs.declared.want.Want.{Want}
use Rattle.xrf_history.specs.Restarting.{last_keypoint}
use Rattle.xrf_history.specs.Holding.{is_restarted}
use Rattle.xrf_trace.specs.Devices.{image, key_slot}
use Rattle.xrf_trace.specs.declared.entry.Act.{Act}
use Rattle.xrf_trace.specs.declared.entry.Entry.{Entry}
use Rattle.xrf_trace.specs.Scenario.{Scen, first_value, settings, item_at}
use Rattle.xrf_trace.specs.Jobs.{handed, item_event}
use Rattle.xrf_trace.specs.Words.{now, items_taken}
use Rattle.xrf_trace.specs.Acts.{act_of}
use Rattle.xrf_log_law.specs.AtWork.{IsOpenUnit, PlanNamed, Ledgers, NamedIn, LastIn, RollLast, Working, Last, LastAt, NamedAt}
use Rattle.xrf_log_law.proofs.DueOfItems.{named-open}
use Rattle.xrf_log_law.proofs.Tests.{choose_if, choose, no-clash}
use Rattle.xrf_log_law.proofs.LedgerSteps.{backout-ledger, commit-ledger, logged-ledger, planned-ledger, keyed-ledger}
use Rattle.xrf_log_law.specs.State.{State, View, after, view}
use Rattle.xrf_log_law.specs.Due.{UndoDue}
use Rattle.xrf_log_law.specs.BeforeImages.{covers}
use Rattle.xrf_log_law.proofs.LastValues.{roll-last, undo-last, item-last, close-last, look-last, open-last, read-last, write-last}
use Rattle.xrf_log_law.proofs.WorkInSequence.{roll-named, item-named, idle-in, close-named, look-named, read-named}
use Rattle.xrf_log_law.specs.Jobs.{Idle}
use Rattle.xrf_log_law.proofs.JobActs.{of-item}
use Rattle.xrf_log_law.proofs.IdleJobs.{act-idle}
use Rattle.xrf_log_law.proofs.DueInSequence.{plan-hand}
use Rattle.xrf_log_law.proofs.BeforeActs.{Before}
use Rattle.xrf_log_law.proofs.SameRecords.{same-backout, same-commit, same-put-unit}
use Rattle.xrf_base.specs.declared.items.Item.TheVariants as items
use Rattle.xrf_file.specs.declared.answers.Plan.TheVariants as plans
use Rattle.xrf_history.specs.declared.want.Want.TheVariants as want
use Rattle.xrf_trace.specs.declared.entry.Act.TheVariants as act
use Rattle.xrf_trace.specs.declared.entry.Land.TheVariants as land

-- the unit of a plan is open still once the item is planned
plan-named : (l : Ledger) (item : Item) → PlanNamed (planned l item).units (plan_of l item)
plan-named l (items.Put name rrn value) = by (unit_named name l.units) refl
  where
    by : (o : Option UnitId) → unit_named name l.units ≡ o → PlanNamed l.units (put_plan l o rrn value)
    by None e = tt
    by (Some unit) e =
        choose_if (PlanNamed l.units) (is_bad_rrn l rrn) _ _ (λ b. tt)
        (λ b. choose_if (PlanNamed l.units) (is_locked unit rrn l.puts) _ _ (λ c. tt)
        (λ c. choose_if (PlanNamed l.units) (is_log_full l unit) _ _ (λ d. tt) (λ d. named-open name l.units unit e)))
plan-named l (items.Get name rrn) = by (unit_named name l.units)
  where
    by : (o : Option UnitId) → PlanNamed l.units (get_plan l o rrn)
    by None = tt
    by (Some unit) =
        choose_if (PlanNamed l.units) (is_bad_rrn l rrn) _ _ (λ b. tt)
        (λ b. choose_if (PlanNamed l.units) (is_locked unit rrn l.puts) _ _ (λ c. tt) (λ c. tt))
plan-named l (items.Commit name) = by (unit_named name l.units) refl
  where
    hot : (unit : UnitId) (b : Bool) → IsOpenUnit unit l.units
        → PlanNamed (if b then l else closed l unit).units (if b then plans.Commit unit l.next else plans.Answer Done)
    hot unit true here = here
    hot unit false here = tt

    by : (o : Option UnitId) → unit_named name l.units ≡ o → PlanNamed (after_end l o).units (commit_plan l o)
    by None e = tt
    by (Some unit) e = hot unit (is_hot unit l.puts) (named-open name l.units unit e)
plan-named l (items.Roll name) = by (unit_named name l.units) refl
  where
    hot : (unit : UnitId) (b : Bool) → IsOpenUnit unit l.units
        → PlanNamed (if b then l else closed l unit).units (if b then plans.Roll unit l.next else plans.Answer Done)
    hot unit true here = here
    hot unit false here = tt

    by : (o : Option UnitId) → unit_named name l.units ≡ o → PlanNamed (after_end l o).units (roll_plan l o)
    by None e = tt
    by (Some unit) e = hot unit (is_hot unit l.puts) (named-open name l.units unit e)
plan-named l (items.Begin name) = tt
plan-named l _ = tt

-- the record of a plan joins the log
record-ledger : (size : ℕ) (log : List LogRec) (start : ℕ) (l : Ledger) (plan : Plan) (slot : List ℕ) (rec : LogRec)
    → record_of_plan plan slot ≡ Some rec → PlanNamed l.units plan → Ledgers size log start l
    → Ledgers size (rec ∷ log) start (after_record rec l)
record-ledger size log start l (plans.Put u k value place) slot (Put unit rrn before) hand named is =
    logged-ledger size log start l unit rrn before (subst (λ (w : UnitId). IsOpenUnit w l.units) (same-put-unit u unit k rrn slot before hand) named) is
record-ledger size log start l (plans.Put u k value place) slot (Commit unit) hand named is = absurd (cc)
record-ledger size log start l (plans.Put u k value place) slot (Backout unit) hand named is = absurd (cc)
record-ledger size log start l (plans.Commit u place) slot (Commit unit) hand named is =
    commit-ledger size log start l unit (subst (λ (w : UnitId). IsOpenUnit w l.units) (same-commit u unit hand) named) is
record-ledger size log start l (plans.Commit u place) slot (Put unit rrn before) hand named is = absurd (cc)
record-ledger size log start l (plans.Commit u place) slot (Backout unit) hand named is = absurd (cc)
record-ledger size log start l (plans.Roll u place) slot (Backout unit) hand named is =
    backout-ledger size log start l unit (subst (λ (w : UnitId). IsOpenUnit w l.units) (same-backout u unit hand) named) is
record-ledger size log start l (plans.Roll u place) slot (Put unit rrn before) hand named is = absurd (cc)
record-ledger size log start l (plans.Roll u place) slot (Commit unit) hand named is = absurd (cc)
record-ledger size log start l (plans.Answer a) slot rec hand named is = absurd (cc)
record-ledger size log start l (plans.Get k) slot rec hand named is = absurd (cc)

-- after a LOGOPEN no plan is to be named
open-named : (units : List OpenUnit) (plan : Plan) (rec : LogRec) → NamedIn units plan (after_log_open rec plan)
open-named units (plans.Put u k value place) (Put unit rrn before) = tt
open-named units (plans.Answer a) (Put unit rrn before) = tt
open-named units (plans.Get k) (Put unit rrn before) = tt
open-named units (plans.Commit u place) (Put unit rrn before) = tt
open-named units (plans.Roll u place) (Put unit rrn before) = tt
open-named units plan (Commit unit) = tt
open-named units plan (Backout unit) = tt

-- an UNDO of a job at work is one of a roll
undo-work : (p : Settings) (first : ℕ → Option (List ℕ)) (v : View) (h : List Event) (units : List OpenUnit) (rrn : ℕ) (own : List ℕ) (plan : Plan)
    → State p.limits.log first v
    → UndoDue p.limits.log first v (λ u. rolled_left p u h) plan rrn own → RollLast first v plan → PlanNamed units plan
    → LastIn first (after p.limits.log (act.Undo rrn own) land.Full v) plan (after_undo p (RecordUndone rrn own ∷ h) plan)
    × NamedIn units plan (after_undo p (RecordUndone rrn own ∷ h) plan)
undo-work p first v h units rrn own (plans.Roll unit place) state due last named = (
  roll-last first (after p.limits.log (act.Undo rrn own) land.Full v) p unit place (rolled_left p unit (RecordUndone rrn own ∷ h))
      (undo-last first p.limits.log v unit rrn own state (due.1.own rrn (head rrn own due.2.1)) last),
  roll-named units p unit place (rolled_left p unit (RecordUndone rrn own ∷ h)) named,
)
  where
    self : (k : ℕ) → (k == k) ≡ true
    self k = grind (arith, common_steps)

    head : (k : ℕ) (image : List ℕ) → rolled_left p unit h ≡ record { rrn = k; before = image } ∷ due.2.0 → covers k (rolled_left p unit h) ≡ true
    head k image is = ap (covers k) is ∙ rw (self k) refl
undo-work p first v h units rrn own (plans.Answer a) state due last named = absurd due
undo-work p first v h units rrn own (plans.Get k) state due last named = absurd due
undo-work p first v h units rrn own (plans.Put u k value place) state due last named = absurd due
undo-work p first v h units rrn own (plans.Commit u place) state due last named = absurd due

-- each act
abbrev pub Works : Scen → List Entry → Site → List Event → Act → Type 0
Works s t x h a = Working s.settings.log (first_value s) (after s.settings.log a land.Full (view s t)) (settings s x) (handed s t x (now t) h a ∷ h)

-- after an ITEM
pub given-works : (s : Scen) (t : List Entry) (x : Site) (h : List Event) (o : Option Item)
    → Working s.settings.log (first_value s) (view s t) (settings s x) h → Last (first_value s) (view s t)
    → Working s.settings.log (first_value s) (view s t) (settings s x) (item_event o ∷ h)
given-works s t x h None before last = before
given-works s t x h (Some item) before last = (
  planned-ledger s.settings.log (view s t).log (view s t).start (ledger (settings s x) h) item before.0,
  before.1,
  item-last (first_value s) (view s t) (settings s x) (Given item ∷ h) (plan_of (ledger (settings s x) h) item) last,
  item-named (planned (ledger (settings s x) h) item).units (settings s x) (Given item ∷ h) (plan_of (ledger (settings s x) h) item)
      (plan-named (ledger (settings s x) h) item),
)

-- the last values after a LOGOPEN at work
opened-last : (first : ℕ → Option (List ℕ)) (v : View) (plan : Plan) (rec : LogRec) (working : Bool) → working ≡ true
    → LastIn first v plan (after_log_open rec plan) → LastIn first v plan (if_working working (after_log_open rec plan))
opened-last first v plan rec true is last = last
opened-last first v plan rec false is last = absurd (cc)

-- no plan is to be named after a LOGOPEN at work
opened-named : (units : List OpenUnit) (plan : Plan) (rec : LogRec) (working : Bool) → NamedIn units plan (if_working working (after_log_open rec plan))
opened-named units plan rec true = open-named units plan rec
opened-named units plan rec false = tt

-- the last values after an UNDO at work
undone-last : (first : ℕ → Option (List ℕ)) (v : View) (units : List OpenUnit) (plan : Plan) (o : Option Want) (working : Bool) → working ≡ true
    → LastIn first v plan o × NamedIn units plan o
    → LastIn first v plan (if_working working o) × NamedIn units plan (if_working working o)
undone-last first v units plan o true is both = both
undone-last first v units plan o false is both = absurd (cc)

-- after an idle act
idle-works : (s : Scen) (t : List Entry) (x : Site) (h : List Event) (v : View) (now_h : List Event)
    → Ledgers s.settings.log v.log v.start (ledger (settings s x) now_h)
    → last_keypoint (settings s x) now_h ≡ record { number = v.number; start = v.start }
    → IfSome (inside (settings s x) now_h) Idle → Last (first_value s) v → Working s.settings.log (first_value s) v (settings s x) now_h
idle-works s t x h v now_h ledgers last_key idle last =
    let both = idle-in (first_value s) v (ledger (settings s x) now_h).units (last_plan (settings s x) now_h) (inside (settings s x) now_h) idle last in
    (ledgers, last_key, both.0, both.1)

-- after each act
pub work-after : (s : Scen) (t : List Entry) (x : Site) (h : List Event) (w : Want) → Before s t x h w → is_restarted h ≡ true
    → Working s.settings.log (first_value s) (view s t) (settings s x) h
    → LastAt (first_value s) (view s t) (last_plan (settings s x) h) w → NamedAt (ledger (settings s x) h).units (last_plan (settings s x) h) w
    → IfSome (act_of s t x h w) (Works s t x h)
work-after s t x h want.Nothing b working before last named = tt
work-after s t x h (want.Exit told) b working before last named = tt
work-after s t x h (want.LogRead n) b working before last named = no-clash (is_restarted h) working b.due.0
work-after s t x h want.Restarted b working before last named = no-clash (is_restarted h) working b.due.0
work-after s t x h (want.LogLook place) b working before last named = (
  before.0,
  before.1,
  look-last (first_value s) (view s t) (last_plan (settings s x) h) place _ (slot_read h) (record_at_hand (settings s x) h)
      (plan-hand (settings s x) h working) last,
  look-named (ledger (settings s x) h).units (last_plan (settings s x) h) place _ (record_at_hand (settings s x) h) named,
)
work-after s t x h (want.LogClose place) b working before last named = (
  before.0,
  before.1,
  close-last (first_value s) (after s.settings.log (act.LogClose place) land.Full (view s t)) (last_plan (settings s x) h) place (slot_read h)
      (record_at_hand (settings s x) h) (plan-hand (settings s x) h working) (moved (last_plan (settings s x) h) last),
  close-named (ledger (settings s x) h).units (last_plan (settings s x) h) place (record_at_hand (settings s x) h) named,
)
  where
    moved : (plan : Plan) → RollLast (first_value s) (view s t) plan
        → RollLast (first_value s) (after s.settings.log (act.LogClose place) land.Full (view s t)) plan
    moved (plans.Roll u n) last = last
    moved (plans.Answer a) last = last
    moved (plans.Get k) last = last
    moved (plans.Put u k value n) last = last
    moved (plans.Commit u n) last = last
work-after s t x h (want.LogBody place rec) b working before last named = (before.0, before.1, moved (last_plan (settings s x) h) last, named)
  where
    moved : (plan : Plan) → RollLast (first_value s) (view s t) plan
        → RollLast (first_value s) (after s.settings.log (act.LogBody place rec) land.Full (view s t)) plan
    moved (plans.Roll u n) last = last
    moved (plans.Answer a) last = last
    moved (plans.Get k) last = last
    moved (plans.Put u k value n) last = last
    moved (plans.Commit u n) last = last
work-after s t x h (want.LogOpen place rec) b working before last named =
    let hand : record_of_plan (last_plan (settings s x) h) (slot_read h) ≡ Some rec = sym (plan-hand (settings s x) h working) ∙ b.due.3 in (
      record-ledger s.settings.log (view s t).log (view s t).start (ledger (settings s x) h) (last_plan (settings s x) h) (slot_read h) rec hand named before.0,
      before.1,
      opened-last (first_value s) (after s.settings.log (act.LogOpen place rec) land.Full (view s t)) (last_plan (settings s x) h) rec (is_restarted h) working
          (moved (after_log_open rec (last_plan (settings s x) h))
          (open-last (first_value s) s.settings.log (view s t) (last_plan (settings s x) h) (slot_read h) rec b.state b.due.1 hand last)),
      opened-named (ledger (settings s x) (LogOpened place rec ∷ h)).units (last_plan (settings s x) h) rec (is_restarted h),
    )
  where
    by-roll : (plan : Plan) → RollLast (first_value s) (record (view s t) { log = rec ∷ (view s t).log }) plan
        → RollLast (first_value s) (after s.settings.log (act.LogOpen place rec) land.Full (view s t)) plan
    by-roll (plans.Roll u n) last = last
    by-roll (plans.Answer a) last = last
    by-roll (plans.Get k) last = last
    by-roll (plans.Put u k value n) last = last
    by-roll (plans.Commit u n) last = last

    moved : (o : Option Want) → LastIn (first_value s) (record (view s t) { log = rec ∷ (view s t).log }) (last_plan (settings s x) h) o
        → LastIn (first_value s) (after s.settings.log (act.LogOpen place rec) land.Full (view s t)) (last_plan (settings s x) h) o
    moved None last = last
    moved (Some (want.LogLook n)) last = by-roll (last_plan (settings s x) h) last
    moved (Some (want.LogClose n)) last = by-roll (last_plan (settings s x) h) last
    moved (Some (want.LogBody n r)) last = by-roll (last_plan (settings s x) h) last
    moved (Some (want.LogOpen n r)) last = by-roll (last_plan (settings s x) h) last
    moved (Some (want.Undo k own)) last = by-roll (last_plan (settings s x) h) last
    moved (Some (want.FileWrite u k value)) last = last
    moved (Some _) last = last
work-after s t x h (want.KpRead k) b working before last named =
    let both = choose (λ w. LastAt (first_value s) (view s t) (last_plan (settings s x) h) w
    × NamedAt (ledger (settings s x) h).units (last_plan (settings s x) h) w) ((key_slot t k).gate == OPEN) (want.KpClose k)
    (want.KpBody k (next_keypoint (settings s x) h)) (λ e. (last, tt)) (λ e. (last, tt)) in
    (before.0, before.1, both.0, both.1)
work-after s t x h (want.KpClose k) b working before last named = (before.0, before.1, last, tt)
work-after s t x h (want.KpBody k keypoint) b working before last named = (before.0, before.1, last, tt)
work-after s t x h (want.KpOpen k keypoint) b working before last named =
    (keyed-ledger s.settings.log (view s t).log (view s t).start keypoint.start (ledger (settings s x) h) before.0, refl, last, tt)
work-after s t x h (want.FileRead rrn) b working before last named = (
  before.0,
  before.1,
  read-last (first_value s) (view s t) (settings s x) (last_plan (settings s x) h) (image s t rrn) last,
  read-named (ledger (settings s x) h).units (settings s x) (last_plan (settings s x) h) (image s t rrn) named,
)
work-after s t x h (want.FileWrite unit k value) b working before last named =
    (before.0, before.1, write-last (first_value s) s.settings.log (view s t) unit k value b.state b.due.0 b.due.1 last, tt)
work-after s t x h (want.Undo rrn own) b working before last named =
    let both = undone-last (first_value s) (after s.settings.log (act.Undo rrn own) land.Full (view s t)) (ledger (settings s x) h).units
    (last_plan (settings s x) h) (after_undo (settings s x) (RecordUndone rrn own ∷ h) (last_plan (settings s x) h)) (is_restarted h) working
    (undo-work (settings s x) (first_value s) (view s t) h (ledger (settings s x) h).units rrn own (last_plan (settings s x) h) b.state
    (b.due.2 working) last named) in
    (before.0, before.1, both.0, both.1)
work-after s t x h want.Item b working before last named = of-item s t x (Works s t x h) (given-works s t x h (item_at s x (items_taken t x + 1)) before last)
work-after s t x h want.Reserve b working before last named =
    idle-works s t x h (view s t) (handed s t x (now t) h act.Reserve ∷ h) before.0 before.1 (act-idle s t x h want.Reserve refl) last
work-after s t x h want.CtlRead b working before last named =
    idle-works s t x h (view s t) (handed s t x (now t) h act.CtlRead ∷ h) before.0 before.1 (act-idle s t x h want.CtlRead refl) last
work-after s t x h (want.CtlWrite written) b working before last named = (before.0, before.1, last, tt)
work-after s t x h want.Release b working before last named =
    idle-works s t x h (view s t) (handed s t x (now t) h act.Release ∷ h) before.0 before.1 (act-idle s t x h want.Release refl) last
work-after s t x h (want.MsgRead k) b working before last named =
    idle-works s t x h (view s t) (handed s t x (now t) h (act.MsgRead k) ∷ h) before.0 before.1 (act-idle s t x h (want.MsgRead k) refl) last
work-after s t x h (want.MsgClose k) b working before last named =
    idle-works s t x h (view s t) (handed s t x (now t) h (act.MsgClose k) ∷ h) before.0 before.1 (act-idle s t x h (want.MsgClose k) refl) last
work-after s t x h _ b working before last named = (before.0, before.1, last, tt)
