-- Closed units stay closed: no Put and no Commit of one is logged, so it stays as it is in every later log.
use Rattle.std.proofs.Common.{◌+◌, Bool, IfSome, List, None, Option, Some, ap, arith, false, if◌then◌else◌, refl, subst, sym, true, ◌++◌, ◌||◌, ◌≡◌, ◌≤◌, ◌∙◌, ◌∷◌, [], ℕ}
use Rattle.std.specs.List.{list_any}
use Rattle.xrf_base.specs.declared.site.Site.{Site}
use Rattle.xrf_base.specs.declared.items.Item.{Item}
use Rattle.xrf_base.specs.declared.items.UnitId.{UnitId}
use Rattle.xrf_ctl.specs.Control.{ControlRecord}
use Rattle.xrf_logrec.specs.LogRecords.{same_unit, unit_of}
use Rattle.xrf_logrec.specs.declared.records.LogRec.{LogRec}
use Rattle.xrf_logrec.specs.declared.records.LogRec.TheVariants.{Backout, Commit, Put}
use Rattle.xrf_file.specs.declared.answers.Plan.{Plan}
use Rattle.xrf_file.specs.declared.rows.OpenUnit.{OpenUnit}
use Rattle.xrf_history.specs.Events.{Event, ActFailed}
use Rattle.xrf_history.specs.declared.settings.Settings.{Settings}
use Rattle.xrf_history.specs.declared.want.Want.{Want}
use Rattle.xrf_history.specs.Holding.{is_granted, is_restarted, number}
use Rattle.xrf_history.specs.Next.{record_of_plan, slot_read}
use Rattle.xrf_history.specs.Restarting.{backouts_left, has_read_block}
use Rattle.xrf_history.specs.Working.{last_plan, ledger}
use Rattle.xrf_trace.specs.declared.entry.Act.{Act}
use Rattle.xrf_trace.specs.declared.entry.Entry.{Entry}
use Rattle.xrf_trace.specs.declared.entry.Land.{Land}
use Rattle.xrf_trace.specs.Acts.{act_of}
use Rattle.xrf_trace.specs.Devices.{control, control_after, written_if}
use Rattle.xrf_trace.specs.Entries.{entry, inc_at}
use Rattle.xrf_trace.specs.Jobs.{block_event, handed, hist, item_event}
use Rattle.xrf_trace.specs.Landing.{lands, opens}
use Rattle.xrf_trace.specs.Log.{committed, is_committed, log, log_after}
use Rattle.xrf_trace.specs.Scenario.{Scen, item_at, other, settings}
use Rattle.xrf_trace.specs.UnitsAreItems.{has_put, is_backout}
use Rattle.xrf_trace.specs.Words.{items_taken, now}
use Rattle.xrf_trace.proofs.ByKind.{Kinds, by_kind, is_quiet}
use Rattle.xrf_trace.proofs.Steps.{Step}
use Rattle.xrf_log_law.specs.ClosedUnits.{IsClosed, IsShut, ShutFor}
use Rattle.xrf_log_law.specs.AtWork.{IsOpenUnit, PlanNamed}
use Rattle.xrf_log_law.proofs.AskedLaw.{restart-backout}
use Rattle.xrf_log_law.proofs.BeforeActs.{Before, last-rises}
use Rattle.xrf_log_law.proofs.JobActs.{of-item, restart-hand}
use Rattle.xrf_log_law.proofs.AnswersLaw.{work-granted}
use Rattle.xrf_log_law.proofs.ReadsLaw.{AtWork, at-work}
use Rattle.xrf_log_law.proofs.OwnRanges.{units-of}
use Rattle.xrf_log_law.proofs.DueInSequence.{plan-hand}
use Rattle.xrf_log_law.proofs.ShutUnits.{shut-planned, shut-recorded}
use Rattle.xrf_log_law.proofs.SitesAfter.{OwnAfter, unless-gone, own-after, own-other, quiet-after, quiet-other, sites-after, tick-after}
use Rattle.xrf_log_law.proofs.InvariantActs.{before-next}
use Rattle.xrf_log_law.proofs.EndsInLog.{any-last}
use Rattle.xrf_log_law.specs.Invariant.{Invariant}
use Rattle.xrf_log_law.proofs.Tests.{no-clash, or-of-false}
use Rattle.xrf_log_law.proofs.SameRecords.{same-record}
use Rattle.xrf_logrec.proofs.LogLaws.{same_unit-true}
use Rattle.xrf_base.specs.declared.site.Site.TheVariants as site
use Rattle.xrf_file.specs.declared.answers.Plan.TheVariants as plans
use Rattle.xrf_setup.specs.declared.choice.Choice.TheVariants as choice
use Rattle.xrf_history.specs.declared.want.Want.TheVariants as want
use Rattle.xrf_trace.specs.declared.entry.Act.TheVariants as act
use Rattle.xrf_trace.specs.declared.entry.Land.TheVariants as land

-- a unit that is shut in a job stays so, after each act
abbrev ShutAfter : Scen → List Entry → Site → UnitId → List Event → Act → Type 0
ShutAfter s t x unit h a = ShutFor (settings s x) unit (handed s t x (now t) h a ∷ h)

-- after each act of the job
shut-act : (s : Scen) (t : List Entry) (x : Site) (unit : UnitId) (h : List Event) (w : Want) → Before s t x h w → unit.inc ≤ (control t).last
    → ShutFor (settings s x) unit h → IfSome (act_of s t x h w) (ShutAfter s t x unit h)
shut-act s t x unit h want.Nothing b used shut = tt
shut-act s t x unit h (want.Exit told) b used shut = tt
shut-act s t x unit h (want.CtlWrite written) b used shut = λ granted same. by (is_granted h) refl same
  where
    by : (held : Bool) → is_granted h ≡ held → (if held then number h else written.last) ≡ unit.inc
        → (is_restarted h ≡ true) × IsShut (ledger (settings s x) h) unit
    by true is same = shut is same
    by false is same = let above = (b.writes written refl).last_of_grant is in absurd (omega (arith, used, above, same))
shut-act s t x unit h (want.LogRead n) b used shut = by (has_read_block h)
  where
    by : (has : Bool) → ShutFor (settings s x) unit (block_event s t n has ∷ h)
    by true = shut
    by false = shut
shut-act s t x unit h (want.LogOpen place rec) b used shut = λ granted same.
    (let is = shut granted same in (is.0, shut-recorded rec (ledger (settings s x) h) unit is.1))
shut-act s t x unit h (want.KpOpen k keypoint) b used shut = λ granted same.
    (let is = shut granted same in (is.0, record { begun = is.1.begun; shut = is.1.shut }))
shut-act s t x unit h want.Restarted b used shut = λ granted same. no-clash (is_restarted h) (shut granted same).0 b.due.0
shut-act s t x unit h want.Item b used shut = of-item s t x (ShutAfter s t x unit h) (by (item_at s x (items_taken t x + 1)))
  where
    by : (o : Option Item) → ShutFor (settings s x) unit (item_event o ∷ h)
    by None = shut
    by (Some item) = λ granted same. (let is = shut granted same in (is.0, shut-planned (ledger (settings s x) h) item unit is.1))
shut-act s t x unit h _ b used shut = shut

-- and where its act failed
shut-failed : (p : Settings) (unit : UnitId) (h : List Event) (w : Want) (at : ℕ) → ShutFor p unit h → ShutFor p unit (ActFailed w at ∷ h)
shut-failed p unit h (want.LogOpen place rec) at shut = λ granted same. (let is = shut granted same in (is.0, shut-recorded rec (ledger p h) unit is.1))
shut-failed p unit h (want.KpOpen k keypoint) at shut = λ granted same. (let is = shut granted same in (is.0, record { begun = is.1.begun; shut = is.1.shut }))
shut-failed p unit h _ at shut = shut

-- and where a choice reaches it
shut-quiet : (s : Scen) (t : List Entry) (x : Site) (unit : UnitId) (a : Act) (job : Option (List Event)) → is_quiet a ≡ true
    → IfSome job (ShutFor (settings s x) unit)
    → IfSome job (λ h. ShutAfter s t x unit h a)
shut-quiet s t x unit a None quiet shut = tt
shut-quiet s t x unit act.Abend (Some h) quiet shut = shut
shut-quiet s t x unit (act.Reply go) (Some h) quiet shut = shut
shut-quiet s t x unit (act.Cebt command reply) (Some h) quiet shut = shut
shut-quiet s t x unit (act.Exit said) (Some h) quiet shut = shut
shut-quiet s t x unit act.NoAct (Some h) quiet shut = shut
shut-quiet s t x unit _ (Some h) quiet shut = absurd (cc)

-- the last number never falls
pub last-after : (s : Scen) (t : List Entry) (x : Site) (h : List Event) (w : Want) (l : Land) → Before s t x h w
    → IfSome (act_of s t x h w) (λ a. (control t).last ≤ (control_after a l (control t)).last)
last-after s t x h want.Nothing l b = tt
last-after s t x h (want.Exit told) l b = tt
last-after s t x h want.Item l b = of-item s t x (λ a. (control t).last ≤ (control_after a l (control t)).last) (omega arith)
last-after s t x h (want.CtlWrite written) l b = by (lands l)
  where
    by : (b : Bool) → (control t).last ≤ (written_if b written (control t)).last
    by true = omega (arith, last-rises s t x h written (b.writes written refl))
    by false = omega arith
last-after s t x h _ l b = omega arith

-- a choice that reaches a job writes no control record
quiet-control : (t : List Entry) (a : Act) (l : Land) → is_quiet a ≡ true → control_after a l (control t) ≡ control t
quiet-control t (act.CtlWrite written) l quiet = absurd (cc)
quiet-control t _ l quiet = refl

-- so a closed unit is closed after each entry
abbrev StaysClosed : Scen → List Entry → Entry → Type 0
StaysClosed s t e = (unit : UnitId) → IsClosed s t unit → IsClosed s (e ∷ t) unit

-- of each kind of entry
closed-kinds : (s : Scen) (t : List Entry) → Invariant s t → Kinds s t (λ e. StaysClosed s t e)
closed-kinds s t k = record {
  tick = λ unit closed. record { used = closed.used; jobs = tick unit closed };
  confirm = λ n unit closed. record { used = closed.used; jobs = confirm n unit closed };
  acts = λ x h a l job is fits may unit closed.
      (let b = before-next s t x h k job in
      let shut : ShutFor (settings s x) unit h = subst (λ (o : Option (List Event)). IfSome o (ShutFor (settings s x) unit)) job (closed.jobs x) in
      let after : ShutAfter s t x unit h a = subst (λ (o : Option Act). IfSome o (ShutAfter s t x unit h)) is (shut-act s t x unit h _ b closed.used shut) in
      let last : (control t).last ≤ (control_after a l (control t)).last = subst
      (λ (o : Option Act). IfSome o (λ c. (control t).last ≤ (control_after c l (control t)).last)) is (last-after s t x h _ l b) in
      record {
        used = omega (arith, closed.used, last);
        jobs = sites-after s t x (inc_at a (Some h)) a l (λ y. ShutFor (settings s y) unit)
            (subst (λ (o : Option (List Event)). OwnAfter s t x a l o (ShutFor (settings s x) unit)) (sym job)
            (own-after s t x h a l (ShutFor (settings s x) unit) is may (unless-gone a (ShutAfter s t x unit h a) after)
            (shut-failed (settings s x) unit h _ (now t) shut)))
            (own-other s t x h a (hist s t (other x)) is) (closed.jobs (other x));
      });
  quiet = λ x i a quiet unit closed. record {
    used = subst (λ (c : ControlRecord). unit.inc ≤ c.last) (sym (quiet-control t a land.Full quiet)) closed.used;
    jobs = sites-after s t x i a land.Full (λ y. ShutFor (settings s y) unit)
        (quiet-after s t x a (hist s t x) (ShutFor (settings s x) unit) quiet (shut-quiet s t x unit a (hist s t x) quiet (closed.jobs x)))
        (quiet-other a (hist s t (other x)) quiet) (closed.jobs (other x));
  };
  stop =
      λ x i cut unit closed. record {
        used = closed.used;
        jobs = sites-after s t x i act.NoAct (land.Stop cut)
            (λ y. ShutFor (settings s y) unit) tt refl (closed.jobs (other x));
      };
  active = λ x unit closed. record {
    used = closed.used;
    jobs = sites-after s t x 0 act.StartActive land.Full (λ y. ShutFor (settings s y) unit) (λ granted. absurd (cc)) refl (closed.jobs (other x));
  };
  standby = λ x unit closed. record {
    used = closed.used;
    jobs = sites-after s t x 0 act.StartStandby land.Full (λ y. ShutFor (settings s y) unit) (λ granted. absurd (cc)) refl (closed.jobs (other x));
  };
}
  where
    tick : (unit : UnitId) → IsClosed s t unit → (y : Site) → IfSome (hist s (entry s t choice.Tick ∷ t) y) (ShutFor (settings s y) unit)
    tick unit closed site.A = tick-after (hist s t site.A) (ShutFor (settings s site.A) unit) (closed.jobs site.A)
    tick unit closed site.B = tick-after (hist s t site.B) (ShutFor (settings s site.B) unit) (closed.jobs site.B)

    confirm : (n : ℕ) (unit : UnitId) → IsClosed s t unit → (y : Site) → IfSome (hist s (entry s t (choice.Confirm n) ∷ t) y) (ShutFor (settings s y) unit)
    confirm n unit closed site.A = closed.jobs site.A
    confirm n unit closed site.B = closed.jobs site.B

-- after each entry
pub stays-closed : (s : Scen) (t : List Entry) (e : Entry) → Invariant s t → Step s t e → StaysClosed s t e
stays-closed s t e k step = by_kind s t e (λ e. StaysClosed s t e) step (closed-kinds s t k)

-- the unit of the record of a plan is open
named-unit : (units : List OpenUnit) (plan : Plan) (slot : List ℕ) (rec : LogRec) → record_of_plan plan slot ≡ Some rec → PlanNamed units plan
    → IsOpenUnit (unit_of rec) units
named-unit units (plans.Put u k value place) slot rec hand named =
    subst (λ (o : LogRec). IsOpenUnit (unit_of o) units) (same-record (Put u k slot) rec hand) named
named-unit units (plans.Commit u place) slot rec hand named = subst (λ (o : LogRec). IsOpenUnit (unit_of o) units) (same-record (Commit u) rec hand) named
named-unit units (plans.Roll u place) slot rec hand named = subst (λ (o : LogRec). IsOpenUnit (unit_of o) units) (same-record (Backout u) rec hand) named
named-unit units (plans.Get k) slot rec hand named = absurd (cc)
named-unit units (plans.Answer a) slot rec hand named = absurd (cc)

-- what is logged is a Backout of a restart, or of another unit
logged-other : (s : Scen) (t : List Entry) (x : Site) (h : List Event) (place : ℕ) (rec : LogRec) (unit : UnitId) → Before s t x h (want.LogOpen place rec)
    → ShutFor (settings s x) unit h → (restarted : Bool) → is_restarted h ≡ restarted → is_backout rec ≡ false → same_unit unit (unit_of rec) ≡ false
logged-other s t x h place rec unit b shut true is put = by (same_unit unit (unit_of rec)) refl
  where
    at : AtWork s t x h (want.LogOpen place rec)
    at = at-work s t x h (want.LogOpen place rec) b refl is

    here : IsOpenUnit (unit_of rec) (ledger (settings s x) h).units
    here =
        named-unit (ledger (settings s x) h).units (last_plan (settings s x) h) (slot_read h) rec (sym (plan-hand (settings s x) h is) ∙ b.due.3)
        (b.named at.there at.sound is)

    by : (same : Bool) → same_unit unit (unit_of rec) ≡ same → same ≡ false
    by true e =
        let unit_is : unit ≡ unit_of rec = same_unit-true unit (unit_of rec) e in
        let own : number h ≡ unit.inc = sym ((units-of (settings s x) h (unit_of rec) here).0 ∙ at.serves.1) ∙ sym (ap (λ (u : UnitId). u.inc) unit_is) in
        absurd ((shut (work-granted h at.there) own).1.shut (subst (λ (u : UnitId). IsOpenUnit u (ledger (settings s x) h).units) (sym unit_is) here))
    by false e = refl
logged-other s t x h place rec unit b shut false is put =
    no-clash (is_backout rec) (restart-backout (backouts_left (settings s x) h) rec (restart-hand (settings s x) h rec is b.due.3)) put

-- so the unit stays as it is in the log
pub record KeepsUnit (before later : List LogRec) (unit : UnitId) : Type 0 where
  pub put : has_put later unit ≡ has_put before unit
  pub committed : is_committed later unit ≡ is_committed before unit

-- a Backout keeps each unit as it is, and so does a record of another unit
record-keeps : (rec : LogRec) (records : List LogRec) (unit : UnitId) → (is_backout rec ≡ false → same_unit unit (unit_of rec) ≡ false)
    → KeepsUnit records (rec ∷ records) unit
record-keeps (Put u rrn before) records unit differs = record { put = ap (λ (b : Bool). b || has_put records unit) (differs refl); committed = refl }
record-keeps (Commit u) records unit differs = record { put = refl; committed = by (list_any (same_unit u) (committed records)) }
  where
    by : (b : Bool) → list_any (same_unit unit) (if b then committed records else committed records ++ u ∷ []) ≡ is_committed records unit
    by true = refl
    by false = any-last unit u (committed records) ∙ or-of-false (is_committed records unit) (same_unit unit u) (differs refl)
record-keeps (Backout u) records unit differs = record { put = refl; committed = refl }

-- each act of a job keeps a unit that it has shut
log-keeps : (s : Scen) (t : List Entry) (x : Site) (h : List Event) (l : Land) (w : Want) (unit : UnitId) → Before s t x h w → ShutFor (settings s x) unit h
    → IfSome (act_of s t x h w) (λ a. KeepsUnit (log t) (log_after a l (log t)) unit)
log-keeps s t x h l (want.LogOpen place rec) unit b shut = by (opens l)
  where
    by : (opened : Bool) → KeepsUnit (log t) (if opened then rec ∷ log t else log t) unit
    by true = record-keeps rec (log t) unit (logged-other s t x h place rec unit b shut (is_restarted h) refl)
    by false = record { put = refl; committed = refl }
log-keeps s t x h l want.Nothing unit b shut = tt
log-keeps s t x h l (want.Exit told) unit b shut = tt
log-keeps s t x h l want.Item unit b shut = of-item s t x (λ a. KeepsUnit (log t) (log_after a l (log t)) unit) (record { put = refl; committed = refl })
log-keeps s t x h l _ unit b shut = record { put = refl; committed = refl }

-- a choice that reaches a job logs nothing
quiet-log : (a : Act) (l : Land) (records : List LogRec) → is_quiet a ≡ true → log_after a l records ≡ records
quiet-log (act.LogOpen place rec) l records quiet = absurd (cc)
quiet-log _ l records quiet = refl

-- an entry keeps each closed unit as it is
abbrev Keeps : Scen → List Entry → Entry → Type 0
Keeps s t e = (unit : UnitId) → IsClosed s t unit → KeepsUnit (log t) (log (e ∷ t)) unit

-- of each kind of entry
keeps-kinds : (s : Scen) (t : List Entry) → Invariant s t → Kinds s t (λ e. Keeps s t e)
keeps-kinds s t k = record {
  tick = λ unit closed. record { put = refl; committed = refl };
  confirm = λ n unit closed. record { put = refl; committed = refl };
  acts = λ x h a l job is fits may unit closed.
      (let b = before-next s t x h k job in
      let shut : ShutFor (settings s x) unit h = subst (λ (o : Option (List Event)). IfSome o (ShutFor (settings s x) unit)) job (closed.jobs x) in
      subst (λ (o : Option Act). IfSome o (λ c. KeepsUnit (log t) (log_after c l (log t)) unit)) is (log-keeps s t x h l _ unit b shut));
  quiet =
      λ x i a quiet unit closed. subst (λ (later : List LogRec). KeepsUnit (log t) later unit) (sym (quiet-log a land.Full (log t) quiet))
      (record { put = refl; committed = refl });
  stop = λ x i cut unit closed. record { put = refl; committed = refl };
  active = λ x unit closed. record { put = refl; committed = refl };
  standby = λ x unit closed. record { put = refl; committed = refl };
}

-- of each entry
pub keeps : (s : Scen) (t : List Entry) (e : Entry) → Invariant s t → Step s t e → Keeps s t e
keeps s t e k step = by_kind s t e (λ e. Keeps s t e) step (keeps-kinds s t k)
