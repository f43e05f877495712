-- The acts of an item, from its ITEM to its answer.
use Rattle.std.proofs.Common.{◌==◌, ◌≡◌, ℕ, zero, suc, ◌%◌, ◌+◌, ◌≤◌, ◌||◌, nat_le, Bool, true, false, ◌⊎◌, inl, inr, List, [], ◌∷◌, length, drop, Some, None, is_some, refl, ap, ◌∙◌, arith}
use Rattle.std.proofs.lemmas.Grind.{common_steps}
use Rattle.xrf_base.specs.declared.site.Site.{Site}
use Rattle.xrf_base.specs.declared.items.Item.{Item}
use Rattle.xrf_base.specs.declared.items.UnitId.{UnitId}
use Rattle.xrf_gated.specs.declared.gated.TheConstants.{OPEN}
use Rattle.xrf_logrec.specs.declared.records.LogRec.{LogRec}
use Rattle.xrf_logrec.specs.declared.records.LogRec.TheVariants.{Put, Commit, Backout}
use Rattle.xrf_logrec.specs.declared.records.Undo.{Undo}
use Rattle.xrf_file.specs.declared.answers.Plan.{Plan}
use Rattle.xrf_file.specs.declared.answers.Plan.TheVariants as plans
use Rattle.xrf_file.specs.Ledger.{undo_rows, plan_of}
use Rattle.xrf_base.specs.declared.items.Item.TheVariants as items
use Rattle.xrf_history.specs.declared.settings.Settings.{Settings}
use Rattle.xrf_history.specs.declared.want.Want.TheVariants as want
use Rattle.xrf_history.specs.Events.{Event, Given, RecordRead, RecordUndone, LogLooked, LogOpened}
use Rattle.xrf_history.specs.Holding.{is_restarted}
use Rattle.xrf_history.specs.Rows.{log_write}
use Rattle.xrf_history.specs.Next.{inside, next, after_gate, after_log_look, after_log_close, after_log_open, after_file_read, after_undo, after_item, if_working, record_at_hand, record_of_plan, record_of_restart, slot_read, roll_next}
use Rattle.xrf_history.specs.Restarting.{backouts_left}
use Rattle.xrf_history.proofs.Tests.{or-left, or-right}
use Rattle.xrf_history.specs.Working.{last_plan, rolled_left, undone_of_item, ledger, answer_at_once, answer_of_plan, answer_of_read, answer_of_record}
use Rattle.xrf_history.proofs.Histories.{IsHistory}
use Rattle.xrf_history.proofs.ItemsTaken.{item-restarted}
use Rattle.xrf_history.proofs.PhaseLaws.{next-inside}
use Rattle.xrf_trace.specs.declared.entry.Entry.{Entry}
use Rattle.xrf_trace.specs.declared.entry.Act.{Act}
use Rattle.xrf_trace.specs.declared.entry.Act.TheVariants as act
use Rattle.xrf_trace.specs.Scenario.{Scen, settings}
use Rattle.xrf_trace.specs.Words.{now}
use Rattle.xrf_trace.specs.Devices.{image, log_slot}
use Rattle.xrf_trace.specs.Jobs.{handed}
use Rattle.xrf_trace.specs.Acts.{act_of}
use Rattle.xrf_trace.proofs.Paths.{history-at}
use Rattle.xrf_progress.specs.Serving.{was_so}
use Rattle.xrf_progress.specs.Working.{answers, acts_of_plan, ItemsAreAnswered}
use Rattle.xrf_progress.proofs.Busy.{At, Leaves, comes-to}
use Rattle.xrf_progress.proofs.Coming.{run-before}
use Rattle.xrf_progress.proofs.Entries.{is_ended}

-- what is left after a record of the log: of a put the write of the file
abbrev after_left : LogRec → ℕ
after_left (Put unit rrn before) = 1
after_left _ = 0

-- the record is one of its plan
abbrev IsOfPlan : Settings → List Event → LogRec → Type 0
IsOfPlan p h rec = record_of_plan (last_plan p h) (slot_read h) ≡ Some rec

-- where the job stands between its ITEM and the answer, with so many acts left
data AtItem (p : Settings) (left : ℕ) (h : List Event) : Type 0 where
  Reads : is_restarted h ≡ true → (rrn : ℕ) → inside p h ≡ Some (want.FileRead rrn) → last_plan p h ≡ plans.Get rrn → 1 ≤ left → AtItem p left h
  ReadsFirst : is_restarted h ≡ true → (unit : UnitId) → (rrn : ℕ) → (value : List ℕ) → (place : ℕ) → inside p h ≡ Some (want.FileRead rrn)
      → last_plan p h ≡ plans.Put unit rrn value place → 6 ≤ left → AtItem p left h
  Looks : is_restarted h ≡ true → (place : ℕ) → (rec : LogRec) → inside p h ≡ Some (want.LogLook place) → IsOfPlan p h rec → 4 + after_left rec ≤ left → AtItem p left h
  Closes : is_restarted h ≡ true → (place : ℕ) → (rec : LogRec) → inside p h ≡ Some (want.LogClose place) → IsOfPlan p h rec → 3 + after_left rec ≤ left → AtItem p left h
  Bodies : is_restarted h ≡ true → (place : ℕ) → (rec : LogRec) → inside p h ≡ Some (want.LogBody place rec) → IsOfPlan p h rec → 2 + after_left rec ≤ left → AtItem p left h
  Opens : is_restarted h ≡ true → (place : ℕ) → (rec : LogRec) → inside p h ≡ Some (want.LogOpen place rec) → IsOfPlan p h rec → 1 + after_left rec ≤ left → AtItem p left h
  Writes : (unit : UnitId) → (rrn : ℕ) → (value : List ℕ) → inside p h ≡ Some (want.FileWrite unit rrn value) → 1 ≤ left → AtItem p left h
  Undoes : is_restarted h ≡ true → (unit : UnitId) → (place : ℕ) → (row : Undo) → (rows : List Undo) → inside p h ≡ Some (want.Undo row.rrn row.before)
      → last_plan p h ≡ plans.Roll unit place → rolled_left p unit h ≡ row ∷ rows → length rows + 5 ≤ left → AtItem p left h

-- a record of the log is written next
log-at : (p : Settings) (h : List Event) (place : ℕ) (rec : LogRec) (left : ℕ) → is_restarted h ≡ true → inside p h ≡ Some (log_write p place rec) → IsOfPlan p h rec
    → 4 + after_left rec ≤ left → AtItem p left h
log-at p h place rec left working at of_plan few = by (nat_le p.limits.log place) refl
  where
    by : (b : Bool) → nat_le p.limits.log place ≡ b → AtItem p left h
    by true old =
        Looks working place rec (at ∙ ap (λ (c : Bool). Some (elim c [ true ↦ want.LogLook place | false ↦ want.LogBody place rec ])) old) of_plan few
    by false old =
        Bodies working place rec (at ∙ ap (λ (c : Bool). Some (elim c [ true ↦ want.LogLook place | false ↦ want.LogBody place rec ])) old) of_plan
        (omega (arith, few))

-- the record at hand is that of the plan
at-hand : (p : Settings) (h : List Event) (rec : LogRec) → is_restarted h ≡ true → IsOfPlan p h rec → record_at_hand p h ≡ Some rec
at-hand p h rec working of_plan =
    ap (λ (b : Bool). elim b [ true ↦ record_of_plan (last_plan p h) (slot_read h) | false ↦ record_of_restart (backouts_left p h) ]) working ∙ of_plan

-- a put is the record of the plan of a PUT alone
put-plan : (plan : Plan) (slot : List ℕ) (unit : UnitId) (rrn : ℕ) (before : List ℕ) → record_of_plan plan slot ≡ Some (Put unit rrn before)
    → (u : UnitId) × (k : ℕ) × (value : List ℕ) × (place : ℕ) × (plan ≡ plans.Put u k value place)
put-plan (plans.Put u k value place) slot unit rrn before is = (u, k, value, place, refl)
put-plan (plans.Answer answer) slot unit rrn before is = absurd (cc)
put-plan (plans.Get k) slot unit rrn before is = absurd (cc)
put-plan (plans.Commit u place) slot unit rrn before is = absurd (cc)
put-plan (plans.Roll u place) slot unit rrn before is = absurd (cc)

-- one row less
drop-more : (k : ℕ) (l rows : List Undo) (row : Undo) → drop k l ≡ row ∷ rows → drop (k + 1) l ≡ rows
drop-more zero [] rows row is = absurd (cc)
drop-more zero (r ∷ l) rows row is = grind (arith, common_steps)
drop-more (suc k) [] rows row is = absurd (cc)
drop-more (suc k) (r ∷ l) rows row is = let e : suc k + 1 ≡ suc (k + 1) = omega arith in ap (λ (n : ℕ). drop n (r ∷ l)) e ∙ drop-more k l rows row is

-- the acts of a ROLL: its rows, and then its Backout
roll-at : (p : Settings) (h : List Event) (unit : UnitId) (place : ℕ) (rows : List Undo) (left : ℕ) → is_restarted h ≡ true
    → inside p h ≡ Some (roll_next p unit place rows) → last_plan p h ≡ plans.Roll unit place → rolled_left p unit h ≡ rows → length rows + 4 ≤ left
    → AtItem p left h
roll-at p h unit place [] left working at plan rolled few =
    log-at p h place (Backout unit) left working at (ap (λ (q : Plan). record_of_plan q (slot_read h)) plan) (omega (arith, few))
roll-at p h unit place (row ∷ rows) left working at plan rolled few = Undoes working unit place row rows at plan rolled (omega (arith, few))

-- such a place, in whatever trace
abbrev AtItemOf : Settings → At
AtItemOf p t left h = AtItem p left h

-- a place that is led to
abbrev LeadsTo : Settings → (left : ℕ) → (made : Event) → List Event → Type 0
LeadsTo p left made h = (after : ℕ) × AtItem p after (made ∷ h) × (after + 1 ≤ left)

-- the next act and what it comes to
abbrev Goes : Scen → List Entry → Site → (left : ℕ) → List Event → Type 0
Goes s t x left h =
    (a : Act) × (act_of s t x h (next (settings s x) h) ≡ Some a) × (is_ended a ≡ false) × (1 ≤ left)
    × ((answers (settings s x) (handed s t x (now t) h a ∷ h) ≡ true) ⊎ LeadsTo (settings s x) left (handed s t x (now t) h a) h)

-- after a LOGOPEN the item is answered, or its file is written
open-goes : (p : Settings) (h : List Event) (place : ℕ) (rec : LogRec) (left : ℕ) → is_restarted h ≡ true → IsOfPlan p h rec → 1 + after_left rec ≤ left
    → (answers p (LogOpened place rec ∷ h) ≡ true) ⊎ LeadsTo p left (LogOpened place rec) h
open-goes p h place (Put unit rrn before) left working of_plan few =
    let found = put-plan (last_plan p h) (slot_read h) unit rrn before of_plan in
    inr (
      1,
      Writes found.0 found.1 found.2
          (ap (λ (b : Bool). if_working b (after_log_open (Put unit rrn before) (last_plan p h))) working ∙ ap (after_log_open (Put unit rrn before)) found.4) (omega arith),
      omega (arith, few),
    )
open-goes p h place (Commit unit) left working of_plan few =
    inl (ap (λ (b : Bool). is_some (elim b [ true ↦ answer_of_record (Commit unit) | false ↦ None ])) working)
open-goes p h place (Backout unit) left working of_plan few =
    inl (ap (λ (b : Bool). is_some (elim b [ true ↦ answer_of_record (Backout unit) | false ↦ None ])) working)

-- after a LOGLOOK the slot is closed where it is open, and else the record is written
look-goes : (p : Settings) (h : List Event) (place gate : ℕ) (rec : LogRec) (left : ℕ) → is_restarted h ≡ true → IsOfPlan p h rec → 4 + after_left rec ≤ left
    → LeadsTo p left (LogLooked place gate) h
look-goes p h place gate rec left working of_plan few = by (gate == OPEN) refl
  where
    at : inside p (LogLooked place gate ∷ h) ≡ Some (after_gate gate (want.LogClose place) (want.LogBody place rec))
    at = ap (after_log_look place gate) (at-hand p h rec working of_plan)

    by : (b : Bool) → (gate == OPEN) ≡ b → LeadsTo p left (LogLooked place gate) h
    by true is = (
      3 + after_left rec,
      Closes working place rec (at ∙ ap (λ (c : Bool). Some (elim c [ true ↦ want.LogClose place | false ↦ want.LogBody place rec ])) is) of_plan (omega arith),
      omega (arith, few),
    )
    by false is = (
      2 + after_left rec,
      Bodies working place rec (at ∙ ap (λ (c : Bool). Some (elim c [ true ↦ want.LogClose place | false ↦ want.LogBody place rec ])) is) of_plan (omega arith),
      omega (arith, few),
    )

-- **each act of an item leads on, or answers it**
item-goes : (s : Scen) (t : List Entry) (x : Site) (h : List Event) (left : ℕ) → AtItem (settings s x) left h → Goes s t x left h
item-goes s t x h left (Reads working rrn at plan few) = (
  act.FileRead rrn,
  ap (act_of s t x h) (next-inside (settings s x) h (want.FileRead rrn) at),
  refl,
  few,
  inl (ap (λ (q : Plan). is_some (answer_of_read q (image s t rrn))) plan),
)
item-goes s t x h left (ReadsFirst working unit rrn value place at plan few) =
    let p = settings s x in
    let slot = image s t rrn in (
      act.FileRead rrn,
      ap (act_of s t x h) (next-inside p h (want.FileRead rrn) at),
      refl,
      omega (arith, few),
      inr (
        5,
        log-at p (RecordRead rrn slot ∷ h) place (Put unit rrn slot) 5 working (ap (after_file_read p slot) plan) (ap (λ (q : Plan). record_of_plan q slot) plan)
            (omega arith),
        omega (arith, few),
      ),
    )
item-goes s t x h left (Looks working place rec at of_plan few) = (
  act.LogLook place,
  ap (act_of s t x h) (next-inside (settings s x) h (want.LogLook place) at),
  refl,
  omega (arith, few),
  inr (look-goes (settings s x) h place (log_slot s t (place % s.settings.log)).gate rec left working of_plan few),
)
item-goes s t x h left (Closes working place rec at of_plan few) =
    let p = settings s x in (
      act.LogClose place,
      ap (act_of s t x h) (next-inside p h (want.LogClose place) at),
      refl,
      omega (arith, few),
      inr (2 + after_left rec, Bodies working place rec (ap (after_log_close place) (at-hand p h rec working of_plan)) of_plan (omega arith), omega (arith, few)),
    )
item-goes s t x h left (Bodies working place rec at of_plan few) = (
  act.LogBody place rec,
  ap (act_of s t x h) (next-inside (settings s x) h (want.LogBody place rec) at),
  refl,
  omega (arith, few),
  inr (1 + after_left rec, Opens working place rec refl of_plan (omega arith), omega (arith, few)),
)
item-goes s t x h left (Opens working place rec at of_plan few) = (
  act.LogOpen place rec,
  ap (act_of s t x h) (next-inside (settings s x) h (want.LogOpen place rec) at),
  refl,
  omega (arith, few),
  open-goes (settings s x) h place rec left working of_plan few,
)
item-goes s t x h left (Writes unit rrn value at few) = (
  act.FileWrite unit rrn value,
  ap (act_of s t x h) (next-inside (settings s x) h (want.FileWrite unit rrn value) at),
  refl,
  few,
  inl refl,
)
item-goes s t x h left (Undoes working unit place row rows at plan rolled few) =
    let p = settings s x in
    let after = RecordUndone row.rrn row.before ∷ h in
    let less : rolled_left p unit after ≡ rows = drop-more (undone_of_item h) (undo_rows unit (ledger p h)) rows row rolled in (
      act.Undo row.rrn row.before,
      ap (act_of s t x h) (next-inside p h (want.Undo row.rrn row.before) at),
      refl,
      omega (arith, few),
      inr (
        length rows + 4,
        roll-at p after unit place rows (length rows + 4) working
            (ap (λ (b : Bool). if_working b (after_undo p after (last_plan p h))) working ∙ ap (after_undo p after) plan
            ∙ ap (λ (l : List Undo). Some (roll_next p unit place l)) less) plan less (omega arith),
        omega (arith, few),
      ),
    )

-- so it is wherever it stands
items-leave : (s : Scen) (x : Site) → Leaves s x (AtItemOf (settings s x)) (λ r. answers (settings s x))
items-leave s x t h left is there at =
    let goes = item-goes s t x h left at in (goes.0, goes.1, goes.2, goes.3, λ e runs o same. goes.4)

-- an item that is taken is answered at once, or stands at such a place
taken-at : (p : Settings) (h : List Event) (item : Item) → is_restarted h ≡ true → (plan : Plan) → last_plan p (Given item ∷ h) ≡ plan
    → (answers p (Given item ∷ h) ≡ true) ⊎ AtItem p (acts_of_plan p (Given item ∷ h) plan) (Given item ∷ h)
taken-at p h item working (plans.Answer answer) is = inl (once item is)
  where
    once : (i : Item) → plan_of (ledger p h) i ≡ plans.Answer answer → is_some (answer_at_once p h i) ≡ true
    once (items.Begin name) same = ap (λ (q : Plan). is_some (answer_of_plan q)) same
    once (items.Put name rrn value) same = ap (λ (q : Plan). is_some (answer_of_plan q)) same
    once (items.Get name rrn) same = ap (λ (q : Plan). is_some (answer_of_plan q)) same
    once (items.Commit name) same = ap (λ (q : Plan). is_some (answer_of_plan q)) same
    once (items.Roll name) same = ap (λ (q : Plan). is_some (answer_of_plan q)) same
    once _ same = refl
taken-at p h item working (plans.Get rrn) is = inr (Reads working rrn (ap (after_item p (Given item ∷ h)) is) is (omega arith))
taken-at p h item working (plans.Put unit rrn value place) is =
    inr (ReadsFirst working unit rrn value place (ap (after_item p (Given item ∷ h)) is) is (omega arith))
taken-at p h item working (plans.Commit unit place) is =
    inr (log-at p (Given item ∷ h) place (Commit unit) 4 working (ap (after_item p (Given item ∷ h)) is)
    (ap (λ (q : Plan). record_of_plan q (slot_read (Given item ∷ h))) is) (omega arith))
taken-at p h item working (plans.Roll unit place) is =
    inr (roll-at p (Given item ∷ h) unit place (rolled_left p unit (Given item ∷ h)) (length (rolled_left p unit (Given item ∷ h)) + 4) working
    (ap (after_item p (Given item ∷ h)) is) is refl (omega arith))

-- an item is taken by one that has restarted
given-restarted : (p : Settings) (h : List Event) (item : Item) → IsHistory p (Given item ∷ h) → is_restarted h ≡ true
given-restarted p [] item is = absurd (cc)
given-restarted p (d ∷ h) item is = item-restarted p (d ∷ h) is.1

-- **items are answered**
pub items-are-answered : ItemsAreAnswered
items-are-answered s t part x h item is there served many =
    by (taken-at p h item (given-restarted p h item (history-at s t x (Given item ∷ h) (run-before s part t is) there)) (last_plan p (Given item ∷ h)) refl)
  where
    p : Settings
    p = settings s x

    left : ℕ
    left = acts_of_plan p (Given item ∷ h) (last_plan p (Given item ∷ h))

    by : (answers p (Given item ∷ h) ≡ true) ⊎ AtItem p left (Given item ∷ h) → (answers p (Given item ∷ h) || was_so s (λ r. answers p) t x part) ≡ true
    by (inl once) = or-left (answers p (Given item ∷ h)) (was_so s (λ r. answers p) t x part) once
    by (inr at) =
        or-right (answers p (Given item ∷ h)) (was_so s (λ r. answers p) t x part)
        (comes-to s t part x (AtItemOf p) (λ r. answers p) left (items-leave s x) (λ r e f n away ticks quiet stands. stands) is served (Given item ∷ h) there at many)
