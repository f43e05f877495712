-- What is due inside a sequence, after each act.
use Rattle.std.proofs.Common.{Bool, false, true, ◌≡◌, List, None, Option, Some, ℕ, IfSome, ◌==◌, subst, sym, ◌%◌, refl, ap, arith, ◌∷◌, ◌∙◌, ◌+◌, ◌||◌, [], drop, length, nat_lt, if◌then◌else◌}
use Rattle.std.proofs.lemmas.Grind.{common_steps}
use Rattle.std.proofs.lemmas.List.{drop-drop}
use Rattle.xrf_base.specs.declared.items.UnitId.{UnitId}
use Rattle.xrf_base.specs.declared.site.Site.{Site}
use Rattle.xrf_base.specs.declared.items.Item.{Item}
use Rattle.xrf_ctl.specs.Control.{ControlRecord}
use Rattle.xrf_gated.specs.declared.gated.TheConstants.{OPEN}
use Rattle.xrf_gated.specs.declared.gated.Slot.{Slot}
use Rattle.xrf_gated.specs.Slots.{is_open, bytes_of}
use Rattle.xrf_logrec.specs.declared.records.LogRec.{LogRec}
use Rattle.xrf_logrec.specs.declared.records.LogRec.TheVariants.{Backout, Commit, Put}
use Rattle.xrf_logrec.specs.LogRecords.{LogIs, log_reading, spelling, same_unit}
use Rattle.xrf_logrec.proofs.LogLaws.{log_reading-spelled}
use Rattle.xrf_logrec.specs.Keypoints.{KeyIs, key_reading, key_spelling}
use Rattle.xrf_logrec.specs.declared.keypoints.Keypoint.{Keypoint}
use Rattle.xrf_logrec.proofs.KeyLaws.{key_reading-spelled}
use Rattle.xrf_logrec.specs.declared.records.Undo.{Undo}
use Rattle.xrf_log.specs.declared.taken.Row.{Row}
use Rattle.xrf_log.specs.Flight.{has_ended, open_puts}
use Rattle.xrf_log.proofs.FlightLaws.{open_puts-put}
use Rattle.xrf_file.specs.declared.answers.Plan.{Plan}
use Rattle.xrf_file.specs.Ledger.{undo_rows, plan_of}
use Rattle.xrf_msg.specs.declared.messages.Message.{Message}
use Rattle.xrf_history.specs.Next.{write_next, end_next, after_message_read, gate_of, after_message_close, after_log_look, after_log_close, after_log_open, if_working, record_of_plan, after_gate, record_at_hand, record_of_restart, slot_read, after_file_read, roll_next, after_item, after_undo, message_at_hand}
use Rattle.xrf_history.specs.declared.want.EndWhy.{EndWhy}
use Rattle.xrf_history.specs.Events.{Event, Given, RecordRead, RecordUndone}
use Rattle.xrf_history.specs.declared.settings.Settings.{Settings}
use Rattle.xrf_history.specs.Restarting.{backouts_left, has_read_block}
use Rattle.xrf_history.specs.Holding.{is_restarted}
use Rattle.xrf_history.specs.Working.{last_plan, rolled_left, ledger, undone_of_item}
use Rattle.xrf_history.specs.declared.want.Want.{Want}
use Rattle.xrf_trace.specs.Words.{now, items_taken}
use Rattle.xrf_trace.specs.declared.entry.Act.{Act}
use Rattle.xrf_trace.specs.declared.entry.Entry.{Entry}
use Rattle.xrf_trace.specs.Scenario.{Scen, first_value, settings, item_at, work}
use Rattle.xrf_trace.specs.Jobs.{handed, block_event, item_event}
use Rattle.xrf_trace.specs.Acts.{next_item, act_of}
use Rattle.xrf_trace.specs.Devices.{image, message_slot}
use Rattle.xrf_log_law.specs.Due.{Due, JobView, RestartDue, KeyDue, IsOfPlan, PlanDue, RollDue, UndoDue, job_view, InsideDue}
use Rattle.xrf_log_law.specs.State.{View, RecordDue, log_part, after, State, booked, view}
use Rattle.xrf_log_law.proofs.Tests.{choose, at_own, no-clash}
use Rattle.xrf_log_law.specs.LogSlots.{AtEnd}
use Rattle.xrf_log_law.specs.BeforeImages.{has_put, covers, undo_at}
use Rattle.xrf_log_law.proofs.BeforeImageLaws.{left-at}
use Rattle.xrf_log_law.proofs.DueAtBoundary.{log_write-due}
use Rattle.xrf_log_law.proofs.StateWrites.{has_put-covers, undo-state}
use Rattle.xrf_log_law.specs.Soundness.{is_sound}
use Rattle.xrf_log_law.proofs.SameRecords.{same-put}
use Rattle.xrf_file.specs.declared.answers.Plan.TheVariants as plans
use Rattle.xrf_history.specs.declared.want.Want.TheVariants as want
use Rattle.xrf_trace.specs.declared.entry.Act.TheVariants as act
use Rattle.xrf_trace.specs.declared.entry.Land.TheVariants as land
use Rattle.xrf_trace.proofs.PromiseLaws.{same_unit-refl}

-- sequences of other acts
write-due : (size : ℕ) (first : ℕ → Option (List ℕ)) (v : View) (j : JobView) (o : Option ControlRecord) → Due size first v j (write_next o)
write-due size first v j None = tt
write-due size first v j (Some written) = tt

-- an end needs nothing
end-due : (size : ℕ) (first : ℕ → Option (List ℕ)) (v : View) (j : JobView) (o : Option EndWhy) → IfSome (end_next o) (Due size first v j)
end-due size first v j None = tt
end-due size first v j (Some reason) = tt

-- nor does what comes after a MSGREAD
message-due : (size : ℕ) (first : ℕ → Option (List ℕ)) (v : View) (j : JobView) (k : ℕ) (slot : List ℕ) (o : Option Message)
    → IfSome (after_message_read k slot o) (Due size first v j)
message-due size first v j k slot None = tt
message-due size first v j k slot (Some message) = choose (Due size first v j) (gate_of slot == OPEN) _ _ (λ e. tt) (λ e. tt)

-- nor what comes after a MSGCLOSE
closed-due : (size : ℕ) (first : ℕ → Option (List ℕ)) (v : View) (j : JobView) (k : ℕ) (o : Option Message)
    → IfSome (after_message_close k o) (Due size first v j)
closed-due size first v j k None = tt
closed-due size first v j k (Some message) = tt

-- a log record
look-due : (size : ℕ) (first : ℕ → Option (List ℕ)) (v : View) (j : JobView) (place : ℕ) (o : Option LogRec) → j.hand ≡ o
    → AtEnd size place (log_part v) → IfSome o (RecordDue size first v) → RestartDue j
    → IfSome (after_log_look place (v.slot (place % size)).gate o) (Due size first v j)
look-due size first v j place None hand at due restart = tt
look-due size first v j place (Some rec) hand at due restart =
    choose (Due size first v j) ((v.slot (place % size)).gate == OPEN) _ _
    (λ e. (at, subst (λ (o : Option LogRec). IfSome o (RecordDue size first v)) (sym hand) due, e, restart)) (λ e. (at, due, e, hand, restart))

-- after a LOGCLOSE the body is written
close-due : (size : ℕ) (first : ℕ → Option (List ℕ)) (v : View) (j : JobView) (place : ℕ) (o : Option LogRec) → j.hand ≡ o
    → AtEnd size place (log_part v) → IfSome o (RecordDue size first v) → RestartDue j
    → IfSome (after_log_close place o) (Due size first (after size (act.LogClose place) land.Full v) j)
close-due size first v j place None hand at due restart = tt
close-due size first v j place (Some rec) hand at due restart = (
  record { next = at.next; start = at.start; room = at.room },
  moved rec due,
  at_own (λ (slot : Slot). is_open slot ≡ false) (place % size) _ _ refl,
  hand,
  restart,
)
  where
    moved : (rec : LogRec) → RecordDue size first v rec → RecordDue size first (after size (act.LogClose place) land.Full v) rec
    moved (Put unit rrn before) due = due
    moved (Commit unit) due = due
    moved (Backout unit) due = due

-- after a LOGBODY the slot is opened
body-due : (size : ℕ) (first : ℕ → Option (List ℕ)) (v : View) (j : JobView) (place : ℕ) (rec : LogRec) → LogIs (spelling place rec) place rec
    → AtEnd size place (log_part v)
    → RecordDue size first v rec → is_open (v.slot (place % size)) ≡ false → j.hand ≡ Some rec → RestartDue j
    → Due size first (after size (act.LogBody place rec) land.Full v) j (want.LogOpen place rec)
body-due size first v j place rec spelled at due closed hand restart = (
  record { next = at.next; start = at.start; room = at.room },
  moved rec due,
  at_own (λ (slot : Slot). is_open slot ≡ false) (place % size) _ _ closed,
  hand,
  at_own (λ (slot : Slot). log_reading slot.body ≡ Some (place, rec)) (place % size) _ _ (log_reading-spelled (spelling place rec) place rec spelled),
  restart,
)
  where
    moved : (own : LogRec) → RecordDue size first v own → RecordDue size first (after size (act.LogBody place rec) land.Full v) own
    moved (Put unit rrn before) due = due
    moved (Commit unit) due = due
    moved (Backout unit) due = due

-- the write of a put that is logged
put-there : (v : View) (unit : UnitId) (rrn : ℕ) (before : List ℕ) → has_ended unit v.log ≡ false
    → has_put unit rrn (open_puts (Put unit rrn before ∷ v.log)) ≡ true
put-there v unit rrn before open_yet =
    let row : Row = record { unit = unit; undo = record { rrn = rrn; before = before } } in
    let e : (rrn == rrn) ≡ true = grind (arith, common_steps) in
    let f : same_unit unit unit ≡ true = same_unit-refl unit in
    ap (has_put unit rrn) (open_puts-put v.log row open_yet) ∙ rw e (rw f refl)

-- after a LOGOPEN of a Put the record is written
opened-due : (size : ℕ) (first : ℕ → Option (List ℕ)) (v : View) (j : JobView) (place : ℕ) (working : Bool) (plan : Plan) (slot : List ℕ)
    (left : Option LogRec) (rec : LogRec)
    → j.restarted ≡ working → (elim working [ true ↦ record_of_plan plan slot | false ↦ left ]) ≡ Some rec → RecordDue size first v rec
    → IfSome (if_working working (after_log_open rec plan)) (Due size first (after size (act.LogOpen place rec) land.Full v) j)
opened-due size first v j place false plan slot left rec is hand due = tt
opened-due size first v j place true (plans.Put u k value n) slot left (Put unit rrn before) is hand due =
    let same = same-put u unit k rrn slot before hand in (
      ap (λ (w : UnitId). has_ended w v.log) same.0 ∙ due.1,
      ap (λ (w : UnitId). has_put w k (open_puts (Put unit rrn before ∷ v.log))) same.0
          ∙ ap (λ (m : ℕ). has_put unit m (open_puts (Put unit rrn before ∷ v.log))) same.1 ∙ put-there v unit rrn before due.1,
      is,
    )
opened-due size first v j place true (plans.Put u k value n) slot left (Commit unit) is hand due = tt
opened-due size first v j place true (plans.Put u k value n) slot left (Backout unit) is hand due = tt
opened-due size first v j place true (plans.Answer a) slot left (Put unit rrn before) is hand due = tt
opened-due size first v j place true (plans.Get k) slot left (Put unit rrn before) is hand due = tt
opened-due size first v j place true (plans.Commit u n) slot left (Put unit rrn before) is hand due = tt
opened-due size first v j place true (plans.Roll u n) slot left (Put unit rrn before) is hand due = tt
opened-due size first v j place true _ slot left _ is hand due = tt

-- the keypoint
key_look-due : (size : ℕ) (first : ℕ → Option (List ℕ)) (v : View) (j : JobView) (k : ℕ) → k ≡ (v.number + 1) % 2 → KeyDue v j.keypoint → j.restarted ≡ true
    → Due size first v j (after_gate (v.key k).gate (want.KpClose k) (want.KpBody k j.keypoint))
key_look-due size first v j k is due working =
    choose (Due size first v j) ((v.key k).gate == OPEN) _ _ (λ e. (is, due, e, working)) (λ e. (is, due, e, working))

-- after a KPCLOSE the body is written
key_close-due : (size : ℕ) (first : ℕ → Option (List ℕ)) (v : View) (j : JobView) (k : ℕ) → k ≡ (v.number + 1) % 2 → KeyDue v j.keypoint → j.restarted ≡ true
    → Due size first (after size (act.KpClose k) land.Full v) j (want.KpBody k j.keypoint)
key_close-due size first v j k is due working = (
  is,
  record { next = due.next; later = due.later; within = due.within; over = due.over },
  at_own (λ (slot : Slot). is_open slot ≡ false) k _ _ refl,
  working,
)

-- after a KPBODY the slot is opened
key_body-due : (size : ℕ) (first : ℕ → Option (List ℕ)) (v : View) (j : JobView) (k : ℕ) (keypoint : Keypoint)
    → KeyIs (key_spelling keypoint) keypoint → k ≡ (v.number + 1) % 2 → KeyDue v keypoint
    → is_open (v.key k) ≡ false → j.restarted ≡ true → Due size first (after size (act.KpBody k keypoint) land.Full v) j (want.KpOpen k keypoint)
key_body-due size first v j k keypoint spelled is due closed working = (
  is,
  record { next = due.next; later = due.later; within = due.within; over = due.over },
  at_own (λ (slot : Slot). is_open slot ≡ false) k _ _ closed,
  at_own (λ (slot : Slot). key_reading slot.body ≡ Some keypoint) k _ _ (key_reading-spelled (key_spelling keypoint) keypoint spelled),
  working,
)

-- the acts of an item
pub plan-hand : (p : Settings) (h : List Event) → is_restarted h ≡ true → record_at_hand p h ≡ record_of_plan (last_plan p h) (slot_read h)
plan-hand p h restarted =
    ap (λ (b : Bool). elim b [ true ↦ record_of_plan (last_plan p h) (slot_read h) | false ↦ record_of_restart (backouts_left p h) ]) restarted

-- after the FILEREAD of a PUT its Put is logged
read-due : (p : Settings) (first : ℕ → Option (List ℕ)) (v : View) (j : JobView) (rolled : UnitId → List Undo) (k : ℕ) (slot : List ℕ) (plan : Plan)
    → State p.limits.log first v → slot ≡ v.image k → IsOfPlan k plan
    → PlanDue p.limits.log first v rolled plan → j.hand ≡ record_of_plan plan slot → j.restarted ≡ true
    → IfSome (after_file_read p slot plan) (Due p.limits.log first v j)
read-due p first v j rolled k slot (plans.Put unit rrn value place) state read of due hand working =
    log_write-due p first v j place (Put unit rrn slot) state due.0 (read ∙ ap v.image of, due.1.open_yet, due.1.free, due.1.room slot) hand
    (λ e. no-clash j.restarted working e)
read-due p first v j rolled k slot (plans.Answer a) state read of due hand working = tt
read-due p first v j rolled k slot (plans.Get rrn) state read of due hand working = tt
read-due p first v j rolled k slot (plans.Commit u place) state read of due hand working = tt
read-due p first v j rolled k slot (plans.Roll u place) state read of due hand working = tt

-- a row covers its own record
own-covered : (k : ℕ) (rows : List Undo) → (k == k || covers k rows) ≡ true
own-covered k rows = let e : (k == k) ≡ true = grind (arith, common_steps) in rw e refl

-- what rolls on: the rows that are left, or the Backout
roll-due : (p : Settings) (first : ℕ → Option (List ℕ)) (v : View) (h : List Event) (unit : UnitId) (place : ℕ) (rows : List Undo)
    → State p.limits.log first v → is_restarted h ≡ true
    → last_plan p h ≡ plans.Roll unit place → rolled_left p unit h ≡ rows → AtEnd p.limits.log place (log_part v) → RollDue first v unit rows
    → Due p.limits.log first v (job_view p h) (roll_next p unit place rows)
roll-due p first v h unit place [] state restarted plan are at due =
    log_write-due p first v (job_view p h) place (Backout unit) state at (due.hot, due.left)
    (plan-hand p h restarted ∙ ap (λ (q : Plan). record_of_plan q (slot_read h)) plan) (λ e. no-clash (is_restarted h) restarted e)
roll-due p first v h unit place (row ∷ rows) state restarted plan are at due = (
  has_put-covers unit row.rrn (open_puts v.log) (due.own row.rrn (own-covered row.rrn rows)),
  λ e. no-clash (is_restarted h) restarted e,
  λ e. subst (λ (q : Plan). UndoDue p.limits.log first v (λ u. rolled_left p u h) q row.rrn row.before) (sym plan)
      (at, subst (λ (l : List Undo). RollDue first v unit l) (sym are) due, (rows, are)),
)

-- after an ITEM what its plan begins with
item-due : (p : Settings) (first : ℕ → Option (List ℕ)) (v : View) (h : List Event) (plan : Plan) → State p.limits.log first v → is_restarted h ≡ true
    → last_plan p h ≡ plan
    → PlanDue p.limits.log first v (λ u. rolled_left p u h) plan → IfSome (after_item p h plan) (Due p.limits.log first v (job_view p h))
item-due p first v h (plans.Answer a) state restarted plan due = tt
item-due p first v h (plans.Get rrn) state restarted plan due =
    (restarted, subst (IsOfPlan rrn) (sym plan) tt, subst (PlanDue p.limits.log first v (λ u. rolled_left p u h)) (sym plan) tt)
item-due p first v h (plans.Put unit rrn value place) state restarted plan due =
    (restarted, subst (IsOfPlan rrn) (sym plan) refl, subst (PlanDue p.limits.log first v (λ u. rolled_left p u h)) (sym plan) due)
item-due p first v h (plans.Commit unit place) state restarted plan due =
    log_write-due p first v (job_view p h) place (Commit unit) state due.0 due.1
    (plan-hand p h restarted ∙ ap (λ (q : Plan). record_of_plan q (slot_read h)) plan) (λ e. no-clash (is_restarted h) restarted e)
item-due p first v h (plans.Roll unit place) state restarted plan due =
    roll-due p first v h unit place (rolled_left p unit h) state restarted plan refl due.0 due.1

-- an UNDO
pub dropped : (n : ℕ) (rows rest : List Undo) (row : Undo) → drop n rows ≡ row ∷ rest → drop (n + 1) rows ≡ rest
dropped n rows rest row is = sym (drop-drop 1 n rows) ∙ ap (drop 1) is

-- what the rows that are left cover, all did
pub covers-rest : (r : ℕ) (row : Undo) (rest : List Undo) → covers r rest ≡ true → covers r (row ∷ rest) ≡ true
covers-rest r row rest covered = by (row.rrn == r) covered
  where
    by : (b : Bool) → covers r rest ≡ true → (b || covers r rest) ≡ true
    by true covered = refl
    by false covered = covered

-- after an UNDO of a roll the rows that are left
undone-roll : (p : Settings) (first : ℕ → Option (List ℕ)) (v : View) (h : List Event) (rrn : ℕ) (own : List ℕ) (plan : Plan)
    → State p.limits.log first (after p.limits.log (act.Undo rrn own) land.Full v)
    → is_restarted h ≡ true → last_plan p h ≡ plan → UndoDue p.limits.log first v (λ u. rolled_left p u h) plan rrn own
    → IfSome (after_undo p (RecordUndone rrn own ∷ h) plan) (Due p.limits.log first (after p.limits.log (act.Undo rrn own) land.Full v)
    (job_view p (RecordUndone rrn own ∷ h)))
undone-roll p first v h rrn own (plans.Answer a) state restarted plan due = absurd due
undone-roll p first v h rrn own (plans.Get k) state restarted plan due = absurd due
undone-roll p first v h rrn own (plans.Put u k value place) state restarted plan due = absurd due
undone-roll p first v h rrn own (plans.Commit u place) state restarted plan due = absurd due
undone-roll p first v h rrn own (plans.Roll unit place) state restarted plan due =
    let rest : List Undo = due.2.0 in
    let row : Undo = record { rrn = rrn; before = own } in
    let now : rolled_left p unit (RecordUndone rrn own ∷ h) ≡ rest = dropped (undone_of_item h) (undo_rows unit (ledger p h)) rest row due.2.1 in
    roll-due p first (after p.limits.log (act.Undo rrn own) land.Full v) (RecordUndone rrn own ∷ h) unit place
    (rolled_left p unit (RecordUndone rrn own ∷ h)) state restarted plan refl
    (record { next = due.0.next; start = due.0.start; room = due.0.room })
    (subst (λ (l : List Undo). RollDue first (after p.limits.log (act.Undo rrn own) land.Full v) unit l) (sym now)
    (record {
      hot = due.1.hot;
      left =
          λ r put. left-at row rest r (v.image r) (booked first v r)
          (subst (λ (l : List Undo). undo_at r l (v.image r) ≡ booked first v r) due.2.1 (due.1.left r put));
      own = λ r covered. due.1.own r (ap (covers r) due.2.1 ∙ covers-rest r row rest covered);
    }))

-- after an UNDO, in a restart and at work
undone-due : (p : Settings) (first : ℕ → Option (List ℕ)) (v : View) (h : List Event) (rrn : ℕ) (own : List ℕ) (r : Bool)
    → State p.limits.log first (after p.limits.log (act.Undo rrn own) land.Full v)
    → is_restarted h ≡ r → (r ≡ true → UndoDue p.limits.log first v (λ u. rolled_left p u h) (last_plan p h) rrn own)
    → IfSome (if_working r (after_undo p (RecordUndone rrn own ∷ h) (last_plan p h)))
    (Due p.limits.log first (after p.limits.log (act.Undo rrn own) land.Full v) (job_view p (RecordUndone rrn own ∷ h)))
undone-due p first v h rrn own false state is due = tt
undone-due p first v h rrn own true state is due = undone-roll p first v h rrn own (last_plan p h) state is refl (due refl)

-- an act that is made: what is due of the next one of its sequence
abbrev pub After : Scen → List Entry → Site → List Event → Act → Type 0
After s t x h a = InsideDue s.settings.log (first_value s) (after s.settings.log a land.Full (view s t)) (settings s x) (handed s t x (now t) h a ∷ h)

-- what is written has its spelling, and its numbers fit
abbrev pub IsInRange : Want → Type 0
IsInRange (want.LogBody place rec) = LogIs (spelling place rec) place rec
IsInRange (want.KpBody k keypoint) = KeyIs (key_spelling keypoint) keypoint
IsInRange _ = Unit {0}

-- after a LOGREAD the next act is one of a boundary
block-after : (s : Scen) (t : List Entry) (x : Site) (h : List Event) (b : ℕ) (has : Bool)
    → InsideDue s.settings.log (first_value s) (view s t) (settings s x) (block_event s t b has ∷ h)
block-after s t x h b true = tt
block-after s t x h b false = tt

-- what is due of each item that may be taken
abbrev pub ItemsDue : Scen → List Entry → Site → List Event → Type 0
ItemsDue s t x h =
    (item : Item) → PlanDue s.settings.log (first_value s) (view s t) (λ u. rolled_left (settings s x) u (Given item ∷ h))
    (plan_of (ledger (settings s x) h) item)

-- after an ITEM
given-after : (s : Scen) (t : List Entry) (x : Site) (h : List Event) (item : Option Item) → is_restarted h ≡ true
    → State s.settings.log (first_value s) (view s t)
    → InsideDue s.settings.log (first_value s) (view s t) (settings s x) h → ItemsDue s t x h
    → InsideDue s.settings.log (first_value s) (view s t) (settings s x) (item_event item ∷ h)
given-after s t x h None restarted state before items = before
given-after s t x h (Some item) restarted state before items =
    item-due (settings s x) (first_value s) (view s t) (Given item ∷ h) (plan_of (ledger (settings s x) h) item) state restarted refl (items item)

-- so where an item is left
item-after : (s : Scen) (t : List Entry) (x : Site) (h : List Event) → is_restarted h ≡ true → State s.settings.log (first_value s) (view s t)
    → InsideDue s.settings.log (first_value s) (view s t) (settings s x) h → ItemsDue s t x h → IfSome (next_item s t x) (After s t x h)
item-after s t x h restarted state before items = by (nat_lt (items_taken t x) (length (work s x)))
  where
    by : (b : Bool) → IfSome (if b then Some (act.Item (items_taken t x + 1)) else None) (After s t x h)
    by true = given-after s t x h (item_at s x (items_taken t x + 1)) restarted state before items
    by false = tt

-- what an ITEM alone asks for
abbrev pub ItemGives : Want → Type 0 → Type 0
ItemGives want.Item T = T
ItemGives _ T = Unit {0}

-- what is read of the job after an act
abbrev later_view : Scen → List Entry → Site → List Event → Act → JobView
later_view s t x h a = job_view (settings s x) (handed s t x (now t) h a ∷ h)

-- what is due after each act
pub act-after : (s : Scen) (t : List Entry) (x : Site) (h : List Event) (w : Want) → State s.settings.log (first_value s) (view s t)
    → Due s.settings.log (first_value s) (view s t) (job_view (settings s x) h) w → IsInRange w
    → InsideDue s.settings.log (first_value s) (view s t) (settings s x) h
    → ItemGives w ((is_restarted h ≡ true) × (is_sound h ≡ true) → ItemsDue s t x h)
    → IfSome (act_of s t x h w) (After s t x h)
act-after s t x h want.CtlRead state due ranged before items = write-due s.settings.log (first_value s) (view s t) (later_view s t x h act.CtlRead) _
act-after s t x h want.Release state due ranged before items = end-due s.settings.log (first_value s) (view s t) (later_view s t x h act.Release) _
act-after s t x h (want.MsgRead k) state due ranged before items =
    message-due s.settings.log (first_value s) (view s t) (later_view s t x h (act.MsgRead k)) k (bytes_of (message_slot t k))
    (message_at_hand (settings s x) h)
act-after s t x h (want.MsgClose k) state due ranged before items =
    closed-due s.settings.log (first_value s) (view s t) (later_view s t x h (act.MsgClose k)) k (message_at_hand (settings s x) h)
act-after s t x h (want.LogRead b) state due ranged before items = block-after s t x h b (has_read_block h)
act-after s t x h (want.LogLook place) state due ranged before items =
    look-due s.settings.log (first_value s) (view s t) (job_view (settings s x) h) place (record_at_hand (settings s x) h) refl due.0 due.1 due.2
act-after s t x h (want.LogClose place) state due ranged before items =
    close-due s.settings.log (first_value s) (view s t) (job_view (settings s x) h) place (record_at_hand (settings s x) h) refl due.0 due.1 due.3
act-after s t x h (want.LogBody place rec) state due ranged before items =
    body-due s.settings.log (first_value s) (view s t) (job_view (settings s x) h) place rec ranged due.0 due.1 due.2 due.3 due.4
act-after s t x h (want.LogOpen place rec) state due ranged before items =
    opened-due s.settings.log (first_value s) (view s t) (later_view s t x h (act.LogOpen place rec)) place (is_restarted h)
    (last_plan (settings s x) h) (slot_read h) (record_of_restart (backouts_left (settings s x) h)) rec refl due.3 due.1
act-after s t x h (want.KpRead k) state due ranged before items =
    key_look-due s.settings.log (first_value s) (view s t) (job_view (settings s x) h) k due.0 due.1 due.2
act-after s t x h (want.KpClose k) state due ranged before items =
    key_close-due s.settings.log (first_value s) (view s t) (job_view (settings s x) h) k due.0 due.1 due.3
act-after s t x h (want.KpBody k keypoint) state due ranged before items =
    key_body-due s.settings.log (first_value s) (view s t) (job_view (settings s x) h) k keypoint ranged due.0 due.1 due.2 due.3
act-after s t x h (want.FileRead rrn) state due ranged before items =
    read-due (settings s x) (first_value s) (view s t) (later_view s t x h (act.FileRead rrn)) (λ u. rolled_left (settings s x) u h) rrn
    (image s t rrn) (last_plan (settings s x) h) state refl due.1 due.2
    (plan-hand (settings s x) (RecordRead rrn (image s t rrn) ∷ h) due.0) due.0
act-after s t x h (want.Undo rrn own) state due ranged before items =
    undone-due (settings s x) (first_value s) (view s t) h rrn own (is_restarted h)
    (undo-state s.settings.log (first_value s) (view s t) rrn own land.Full due.0 state) refl due.2
act-after s t x h want.Item state due ranged before items = item-after s t x h due.0 state before (items due)
act-after s t x h _ state due ranged before items = tt
