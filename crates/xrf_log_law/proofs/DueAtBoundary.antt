-- What is due at a boundary.
use Rattle.std.proofs.Common.{IfSome, List, Option, Some, arith, false, nat_le, subst, sym, ◌≡◌, ℕ, ◌%◌, ◌<◌, ap, refl, true, ◌∷◌, ◌∙◌, Bool, length, [], ◌==◌, ◌||◌, None, ◌+◌}
use Rattle.std.proofs.lemmas.Grind.{common_steps}
use Rattle.std.proofs.Math.Nat.{mod-eq_of_lt}
use Rattle.std.specs.List.{list_any}
use Rattle.xrf_base.specs.declared.items.UnitId.{UnitId}
use Rattle.xrf_gated.specs.Slots.{is_open}
use Rattle.xrf_logrec.specs.declared.records.LogRec.{LogRec}
use Rattle.xrf_logrec.specs.LogRecords.{same_unit}
use Rattle.xrf_logrec.specs.declared.records.LogRec.TheVariants.{Backout}
use Rattle.xrf_logrec.specs.declared.records.Undo.{Undo}
use Rattle.xrf_logrec.specs.declared.keypoints.Keypoint.{Keypoint}
use Rattle.xrf_log.specs.Flight.{flight}
use Rattle.xrf_history.specs.declared.settings.Settings.{Settings}
use Rattle.xrf_history.specs.Rows.{log_write, backout_next, undo_next, restart_next, boundary, work_next}
use Rattle.xrf_history.specs.Events.{Event}
use Rattle.xrf_history.specs.Restarting.{backouts_left, next_record, rows_left, scan}
use Rattle.xrf_history.specs.Holding.{is_restarted, is_owner}
use Rattle.xrf_history.specs.Working.{last_plan, keypoint_due, next_keypoint}
use Rattle.xrf_history.specs.Next.{record_at_hand, record_of_plan, record_of_restart, slot_read}
use Rattle.xrf_history.specs.declared.want.Want.{Want}
use Rattle.xrf_history.specs.Reserving.{sign_off_due}
use Rattle.xrf_log_law.specs.LogSlots.{AtEnd}
use Rattle.xrf_log_law.specs.Due.{Due, JobView, RestartDue, Undoes, job_view, KeyDue, restart_view}
use Rattle.xrf_log_law.specs.State.{RecordDue, State, View, log_part, booked}
use Rattle.xrf_log_law.proofs.Tests.{choose, no-clash}
use Rattle.xrf_log_law.specs.BeforeImages.{undo_at, covers}
use Rattle.xrf_log_law.specs.Jobs.{is_idle, Idle}
use Rattle.xrf_log_law.specs.Soundness.{is_sound}
use Rattle.xrf_log_law.proofs.Boundaries.{boundary-data}
use Rattle.xrf_history.specs.declared.want.Want.TheVariants as want
use Rattle.xrf_trace.proofs.PromiseLaws.{same_unit-refl}

-- a record that is written at the end of the log
pub log_write-due : (p : Settings) (first : ℕ → Option (List ℕ)) (v : View) (j : JobView) (place : ℕ) (rec : LogRec) → State p.limits.log first v
    → AtEnd p.limits.log place (log_part v)
    → RecordDue p.limits.log first v rec → j.hand ≡ Some rec → RestartDue j → Due p.limits.log first v j (log_write p place rec)
log_write-due p first v j place rec state at due hand restart =
    choose (Due p.limits.log first v j) (nat_le p.limits.log place) _ _
    (λ e. (at, subst (λ (o : Option LogRec). IfSome o (RecordDue p.limits.log first v)) (sym hand) due, restart))
    (λ e. (at, due, closed e, hand, restart))
  where
    closed : nat_le p.limits.log place ≡ false → is_open (v.slot (place % p.limits.log)) ≡ false
    closed e =
        let within : place < p.limits.log = grind (arith, common_steps) in
        subst (λ (i : ℕ). is_open (v.slot i) ≡ false) (sym (mod-eq_of_lt within)) (state.log.unused place (omega (arith, at.next)) within)

-- the restart
head-found : (unit : UnitId) (units all : List UnitId) → all ≡ unit ∷ units → list_any (λ u. same_unit u unit) all ≡ true
head-found unit units all is =
    let e : same_unit unit unit ≡ true = same_unit-refl unit in
    ap (list_any (λ u. same_unit u unit)) is ∙ rw e refl

-- it is the record at hand
backout-hand : (p : Settings) (h : List Event) (unit : UnitId) (units : List UnitId) → is_restarted h ≡ false → backouts_left p h ≡ unit ∷ units
    → record_at_hand p h ≡ Some (Backout unit)
backout-hand p h unit units restart is =
    subst (λ (b : Bool). (elim b [ true ↦ record_of_plan (last_plan p h) (slot_read h) | false ↦ record_of_restart (backouts_left p h) ]) ≡ Some
    (Backout unit)) (sym restart) (ap record_of_restart is)

-- a Backout, or RESTARTED where none is left
backout-due : (p : Settings) (first : ℕ → Option (List ℕ)) (v : View) (h : List Event) (left : List UnitId) → State p.limits.log first v
    → is_restarted h ≡ false → (scan p h).ended ≡ true → Undoes first v (restart_view p h)
    → rows_left p h ≡ [] → backouts_left p h ≡ left → Due p.limits.log first v (job_view p h) (backout_next p h left)
backout-due p first v h [] state restart ended undoes none is =
    (restart, ended, sym undoes.backouts ∙ is, λ r. subst (λ (rows : List Undo). undo_at r rows (v.image r) ≡ booked first v r) none (undoes.left r))
backout-due p first v h (unit ∷ units) state restart ended undoes none is =
    let some : flight v.log ≡ unit ∷ units = sym undoes.backouts ∙ is in
    log_write-due p first v (job_view p h) (next_record p h) (Backout unit) state
    (record { next = sym undoes.next; start = omega (arith, undoes.next, state.within); room = omega (arith, undoes.next, state.room, ap length some) })
    (head-found unit units (flight v.log) some, λ r put. subst (λ (rows : List Undo). undo_at r rows (v.image r) ≡ booked first v r) none (undoes.left r))
    (backout-hand p h unit units restart is) (λ e. (ended, none))

-- an undo row, or a Backout where none is left
undo-due : (p : Settings) (first : ℕ → Option (List ℕ)) (v : View) (h : List Event) (rows : List Undo) → State p.limits.log first v
    → is_restarted h ≡ false → (scan p h).ended ≡ true → Undoes first v (restart_view p h)
    → rows_left p h ≡ rows → Due p.limits.log first v (job_view p h) (undo_next p h rows)
undo-due p first v h [] state restart ended undoes is = backout-due p first v h (backouts_left p h) state restart ended undoes is refl
undo-due p first v h (row ∷ rows) state restart ended undoes is =
    (undoes.within row.rrn (ap (covers row.rrn) is ∙ own row.rrn), λ e. (ended, (rows, is)), λ e. no-clash (is_restarted h) e restart)
  where
    own : (k : ℕ) → (k == k || covers k rows) ≡ true
    own k = let e : (k == k) ≡ true = grind (arith, common_steps) in rw e refl

-- a block of the log, or an undo row once the scan has ended
restart-due : (p : Settings) (first : ℕ → Option (List ℕ)) (v : View) (h : List Event) → State p.limits.log first v → is_restarted h ≡ false
    → ((scan p h).ended ≡ true → Undoes first v (restart_view p h))
    → Due p.limits.log first v (job_view p h) (restart_next p h)
restart-due p first v h state restart undoes =
    choose (Due p.limits.log first v (job_view p h)) (scan p h).ended _ _ (λ e. undo-due p first v h (rows_left p h) state restart e (undoes e) refl)
    (λ e. (restart, e, refl))

-- an alternate writes none of it
pub idle-due : (size : ℕ) (first : ℕ → Option (List ℕ)) (v : View) (j : JobView) (w : Want) → is_idle w ≡ true → Due size first v j w
idle-due size first v j (want.LogRead b) idle = absurd (cc)
idle-due size first v j (want.LogLook place) idle = absurd (cc)
idle-due size first v j (want.LogClose place) idle = absurd (cc)
idle-due size first v j (want.LogBody place rec) idle = absurd (cc)
idle-due size first v j (want.LogOpen place rec) idle = absurd (cc)
idle-due size first v j (want.KpRead k) idle = absurd (cc)
idle-due size first v j (want.KpClose k) idle = absurd (cc)
idle-due size first v j (want.KpBody k keypoint) idle = absurd (cc)
idle-due size first v j (want.KpOpen k keypoint) idle = absurd (cc)
idle-due size first v j (want.FileRead rrn) idle = absurd (cc)
idle-due size first v j (want.FileWrite unit rrn value) idle = absurd (cc)
idle-due size first v j (want.Undo rrn before) idle = absurd (cc)
idle-due size first v j want.Item idle = absurd (cc)
idle-due size first v j want.Restarted idle = absurd (cc)
idle-due size first v j _ idle = tt

-- what a job knows at a boundary
pub record AtBoundary (first : ℕ → Option (List ℕ)) (v : View) (p : Settings) (h : List Event) : Type 0 where
  pub sound : is_sound h ≡ true
  pub restart : is_restarted h ≡ false → (scan p h).ended ≡ true → Undoes first v (restart_view p h)
  pub work : is_restarted h ≡ true → keypoint_due p h ≡ true → KeyDue v (next_keypoint p h)

-- the KEY slot of the next keypoint
key-place : (v : View) (keypoint : Keypoint) → KeyDue v keypoint → keypoint.number % 2 ≡ (v.number + 1) % 2
key-place v keypoint due = ap (λ (n : ℕ). n % 2) due.next

-- at work: a keypoint, or an item
work-due : (p : Settings) (first : ℕ → Option (List ℕ)) (v : View) (h : List Event) → is_restarted h ≡ true → AtBoundary first v p h
    → Due p.limits.log first v (job_view p h) (work_next p h)
work-due p first v h working at =
    choose (Due p.limits.log first v (job_view p h)) (keypoint_due p h) _ _
    (λ e. (key-place v (next_keypoint p h) (at.work working e), at.work working e, working)) (λ e. (working, at.sound))

-- what is due at a boundary
pub boundary-due : (p : Settings) (first : ℕ → Option (List ℕ)) (v : View) (h : List Event) → State p.limits.log first v
    → (is_owner h ≡ true → sign_off_due h ≡ None → AtBoundary first v p h)
    → Due p.limits.log first v (job_view p h) (boundary p h)
boundary-due p first v h state at = boundary-data p h (Due p.limits.log first v (job_view p h)) (record {
  idle = λ w idle. idle-due p.limits.log first v (job_view p h) w idle;
  restarts = λ owner none going. restart-due p first v h state going ((at owner none).restart going);
  works = λ owner none working. work-due p first v h working (at owner none);
})

-- a job that is no owner, or whose sign-off is due, is idle at a boundary
pub boundary-idle : (p : Settings) (h : List Event) → (is_owner h ≡ true → sign_off_due h ≡ None → ⊥) → Idle (boundary p h)
boundary-idle p h off = boundary-data p h Idle (record {
  idle = λ w idle. idle;
  restarts = λ owner none going. absurd (off owner none);
  works = λ owner none working. absurd (off owner none);
})
