-- The last values, after each act of a job at work.
use Rattle.std.proofs.Common.{List, Option, refl, ℕ, nat_le, None, ◌≡◌, Some, ◌==◌, false, true, Bool, cond, not, subst, sym, ◌&&◌, ◌||◌, [], ◌∷◌, ◌∙◌, ap, arith, if◌then◌else◌}
use Rattle.std.specs.List.{list_any}
use Rattle.std.proofs.lemmas.Grind.{common_steps}
use Rattle.xrf_base.specs.declared.items.UnitId.{UnitId}
use Rattle.xrf_base.specs.Values.{slot_of}
use Rattle.xrf_gated.specs.declared.gated.TheConstants.{OPEN}
use Rattle.xrf_logrec.specs.declared.records.LogRec.{LogRec}
use Rattle.xrf_logrec.specs.declared.records.LogRec.TheVariants.{Put, Commit, Backout}
use Rattle.xrf_logrec.specs.LogRecords.{same_unit}
use Rattle.xrf_logrec.proofs.LogLaws.{same_unit-true}
use Rattle.xrf_logrec.specs.declared.records.Undo.{Undo}
use Rattle.xrf_log.specs.Flight.{open_puts, has_ended, flight}
use Rattle.xrf_log.specs.declared.taken.Row.{Row}
use Rattle.xrf_log.proofs.FlightLaws.{open_puts-put, in_flight-not_ended, open_puts-commit, open_puts-backout}
use Rattle.xrf_file.specs.declared.answers.Plan.{Plan}
use Rattle.xrf_history.specs.declared.settings.Settings.{Settings}
use Rattle.xrf_history.specs.Rows.{log_write}
use Rattle.xrf_history.specs.Next.{record_of_plan, after_log_look, after_log_close, after_file_read, after_log_open, roll_next, after_item}
use Rattle.xrf_history.specs.Events.{Event}
use Rattle.xrf_history.specs.Working.{rolled_left}
use Rattle.xrf_trace.specs.Book.{value_after}
use Rattle.xrf_trace.specs.Log.{committed}
use Rattle.xrf_log_law.specs.AtWork.{Last, RollLast, LastAt, LastIn, LastBut}
use Rattle.xrf_log_law.specs.State.{View, State, value_at, RecordDue, after}
use Rattle.xrf_log_law.proofs.Tests.{choose, false-if, no-clash}
use Rattle.xrf_log_law.proofs.BeforeImageLaws.{put-found, without}
use Rattle.xrf_log_law.specs.BeforeImages.{has_put, other_has_put, value_by}
use Rattle.xrf_log_law.proofs.RecordLaws.{commit-value}
use Rattle.xrf_log_law.proofs.StateWrites.{value_by-uncommitted}
use Rattle.xrf_log_law.proofs.SameRecords.{same-backout, same-put}
use Rattle.xrf_file.specs.declared.answers.Plan.TheVariants as plans
use Rattle.xrf_trace.specs.declared.entry.Act.TheVariants as act
use Rattle.xrf_trace.specs.declared.entry.Land.TheVariants as land
use Rattle.xrf_trace.proofs.PromiseLaws.{committed-ended, same_unit-refl}

-- all the last values, and those but of a unit that rolls
pub last-roll : (first : ℕ → Option (List ℕ)) (v : View) (plan : Plan) → Last first v → RollLast first v plan
last-roll first v (plans.Roll unit place) last = λ u r put e. last u r put refl
last-roll first v (plans.Answer a) last = last
last-roll first v (plans.Get k) last = last
last-roll first v (plans.Put u k value place) last = last
last-roll first v (plans.Commit u place) last = last

-- while a record is written
pub log_write-last : (first : ℕ → Option (List ℕ)) (v : View) (plan : Plan) (p : Settings) (place : ℕ) (rec : LogRec) → RollLast first v plan
    → LastAt first v plan (log_write p place rec)
log_write-last first v plan p place rec last = choose (LastAt first v plan) (nat_le p.limits.log place) _ _ (λ e. last) (λ e. last)

-- where no record is at hand no unit rolls
none-plan : (first : ℕ → Option (List ℕ)) (v : View) (plan : Plan) (slot : List ℕ) → ◌≡◌ {A = Option LogRec} None (record_of_plan plan slot)
    → RollLast first v plan → Last first v
none-plan first v (plans.Roll unit place) slot none last = absurd (cc)
none-plan first v (plans.Answer a) slot none last = last
none-plan first v (plans.Get k) slot none last = last
none-plan first v (plans.Put u k value place) slot none last = last
none-plan first v (plans.Commit u place) slot none last = last

-- after a LOGLOOK
pub look-last : (first : ℕ → Option (List ℕ)) (v : View) (plan : Plan) (place gate : ℕ) (slot : List ℕ) (o : Option LogRec)
    → o ≡ record_of_plan plan slot → RollLast first v plan
    → LastIn first v plan (after_log_look place gate o)
look-last first v plan place gate slot None hand last = none-plan first v plan slot hand last
look-last first v plan place gate slot (Some rec) hand last = choose (LastAt first v plan) (gate == OPEN) _ _ (λ e. last) (λ e. last)

-- after a LOGCLOSE
pub close-last : (first : ℕ → Option (List ℕ)) (v : View) (plan : Plan) (place : ℕ) (slot : List ℕ) (o : Option LogRec) → o ≡ record_of_plan plan slot
    → RollLast first v plan
    → LastIn first v plan (after_log_close place o)
close-last first v plan place slot None hand last = none-plan first v plan slot hand last
close-last first v plan place slot (Some rec) hand last = last

-- after a FILEREAD
pub read-last : (first : ℕ → Option (List ℕ)) (v : View) (p : Settings) (plan : Plan) (slot : List ℕ) → Last first v
    → LastIn first v plan (after_file_read p slot plan)
read-last first v p (plans.Put unit rrn value place) slot last = log_write-last first v (plans.Put unit rrn value place) p place (Put unit rrn slot) last
read-last first v p (plans.Roll unit place) slot last = last
read-last first v p (plans.Answer a) slot last = last
read-last first v p (plans.Get k) slot last = last
read-last first v p (plans.Commit u place) slot last = last

-- two open units have not put one record
lock-other : (first : ℕ → Option (List ℕ)) (size : ℕ) (v : View) (u w : UnitId) (r : ℕ) → State size first v → same_unit u w ≡ false
    → has_put u r (open_puts v.log) ≡ true → has_put w r (open_puts v.log) ≡ false
lock-other first size v u w r state differ put =
    false-if (has_put w r (open_puts v.log))
    (λ e. no-clash (other_has_put w r (open_puts v.log)) (put-found u w r (open_puts v.log) differ put) (state.undone.locked w r e))

-- a row that is left is one that was there, of another unit
left-row : (unit u : UnitId) (r : ℕ) (rows : List Row) → has_put u r (without unit rows) ≡ true → (has_put u r rows ≡ true) × (same_unit u unit ≡ false)
left-row unit u r [] put = absurd (cc)
left-row unit u r (row ∷ rows) put = by (same_unit row.unit unit) (row.undo.rrn == r) (same_unit row.unit u) refl refl refl (left-row unit u r rows) put
  where
    second : (a b : Bool) → b ≡ true → (a || b) ≡ true
    second true b e = refl
    second false b e = e

    by : (own here is : Bool) → same_unit row.unit unit ≡ own → (row.undo.rrn == r) ≡ here → same_unit row.unit u ≡ is
        → (has_put u r (without unit rows) ≡ true → (has_put u r rows ≡ true) × (same_unit u unit ≡ false))
        → has_put u r (cond (not own) (row ∷ without unit rows) (without unit rows)) ≡ true
        → (((here && is) || has_put u r rows) ≡ true) × (same_unit u unit ≡ false)
    by true here is e f g rest put = let found = rest put in (second (here && is) (has_put u r rows) found.0, found.1)
    by false true true e f g rest put = (refl, subst (λ (w : UnitId). same_unit w unit ≡ false) (same_unit-true row.unit u g) e)
    by false true false e f g rest put = rest (sym (rw f (rw g refl)) ∙ put)
    by false false is e f g rest put = rest (sym (rw f refl) ∙ put)

-- a Put joins: all but at its record, which is still to be written
put-last : (first : ℕ → Option (List ℕ)) (v : View) (unit : UnitId) (rrn : ℕ) (before : List ℕ) → has_ended unit v.log ≡ false → Last first v
    → LastBut (λ u r. same_unit unit u && rrn == r) first (record v { log = Put unit rrn before ∷ v.log })
put-last first v unit rrn before open_yet last u r put but =
    by (same_unit unit u) (rrn == r) refl refl (subst (λ (rows : List Row). has_put u r rows ≡ true) (open_puts-put v.log row open_yet) put) but
  where
    row : Row
    row = record { unit = unit; undo = record { rrn = rrn; before = before } }

    by : (own here : Bool) → same_unit unit u ≡ own → (rrn == r) ≡ here → ((rrn == r && same_unit unit u) || has_put u r (open_puts v.log)) ≡ true
        → (own && here) ≡ false
        → v.image r ≡ slot_of (value_after r (v.puts u) (value_at first v r))
    by true true e f found but = absurd (cc)
    by true false e f found but = last u r (sym (rw f refl) ∙ found) refl
    by false true e f found but = last u r (sym (rw e (rw f refl)) ∙ found) refl
    by false false e f found but = last u r (sym (rw f refl) ∙ found) refl

-- a Commit
commit-last : (first : ℕ → Option (List ℕ)) (size : ℕ) (v : View) (unit : UnitId) → State size first v
    → list_any (λ u. same_unit u unit) (flight v.log) ≡ true → Last first v
    → Last first (record v { log = Commit unit ∷ v.log })
commit-last first size v unit state found last u r put but =
    let open_yet : has_ended unit v.log ≡ false = in_flight-not_ended v.log unit found in
    let parts = left-row unit u r (open_puts v.log) (subst (λ (rows : List Row). has_put u r rows ≡ true) (open_puts-commit v.log unit) put) in
    let none : has_put unit r (open_puts v.log) ≡ false = lock-other first size v u unit r state parts.1 parts.0 in
    let value : value_by v.puts r (committed (Commit unit ∷ v.log)) (first r) ≡ value_at first v r =
    commit-value first v.puts v.log unit r open_yet ∙ state.unput unit r open_yet none (value_at first v r) in
    last u r parts.0 refl ∙ ap (λ (x : Option (List ℕ)). slot_of (value_after r (v.puts u) x)) (sym value)

-- a Backout
backout-last : (first : ℕ → Option (List ℕ)) (v : View) (unit : UnitId) → LastBut (λ u r. same_unit unit u) first v
    → Last first (record v { log = Backout unit ∷ v.log })
backout-last first v unit last u r put but =
    let parts = left-row unit u r (open_puts v.log) (subst (λ (rows : List Row). has_put u r rows ≡ true) (open_puts-backout v.log unit) put) in
    last u r parts.0 (turned u parts.1)
  where
    turned : (u : UnitId) → same_unit u unit ≡ false → same_unit unit u ≡ false
    turned u differ =
        false-if (same_unit unit u) (λ e. no-clash (same_unit u unit)
        (subst (λ (w : UnitId). same_unit w unit ≡ true) (same_unit-true unit u e) (same_unit-refl unit)) differ)

-- after a LOGOPEN
pub open-last : (first : ℕ → Option (List ℕ)) (size : ℕ) (v : View) (plan : Plan) (slot : List ℕ) (rec : LogRec) → State size first v
    → RecordDue size first v rec
    → record_of_plan plan slot ≡ Some rec → RollLast first v plan
    → LastIn first (record v { log = rec ∷ v.log }) plan (after_log_open rec plan)
open-last first size v (plans.Put u k value place) slot (Put unit rrn before) state due hand last =
    let same = same-put u unit k rrn slot before hand in
    subst (λ (w : UnitId). LastBut (λ x r. same_unit w x && k == r) first (record v { log = Put unit rrn before ∷ v.log })) (sym same.0)
    (subst (λ (n : ℕ). LastBut (λ x r. same_unit unit x && n == r) first (record v { log = Put unit rrn before ∷ v.log })) (sym same.1)
    (put-last first v unit rrn before due.1 last))
open-last first size v (plans.Put u k value place) slot (Commit unit) state due hand last = absurd (cc)
open-last first size v (plans.Put u k value place) slot (Backout unit) state due hand last = absurd (cc)
open-last first size v (plans.Commit u place) slot (Commit unit) state due hand last = commit-last first size v unit state due.0 last
open-last first size v (plans.Commit u place) slot (Put unit rrn before) state due hand last = absurd (cc)
open-last first size v (plans.Commit u place) slot (Backout unit) state due hand last = absurd (cc)
open-last first size v (plans.Roll u place) slot (Backout unit) state due hand last =
    backout-last first v unit (subst (λ (w : UnitId). LastBut (λ x r. same_unit w x) first v) (same-backout u unit hand) last)
open-last first size v (plans.Roll u place) slot (Put unit rrn before) state due hand last = absurd (cc)
open-last first size v (plans.Roll u place) slot (Commit unit) state due hand last = absurd (cc)
open-last first size v (plans.Answer a) slot rec state due hand last = absurd (cc)
open-last first size v (plans.Get k) slot rec state due hand last = absurd (cc)

-- the write of a put
pub write-last : (first : ℕ → Option (List ℕ)) (size : ℕ) (v : View) (unit : UnitId) (k : ℕ) (value : List ℕ) → State size first v
    → has_ended unit v.log ≡ false → has_put unit k (open_puts v.log) ≡ true
    → LastBut (λ u r. same_unit unit u && k == r) first v → Last first (after size (act.FileWrite unit k value) land.Full v)
write-last first size v unit k value state open_yet own last u r put but =
    by (r == k) (same_unit unit u) refl refl
  where
    same-k : (i j : ℕ) → (i == j) ≡ true → i ≡ j
    same-k i j e = grind (arith, common_steps)

    turn : (i j : ℕ) → (i == j) ≡ false → (j == i) ≡ false
    turn i j e = false-if (j == i) (λ f. no-clash (i == j) (subst (λ (n : ℕ). (i == n) ≡ true) (sym (same-k j i f)) (self i)) e)
      where
        self : (i : ℕ) → (i == i) ≡ true
        self i = grind (arith, common_steps)

    turn-true : (i j : ℕ) → (i == j) ≡ true → (j == i) ≡ true
    turn-true i j e = grind (arith, common_steps)

    uncommitted : list_any (same_unit unit) (committed v.log) ≡ false
    uncommitted = false-if (list_any (same_unit unit) (committed v.log)) (λ e. no-clash (has_ended unit v.log) (committed-ended unit v.log e) open_yet)

    others : (w : UnitId) → same_unit unit w ≡ false → (if same_unit unit w && true then (k, value) ∷ v.puts w else v.puts w) ≡ v.puts w
    others w e = rw e refl

    book : value_by (λ w. if same_unit unit w && true then (k, value) ∷ v.puts w else v.puts w) r (committed v.log) (first r) ≡ value_at first v r
    book =
        value_by-uncommitted v.puts (λ w. if same_unit unit w && true then (k, value) ∷ v.puts w else v.puts w) unit r (committed v.log)
        (first r) others uncommitted

    by : (here is : Bool) → (r == k) ≡ here → same_unit unit u ≡ is
        → (elim here [ true ↦ slot_of (Some value) | false ↦ v.image r ])
        ≡ slot_of (value_after r (if is && true then (k, value) ∷ v.puts u else v.puts u)
        (value_by (λ w. if same_unit unit w && true then (k, value) ∷ v.puts w else v.puts w) r (committed v.log) (first r)))
    by true true e f = let g : (k == r) ≡ true = turn-true r k e in rw g refl
    by true false e f =
        no-clash (has_put u k (open_puts v.log)) (subst (λ (n : ℕ). has_put u n (open_puts v.log) ≡ true) (same-k r k e) put)
        (lock-other first size v unit u k state f own)
    by false true e f =
        let g : (k == r) ≡ false = turn r k e in
        rw g (last u r put (rw f g) ∙ ap (λ (x : Option (List ℕ)). slot_of (value_after r (v.puts u) x)) (sym book))
    by false false e f = last u r put (rw f refl) ∙ ap (λ (x : Option (List ℕ)). slot_of (value_after r (v.puts u) x)) (sym book)

-- an UNDO of a unit that rolls
pub undo-last : (first : ℕ → Option (List ℕ)) (size : ℕ) (v : View) (unit : UnitId) (rrn : ℕ) (own : List ℕ) → State size first v
    → has_put unit rrn (open_puts v.log) ≡ true
    → LastBut (λ u r. same_unit unit u) first v → LastBut (λ u r. same_unit unit u) first (after size (act.Undo rrn own) land.Full v)
undo-last first size v unit rrn own state here last u r put but = by (r == rrn) refl
  where
    same-k : (i j : ℕ) → (i == j) ≡ true → i ≡ j
    same-k i j e = grind (arith, common_steps)

    by : (b : Bool) → (r == rrn) ≡ b → (elim b [ true ↦ own | false ↦ v.image r ]) ≡ slot_of (value_after r (v.puts u) (value_at first v r))
    by true e =
        no-clash (has_put u rrn (open_puts v.log)) (subst (λ (n : ℕ). has_put u n (open_puts v.log) ≡ true) (same-k r rrn e) put)
        (lock-other first size v unit u rrn state but here)
    by false e = last u r put but

-- while a unit rolls
pub roll-last : (first : ℕ → Option (List ℕ)) (v : View) (p : Settings) (unit : UnitId) (place : ℕ) (rows : List Undo)
    → LastBut (λ u r. same_unit unit u) first v
    → LastAt first v (plans.Roll unit place) (roll_next p unit place rows)
roll-last first v p unit place [] last = log_write-last first v (plans.Roll unit place) p place (Backout unit) last
roll-last first v p unit place (row ∷ rows) last = last

-- after an ITEM
pub item-last : (first : ℕ → Option (List ℕ)) (v : View) (p : Settings) (h : List Event) (plan : Plan) → Last first v
    → LastIn first v plan (after_item p h plan)
item-last first v p h (plans.Answer a) last = last
item-last first v p h (plans.Get k) last = last
item-last first v p h (plans.Put u k value place) last = last
item-last first v p h (plans.Commit u place) last = log_write-last first v (plans.Commit u place) p place (Commit u) last
item-last first v p h (plans.Roll u place) last = roll-last first v p u place (rolled_left p u h) (λ w r put e. last w r put refl)
