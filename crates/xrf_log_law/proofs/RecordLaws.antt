-- What a record that joins the log leaves of the state.
use Rattle.std.proofs.Common.{Bool, false, refl, true, ◌≡◌, ◌||◌, List, arith, length, sym, ℕ, ◌≤◌, ◌∷◌, ◌∙◌, cond, filter, not, [], ◌+◌, ◌++◌, if◌then◌else◌, Option, ap, subst, ◌==◌, ◌&&◌}
use Rattle.std.specs.List.{list_any}
use Rattle.xrf_base.specs.declared.items.UnitId.{UnitId}
use Rattle.xrf_base.specs.Values.{slot_of}
use Rattle.xrf_logrec.specs.declared.records.LogRec.{LogRec}
use Rattle.xrf_logrec.specs.LogRecords.{same_unit}
use Rattle.xrf_logrec.specs.declared.records.LogRec.TheVariants.{Backout, Commit, Put}
use Rattle.xrf_logrec.proofs.LogLaws.{same_unit-true}
use Rattle.xrf_log.specs.Flight.{ends, has_ended, flight, open_puts}
use Rattle.xrf_log.specs.declared.taken.Row.{Row}
use Rattle.xrf_log.proofs.FlightLaws.{open_puts-put, flight-commit, in_flight-not_ended, open_puts-commit, flight-backout, open_puts-backout}
use Rattle.xrf_trace.specs.Log.{committed}
use Rattle.xrf_trace.specs.Book.{value_after}
use Rattle.xrf_trace.proofs.PromiseLaws.{committed-ended}
use Rattle.xrf_log_law.specs.State.{AreOver, AreOrdered, View, RecordDue, value_at}
use Rattle.xrf_log_law.proofs.SlotWrites.{push-other}
use Rattle.xrf_log_law.specs.BeforeImages.{value_by, has_put, IsUndone}
use Rattle.xrf_log_law.proofs.BeforeImageLaws.{without, put-undone, put_row, end-undone}
use Rattle.xrf_history.proofs.Tests.{or-right}
use Rattle.xrf_log_law.proofs.Tests.{no-clash, or-parts}

-- the units that have ended before the start stay so
pub push-over : (start : ℕ) (log : List LogRec) (rec : LogRec) → start ≤ length log → AreOver start log → AreOver start (rec ∷ log)
push-over start log rec within over k unit rrn before early is =
    or-right (ends unit rec) (has_ended unit log) (over k unit rrn before early (sym (push-other log rec k (length log) refl (λ same. omega arith)) ∙ is))

-- room
few : (unit : UnitId) (units : List UnitId) → length (filter (λ u. not (same_unit u unit)) units) ≤ length units
few unit [] = omega arith
few unit (u ∷ units) = by (same_unit u unit) (few unit units)
  where
    by : (b : Bool) → length (filter (λ u. not (same_unit u unit)) units) ≤ length units
        → length (cond (not b) (u ∷ filter (λ u. not (same_unit u unit)) units) (filter (λ u. not (same_unit u unit)) units)) ≤ length (u ∷ units)
    by true less = omega arith
    by false less = omega arith

-- without a unit that is found there is one less
fewer : (unit : UnitId) (units : List UnitId) → list_any (λ u. same_unit u unit) units ≡ true
    → length (filter (λ u. not (same_unit u unit)) units) + 1 ≤ length units
fewer unit [] found = absurd (cc)
fewer unit (u ∷ units) found = by (same_unit u unit) (fewer unit units) found
  where
    by : (b : Bool) → (list_any (λ u. same_unit u unit) units ≡ true → length (filter (λ u. not (same_unit u unit)) units) + 1 ≤ length units)
        → (b || list_any (λ u. same_unit u unit) units) ≡ true
        → length (cond (not b) (u ∷ filter (λ u. not (same_unit u unit)) units) (filter (λ u. not (same_unit u unit)) units)) + 1 ≤ length (u ∷ units)
    by true rest found = omega (arith, few unit units)
    by false rest found = omega (arith, rest found)

-- the last unit is the last to put
value_by-last : (puts : UnitId → List (ℕ × List ℕ)) (r : ℕ) (units : List UnitId) (unit : UnitId) (before : Option (List ℕ))
    → value_by puts r (units ++ unit ∷ []) before ≡ value_after r (puts unit) (value_by puts r units before)
value_by-last puts r [] unit before = refl
value_by-last puts r (u ∷ units) unit before = value_by-last puts r units unit (value_after r (puts u) before)

-- the book after a Commit of a unit that has not ended
pub commit-value : (first : ℕ → Option (List ℕ)) (puts : UnitId → List (ℕ × List ℕ)) (log : List LogRec) (unit : UnitId) (r : ℕ) → has_ended unit log ≡ false
    → value_by puts r (committed (Commit unit ∷ log)) (first r) ≡ value_after r (puts unit) (value_by puts r (committed log) (first r))
commit-value first puts log unit r open_yet = by (list_any (same_unit unit) (committed log)) refl
  where
    by : (b : Bool) → list_any (same_unit unit) (committed log) ≡ b
        → value_by puts r (if b then committed log else committed log ++ unit ∷ []) (first r) ≡ value_after r (puts unit)
        (value_by puts r (committed log) (first r))
    by true e = no-clash (has_ended unit log) (committed-ended unit log e) open_yet
    by false e = value_by-last puts r (committed log) unit (first r)

-- of another unit nothing goes
without-keeps : (unit u : UnitId) (r : ℕ) (rows : List Row) → same_unit u unit ≡ false → has_put u r (without unit rows) ≡ has_put u r rows
without-keeps unit u r [] differ = refl
without-keeps unit u r (row ∷ rows) differ = by (same_unit row.unit unit) refl (without-keeps unit u r rows differ)
  where
    by : (b : Bool) → same_unit row.unit unit ≡ b → has_put u r (without unit rows) ≡ has_put u r rows
        → has_put u r (cond (not b) (row ∷ without unit rows) (without unit rows)) ≡ ((row.undo.rrn == r && same_unit row.unit u) || has_put u r rows)
    by true own rest =
        let other : same_unit row.unit u ≡ false = no_more (same_unit row.unit u)
        (λ e. no-clash (same_unit u unit) (subst (λ (w : UnitId). same_unit w unit ≡ true) (same_unit-true row.unit u e) own) differ) in
        rw other (rest ∙ nothing (row.undo.rrn == r))
      where
        no_more : (c : Bool) → (c ≡ true → ⊥) → c ≡ false
        no_more true f = absurd (f refl)
        no_more false f = refl

        nothing : (c : Bool) → has_put u r rows ≡ ((c && false) || has_put u r rows)
        nothing true = refl
        nothing false = refl
    by false own rest = ap (λ (c : Bool). (row.undo.rrn == r && same_unit row.unit u) || c) rest

-- what of the state the log decides
pub record Recorded (size : ℕ) (first : ℕ → Option (List ℕ)) (v : View) (log : List LogRec) : Type 0 where
  pub within : v.start ≤ length log
  pub room : length log + length (flight log) ≤ v.start + size
  pub ordered : AreOrdered log
  pub over : AreOver v.start log
  pub undone : IsUndone (open_puts log) v.image (λ r. slot_of (value_by v.puts r (committed log) (first r)))
  pub unput : (unit : UnitId) (r : ℕ) → has_ended unit log ≡ false → has_put unit r (open_puts log) ≡ false → (x : Option (List ℕ))
      → value_after r (v.puts unit) x ≡ x

-- a Put
put-recorded : (size : ℕ) (first : ℕ → Option (List ℕ)) (v : View) (unit : UnitId) (rrn : ℕ) (before : List ℕ) → Recorded size first v v.log
    → RecordDue size first v (Put unit rrn before) → Recorded size first v (Put unit rrn before ∷ v.log)
put-recorded size first v unit rrn before is due =
    let rows : open_puts (Put unit rrn before ∷ v.log) ≡ put_row unit rrn before ∷ open_puts v.log = open_puts-put v.log (put_row unit rrn before) due.1 in
    record {
      within = omega (arith, is.within);
      room = omega (arith, due.3);
      ordered = (is.ordered, due.1);
      over = push-over v.start v.log (Put unit rrn before) is.within is.over;
      undone =
          subst (λ (l : List Row). IsUndone l v.image (λ r. slot_of (value_by v.puts r (committed v.log) (first r)))) (sym rows)
          (put-undone unit rrn before (open_puts v.log) v.image (λ r. slot_of (value_by v.puts r (committed v.log) (first r))) due.2 due.0 is.undone);
      unput = λ u r open_yet none x.
          is.unput u r open_yet
          (or-parts ((rrn == r) && same_unit unit u) (has_put u r (open_puts v.log)) (subst (λ (l : List Row). has_put u r l ≡ false) rows none)).1 x;
    }

-- a Commit
commit-recorded : (size : ℕ) (first : ℕ → Option (List ℕ)) (v : View) (unit : UnitId) → Recorded size first v v.log
    → RecordDue size first v (Commit unit) → Recorded size first v (Commit unit ∷ v.log)
commit-recorded size first v unit is due =
    let open_yet : has_ended unit v.log ≡ false = in_flight-not_ended v.log unit due.0 in
    let rows : open_puts (Commit unit ∷ v.log) ≡ without unit (open_puts v.log) = open_puts-commit v.log unit in
    let value : (r : ℕ) → value_by v.puts r (committed (Commit unit ∷ v.log)) (first r) ≡ value_after r (v.puts unit)
    (value_at first v r) = λ r. commit-value first v.puts v.log unit r open_yet in
    record {
      within = omega (arith, is.within);
      room = omega (arith, ap length (flight-commit v.log unit), fewer unit (flight v.log) due.0, is.room);
      ordered = is.ordered;
      over = push-over v.start v.log (Commit unit) is.within is.over;
      undone =
          subst (λ (l : List Row). IsUndone l v.image (λ r. slot_of (value_by v.puts r (committed (Commit unit ∷ v.log)) (first r)))) (sym rows)
          (end-undone unit (open_puts v.log) v.image (λ r. slot_of (value_at first v r))
          (λ r. slot_of (value_by v.puts r (committed (Commit unit ∷ v.log)) (first r)))
          (λ r put. due.1 r put ∙ ap slot_of (sym (value r)))
          (λ r none. ap slot_of (sym (value r ∙ is.unput unit r open_yet none (value_at first v r)))) is.undone);
      unput = λ u r still none x.
          (let parts = or-parts (same_unit u unit) (has_ended u v.log) still in
          is.unput u r parts.1 (sym (without-keeps unit u r (open_puts v.log) parts.0) ∙ subst (λ (l : List Row). has_put u r l ≡ false) rows none) x);
    }

-- a Backout
backout-recorded : (size : ℕ) (first : ℕ → Option (List ℕ)) (v : View) (unit : UnitId) → Recorded size first v v.log
    → RecordDue size first v (Backout unit) → Recorded size first v (Backout unit ∷ v.log)
backout-recorded size first v unit is due =
    let rows : open_puts (Backout unit ∷ v.log) ≡ without unit (open_puts v.log) = open_puts-backout v.log unit in
    record {
      within = omega (arith, is.within);
      room = omega (arith, ap length (flight-backout v.log unit), fewer unit (flight v.log) due.0, is.room);
      ordered = is.ordered;
      over = push-over v.start v.log (Backout unit) is.within is.over;
      undone =
          subst (λ (l : List Row). IsUndone l v.image (λ r. slot_of (value_at first v r))) (sym rows)
          (end-undone unit (open_puts v.log) v.image (λ r. slot_of (value_at first v r)) (λ r. slot_of (value_at first v r)) due.1 (λ r none. refl) is.undone);
      unput = λ u r still none x.
          (let parts = or-parts (same_unit u unit) (has_ended u v.log) still in
          is.unput u r parts.1 (sym (without-keeps unit u r (open_puts v.log) parts.0) ∙ subst (λ (l : List Row). has_put u r l ≡ false) rows none) x);
    }

-- each record that is due
pub recorded : (size : ℕ) (first : ℕ → Option (List ℕ)) (v : View) (rec : LogRec) → Recorded size first v v.log → RecordDue size first v rec
    → Recorded size first v (rec ∷ v.log)
recorded size first v (Put unit rrn before) is due = put-recorded size first v unit rrn before is due
recorded size first v (Commit unit) is due = commit-recorded size first v unit is due
recorded size first v (Backout unit) is due = backout-recorded size first v unit is due
