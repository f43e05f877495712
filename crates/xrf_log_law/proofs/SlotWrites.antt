-- The slots of the log against the log: what each write of a slot leaves.
use Rattle.std.proofs.Common.{arith, ℕ, ◌+◌, ◌*◌, ◌≤◌, subst, ◌≡◌, ◌-◌, ◌<◌, Bool, false, nat_lt, refl, true, ◌/◌, ◌%◌, ◌==◌, List, length, ap, sym, ◌∙◌, None, Some, if◌then◌else◌, [], ◌∷◌, Option}
use Rattle.std.proofs.lemmas.Grind.{common_steps}
use Rattle.std.proofs.Math.Nat.{add-mod_right, div-add-mod, mod-eq_of_lt}
use Rattle.xrf_gated.specs.declared.gated.Slot.{Slot}
use Rattle.xrf_gated.specs.Slots.{is_open, zero_slot}
use Rattle.xrf_gated.specs.declared.gated.TheConstants.{OPEN}
use Rattle.xrf_logrec.specs.declared.records.LogRec.{LogRec}
use Rattle.xrf_logrec.specs.LogRecords.{log_reading}
use Rattle.xrf_log.specs.Scan.{record_at}
use Rattle.xrf_trace.specs.Landing.{is_gate, opens, landed}
use Rattle.xrf_trace.specs.Devices.{with_gate, with_body, close_at, body_at, open_at}
use Rattle.xrf_trace.specs.declared.entry.Land.{Land}
use Rattle.xrf_log_law.specs.LogSlots.{AtEnd, HoldsLast, LogStands, LogView, nth_old}
use Rattle.xrf_log_law.proofs.Tests.{eq-false, eq-of-false, eq-of-true, eq-true}

-- a round on is a round further on
mul_step : (s a d : ℕ) → s * a + s ≤ s * (a + 1 + d)
mul_step s a d = grind (arith, common_steps)

-- of two rounds the later is a round further
mul_next : (s a b : ℕ) → a < b → s * a + s ≤ s * b
mul_next s a b less =
    let e : a + 1 + (b - a - 1) ≡ b = omega arith in
    subst (λ (n : ℕ). s * a + s ≤ s * n) e (mul_step s a (b - a - 1))

-- later rounds are no nearer
mul_mono : (s a b : ℕ) → a ≤ b → s * a ≤ s * b
mul_mono s a b less = grind (arith, common_steps)

-- two numbers of one residue are apart by a round at least
pub same_residue : (size n k : ℕ) → k % size ≡ n % size → k < n → k + size ≤ n
same_residue size n k same less = by (nat_lt (k / size) (n / size)) refl
  where
    by : (b : Bool) → nat_lt (k / size) (n / size) ≡ b → k + size ≤ n
    by true is =
        let below : k / size < n / size = grind (arith, common_steps) in
        omega (arith, mul_next size (k / size) (n / size) below, div-add-mod k size, div-add-mod n size)
    by false is =
        let above : n / size ≤ k / size = grind (arith, common_steps) in
        absurd (omega (arith, mul_mono size (n / size) (k / size) above, div-add-mod k size, div-add-mod n size))

-- slots, of which one is changed
abbrev pub changed_at : ℕ → (Slot → Slot) → (ℕ → Slot) → ℕ → Slot
changed_at m change slot i = elim (i == m) [ true ↦ change (slot i) | false ↦ slot i ]

-- what a change of the slot of number n is to keep, with the log after it
pub record Keeps (size n : ℕ) (v : LogView) (change : Slot → Slot) (after : List LogRec) : Type 0 where
  pub here : (k : ℕ) → k % size ≡ n % size → n ≤ k → record_at (change (v.slot (n % size))) k ≡ nth_old after k
  pub there : (k : ℕ) → (k ≡ n → ⊥) → nth_old after k ≡ nth_old v.log k
  pub shut : length after ≡ n → n < size → is_open (change (v.slot (n % size))) ≡ false
  pub grows : length v.log ≤ length after
  pub by_one : length after ≤ n + 1
  pub last : is_open (change (v.slot (n % size))) ≡ true → HoldsLast size after (n % size) (change (v.slot (n % size)))
  pub next : length v.log ≡ n
  pub room : n < v.start + size

-- from the start on each slot gives its record
changed-slots : (size n : ℕ) (v : LogView) (change : Slot → Slot) (after : List LogRec) → LogStands size v → Keeps size n v change after
    → (k : ℕ) → v.start ≤ k → (b : Bool) → (k % size == n % size) ≡ b
    → record_at (elim b [ true ↦ change (v.slot (k % size)) | false ↦ v.slot (k % size) ]) k ≡ nth_old after k
changed-slots size n v change after stands keeps k from true same =
    let residue : k % size ≡ n % size = eq-of-true (k % size) (n % size) same in
    subst (λ (i : ℕ). record_at (change (v.slot i)) k ≡ nth_old after k) (sym residue) (keeps.here k residue (above residue (nat_lt k n) refl))
  where
    above : k % size ≡ n % size → (b : Bool) → nat_lt k n ≡ b → n ≤ k
    above residue true less =
        let below : k < n = grind (arith, common_steps) in
        absurd (omega (arith, same_residue size n k residue below, keeps.room))
    above residue false less = grind (arith, common_steps)
changed-slots size n v change after stands keeps k from false differ =
    stands.slots k from ∙ sym (keeps.there k (λ same. eq-of-false (k % size) (n % size) differ (ap (λ (i : ℕ). i % size) same)))

-- the slots that were not used are closed
changed-unused : (size n : ℕ) (v : LogView) (change : Slot → Slot) (after : List LogRec) → LogStands size v → Keeps size n v change after
    → (i : ℕ) → length after ≤ i → i < size → (b : Bool) → (i == n % size) ≡ b
    → is_open (elim b [ true ↦ change (v.slot i) | false ↦ v.slot i ]) ≡ false
changed-unused size n v change after stands keeps i from within true same =
    let within_n : n < size = omega (arith, keeps.grows, keeps.next) in
    let first : i ≡ n = eq-of-true i (n % size) same ∙ mod-eq_of_lt within_n in
    let all : length after ≡ n = omega (arith, keeps.grows, keeps.next) in
    subst (λ (j : ℕ). is_open (change (v.slot j)) ≡ false) (sym (eq-of-true i (n % size) same)) (keeps.shut all within_n)
changed-unused size n v change after stands keeps i from within false differ =
    stands.unused i (omega (arith, keeps.grows)) within

-- a record of a log is within it
pub some-within : (log : List LogRec) (k : ℕ) (rec : LogRec) → nth_old log k ≡ Some rec → k < length log
some-within [] k rec is = absurd (cc)
some-within (first ∷ log) k rec is = by (k == length log) refl is (some-within log k rec)
  where
    by : (b : Bool) → (k == length log) ≡ b → (if b then Some first else nth_old log k) ≡ Some rec → (nth_old log k ≡ Some rec → k < length log)
        → k < length (first ∷ log)
    by true e is rest = let same : k ≡ length log = grind (arith, common_steps) in omega arith
    by false e is rest = let less : k < length log = rest is in omega arith

-- an open slot of another residue holds its last record still
kept-last : (size n : ℕ) (v : LogView) (change : Slot → Slot) (after : List LogRec) (i : ℕ) → Keeps size n v change after → (i ≡ n % size → ⊥)
    → HoldsLast size v.log i (v.slot i) → HoldsLast size after i (v.slot i)
kept-last size n v change after i keeps differs holds =
    let less : holds.number < length v.log = some-within v.log holds.number holds.rec holds.there in
    record {
      number = holds.number;
      rec = holds.rec;
      spells = holds.spells;
      place = holds.place;
      there = keeps.there holds.number (λ same. absurd (omega (arith, less, same, keeps.next))) ∙ holds.there;
      newest = by (nat_lt n (holds.number + size)) refl;
    }
  where
    by : (b : Bool) → nat_lt n (holds.number + size) ≡ b → length after ≤ holds.number + size
    by true e = let less : n < holds.number + size = grind (arith, common_steps) in omega (arith, less, keeps.by_one)
    by false e =
        let most : holds.number + size ≤ n = grind (arith, common_steps) in
        let same : holds.number + size ≡ n = omega (arith, most, holds.newest, keeps.next) in
        absurd (differs (sym holds.place ∙ sym (add-mod_right holds.number size) ∙ ap (λ (k : ℕ). k % size) same))

-- each open slot holds its last record
changed-last : (size n : ℕ) (v : LogView) (change : Slot → Slot) (after : List LogRec) → LogStands size v → Keeps size n v change after
    → (i : ℕ) (b : Bool) → (i == n % size) ≡ b → is_open (elim b [ true ↦ change (v.slot i) | false ↦ v.slot i ]) ≡ true
    → HoldsLast size after i (elim b [ true ↦ change (v.slot i) | false ↦ v.slot i ])
changed-last size n v change after stands keeps i true same opened =
    let is : i ≡ n % size = eq-of-true i (n % size) same in
    subst (λ (j : ℕ). HoldsLast size after j (change (v.slot j))) (sym is) (keeps.last (subst (λ (j : ℕ). is_open (change (v.slot j)) ≡ true) is opened))
changed-last size n v change after stands keeps i false differ opened =
    kept-last size n v change after i keeps (eq-of-false i (n % size) differ) (stands.last i opened)

-- so the slots stand against the log after the change
pub changed : (size n : ℕ) (v : LogView) (change : Slot → Slot) (after : List LogRec) → LogStands size v → Keeps size n v change after
    → LogStands size (record { log = after; start = v.start; slot = changed_at (n % size) change v.slot })
changed size n v change after stands keeps = record {
  slots = λ k from. changed-slots size n v change after stands keeps k from (k % size == n % size) refl;
  unused = λ i from within. changed-unused size n v change after stands keeps i from within (i == n % size) refl;
  last = λ i opened. changed-last size n v change after stands keeps i (i == n % size) refl opened;
}

-- what a slot gives
closed-none : (slot : Slot) (k : ℕ) → is_open slot ≡ false → record_at slot k ≡ None
closed-none slot k closed = rw closed refl

-- an open slot gives the record that it spells, at its number
opened-some : (slot : Slot) (n k : ℕ) (rec : LogRec) → is_open slot ≡ true → log_reading slot.body ≡ Some (n, rec)
    → record_at slot k ≡ (if n == k then Some rec else None)
opened-some slot n k rec opened spelled = rw opened (rw spelled refl)

-- a record beyond the log is none
pub past-none : (log : List LogRec) (k : ℕ) → length log ≤ k → nth_old log k ≡ None
past-none [] k past = refl
past-none (rec ∷ log) k past =
    let e : (k == length log) ≡ false = eq-false k (length log) (λ same. omega arith) in
    rw e (past-none log k (omega arith))

-- a record that joins leaves the other numbers
pub push-other : (log : List LogRec) (rec : LogRec) (k n : ℕ) → length log ≡ n → (k ≡ n → ⊥) → nth_old (rec ∷ log) k ≡ nth_old log k
push-other log rec k n next differ =
    let e : (k == length log) ≡ false = eq-false k (length log) (λ same. differ (same ∙ next)) in
    rw e refl

-- at its number and beyond it alone is there
pub push-at : (log : List LogRec) (rec : LogRec) (k n : ℕ) → length log ≡ n → n ≤ k → nth_old (rec ∷ log) k ≡ (if n == k then Some rec else None)
push-at log rec k n next from = by (n == k) refl
  where
    by : (b : Bool) → (n == k) ≡ b → nth_old (rec ∷ log) k ≡ (if b then Some rec else None)
    by true same =
        let e : (k == length log) ≡ true = eq-true k (length log) (sym (eq-of-true n k same) ∙ sym next) in
        rw e refl
    by false differ =
        push-other log rec k n next (λ same. eq-of-false n k differ (sym same)) ∙ past-none log k (omega arith)

-- a gate that lands
-- CLOSE, where the slot is open: it is closed, or as it was
pub close_same : (gate : ℕ) (slot : Slot) → is_open slot ≡ true → (gate == OPEN) ≡ true → record { gate = gate; body = slot.body } ≡ slot
close_same gate slot opened e =
    let g : gate ≡ slot.gate = eq-of-true gate OPEN e ∙ sym (eq-of-true slot.gate OPEN opened) in
    ap (λ (b : ℕ). record { gate = b; body = slot.body }) g

-- a CLOSE of an open slot that gives no record gives none
close_none : (o : Option (List ℕ)) (slot : Slot) (k : ℕ) → is_open slot ≡ true → record_at slot k ≡ None → record_at (with_gate o slot) k ≡ None
close_none None slot k opened none = none
close_none (Some []) slot k opened none = none
close_none (Some (gate ∷ rest)) slot k opened none = by (gate == OPEN) refl
  where
    by : (b : Bool) → (gate == OPEN) ≡ b → record_at (record { gate = gate; body = slot.body }) k ≡ None
    by true e = ap (λ (found : Slot). record_at found k) (close_same gate slot opened e) ∙ none
    by false e = closed-none (record { gate = gate; body = slot.body }) k e

-- the slot of the next number gives no record of that number or beyond
in_reach : (size n : ℕ) (v : LogView) → LogStands size v → AtEnd size n v → (k : ℕ) → k % size ≡ n % size → n ≤ k → record_at (v.slot (n % size)) k ≡ None
in_reach size n v stands at k residue from =
    subst (λ (i : ℕ). record_at (v.slot i) k ≡ None) residue (stands.slots k (omega (arith, at.start)) ∙ past-none v.log k (omega (arith, at.next)))

-- an open slot is of a number that was used, so it is not one of the first round
used : (size n : ℕ) (v : LogView) → LogStands size v → AtEnd size n v → is_open (v.slot (n % size)) ≡ true → n < size → ⊥
used size n v stands at opened within =
    let closed : is_open (v.slot (n % size)) ≡ false =
    subst (λ (i : ℕ). is_open (v.slot i) ≡ false) (sym (mod-eq_of_lt within)) (stands.unused n (omega (arith, at.next)) within) in
    let clash : false ≡ true = sym closed ∙ opened in absurd (cc)

-- a body leaves the gate
pub body_gate : (o : Option (List ℕ)) (slot : Slot) → is_open slot ≡ false → is_open (with_body o slot) ≡ false
body_gate None slot closed = closed
body_gate (Some body) slot closed = closed

-- OPEN of the full own body: where 0xc1 lands the record joins the log
pub opened_gate : (o : Option (List ℕ)) (slot : Slot) → is_gate o ≡ true → is_open (with_gate o slot) ≡ true
opened_gate None slot e = absurd (cc)
opened_gate (Some []) slot e = absurd (cc)
opened_gate (Some (gate ∷ rest)) slot e = e

-- a gate leaves the body
pub gate_body : (o : Option (List ℕ)) (slot : Slot) → (with_gate o slot).body ≡ slot.body
gate_body None slot = refl
gate_body (Some []) slot = refl
gate_body (Some (gate ∷ rest)) slot = refl

-- a gate that is not 0xc1 leaves a slot closed
pub gate_shut : (o : Option (List ℕ)) (slot : Slot) → is_gate o ≡ false → is_open slot ≡ false → is_open (with_gate o slot) ≡ false
gate_shut None slot e closed = closed
gate_shut (Some []) slot e closed = closed
gate_shut (Some (gate ∷ rest)) slot e closed = e

-- a slot that is open after CLOSE is as it was
close-last : (fact : Slot → Type 0) (o : Option (List ℕ)) (slot : Slot) → is_open slot ≡ true → fact slot → is_open (with_gate o slot) ≡ true
    → fact (with_gate o slot)
close-last fact None slot opened holds after = holds
close-last fact (Some []) slot opened holds after = holds
close-last fact (Some (gate ∷ rest)) slot opened holds after = subst fact (sym (close_same gate slot opened after)) holds

-- a closed slot is not open
no-open : {P : Type 0} (slot : Slot) → is_open slot ≡ false → is_open slot ≡ true → P
no-open slot closed opened = let clash : false ≡ true = sym closed ∙ opened in absurd (cc)

-- the slot that is opened holds the new record
opened-last : (size n : ℕ) (land : Land) (rec : LogRec) (v : LogView) → AtEnd size n v → log_reading (v.slot (n % size)).body ≡ Some (n, rec)
    → HoldsLast size (rec ∷ v.log) (n % size) (with_gate (landed land (OPEN ∷ [])) (v.slot (n % size)))
opened-last size n land rec v at spelled = record {
  number = n;
  rec = rec;
  spells = ap log_reading (gate_body (landed land (OPEN ∷ [])) (v.slot (n % size))) ∙ spelled;
  place = refl;
  there = push-at v.log rec n n at.next (omega arith) ∙ own;
  newest = omega (arith, at.next, at.start, at.room);
}
  where
    own : (if n == n then Some rec else None) ≡ Some rec
    own = rw (eq-true n n refl) refl

-- LOGCLOSE, whatever of it lands
pub close-stands : (size n : ℕ) (land : Land) (v : LogView) → 0 < size → LogStands size v → AtEnd size n v → is_open (v.slot (n % size)) ≡ true
    → LogStands size (record { log = v.log; start = v.start; slot = λ i. close_at (n % size) land i (v.slot i) })
close-stands size n land v some stands at opened = changed size n v (with_gate (landed land (0 ∷ []))) v.log stands (record {
  here = λ k residue from.
      close_none (landed land (0 ∷ [])) (v.slot (n % size)) k opened (in_reach size n v stands at k residue from)
      ∙ sym (past-none v.log k (omega (arith, at.next)));
  there = λ k differ. refl;
  shut = λ all within. absurd (used size n v stands at opened within);
  grows = omega arith;
  by_one = omega (arith, at.next);
  last = close-last (HoldsLast size v.log (n % size)) (landed land (0 ∷ [])) (v.slot (n % size)) opened (stands.last (n % size) opened);
  next = at.next;
  room = at.room;
})

-- LOGBODY, whatever of it lands
pub body-stands : (size n : ℕ) (land : Land) (own : List ℕ) (v : LogView) → LogStands size v → AtEnd size n v → is_open (v.slot (n % size)) ≡ false
    → LogStands size (record { log = v.log; start = v.start; slot = λ i. body_at (n % size) land own i (v.slot i) })
body-stands size n land own v stands at closed = changed size n v (with_body (landed land own)) v.log stands (record {
  here =
      λ k residue from. closed-none (with_body (landed land own) (v.slot (n % size))) k (body_gate (landed land own) (v.slot (n % size)) closed)
      ∙ sym (past-none v.log k (omega (arith, at.next)));
  there = λ k differ. refl;
  shut = λ all within. body_gate (landed land own) (v.slot (n % size)) closed;
  grows = omega arith;
  by_one = omega (arith, at.next);
  last = no-open (with_body (landed land own) (v.slot (n % size))) (body_gate (landed land own) (v.slot (n % size)) closed);
  next = at.next;
  room = at.room;
})

-- LOGOPEN of the full own body, whatever of it lands
pub open-stands : (size n : ℕ) (land : Land) (rec : LogRec) (v : LogView) → LogStands size v → AtEnd size n v → is_open (v.slot (n % size)) ≡ false
    → log_reading (v.slot (n % size)).body ≡ Some (n, rec)
    → LogStands size (record { log = if opens land then rec ∷ v.log else v.log; start = v.start; slot = λ i. open_at (n % size) land i (v.slot i) })
open-stands size n land rec v stands at closed spelled = by (opens land) refl
  where
    by : (b : Bool) → opens land ≡ b
        → LogStands size (record { log = if b then rec ∷ v.log else v.log; start = v.start; slot = λ i. open_at (n % size) land i (v.slot i) })
    by true e = changed size n v (with_gate (landed land (OPEN ∷ []))) (rec ∷ v.log) stands (record {
      here = λ k residue from.
          opened-some (with_gate (landed land (OPEN ∷ [])) (v.slot (n % size))) n k rec (opened_gate (landed land (OPEN ∷ [])) (v.slot (n % size)) e)
          (ap log_reading (gate_body (landed land (OPEN ∷ [])) (v.slot (n % size))) ∙ spelled)
          ∙ sym (push-at v.log rec k n at.next from);
      there = λ k differ. push-other v.log rec k n at.next differ;
      shut = λ all within. absurd (omega (arith, at.next));
      grows = omega arith;
      by_one = omega (arith, at.next);
      last = λ opened. opened-last size n land rec v at spelled;
      next = at.next;
      room = at.room;
    })
    by false e = changed size n v (with_gate (landed land (OPEN ∷ []))) v.log stands (record {
      here = λ k residue from.
          closed-none (with_gate (landed land (OPEN ∷ [])) (v.slot (n % size))) k (gate_shut (landed land (OPEN ∷ [])) (v.slot (n % size)) e closed)
          ∙ sym (past-none v.log k (omega (arith, at.next)));
      there = λ k differ. refl;
      shut = λ all within. gate_shut (landed land (OPEN ∷ [])) (v.slot (n % size)) e closed;
      grows = omega arith;
      by_one = omega (arith, at.next);
      last = no-open (with_gate (landed land (OPEN ∷ [])) (v.slot (n % size))) (gate_shut (landed land (OPEN ∷ [])) (v.slot (n % size)) e closed);
      next = at.next;
      room = at.room;
    })

-- a keypoint moves the start on
pub later-stands : (size later : ℕ) (v : LogView) → LogStands size v → v.start ≤ later → LogStands size (record { log = v.log; start = later; slot = v.slot })
later-stands size later v stands on = record { slots = λ k from. stands.slots k (omega arith); unused = stands.unused; last = stands.last }

-- at first
pub first-stands : (size : ℕ) → LogStands size (record { log = []; start = 0; slot = λ i. zero_slot })
first-stands size = record { slots = λ k from. refl; unused = λ i from within. refl; last = λ i opened. absurd (cc) }
