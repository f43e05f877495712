-- The state is kept by what of an act lands.
use Rattle.std.proofs.Common.{length, ◌≡◌, List, Option, ap, ℕ, ◌∙◌, IfSome, None, Some, true, ◌%◌, ◌<◌, ◌==◌, [], ◌∷◌, false, Bool, if◌then◌else◌, ◌+◌, arith, refl, ◌||◌, map, ◌&&◌, subst, sym}
use Rattle.std.specs.List.{list_any}
use Rattle.xrf_base.specs.declared.items.UnitId.{UnitId}
use Rattle.xrf_base.specs.Values.{slot_of}
use Rattle.xrf_gated.specs.declared.gated.Slot.{Slot}
use Rattle.xrf_gated.specs.Slots.{is_open}
use Rattle.xrf_gated.specs.declared.gated.TheConstants.{OPEN}
use Rattle.xrf_logrec.specs.declared.records.LogRec.{LogRec}
use Rattle.xrf_logrec.specs.LogRecords.{spelling as record_spelling, log_reading, same_unit}
use Rattle.xrf_logrec.specs.declared.keypoints.Keypoint.{Keypoint}
use Rattle.xrf_logrec.specs.Keypoints.{key_spelling, key_reading}
use Rattle.xrf_logrec.proofs.LogLaws.{same_unit-true}
use Rattle.xrf_log.specs.Flight.{open_puts, has_ended}
use Rattle.xrf_log.specs.declared.taken.Row.{Row}
use Rattle.xrf_trace.specs.Devices.{with_gate, with_body, close_at, body_at, open_at, bytes_if}
use Rattle.xrf_trace.specs.declared.entry.Land.{Land}
use Rattle.xrf_trace.specs.Landing.{landed, opens, is_in_full}
use Rattle.xrf_trace.specs.Book.{value_after}
use Rattle.xrf_trace.specs.Log.{committed}
use Rattle.xrf_log_law.proofs.SlotWrites.{gate_body, close-stands, body-stands, open-stands, later-stands}
use Rattle.xrf_log_law.specs.LogSlots.{LogStands, AtEnd}
use Rattle.xrf_log_law.specs.State.{State, View, after, log_part, RecordDue, KeysStand, booked}
use Rattle.xrf_log_law.proofs.Tests.{choose, eq-of-true, false-if, no-clash}
use Rattle.xrf_log_law.proofs.RecordLaws.{Recorded, recorded}
use Rattle.xrf_log_law.proofs.KeyWrites.{close-keys, body-keys, open-keys}
use Rattle.xrf_log_law.specs.Due.{KeyDue, open_rows}
use Rattle.xrf_log_law.specs.BeforeImages.{covers, value_by, has_put}
use Rattle.xrf_log_law.proofs.BeforeImageLaws.{write-undone}
use Rattle.xrf_trace.specs.declared.entry.Act.TheVariants as act
use Rattle.xrf_trace.proofs.PromiseLaws.{committed-ended}

-- a slot has a body of 63 bytes
abbrev IsWhole : Slot → Type 0
IsWhole slot = length slot.body ≡ 63

-- a gate leaves it so
gate-whole : (o : Option (List ℕ)) (slot : Slot) → IsWhole slot → IsWhole (with_gate o slot)
gate-whole o slot whole = ap length (gate_body o slot) ∙ whole

-- and so does a body that lands
body-whole : (o : Option (List ℕ)) (slot : Slot) → IfSome o (λ body. length body ≡ 63) → IsWhole slot → IsWhole (with_body o slot)
body-whole None slot sized whole = whole
body-whole (Some body) slot sized whole = sized

-- the slots change alone
slots-state : (size : ℕ) (first : ℕ → Option (List ℕ)) (v : View) (slot : ℕ → Slot) → State size first v
    → LogStands size (record { log = v.log; start = v.start; slot = slot })
    → ((i : ℕ) → IsWhole (slot i)) → State size first (record v { slot = slot })
slots-state size first v slot state stands whole = record {
  log = stands;
  whole = whole;
  within = state.within;
  room = state.room;
  ordered = state.ordered;
  over = state.over;
  keys = state.keys;
  keys_whole = state.keys_whole;
  undone = record { locked = state.undone.locked; back = state.undone.back };
  unput = state.unput;
}

-- LOGCLOSE keeps the state
pub close-state : (size : ℕ) (first : ℕ → Option (List ℕ)) (v : View) (n : ℕ) (l : Land) → 0 < size → AtEnd size n (log_part v)
    → is_open (v.slot (n % size)) ≡ true
    → State size first v → State size first (after size (act.LogClose n) l v)
close-state size first v n l some at opened state =
    slots-state size first v (λ i. close_at (n % size) l i (v.slot i)) state (close-stands size n l (log_part v) some state.log at opened)
    (λ i. choose IsWhole (i == n % size) _ _ (λ e. gate-whole (landed l (0 ∷ [])) (v.slot i) (state.whole i)) (λ e. state.whole i))

-- LOGBODY keeps it
pub body-state : (size : ℕ) (first : ℕ → Option (List ℕ)) (v : View) (n : ℕ) (rec : LogRec) (l : Land) → AtEnd size n (log_part v)
    → is_open (v.slot (n % size)) ≡ false
    → IfSome (landed l (record_spelling n rec)) (λ body. length body ≡ 63) → State size first v → State size first (after size (act.LogBody n rec) l v)
body-state size first v n rec l at closed sized state =
    slots-state size first v (λ i. body_at (n % size) l (record_spelling n rec) i (v.slot i)) state
    (body-stands size n l (record_spelling n rec) (log_part v) state.log at closed)
    (λ i. choose IsWhole (i == n % size) _ _ (λ e. body-whole (landed l (record_spelling n rec)) (v.slot i) sized (state.whole i)) (λ e. state.whole i))

-- LOGOPEN of the record that is due keeps it
pub open-state : (size : ℕ) (first : ℕ → Option (List ℕ)) (v : View) (n : ℕ) (rec : LogRec) (l : Land) → AtEnd size n (log_part v)
    → is_open (v.slot (n % size)) ≡ false
    → log_reading (v.slot (n % size)).body ≡ Some (n, rec) → RecordDue size first v rec → State size first v
    → State size first (after size (act.LogOpen n rec) l v)
open-state size first v n rec l at closed spelled due state =
    by (opens l) (open-stands size n l rec (log_part v) state.log at closed spelled)
  where
    whole : (i : ℕ) → IsWhole (open_at (n % size) l i (v.slot i))
    whole i = choose IsWhole (i == n % size) _ _ (λ e. gate-whole (landed l (OPEN ∷ [])) (v.slot i) (state.whole i)) (λ e. state.whole i)

    before : Recorded size first v v.log
    before = record { within = state.within; room = state.room; ordered = state.ordered; over = state.over; undone = state.undone; unput = state.unput }

    by : (b : Bool) → LogStands size (record { log = if b then rec ∷ v.log else v.log; start = v.start; slot = λ i. open_at (n % size) l i (v.slot i) })
        → State size first (record v { log = if b then rec ∷ v.log else v.log; slot = λ i. open_at (n % size) l i (v.slot i) })
    by false stands = slots-state size first v (λ i. open_at (n % size) l i (v.slot i)) state stands whole
    by true stands =
        let now = recorded size first v rec before due in
        record {
          log = stands;
          whole = whole;
          within = now.within;
          room = now.room;
          ordered = now.ordered;
          over = now.over;
          keys = state.keys;
          keys_whole = state.keys_whole;
          undone = record { locked = now.undone.locked; back = now.undone.back };
          unput = now.unput;
        }

-- the keypoint slots
keys-state : (size : ℕ) (first : ℕ → Option (List ℕ)) (v : View) (key : ℕ → Slot) → State size first v → KeysStand v.number v.start key
    → ((i : ℕ) → IsWhole (key i))
    → State size first (record v { key = key })
keys-state size first v key state stand whole = record {
  log = state.log;
  whole = state.whole;
  within = state.within;
  room = state.room;
  ordered = state.ordered;
  over = state.over;
  keys = stand;
  keys_whole = whole;
  undone = record { locked = state.undone.locked; back = state.undone.back };
  unput = state.unput;
}

-- KPCLOSE keeps it
pub key_close-state : (size : ℕ) (first : ℕ → Option (List ℕ)) (v : View) (k : ℕ) (l : Land) → k ≡ (v.number + 1) % 2 → is_open (v.key k) ≡ true
    → State size first v → State size first (after size (act.KpClose k) l v)
key_close-state size first v k l is opened state =
    keys-state size first v (λ i. close_at k l i (v.key i)) state (close-keys v.number v.start k l v.key is opened state.keys)
    (λ i. choose IsWhole (i == k) _ _ (λ e. gate-whole (landed l (0 ∷ [])) (v.key i) (state.keys_whole i)) (λ e. state.keys_whole i))

-- KPBODY keeps it
pub key_body-state : (size : ℕ) (first : ℕ → Option (List ℕ)) (v : View) (k : ℕ) (keypoint : Keypoint) (l : Land) → k ≡ (v.number + 1) % 2
    → is_open (v.key k) ≡ false
    → IfSome (landed l (key_spelling keypoint)) (λ body. length body ≡ 63) → State size first v → State size first (after size (act.KpBody k keypoint) l v)
key_body-state size first v k keypoint l is closed sized state =
    keys-state size first v (λ i. body_at k l (key_spelling keypoint) i (v.key i)) state
    (body-keys v.number v.start k l (key_spelling keypoint) v.key is closed state.keys)
    (λ i. choose IsWhole (i == k) _ _ (λ e. body-whole (landed l (key_spelling keypoint)) (v.key i) sized (state.keys_whole i)) (λ e. state.keys_whole i))

-- KPOPEN of the keypoint that is due keeps it
pub key_open-state : (size : ℕ) (first : ℕ → Option (List ℕ)) (v : View) (k : ℕ) (keypoint : Keypoint) (l : Land) → k ≡ (v.number + 1) % 2
    → is_open (v.key k) ≡ false
    → key_reading (v.key k).body ≡ Some keypoint → KeyDue v keypoint → State size first v → State size first (after size (act.KpOpen k keypoint) l v)
key_open-state size first v k keypoint l is closed spelled due state =
    by (opens l) (open-keys v.number v.start k l keypoint v.key is closed spelled due.next state.keys)
  where
    whole : (i : ℕ) → IsWhole (open_at k l i (v.key i))
    whole i = choose IsWhole (i == k) _ _ (λ e. gate-whole (landed l (OPEN ∷ [])) (v.key i) (state.keys_whole i)) (λ e. state.keys_whole i)

    by : (b : Bool) → KeysStand (if b then keypoint.number else v.number) (if b then keypoint.start else v.start) (λ i. open_at k l i (v.key i))
        → State size first (record v {
          start = if b then keypoint.start else v.start;
          number = if b then keypoint.number else v.number;
          key = λ i.
              open_at k l i (v.key i);
        })
    by false stand = keys-state size first v (λ i. open_at k l i (v.key i)) state stand whole
    by true stand = record {
      log = later-stands size keypoint.start (log_part v) state.log due.later;
      whole = state.whole;
      within = due.within;
      room = omega (arith, state.room, due.later);
      ordered = state.ordered;
      over = due.over;
      keys = stand;
      keys_whole = whole;
      undone = record { locked = state.undone.locked; back = state.undone.back };
      unput = state.unput;
    }

-- the file
pub undo-state : (size : ℕ) (first : ℕ → Option (List ℕ)) (v : View) (k : ℕ) (own : List ℕ) (l : Land) → covers k (open_rows v) ≡ true
    → State size first v → State size first (after size (act.Undo k own) l v)
undo-state size first v k own l covered state =
    let undone = write-undone k (bytes_if (landed l own)) (open_puts v.log) v.image (booked first v) covered state.undone in
    record {
      log = state.log;
      whole = state.whole;
      within = state.within;
      room = state.room;
      ordered = state.ordered;
      over = state.over;
      keys = state.keys;
      keys_whole = state.keys_whole;
      undone = record { locked = undone.locked; back = undone.back };
      unput = state.unput;
    }

-- a unit that is not found is none of them
any-false : (unit : UnitId) (u : UnitId) (units : List UnitId) → (same_unit unit u || list_any (same_unit unit) units) ≡ false
    → (same_unit unit u ≡ false) × (list_any (same_unit unit) units ≡ false)
any-false unit u units none = by (same_unit unit u) none
  where
    by : (b : Bool) → (b || list_any (same_unit unit) units) ≡ false → (b ≡ false) × (list_any (same_unit unit) units ≡ false)
    by true none = absurd (cc)
    by false none = (refl, none)

-- what a unit that is not committed puts is not in the book
pub value_by-uncommitted : (puts later : UnitId → List (ℕ × List ℕ)) (unit : UnitId) (r : ℕ) (units : List UnitId) (before : Option (List ℕ))
    → ((u : UnitId) → same_unit unit u ≡ false → later u ≡ puts u)
    → list_any (same_unit unit) units ≡ false → value_by later r units before ≡ value_by puts r units before
value_by-uncommitted puts later unit r [] before same none = refl
value_by-uncommitted puts later unit r (u ∷ units) before same none =
    let parts = any-false unit u units none in
    ap (λ (l : List (ℕ × List ℕ)). value_by later r units (value_after r l before)) (same u parts.0)
    ∙ value_by-uncommitted puts later unit r units (value_after r (puts u) before) same parts.1

-- what a unit has put its rows cover
pub has_put-covers : (unit : UnitId) (r : ℕ) (rows : List Row) → has_put unit r rows ≡ true → covers r (map (λ row. row.undo) rows) ≡ true
has_put-covers unit r [] put = absurd (cc)
has_put-covers unit r (row ∷ rows) put = by (row.undo.rrn == r) (same_unit row.unit unit) (has_put-covers unit r rows) put
  where
    by : (here own : Bool) → (has_put unit r rows ≡ true → covers r (map (λ row. row.undo) rows) ≡ true) → ((here && own) || has_put unit r rows) ≡ true
        → (here || covers r (map (λ row. row.undo) rows)) ≡ true
    by true own rest put = refl
    by false own rest put = rest put

-- a FILEWRITE of a record that an open unit has put keeps it
pub write-state : (size : ℕ) (first : ℕ → Option (List ℕ)) (v : View) (unit : UnitId) (k : ℕ) (value : List ℕ) (l : Land)
    → has_ended unit v.log ≡ false → has_put unit k (open_puts v.log) ≡ true
    → State size first v → State size first (after size (act.FileWrite unit k value) l v)
write-state size first v unit k value l open_yet put state =
    let undone = write-undone k (bytes_if (landed l (slot_of (Some value)))) (open_puts v.log) v.image (booked first v)
    (has_put-covers unit k (open_puts v.log) put) state.undone in
    record {
      log = state.log;
      whole = state.whole;
      within = state.within;
      room = state.room;
      ordered = state.ordered;
      over = state.over;
      keys = state.keys;
      keys_whole = state.keys_whole;
      undone =
          record {
            locked = undone.locked;
            back = λ r. undone.back r
                ∙ ap slot_of (sym (value_by-uncommitted v.puts later unit r (committed v.log) (first r) others uncommitted));
          };
      unput = λ u r still none x. unput u r still none x (same_unit unit u) (is_in_full l) (k == r) refl refl;
    }
  where
    later : UnitId → List (ℕ × List ℕ)
    later u = if same_unit unit u && is_in_full l then (k, value) ∷ v.puts u else v.puts u

    others : (u : UnitId) → same_unit unit u ≡ false → (if same_unit unit u && is_in_full l then (k, value) ∷ v.puts u else v.puts u) ≡ v.puts u
    others u e = rw e refl

    uncommitted : list_any (same_unit unit) (committed v.log) ≡ false
    uncommitted = false-if (list_any (same_unit unit) (committed v.log)) (λ e. no-clash (has_ended unit v.log) (committed-ended unit v.log e) open_yet)

    unput : (u : UnitId) (r : ℕ) → has_ended u v.log ≡ false → has_put u r (open_puts v.log) ≡ false → (x : Option (List ℕ)) → (own full here : Bool)
        → same_unit unit u ≡ own → (k == r) ≡ here
        → value_after r (if own && full then (k, value) ∷ v.puts u else v.puts u) x ≡ x
    unput u r still none x true true true e f =
        no-clash (has_put u r (open_puts v.log)) (subst (λ (n : ℕ). has_put u n (open_puts v.log) ≡ true) (eq-of-true k r f)
        (subst (λ (w : UnitId). has_put w k (open_puts v.log) ≡ true) (same_unit-true unit u e) put)) none
    unput u r still none x true true false e f = rw f (state.unput u r still none x)
    unput u r still none x true false here e f = state.unput u r still none x
    unput u r still none x false full here e f = state.unput u r still none x
