-- What the steps of a world ask of the log, the keypoints and the file, at each act.
use Rattle.xrf_log_law.proofs.Counts.{in_range}
use Rattle.xrf_log_law.proofs.RangeActs.{in-range}
use Rattle.xrf_log_law.specs.Due.{job_view}
use Rattle.xrf_log.specs.Flight.{puts as puts_of_log, has_ended, flight}
use Rattle.std.proofs.Math.Nat.{div-add-mod, mod-lt}
use Rattle.xrf_log.specs.Scan.{block_of_record, Scanned, after_block, after_anchors, anchor_of}
use Rattle.xrf_log.specs.declared.taken.Row.{Row}
use Rattle.xrf_logrec.specs.declared.records.LogRec.{LogRec}
use Rattle.xrf_logrec.specs.declared.records.LogRec.TheVariants.{Backout, Commit, Put}
use Rattle.xrf_log_law.specs.Ranges.{AreOfFile}
use Rattle.xrf_log_law.specs.Serving.{IsWrite, IsRead, Serving, given_last, OfPlan}
use Rattle.xrf_log_law.specs.BeforeImages.{covers}
use Rattle.xrf_log_law.specs.Conditions.{IsWithin, MayBeWritten, IsSlot, ReadsSlot, ScanFits}
use Rattle.xrf_log_law.proofs.OwnRanges.{PlanRrn, rrn-of}
use Rattle.xrf_log_law.proofs.Tests.{eq-of-true, or-cases, eq-of-false}
use Rattle.std.specs.Prelude.{map, filter, ◌/◌, ◌≤◌, ◌==◌, if◌then◌else◌, not, IsTrue}
use Rattle.std.proofs.Common.{true, ◌≡◌, false, Option, Some, ap, is_some, arith, ℕ, ◌<◌, ◌%◌, IfSome, List, sym, ◌∙◌, refl, subst, length, ◌*◌, Bool, [], ◌∷◌, None, ◌+◌}
use Rattle.std.proofs.lemmas.Grind.{common_steps}
use Rattle.std.specs.List.{flat_map, range_with_len}
use Rattle.xrf_base.specs.declared.site.Site.{Site}
use Rattle.xrf_base.specs.declared.items.Item.{Item}
use Rattle.xrf_gated.specs.declared.gated.TheConstants.{OPEN}
use Rattle.xrf_gated.specs.declared.gated.Slot.{Slot}
use Rattle.xrf_gated.specs.Slots.{is_open, bytes_of}
use Rattle.xrf_logrec.specs.declared.keypoints.Keypoint.{Keypoint}
use Rattle.xrf_file.specs.declared.answers.Plan.{Plan}
use Rattle.xrf_history.specs.Events.{Event}
use Rattle.xrf_history.specs.declared.want.Want.{Want}
use Rattle.xrf_history.specs.Working.{ledger, last_plan as plan_of_job, rolled_left}
use Rattle.xrf_history.specs.Restarting.{has_read_block, scan}
use Rattle.xrf_trace.specs.declared.entry.Entry.{Entry}
use Rattle.xrf_trace.specs.Scenario.{Scen, settings, first_value, item_at, limits}
use Rattle.xrf_trace.specs.Acts.{act_of}
use Rattle.xrf_trace.specs.Devices.{key_slot, log_slot, image, key_slots, log_block}
use Rattle.xrf_trace.specs.Book.{book, puts, value_after}
use Rattle.xrf_trace.specs.Jobs.{block_event, handed, item_event}
use Rattle.xrf_trace.specs.declared.entry.Act.{Act}
use Rattle.xrf_trace.specs.Words.{now, items_taken}
use Rattle.xrf_log_law.proofs.JobActs.{of-item, no-records}
use Rattle.xrf_log_law.proofs.ReadsLaw.{AtWork, reads-value, at-work}
use Rattle.xrf_log_law.proofs.ValueRanges.{book-value}
use Rattle.xrf_log_law.proofs.DueOfItems.{named-open}
use Rattle.xrf_log_law.proofs.ServingActs.{sound-for}
use Rattle.xrf_log_law.proofs.LedgerLaws.{locked-free}
use Rattle.xrf_log_law.specs.Due.{PlanDue, IsUnread, Restarts, restart_view}
use Rattle.xrf_log_law.specs.AtWork.{IsOpenUnit}
use Rattle.xrf_file.specs.Rows.{is_locked}
use Rattle.xrf_trace.specs.Log.{log}
use Rattle.xrf_base.specs.declared.items.UnitId.{UnitId}
use Rattle.xrf_log_law.proofs.ActsOfPlans.{next-of}
use Rattle.xrf_log_law.specs.LogParts.{IsPart, IsScan}
use Rattle.xrf_log_law.specs.State.{State, View, log_part, view}
use Rattle.xrf_log_law.proofs.ScanLaws.{after_block-scan}
use Rattle.xrf_log_law.proofs.NewestParts.{scanned-all}
use Rattle.xrf_log_law.proofs.KeyWrites.{anchor}
use Rattle.xrf_log_law.proofs.BeforeActs.{Before, log-some}
use Rattle.xrf_base.specs.Ranges.{AreLimits}
use Rattle.xrf_file.specs.declared.answers.Plan.TheVariants as plans
use Rattle.xrf_history.specs.declared.want.Want.TheVariants as want

-- the slots
is-open : (slot : Slot) → is_open slot ≡ true → slot.gate ≡ OPEN
is-open slot e = eq-of-true slot.gate OPEN e

-- a slot that is closed has another gate than an open one
is-closed : (slot : Slot) → is_open slot ≡ false → slot.gate ≡ OPEN → ⊥
is-closed slot e same = eq-of-false slot.gate OPEN e same

-- what is given is there
is-there : {T : Type 0} (o : Option T) (y : T) → o ≡ Some y → IsTrue (is_some o)
is-there o y is = ap is_some is

-- a KEY slot is 0 or 1
below-two : (k n : ℕ) → k ≡ n % 2 → k < 2
below-two k n is = grind (arith, common_steps)

-- each write of a slot finds it as it must be
pub may-be-written : (s : Scen) (t : List Entry) (x : Site) (h : List Event) (w : Want) → Before s t x h w → IfSome (act_of s t x h w) (MayBeWritten s t)
may-be-written s t x h want.Nothing b = tt
may-be-written s t x h (want.Exit told) b = tt
may-be-written s t x h want.Item b = of-item s t x (MayBeWritten s t) tt
may-be-written s t x h (want.LogClose place) b = is-open (log_slot s t (place % s.settings.log)) b.due.2
may-be-written s t x h (want.LogBody place rec) b =
    (is-closed (log_slot s t (place % s.settings.log)) b.due.2, in-range s t x h (want.LogBody place rec) b)
may-be-written s t x h (want.LogOpen place rec) b = is-there _ (place, rec) b.due.4
may-be-written s t x h (want.KpClose k) b = (below-two k _ b.due.0, is-open (key_slot t k) b.due.2)
may-be-written s t x h (want.KpBody k keypoint) b = (
  below-two k _ b.due.0,
  is-closed (key_slot t k) b.due.2,
  (in_range s t x h s.settings.log (first_value s) (job_view (settings s x) h) (want.KpBody k keypoint) b.due b.few b.counted tt).in_range,
)
may-be-written s t x h (want.KpOpen k keypoint) b = (below-two k _ b.due.0, is-there _ keypoint b.due.3)
may-be-written s t x h _ b = tt

-- what a GET and a PUT read is a slot
read-slot : (s : Scen) (t : List Entry) (x : Site) (h : List Event) (k : ℕ) (unit : UnitId) → Before s t x h (want.FileRead k)
    → AtWork s t x h (want.FileRead k)
    → IsOpenUnit unit (ledger (settings s x) h).units → is_locked unit k (ledger (settings s x) h).puts ≡ false → IsSlot (image s t k)
read-slot s t x h k unit b at here free = (
  value_after k (puts t unit) (book s t k),
  (
    b.ranges.values unit k (book s t k) (book-value s t k (λ u o fits. b.ranges.values u k o fits) (b.scen.records k)),
    reads-value s t (ledger (settings s x) h) unit k b.state at.ledgers (b.values at.there at.sound b.due.0) here free,
  ),
)

-- so what is read for the plan at hand
plan-slot : (s : Scen) (t : List Entry) (x : Site) (h : List Event) (k : ℕ) (plan : Plan) → Before s t x h (want.FileRead k) → AtWork s t x h (want.FileRead k)
    → PlanDue s.settings.log (first_value s) (view s t) (λ unit. rolled_left (settings s x) unit h) plan
    → Serving (given_last h) (ledger (settings s x) h) plan → IsRead plan k → IsSlot (image s t k)
plan-slot s t x h k (plans.Get n) b at due serving same =
    subst (λ (r : ℕ). IsSlot (image s t r)) same
    (read-slot s t x h n serving.2.0 (subst (λ (r : ℕ). Before s t x h (want.FileRead r)) (sym same) b)
    (subst (λ (r : ℕ). AtWork s t x h (want.FileRead r)) (sym same) at)
    (named-open serving.0 (ledger (settings s x) h).units serving.2.0 serving.2.1) serving.2.2)
plan-slot s t x h k (plans.Put u n value place) b at due serving same =
    subst (λ (r : ℕ). IsSlot (image s t r)) same
    (read-slot s t x h n u (subst (λ (r : ℕ). Before s t x h (want.FileRead r)) (sym same) b)
    (subst (λ (r : ℕ). AtWork s t x h (want.FileRead r)) (sym same) at)
    (named-open serving.0 (ledger (settings s x) h).units u serving.2) (ap (is_locked u n) at.ledgers.puts ∙ locked-free (log t) u n ∙ due.1.free))
plan-slot s t x h k (plans.Commit u place) b at due serving same = absurd same
plan-slot s t x h k (plans.Roll u place) b at due serving same = absurd same
plan-slot s t x h k (plans.Answer a) b at due serving same = absurd same

-- so at each act
pub reads-slot : (s : Scen) (t : List Entry) (x : Site) (h : List Event) (w : Want) → Before s t x h w → IfSome (act_of s t x h w) (ReadsSlot s t)
reads-slot s t x h want.Nothing b = tt
reads-slot s t x h (want.Exit told) b = tt
reads-slot s t x h want.Item b = of-item s t x (ReadsSlot s t) tt
reads-slot s t x h (want.FileRead k) b =
    let at = at-work s t x h (want.FileRead k) b refl b.due.0 in
    plan-slot s t x h k (plan_of_job (settings s x) h) b at b.due.2 at.serves.2 (subst (OfPlan (plan_of_job (settings s x) h)) b.is (next-of (settings s x) h))
reads-slot s t x h _ b = tt

-- the block of a record is one of the log
block-within : (size n : ℕ) → 0 < size → size % 64 ≡ 0 → 64 * (n % size / 64) + 64 ≤ size
block-within size n some even =
    let less : n % size < size = mod-lt n some in
    let whole : 64 * (size / 64) ≡ size = omega (arith, div-add-mod size 64, even) in
    let place : 64 * (n % size / 64) ≤ n % size = omega (arith, div-add-mod (n % size) 64) in
    let below : n % size / 64 < size / 64 = omega (arith, less, whole, place) in
    omega (arith, below, whole)

-- the scan after a block
scan-fits : (size : ℕ) (first : ℕ → Option (List ℕ)) (v : View) (found : Scanned) (block : List ℕ) → 0 < size → size % 64 ≡ 0 → State size first v
    → found.slots ≡ size → found.anchor.start ≡ v.start → IsPart v.log v.start found.records
    → block ≡ flat_map (λ i. bytes_of (v.slot i)) (range_with_len (64 * found.block) 64) → ScanFits size (after_block found block)
scan-fits size first v found block some even state is_size anchored part are =
    let after : IsScan size v.log v.start (after_block found block) = after_block-scan size (log_part v) found block some even state.whole state.log
    (omega (arith, state.room)) is_size anchored part are in
    record {
      records = omega (arith, after.part.within, state.room);
      block = subst (λ (m : ℕ). 64 * block_of_record m (found.anchor.start + length (after_block found block).records) + 64 ≤ size) (sym is_size)
          (block-within size (found.anchor.start + length (after_block found block).records) some even);
      flight = λ e.
          (let all = scanned-all v.log v.start (after_block found block).records state.ordered state.over after.part (after.done e) in
          let count : length (flight (after_block found block).records) ≡ length (flight v.log) = ap length all.in_flight in
          omega (arith, after.part.within, state.room, count));
    }

-- the scan after a LOGREAD
block-fits : (s : Scen) (t : List Entry) (x : Site) (h : List Event) (b : ℕ) (has : Bool) → AreLimits (limits s)
    → State s.settings.log (first_value s) (view s t) → has_read_block h ≡ has
    → (has_read_block h ≡ false → IsUnread s.settings.log (settings s x) h)
    → (has_read_block h ≡ true → Restarts s.settings.log (first_value s) (view s t) (restart_view (settings s x) h))
    → (scan (settings s x) h).ended ≡ false → b ≡ (scan (settings s x) h).block → ScanFits s.settings.log (scan (settings s x) (block_event s t b has ∷ h))
block-fits s t x h b true has_log state is unread before going place =
    let restarts = before is in
    let scans = restarts.scanning going in
    scan-fits s.settings.log (first_value s) (view s t) (scan (settings s x) h) (log_block s t b)
    (log-some (limits s) has_log) has_log.log_blocks state restarts.slots scans.anchor scans.part (ap (log_block s t) place)
block-fits s t x h b false has_log state is unread before going place =
    let none = unread is in
    let is_anchor : anchor_of (key_slots t) ≡ record { number = (view s t).number; start = (view s t).start } = anchor (view s t).number
    (view s t).start (view s t).key state.keys_whole state.keys in
    let empty : [] ≡ (scan (settings s x) h).records = sym (ap (λ (found : Scanned). found.records) none.0) in
    scan-fits s.settings.log (first_value s) (view s t) (after_anchors (scan (settings s x) h) (key_slots t)) (log_block s t b)
    (log-some (limits s) has_log) has_log.log_blocks state
    (ap (λ (found : Scanned). found.slots) none.0) (ap (λ (k : Keypoint). k.start) is_anchor)
    (subst (IsPart (view s t).log (view s t).start) empty (no-records s.settings.log (first_value s) (view s t) state)) (ap (log_block s t) place)

-- the scan after an act
abbrev pub Fits : Scen → List Entry → Site → List Event → Act → Type 0
Fits s t x h a = ScanFits s.settings.log (scan (settings s x) (handed s t x (now t) h a ∷ h))

-- each act leaves a scan that fits
pub fits-after : (s : Scen) (t : List Entry) (x : Site) (h : List Event) (w : Want) → Before s t x h w
    → ScanFits s.settings.log (scan (settings s x) h) → IfSome (act_of s t x h w) (Fits s t x h)
fits-after s t x h want.Nothing b fits = tt
fits-after s t x h (want.Exit told) b fits = tt
fits-after s t x h want.Item b fits = of-item s t x (Fits s t x h) (by (item_at s x (items_taken t x + 1)))
  where
    by : (o : Option Item) → ScanFits s.settings.log (scan (settings s x) (item_event o ∷ h))
    by None = fits
    by (Some item) = fits
fits-after s t x h (want.LogRead n) b fits = by (has_read_block h) refl
  where
    by : (has : Bool) → has_read_block h ≡ has → ScanFits s.settings.log (scan (settings s x) (block_event s t n has ∷ h))
    by has is =
        block-fits s t x h n has b.scen.limits b.state is b.stands.1
        (λ e. b.stands.2 (b.acts refl) (sound-for h (want.LogRead n) b.idle refl) e b.due.0) b.due.1 b.due.2
fits-after s t x h _ b fits = fits

-- what a PUT and a GET read and write are records of the file
read-within : (file k : ℕ) (plan : Plan) → PlanRrn file plan → IsRead plan k → (1 ≤ k) × (k ≤ file)
read-within file k (plans.Put unit rrn value place) is same = subst (λ (r : ℕ). (1 ≤ r) × (r ≤ file)) same is
read-within file k (plans.Get rrn) is same = subst (λ (r : ℕ). (1 ≤ r) × (r ≤ file)) same is
read-within file k (plans.Commit unit place) is same = absurd same
read-within file k (plans.Roll unit place) is same = absurd same
read-within file k (plans.Answer a) is same = absurd same

-- and what they write
write-within : (file k : ℕ) (unit : UnitId) (value : List ℕ) (plan : Plan) → PlanRrn file plan → IsWrite plan unit k value → (1 ≤ k) × (k ≤ file)
write-within file k unit value (plans.Put u rrn v place) is same = subst (λ (r : ℕ). (1 ≤ r) × (r ≤ file)) same.1 is
write-within file k unit value (plans.Get rrn) is same = absurd same
write-within file k unit value (plans.Commit u place) is same = absurd same
write-within file k unit value (plans.Roll u place) is same = absurd same
write-within file k unit value (plans.Answer a) is same = absurd same

-- what is undone are records of the Puts of the log
undo-within : (file r : ℕ) (q : Row → Bool) (log : List LogRec) → AreOfFile file log
    → covers r (map (λ row. row.undo) (filter q (puts_of_log log))) ≡ true → (1 ≤ r) × (r ≤ file)
undo-within file r q [] are covered = absurd (cc)
undo-within file r q (Put u k before ∷ log) are covered =
    by (q (record { unit = u; undo = record { rrn = k; before = before } })) (undo-within file r q log are.0) covered
  where
    by : (b : Bool) → (covers r (map (λ row. row.undo) (filter q (puts_of_log log))) ≡ true → (1 ≤ r) × (r ≤ file))
        → covers r (map (λ row. row.undo)
        (if b then record { unit = u; undo = record { rrn = k; before = before } } ∷ filter q (puts_of_log log) else filter q (puts_of_log log)))
        ≡ true
        → (1 ≤ r) × (r ≤ file)
    by true rest covered =
        or-cases (k == r) (covers r (map (λ row. row.undo) (filter q (puts_of_log log)))) covered
        (λ e. subst (λ (n : ℕ). (1 ≤ n) × (n ≤ file)) (eq-of-true k r e) are.1) rest
    by false rest covered = rest covered
undo-within file r q (Commit u ∷ log) are covered = undo-within file r q log are.0 covered
undo-within file r q (Backout u ∷ log) are covered = undo-within file r q log are.0 covered

-- each act is within its data set
pub is-within : (s : Scen) (t : List Entry) (x : Site) (h : List Event) (w : Want) → Before s t x h w
    → ScanFits s.settings.log (scan (settings s x) h) → IfSome (act_of s t x h w) (IsWithin s)
is-within s t x h want.Nothing b fits = tt
is-within s t x h (want.Exit told) b fits = tt
is-within s t x h want.Item b fits = of-item s t x (IsWithin s) tt
is-within s t x h (want.LogRead n) b fits = subst (λ (k : ℕ). 64 * k + 64 ≤ s.settings.log) (sym b.due.2) fits.block
is-within s t x h (want.KpRead k) b fits = below-two k _ b.due.0
is-within s t x h (want.FileRead k) b fits =
    read-within s.settings.file k (plan_of_job (settings s x) h) (rrn-of (settings s x) h)
    (subst (OfPlan (plan_of_job (settings s x) h)) b.is (next-of (settings s x) h))
is-within s t x h (want.FileWrite unit k value) b fits =
    write-within s.settings.file k unit value (plan_of_job (settings s x) h) (rrn-of (settings s x) h)
    (subst (OfPlan (plan_of_job (settings s x) h)) b.is (next-of (settings s x) h))
is-within s t x h (want.Undo k before) b fits = undo-within s.settings.file k (λ row. not (has_ended row.unit (log t))) (log t) b.ranges.file b.due.0
is-within s t x h _ b fits = tt
