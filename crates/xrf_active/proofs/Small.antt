-- The numbers of a job's log records and keypoints are small, where those of the keypoints handed are.
use Rattle.std.proofs.Common.{◌≡◌, ℕ, zero, suc, ◌+◌, ◌-◌, ◌<◌, ◌≤◌, Bool, true, false, List, [], ◌∷◌, length, Option, Some, None, refl, arith}
use Rattle.std.proofs.lemmas.Grind.{common_steps}
use Rattle.xrf_base.specs.declared.items.Item.{Item}
use Rattle.xrf_base.specs.declared.items.Item.TheVariants as items
use Rattle.xrf_base.specs.declared.items.ItemAnswer.{ItemAnswer}
use Rattle.xrf_base.specs.declared.items.ItemAnswer.TheVariants.{Done}
use Rattle.xrf_base.specs.declared.items.UnitId.{UnitId}
use Rattle.xrf_gated.specs.declared.gated.Slot.{Slot}
use Rattle.xrf_gated.specs.Slots.{slot_in}
use Rattle.xrf_logrec.specs.declared.records.LogRec.{LogRec}
use Rattle.xrf_logrec.specs.declared.records.LogRec.TheVariants.{Put, Commit, Backout}
use Rattle.xrf_log.specs.Scan.{Scanned, record_at, run_of, reach_of, records_after, anchor_of, place_of_record, next_of}
use Rattle.xrf_file.specs.Ledger.{Ledger, planned, after_begin, after_end, begin_answer}
use Rattle.xrf_file.specs.Rows.{unit_named, is_hot}
use Rattle.xrf_history.specs.declared.settings.Settings.{Settings}
use Rattle.xrf_history.specs.declared.want.Want.TheVariants as want
use Rattle.xrf_history.specs.Events.{Event, FirstBlockRead, BlockRead, LogOpened, KeyOpened, Given, RestartDeclared, ActFailed}
use Rattle.xrf_history.specs.Restarting.{scan, next_record, last_keypoint}
use Rattle.xrf_history.specs.Working.{ledger, after_record}
use Rattle.xrf_job.proofs.Counts.{opened-few}
use Rattle.xrf_active.specs.Standing.{AreSmall}

-- a run adds at most as many records as slots are reached
run_of-few : (slot : ℕ → Slot) (n k p : ℕ) (known : List LogRec) → length (run_of slot n k p known) ≤ length known + n
run_of-few slot zero k p known = omega arith
run_of-few slot (suc n) k p known = by (record_at (slot k) p) (λ rec. run_of-few slot n (k + 1) (p + 1) (rec ∷ known)) refl
  where
    by : (found : Option LogRec) → ((rec : LogRec) → length (run_of slot n (k + 1) (p + 1) (rec ∷ known)) ≤ length (rec ∷ known) + n)
        → record_at (slot k) p ≡ found → length (run_of slot (suc n) k p known) ≤ length known + suc n
    by None rest e = rw e (omega arith)
    by (Some rec) rest e = rw e (let few = rest rec in omega arith)

reach_of-few : (s : Scanned) → reach_of s ≤ s.slots - length s.records
reach_of-few s = grind (arith, common_steps)

records-few : (s : Scanned) (block : List ℕ) → length s.records ≤ s.slots → length (records_after s block) ≤ s.slots
records-few s block few =
    let more = run_of-few (slot_in block) (reach_of s) (place_of_record s.slots (next_of s)) (next_of s) s.records in
    let reach = reach_of-few s in omega arith

-- the sizes of a scan
pub record IsScanned (p : Settings) (s : Scanned) : Type 0 where
  pub slots : s.slots ≡ p.limits.log
  pub few : length s.records ≤ s.slots

pub scan-sized : (p : Settings) (h : List Event) → IsScanned p (scan p h)
scan-sized p [] = record { slots = refl; few = omega arith }
scan-sized p (FirstBlockRead block keys ∷ h) = let is = scan-sized p h in record { slots = is.slots; few = records-few (record (scan p h) { anchor = anchor_of keys }) block is.few }
scan-sized p (BlockRead block ∷ h) = let is = scan-sized p h in record { slots = is.slots; few = records-few (scan p h) block is.few }
scan-sized p (_ ∷ h) = scan-sized p h

pub scan-small : (p : Settings) (h : List Event) → AreSmall h → (scan p h).anchor.start < 16384
scan-small p [] small = omega arith
scan-small p (FirstBlockRead block keys ∷ h) small = small.1
scan-small p (BlockRead block ∷ h) small = scan-small p h small
scan-small p (KeyOpened place keypoint ∷ h) small = scan-small p h small.1
scan-small p (ActFailed (want.KpOpen place keypoint) at ∷ h) small = scan-small p h small.1
scan-small p (_ ∷ h) small = scan-small p h small

pub next_record-small : (p : Settings) (h : List Event) → p.limits.log ≤ 1024 → AreSmall h → next_record p h ≤ 17408 + length h
next_record-small p h log small =
    let start = scan-small p h small in
    let is = scan-sized p h in
    let opened = opened-few h in
    let few : length (scan p h).records ≤ 1024 = omega (arith, is.few, is.slots) in
    omega arith

pub keypoint-small : (p : Settings) (h : List Event) → AreSmall h → (last_keypoint p h).number ≤ 16384 + length h
keypoint-small p [] small = omega arith
keypoint-small p (FirstBlockRead block keys ∷ h) small = let few : (anchor_of keys).number < 16384 = small.0 in omega arith
keypoint-small p (KeyOpened place keypoint ∷ h) small = let few : keypoint.number ≤ 16385 + length h = small.0 in omega arith
keypoint-small p (ActFailed (want.KpOpen place keypoint) at ∷ h) small = let few : keypoint.number ≤ 16385 + length h = small.0 in omega arith
keypoint-small p (_ ∷ h) small = let few = keypoint-small p h small in omega arith

-- what is planned logs nothing, and what is logged has the next number
next-answered : (l : Ledger) (name : List ℕ) (answer : ItemAnswer) → (after_begin l name answer).next ≡ l.next
next-answered l name Done = refl
next-answered l name _ = refl

next-closed : (l : Ledger) (unit : Option UnitId) → (after_end l unit).next ≡ l.next
next-closed l None = refl
next-closed l (Some unit) = by (is_hot unit l.puts) refl
  where
    by : (b : Bool) → is_hot unit l.puts ≡ b → (after_end l (Some unit)).next ≡ l.next
    by true e = rw e refl
    by false e = rw e refl

next-planned : (l : Ledger) (item : Item) → (planned l item).next ≡ l.next
next-planned l (items.Begin name) = next-answered l name (begin_answer l name)
next-planned l (items.Commit name) = next-closed l (unit_named name l.units)
next-planned l (items.Roll name) = next-closed l (unit_named name l.units)
next-planned l _ = refl

next-recorded : (rec : LogRec) (l : Ledger) → (after_record rec l).next ≡ l.next + 1
next-recorded (Put unit rrn before) l = refl
next-recorded (Commit unit) l = refl
next-recorded (Backout unit) l = refl

pub ledger-small : (p : Settings) (h : List Event) → p.limits.log ≤ 1024 → AreSmall h → (ledger p h).next ≤ 17408 + length h
ledger-small p [] log small = omega arith
ledger-small p (RestartDeclared ∷ h) log small = let next = next_record-small p h log small in omega arith
ledger-small p (Given item ∷ h) log small = let few = ledger-small p h log small in let same = next-planned (ledger p h) item in omega arith
ledger-small p (LogOpened place rec ∷ h) log small = let few = ledger-small p h log small in let same = next-recorded rec (ledger p h) in omega arith
ledger-small p (ActFailed (want.LogOpen place rec) at ∷ h) log small = let few = ledger-small p h log small in let same = next-recorded rec (ledger p h) in omega arith
ledger-small p (KeyOpened place keypoint ∷ h) log small = let few = ledger-small p h log small.1 in omega arith
ledger-small p (ActFailed (want.KpOpen place keypoint) at ∷ h) log small = let few = ledger-small p h log small.1 in omega arith
ledger-small p (FirstBlockRead block keys ∷ h) log small = let few = ledger-small p h log small.2 in omega arith
ledger-small p (_ ∷ h) log small = let few = ledger-small p h log small in omega arith

pub ruleset small_numbers = (scan-small, next_record-small, keypoint-small, ledger-small)
