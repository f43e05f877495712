-- What is due where an act on the log, the keypoints or the file is the next act of a job.
use Rattle.std.specs.Prelude.{Bool, List, Option, map, true, ◌≡◌, false, length, ℕ, ◌+◌, ◌≤◌, ◌∷◌, [], IfSome, Some, ◌%◌, drop, filter, not}
use Rattle.std.specs.List.{list_any}
use Rattle.xrf_base.specs.declared.items.UnitId.{UnitId}
use Rattle.xrf_gated.specs.Slots.{is_open}
use Rattle.xrf_logrec.specs.declared.keypoints.Keypoint.{Keypoint}
use Rattle.xrf_logrec.specs.declared.records.LogRec.{LogRec}
use Rattle.xrf_logrec.specs.declared.records.Undo.{Undo}
use Rattle.xrf_logrec.specs.LogRecords.{same_unit, log_reading}
use Rattle.xrf_logrec.specs.declared.records.LogRec.TheVariants.{Put, Commit}
use Rattle.xrf_logrec.specs.Keypoints.{key_reading}
use Rattle.xrf_log.specs.Scan.{Scanned, cleared}
use Rattle.xrf_log.specs.Flight.{open_puts, flight, has_ended, undo_rows}
use Rattle.xrf_file.specs.declared.answers.Plan.{Plan}
use Rattle.xrf_history.specs.Restarting.{scan, rows_left, undone, has_backout, last_keypoint, records_opened}
use Rattle.xrf_history.specs.Events.{Event}
use Rattle.xrf_history.specs.declared.settings.Settings.{Settings}
use Rattle.xrf_history.specs.Holding.{is_restarted}
use Rattle.xrf_history.specs.Working.{last_plan, next_keypoint, rolled_left}
use Rattle.xrf_history.specs.Next.{record_at_hand, inside}
use Rattle.xrf_history.specs.declared.want.Want.{Want}
use Rattle.xrf_log_law.specs.Soundness.{is_sound}
use Rattle.xrf_log_law.specs.State.{View, booked, RecordDue, log_part, AreOver}
use Rattle.xrf_log_law.specs.BeforeImages.{other_has_put, covers, has_put, undo_at}
use Rattle.xrf_log_law.specs.LogSlots.{AtEnd}
use Rattle.xrf_log_law.specs.LogParts.{IsPart}
use Rattle.xrf_file.specs.declared.answers.Plan.TheVariants as plans
use Rattle.xrf_history.specs.declared.want.Want.TheVariants as want

-- what is read of a job
pub record JobView : Type 0 where
  pub sound : Bool
  pub restarted : Bool
  pub scan : Scanned
  pub rows : List Undo
  pub plan : Plan
  pub hand : Option LogRec
  pub rolled : UnitId → List Undo
  pub keypoint : Keypoint

-- of a history
abbrev pub job_view : Settings → List Event → JobView
job_view p h = record {
  sound = is_sound h;
  restarted = is_restarted h;
  scan = scan p h;
  rows = rows_left p h;
  plan = last_plan p h;
  hand = record_at_hand p h;
  rolled = λ unit. rolled_left p unit h;
  keypoint = next_keypoint p h;
}

-- the undo rows of the open puts
abbrev pub open_rows : View → List Undo
open_rows v = map (λ row. row.undo) (open_puts v.log)

-- a unit is in flight
abbrev pub InFlight : View → UnitId → Type 0
InFlight v unit = list_any (λ u. same_unit u unit) (flight v.log) ≡ true

-- a put that is planned: all that is due of its record but the before-image, which is still to be read
pub record PutDue (size : ℕ) (v : View) (unit : UnitId) (rrn : ℕ) : Type 0 where
  pub open_yet : has_ended unit v.log ≡ false
  pub free : other_has_put unit rrn (open_puts v.log) ≡ false
  pub room : (before : List ℕ) → length v.log + 1 + length (flight (Put unit rrn before ∷ v.log)) ≤ v.start + size

-- a roll: its rows that are left give the book at the records of its unit
pub record RollDue (first : ℕ → Option (List ℕ)) (v : View) (unit : UnitId) (rows : List Undo) : Type 0 where
  pub hot : InFlight v unit
  pub left : (r : ℕ) → has_put unit r (open_puts v.log) ≡ true → undo_at r rows (v.image r) ≡ booked first v r
  pub own : (r : ℕ) → covers r rows ≡ true → has_put unit r (open_puts v.log) ≡ true

-- what is due of a plan
abbrev pub PlanDue : (size : ℕ) → (ℕ → Option (List ℕ)) → View → (UnitId → List Undo) → Plan → Type 0
PlanDue size first v rolled (plans.Put unit rrn value place) = AtEnd size place (log_part v) × PutDue size v unit rrn
PlanDue size first v rolled (plans.Commit unit place) = AtEnd size place (log_part v) × RecordDue size first v (Commit unit)
PlanDue size first v rolled (plans.Roll unit place) = AtEnd size place (log_part v) × RollDue first v unit (rolled unit)
PlanDue size first v rolled _ = Unit {0}

-- a record number is that of a PUT
abbrev pub IsOfPlan : ℕ → Plan → Type 0
IsOfPlan rrn (plans.Put unit k value place) = rrn ≡ k
IsOfPlan rrn _ = Unit {0}

-- a keypoint
pub record KeyDue (v : View) (keypoint : Keypoint) : Type 0 where
  pub next : keypoint.number ≡ v.number + 1
  pub later : v.start ≤ keypoint.start
  pub within : keypoint.start ≤ length v.log
  pub over : AreOver keypoint.start v.log

-- a record and its before-image are the first row
abbrev pub IsHead : List Undo → ℕ → List ℕ → Type 0
IsHead rows rrn own = (rest : List Undo) × (rows ≡ record { rrn = rrn; before = own } ∷ rest)

-- what is due of an UNDO at work
abbrev pub UndoDue : (size : ℕ) → (ℕ → Option (List ℕ)) → View → (UnitId → List Undo) → Plan → ℕ → List ℕ → Type 0
UndoDue size first v rolled (plans.Roll unit place) rrn own = AtEnd size place (log_part v) × RollDue first v unit (rolled unit) × IsHead (rolled unit) rrn own
UndoDue size first v rolled _ rrn own = ⊥

-- in a restart a record is written once the file is the book
abbrev pub RestartDue : JobView → Type 0
RestartDue j = j.restarted ≡ false → (j.scan.ended ≡ true) × (j.rows ≡ [])

-- what is due of each act
abbrev pub Due : (size : ℕ) → (ℕ → Option (List ℕ)) → View → JobView → Want → Type 0
Due size first v j (want.LogRead b) = (j.restarted ≡ false) × (j.scan.ended ≡ false) × (b ≡ j.scan.block)
Due size first v j (want.LogLook place) = AtEnd size place (log_part v) × IfSome j.hand (RecordDue size first v) × RestartDue j
Due size first v j (want.LogClose place) =
    AtEnd size place (log_part v) × IfSome j.hand (RecordDue size first v) × (is_open (v.slot (place % size)) ≡ true) × RestartDue j
Due size first v j (want.LogBody place rec) =
    AtEnd size place (log_part v) × RecordDue size first v rec × (is_open (v.slot (place % size)) ≡ false) × (j.hand ≡ Some rec) × RestartDue j
Due size first v j (want.LogOpen place rec) =
    AtEnd size place (log_part v) × RecordDue size first v rec × (is_open (v.slot (place % size)) ≡ false) × (j.hand ≡ Some rec)
    × (log_reading (v.slot (place % size)).body ≡ Some (place, rec)) × RestartDue j
Due size first v j (want.KpRead k) = (k ≡ (v.number + 1) % 2) × KeyDue v j.keypoint × (j.restarted ≡ true)
Due size first v j (want.KpClose k) = (k ≡ (v.number + 1) % 2) × KeyDue v j.keypoint × (is_open (v.key k) ≡ true) × (j.restarted ≡ true)
Due size first v j (want.KpBody k keypoint) = (k ≡ (v.number + 1) % 2) × KeyDue v keypoint × (is_open (v.key k) ≡ false) × (j.restarted ≡ true)
Due size first v j (want.KpOpen k keypoint) =
    (k ≡ (v.number + 1) % 2) × KeyDue v keypoint × (is_open (v.key k) ≡ false) × (key_reading (v.key k).body ≡ Some keypoint) × (j.restarted ≡ true)
Due size first v j (want.FileRead rrn) = (j.restarted ≡ true) × IsOfPlan rrn j.plan × PlanDue size first v j.rolled j.plan
Due size first v j (want.FileWrite unit rrn value) = (has_ended unit v.log ≡ false) × (has_put unit rrn (open_puts v.log) ≡ true) × (j.restarted ≡ true)
Due size first v j (want.Undo rrn own) =
    (covers rrn (open_rows v) ≡ true) × (j.restarted ≡ false → (j.scan.ended ≡ true) × IsHead j.rows rrn own)
    × (j.restarted ≡ true → UndoDue size first v j.rolled j.plan rrn own)
Due size first v j want.Item = (j.restarted ≡ true) × (j.sound ≡ true)
Due size first v j want.Restarted = (j.restarted ≡ false) × (j.scan.ended ≡ true) × (flight v.log ≡ []) × ((r : ℕ) → v.image r ≡ booked first v r)
Due size first v j _ = Unit {0}

-- what is due of the act inside a sequence
abbrev pub InsideDue : (size : ℕ) → (ℕ → Option (List ℕ)) → View → Settings → List Event → Type 0
InsideDue size first v p h = IfSome (inside p h) (Due size first v (job_view p h))

-- what is read of a restart
pub record RestartView : Type 0 where
  pub scan : Scanned
  pub last : Keypoint
  pub opened : ℕ
  pub backout : UnitId → Bool
  pub undone : ℕ

-- of a history
abbrev pub restart_view : Settings → List Event → RestartView
restart_view p h = record { scan = scan p h; last = last_keypoint p h; opened = records_opened h; backout = λ unit. has_backout unit h; undone = undone h }

-- the number of the next record
abbrev pub next_number_of : RestartView → ℕ
next_number_of k = k.scan.anchor.start + length k.scan.records + k.opened

-- the undo rows that are left
abbrev pub rows_left_of : RestartView → List Undo
rows_left_of k = drop k.undone (undo_rows k.scan.records)

-- the units that are left to back out
abbrev pub backouts_left_of : RestartView → List UnitId
backouts_left_of k = filter (λ unit. not (k.backout unit)) (flight k.scan.records)

-- a job that has read no block of the log
abbrev pub IsUnread : (size : ℕ) → Settings → List Event → Type 0
IsUnread size p h = (scan p h ≡ cleared size) × (records_opened h ≡ 0) × ((unit : UnitId) → has_backout unit h ≡ false) × (is_restarted h ≡ false)

-- a restart
pub record Scans (v : View) (k : RestartView) : Type 0 where
  pub anchor : k.scan.anchor.start ≡ v.start
  pub part : IsPart v.log v.start k.scan.records
  pub opened : k.opened ≡ 0
  pub backouts : (unit : UnitId) → k.backout unit ≡ false

-- once the scan has ended: what is left gives the book
pub record Undoes (first : ℕ → Option (List ℕ)) (v : View) (k : RestartView) : Type 0 where
  pub next : next_number_of k ≡ length v.log
  pub backouts : backouts_left_of k ≡ flight v.log
  pub left : (r : ℕ) → undo_at r (rows_left_of k) (v.image r) ≡ booked first v r
  pub within : (r : ℕ) → covers r (rows_left_of k) ≡ true → covers r (open_rows v) ≡ true

-- a restart, in its scan or after it
pub record Restarts (size : ℕ) (first : ℕ → Option (List ℕ)) (v : View) (k : RestartView) : Type 0 where
  pub slots : k.scan.slots ≡ size
  pub keypoint : k.last ≡ record { number = v.number; start = v.start }
  pub scanning : k.scan.ended ≡ false → Scans v k
  pub undoing : k.scan.ended ≡ true → Undoes first v k
