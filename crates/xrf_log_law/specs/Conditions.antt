-- What the steps of a world ask of the log, the keypoints and the file.
use Rattle.std.specs.Prelude.{IsTrue, List, is_some, ◌≡◌, ◌<◌, ◌%◌, Option, ℕ, length, true, ◌+◌, ◌≤◌, IfSome, ◌*◌}
use Rattle.xrf_base.specs.Values.{SlotIs}
use Rattle.xrf_base.specs.declared.site.Site.{Site}
use Rattle.xrf_gated.specs.declared.gated.TheConstants.{OPEN}
use Rattle.xrf_logrec.specs.Keypoints.{IsKeypoint, key_reading}
use Rattle.xrf_logrec.specs.LogRecords.{IsLogRecord, log_reading}
use Rattle.xrf_logrec.specs.declared.keypoints.Keypoint.{Keypoint}
use Rattle.xrf_log.specs.Scan.{Scanned, anchor_of, keypoint_at}
use Rattle.xrf_log.specs.Flight.{flight}
use Rattle.xrf_history.specs.Events.{Event}
use Rattle.xrf_history.specs.Restarting.{scan}
use Rattle.xrf_trace.specs.declared.entry.Act.{Act}
use Rattle.xrf_trace.specs.declared.entry.Entry.{Entry}
use Rattle.xrf_trace.specs.Scenario.{Scen, settings}
use Rattle.xrf_trace.specs.Devices.{key_slot, key_slots, log_slot, image}
use Rattle.xrf_trace.specs.Each.{Each}
use Rattle.xrf_trace.proofs.ByKind.{LandFits}
use Rattle.xrf_trace.specs.Jobs.{hist}
use Rattle.xrf_trace.specs.declared.entry.Act.TheVariants as act

-- What is written over: CLOSE an open slot, BODY a closed one, with a record or a keypoint within its ranges, OPEN a whole
-- body.
abbrev pub MayBeWritten : Scen → List Entry → Act → Type 0
MayBeWritten s t (act.LogClose p) = (log_slot s t (p % s.settings.log)).gate ≡ OPEN
MayBeWritten s t (act.LogBody p rec) = ((log_slot s t (p % s.settings.log)).gate ≡ OPEN → ⊥) × IsLogRecord rec
MayBeWritten s t (act.LogOpen p rec) = IsTrue (is_some (log_reading (log_slot s t (p % s.settings.log)).body))
MayBeWritten s t (act.KpClose k) = (k < 2) × ((key_slot t k).gate ≡ OPEN)
MayBeWritten s t (act.KpBody k keypoint) = (k < 2) × ((key_slot t k).gate ≡ OPEN → ⊥) × IsKeypoint keypoint
MayBeWritten s t (act.KpOpen k keypoint) = (k < 2) × IsTrue (is_some (key_reading (key_slot t k).body))
MayBeWritten s t _ = Unit {0}

-- every slot of the file that is read is a slot
abbrev pub IsSlot : List ℕ → Type 0
IsSlot bytes = (held : Option (List ℕ)) × SlotIs bytes held

-- what a FILEREAD is handed is a slot
abbrev pub ReadsSlot : Scen → List Entry → Act → Type 0
ReadsSlot s t (act.FileRead k) = IsSlot (image s t k)
ReadsSlot s t _ = Unit {0}

-- the records that are scanned, and with the last block their flight too, have room in the log
pub record ScanFits (size : ℕ) (found : Scanned) : Type 0 where
  pub records : length found.records ≤ size
  pub block : 64 * found.block + 64 ≤ size
  pub flight : found.ended ≡ true → length found.records + length (flight found.records) ≤ size

-- of the job of a site, and of each
abbrev pub JobScanFits : Scen → Site → List Event → Type 0
JobScanFits s x h = ScanFits s.settings.log (scan (settings s x) h)

-- of the job of each site
abbrev pub ScansFit : Scen → List Entry → Type 0
ScansFit s t = (x : Site) → IfSome (hist s t x) (JobScanFits s x)

-- the numbers and starts of the keypoints that stand in open KEY slots are small
abbrev pub IsSmall : ℕ → Keypoint → Type 0
IsSmall n keypoint = (keypoint.number ≤ n) × (keypoint.start ≤ n)

-- in both KEY slots
abbrev pub KeysAreSmall : List Entry → Type 0
KeysAreSmall t = (i : ℕ) → IfSome (keypoint_at (key_slot t i)) (IsSmall (length t))

-- so are those of the keypoint that a restart reads as its anchor
abbrev pub AnchorIsSmall : List Entry → Type 0
AnchorIsSmall t = IsSmall (length t) (anchor_of (key_slots t))

-- an act is within its data set: the blocks of the log, the KEY slots, and the records of the file
abbrev pub IsOfRecord : Scen → ℕ → Type 0
IsOfRecord s k = (1 ≤ k) × (k ≤ s.settings.file)

-- the act of an entry
abbrev pub IsWithin : Scen → Act → Type 0
IsWithin s (act.LogRead b) = 64 * b + 64 ≤ s.settings.log
IsWithin s (act.KpRead k) = k < 2
IsWithin s (act.FileRead k) = IsOfRecord s k
IsWithin s (act.FileWrite unit k value) = IsOfRecord s k
IsWithin s (act.Undo k before) = IsOfRecord s k
IsWithin s _ = Unit {0}

-- all of it
pub record WorldConditions (s : Scen) (t : List Entry) : Type 0 where
  pub within : Each (λ t e. IsWithin s e.act) t
  -- torn bytes that land, of any write, are as many as it has
  pub torn : Each (λ t e. LandFits e.land e.act) t
  pub written : Each (λ t e. MayBeWritten s t e.act) t
  pub reads : Each (λ t e. ReadsSlot s t e.act) t
  pub scans : ScansFit s t
  pub keys : KeysAreSmall t
  pub anchor : AnchorIsSmall t
