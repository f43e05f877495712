-- What a write finds where it lands.
use Rattle.std.specs.Prelude.{◌≡◌, ℕ, ◌%◌, ◌<◌, Bool, List, length, Option, Some, None, IsTrue, is_some}
use Rattle.xrf_gated.specs.declared.gated.TheConstants.{OPEN}
use Rattle.xrf_gated.specs.declared.gated.Slot.{Slot}
use Rattle.xrf_logrec.specs.Keypoints.{IsKeypoint, key_reading}
use Rattle.xrf_logrec.specs.LogRecords.{IsLogRecord, log_reading}
use Rattle.xrf_msg.specs.Messages.{HasRanges, message_reading}
use Rattle.xrf_setup.specs.declared.choice.Landing.TheVariants.{Torn}
use Rattle.xrf_trace.specs.declared.entry.Entry.{Entry}
use Rattle.xrf_trace.specs.declared.entry.Act.{Act}
use Rattle.xrf_trace.specs.declared.entry.Act.TheVariants as act
use Rattle.xrf_trace.specs.declared.entry.Land.{Land}
use Rattle.xrf_trace.specs.declared.entry.Land.TheVariants.{Stop, Fail}
use Rattle.xrf_trace.specs.Acts.{torn_size}
use Rattle.xrf_trace.specs.Devices.{message_slot, log_slot, key_slot}
use Rattle.xrf_trace.specs.Scenario.{Scen}

-- torn bytes are as many as the range of the write
abbrev pub HasTorn : ℕ → Land → Type 0
HasTorn size (Stop (Torn bytes)) = length bytes ≡ size
HasTorn size (Fail (Torn bytes)) = length bytes ≡ size
HasTorn size _ = Unit {0}

abbrev pub FitsTorn : Option ℕ → Land → Type 0
FitsTorn None land = Unit {0}
FitsTorn (Some size) land = HasTorn size land

-- A CLOSE finds its slot open. A BODY finds it closed, and its record is one. An OPEN finds a whole body in its slot.
abbrev pub IsOpened : Slot → Type 0
IsOpened slot = slot.gate ≡ OPEN

abbrev pub IsWhole : (List ℕ → Bool) → Slot → Type 0
IsWhole whole slot = IsTrue (whole slot.body)

-- what a write of each device finds in its slots, of which there are some number
abbrev pub MessageMayLand : (count : ℕ) → (ℕ → Slot) → Act → Type 0
MessageMayLand count slot (act.MsgClose k) = (k < count) × IsOpened (slot k)
MessageMayLand count slot (act.MsgBody k message) = (k < count) × ¬ IsOpened (slot k) × HasRanges message
MessageMayLand count slot (act.MsgOpen k message) = (k < count) × IsWhole (λ body. is_some (message_reading body)) (slot k)
MessageMayLand count slot _ = Unit {0}

abbrev pub LogMayLand : (count : ℕ) → (ℕ → Slot) → Act → Type 0
LogMayLand count slot (act.LogClose p) = IsOpened (slot (p % count))
LogMayLand count slot (act.LogBody p rec) = ¬ IsOpened (slot (p % count)) × IsLogRecord rec
LogMayLand count slot (act.LogOpen p rec) = IsWhole (λ body. is_some (log_reading body)) (slot (p % count))
LogMayLand count slot _ = Unit {0}

abbrev pub KeyMayLand : (count : ℕ) → (ℕ → Slot) → Act → Type 0
KeyMayLand count slot (act.KpClose k) = (k < count) × IsOpened (slot k)
KeyMayLand count slot (act.KpBody k keypoint) = (k < count) × ¬ IsOpened (slot k) × IsKeypoint keypoint
KeyMayLand count slot (act.KpOpen k keypoint) = (k < count) × IsWhole (λ body. is_some (key_reading body)) (slot k)
KeyMayLand count slot _ = Unit {0}

-- what an act of a trace finds where it lands
pub record MayLand (s : Scen) (t : List Entry) (a : Act) (land : Land) : Type 0 where
  pub torn : FitsTorn (torn_size a) land
  pub message : MessageMayLand s.settings.ring (message_slot t) a
  pub log : LogMayLand s.settings.log (log_slot s t) a
  pub key : KeyMayLand 2 (key_slot t) a
