-- What a line of the report may hold: numbers of 32 bits, names, values, and lines of the command list.
use Rattle.std.specs.Prelude.{◌≡◌, ℕ, zero, suc, length, ◌<◌, ◌^◌, List, Option, IfSome}
use Rattle.xrf_base.specs.Names.{IsName}
use Rattle.xrf_base.specs.Values.{IsValue, slot_reading}
use Rattle.xrf_base.specs.declared.items.ItemAnswer.{ItemAnswer}
use Rattle.xrf_base.specs.declared.items.ItemAnswer.TheVariants.{Got}
use Rattle.xrf_base.specs.declared.items.UnitId.{UnitId}
use Rattle.xrf_cavm.specs.declared.decisions.Acting.{Acting}
use Rattle.xrf_cavm.specs.declared.decisions.Acting.TheVariants.{CatchUp}
use Rattle.xrf_cavm.specs.declared.decisions.Decided.{Decided}
use Rattle.xrf_cavm.specs.declared.decisions.Decided.TheVariants.{Owner}
use Rattle.xrf_ctl.specs.Control.{IsControl}
use Rattle.xrf_ctl.specs.Signal.{SignalRecord}
use Rattle.xrf_gated.specs.Slots.{bytes_of}
use Rattle.xrf_gated.specs.declared.gated.Slot.{Slot}
use Rattle.xrf_history.specs.declared.want.EndWhy.{EndWhy}
use Rattle.xrf_history.specs.declared.want.EndWhy.TheVariants.{Refused}
use Rattle.xrf_logrec.specs.declared.keypoints.Keypoint.{Keypoint}
use Rattle.xrf_logrec.specs.declared.records.LogRec.{LogRec}
use Rattle.xrf_logrec.specs.declared.records.LogRec.TheVariants.{Put, Commit, Backout}
use Rattle.xrf_msg.specs.declared.messages.Message.{Message}
use Rattle.xrf_msg.specs.declared.messages.Message.TheVariants.{Begin, Term, End, User}
use Rattle.xrf_setup.specs.Scenario.{Scen}
use Rattle.xrf_trace.specs.Devices.{message_slot, log_slot, key_slot, image}
use Rattle.xrf_terms.specs.declared.rows.Row.{Row}
use Rattle.xrf_trace.specs.declared.entry.Act.{Act}
use Rattle.xrf_trace.specs.declared.entry.Act.TheVariants as act
use Rattle.xrf_trace.specs.declared.entry.Entry.{Entry}
use Rattle.xrf_report.specs.Images.{ctl_bytes, msg_signals}

-- a number of 32 bits
abbrev pub Is32 : ℕ → Type 0
Is32 number = number < 2 ^ 32

abbrev pub SignalFits : SignalRecord → Type 0
SignalFits signal = (signal.counter < 2 ^ 64) × Is32 signal.cursor

abbrev pub UserFits : Option (List ℕ) → Type 0
UserFits user = IfSome user IsName

abbrev pub TerminalFits : (epoch seq : ℕ) → List ℕ → ℕ → Type 0
TerminalFits epoch seq term class = Is32 epoch × Is32 seq × IsName term × Is32 class

abbrev pub MessageFits : Message → Type 0
MessageFits (Begin epoch) = Is32 epoch
MessageFits (Term epoch seq term class on) = TerminalFits epoch seq term class
MessageFits (End epoch seq) = Is32 epoch × Is32 seq
MessageFits (User epoch seq term class on user) = TerminalFits epoch seq term class × UserFits user

abbrev pub UnitFits : UnitId → Type 0
UnitFits unit = Is32 unit.inc × Is32 unit.serial

abbrev pub LogFits : LogRec → Type 0
LogFits (Put unit rrn before) = UnitFits unit × Is32 rrn
LogFits (Commit unit) = UnitFits unit
LogFits (Backout unit) = UnitFits unit

abbrev pub KeypointFits : Keypoint → Type 0
KeypointFits keypoint = Is32 keypoint.number × Is32 keypoint.start

abbrev pub ActingFits : Acting → Type 0
ActingFits (CatchUp inc) = Is32 inc
ActingFits _ = Unit {0}

abbrev pub DecidedFits : Decided → Type 0
DecidedFits (Owner acting) = ActingFits acting
DecidedFits _ = Unit {0}

abbrev pub EndingFits : EndWhy → Type 0
EndingFits (Refused inc) = Is32 inc
EndingFits _ = Unit {0}

abbrev pub ActFits : Act → Type 0
ActFits (act.Confirm inc) = Is32 inc
ActFits (act.CtlWrite control) = IsControl control
ActFits (act.Signal1 signal) = SignalFits signal
ActFits (act.Signal2 signal) = SignalFits signal
ActFits (act.Decide decided) = DecidedFits decided
ActFits (act.MsgRead slot) = Is32 slot
ActFits (act.MsgClose slot) = Is32 slot
ActFits (act.MsgBody slot message) = Is32 slot × MessageFits message
ActFits (act.MsgOpen slot message) = Is32 slot × MessageFits message
ActFits (act.LogRead block) = Is32 block
ActFits (act.LogLook place) = Is32 place
ActFits (act.LogClose place) = Is32 place
ActFits (act.LogBody place rec) = Is32 place × LogFits rec
ActFits (act.LogOpen place rec) = Is32 place × LogFits rec
ActFits (act.KpRead slot) = Is32 slot
ActFits (act.KpClose slot) = Is32 slot
ActFits (act.KpBody slot keypoint) = Is32 slot × KeypointFits keypoint
ActFits (act.KpOpen slot keypoint) = Is32 slot × KeypointFits keypoint
ActFits (act.FileRead number) = Is32 number
ActFits (act.FileWrite unit number value) = UnitFits unit × Is32 number × IsValue value
ActFits (act.Undo number before) = Is32 number
ActFits (act.Item number) = Is32 number
ActFits (act.Clt number) = Is32 number
ActFits (act.Ended reason) = EndingFits reason
ActFits _ = Unit {0}

-- An entry, an answer and a row: their numbers have 32 bits, the counter of a signal 64; names are names and values are
-- values; and a control record keeps its rule.
abbrev pub EntryFits : Entry → Type 0
EntryFits e = Is32 e.tick × Is32 e.inc × ActFits e.act

abbrev pub AnswerFits : ItemAnswer → Type 0
AnswerFits (Got value) = IsValue value
AnswerFits _ = Unit {0}

abbrev pub RowFits : Row → Type 0
RowFits row = IsName row.term × Is32 row.class × UserFits row.user

-- The first so many slots of a data set have 64 bytes each, and the first so many of the file, which are numbered from 1,
-- have 32.
abbrev pub SlotsFit : (ℕ → Slot) → ℕ → Type 0
SlotsFit slot zero = Unit {0}
SlotsFit slot (suc count) = SlotsFit slot count × (length (bytes_of (slot count)) ≡ 64)

abbrev pub PiecesFit : (ℕ → List ℕ) → ℕ → Type 0
PiecesFit image zero = Unit {0}
PiecesFit image (suc count) = PiecesFit image count × (length (image (suc count)) ≡ 32)

pub record ImagesFit (s : Scen) (t : List Entry) : Type 0 where
  pub ctl : length (ctl_bytes t) ≡ 384
  pub signals : length (msg_signals t) ≡ 128
  pub messages : SlotsFit (message_slot t) s.settings.ring
  pub log : SlotsFit (log_slot s t) s.settings.log
  pub file : PiecesFit (image s t) s.settings.file
  pub key : SlotsFit (key_slot t) 2

-- the value of a record in a slot of the file
abbrev pub HeldFits : Option (Option (List ℕ)) → Type 0
HeldFits held = IfSome held (λ (place : Option (List ℕ)). IfSome place IsValue)

-- those in the first so many slots, which are numbered from 1
abbrev pub RecordsFit : (ℕ → List ℕ) → ℕ → Type 0
RecordsFit slot zero = Unit {0}
RecordsFit slot (suc count) = RecordsFit slot count × HeldFits (slot_reading (slot (suc count)))
