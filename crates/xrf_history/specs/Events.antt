-- The events of a job's history: its START, each act with what it was handed, the ticks, and the choices
-- that reach it. A history is the list of a job's events since its START, the newest first.
use Rattle.std.specs.Prelude.{ℕ, Bool, List, Option}
use Rattle.xrf_base.specs.declared.items.Item.{Item}
use Rattle.xrf_base.specs.declared.items.UnitId.{UnitId}
use Rattle.xrf_ctl.specs.Control.{ControlRecord}
use Rattle.xrf_ctl.specs.Signal.{SignalRecord}
use Rattle.xrf_cavm.specs.declared.known.Known.{Known}
use Rattle.xrf_cavm.specs.declared.decisions.Decided.{Decided}
use Rattle.xrf_cebt.specs.declared.commands.Cebt.{Cebt}
use Rattle.xrf_exit.specs.declared.ExitAnswer.{ExitAnswer}
use Rattle.xrf_msg.specs.declared.messages.Message.{Message}
use Rattle.xrf_logrec.specs.declared.records.LogRec.{LogRec}
use Rattle.xrf_logrec.specs.declared.keypoints.Keypoint.{Keypoint}
use Rattle.xrf_history.specs.declared.want.EndWhy.{EndWhy}
use Rattle.xrf_history.specs.declared.want.Want.{Want}

pub data Event : Type 0 where
  -- its START, as active or as standby
  StartedActive : Event
  StartedStandby : Event
  -- a tick
  Ticked : Event
  -- the choices that reach it: ABEND, REPLY, CEBT and EXIT
  Abended : Event
  Replied : (go : Bool) → (at : ℕ) → Event
  Commanded : (command : Cebt) → (at : ℕ) → Event
  Exited : (answer : ExitAnswer) → (at : ℕ) → Event
  -- the control data set: RESERVE, CTLREAD, CTLWRITE, RELEASE
  Reserved : Event
  ControlRead : (held : ControlRecord) → (known : Known) → Event
  ControlWritten : (written : ControlRecord) → Event
  Released : Event
  -- the round: SIGNAL1, SIGNAL2, LOOK1, LOOK2, DECIDE with the decision
  Signalled1 : (signal : SignalRecord) → Event
  Signalled2 : (signal : SignalRecord) → Event
  Looked1 : (held : ControlRecord) → (signal : Option SignalRecord) → Event
  Looked2 : (signal : Option SignalRecord) → (at : ℕ) → Event
  DecisionMade : (known : Known) → (at : ℕ) → (decision : Decided) → Event
  -- the message slots: MSGREAD with the 64 bytes of the slot, MSGCLOSE, MSGBODY, MSGOPEN
  MessageRead : (place : ℕ) → (slot : List ℕ) → Event
  MessageClosed : (place : ℕ) → Event
  MessageBodied : (place : ℕ) → (message : Message) → Event
  MessageOpened : (place : ℕ) → (message : Message) → Event
  -- the log: LOGREAD with the 4,096 bytes of the block, the first one with the 128 bytes of both KEY slots
  -- too; LOGLOOK with the gate, LOGCLOSE, LOGBODY, LOGOPEN
  FirstBlockRead : (block : List ℕ) → (keys : List ℕ) → Event
  BlockRead : (block : List ℕ) → Event
  LogLooked : (place : ℕ) → (gate : ℕ) → Event
  LogClosed : (place : ℕ) → Event
  LogBodied : (place : ℕ) → (rec : LogRec) → Event
  LogOpened : (place : ℕ) → (rec : LogRec) → Event
  -- the keypoint slots: KPREAD with the gate, KPCLOSE, KPBODY, KPOPEN
  KeyLooked : (place : ℕ) → (gate : ℕ) → Event
  KeyClosed : (place : ℕ) → Event
  KeyBodied : (place : ℕ) → (keypoint : Keypoint) → Event
  KeyOpened : (place : ℕ) → (keypoint : Keypoint) → Event
  -- the file: FILEREAD with the 32 bytes of the slot, FILEWRITE, UNDO
  RecordRead : (rrn : ℕ) → (slot : List ℕ) → Event
  RecordWritten : (unit : UnitId) → (rrn : ℕ) → (value : List ℕ) → Event
  RecordUndone : (rrn : ℕ) → (before : List ℕ) → Event
  -- ITEM with the item, CLT, RESTARTED, ENDED
  Given : (item : Item) → Event
  LineIssued : (number : ℕ) → Event
  RestartDeclared : Event
  EndedAs : (why : EndWhy) → Event
  -- an act that failed
  ActFailed : (tried : Want) → (at : ℕ) → Event
