-- Which answer fits which act, and what event an answer is.
use Rattle.std.specs.Prelude.{ℕ, Bool, true, false, not, List, IsTrue}
use Rattle.xrf_history.specs.declared.settings.Settings.{Settings}
use Rattle.xrf_history.specs.declared.want.Want.{Want}
use Rattle.xrf_history.specs.declared.want.Want.TheVariants as want
use Rattle.xrf_history.specs.declared.answer.Answer.{Answer}
use Rattle.xrf_history.specs.declared.answer.Answer.TheVariants as answer
use Rattle.xrf_history.specs.Events.{Event, Ticked, Abended, Replied, Commanded, Exited, Reserved, ControlRead, ControlWritten, Released, Signalled1, Signalled2, Looked1, Looked2, DecisionMade, MessageRead, MessageClosed, MessageBodied, MessageOpened, FirstBlockRead, BlockRead, LogLooked, LogClosed, LogBodied, LogOpened, KeyLooked, KeyClosed, KeyBodied, KeyOpened, RecordRead, RecordWritten, RecordUndone, Given, LineIssued, RestartDeclared, EndedAs, ActFailed}
use Rattle.xrf_history.specs.Restarting.{has_read_block}
use Rattle.xrf_history.specs.Deciding.{cause}
use Rattle.xrf_history.specs.Next.{next}

-- the acts that may fail: those on the message slots, the log, the keypoints and the file
abbrev pub may_fail : Want → Bool
may_fail (want.MsgRead place) = true
may_fail (want.MsgClose place) = true
may_fail (want.MsgBody place message) = true
may_fail (want.MsgOpen place message) = true
may_fail (want.LogRead block) = true
may_fail (want.LogLook place) = true
may_fail (want.LogClose place) = true
may_fail (want.LogBody place rec) = true
may_fail (want.LogOpen place rec) = true
may_fail (want.KpRead place) = true
may_fail (want.KpClose place) = true
may_fail (want.KpBody place keypoint) = true
may_fail (want.KpOpen place keypoint) = true
may_fail (want.FileRead rrn) = true
may_fail (want.FileWrite unit rrn value) = true
may_fail (want.Undo rrn before) = true
may_fail _ = false

-- an act that is answered by the tick alone
abbrev pub is_plain : Want → Bool
is_plain want.Reserve = true
is_plain (want.CtlWrite written) = true
is_plain want.Release = true
is_plain (want.Signal1 signal) = true
is_plain (want.Signal2 signal) = true
is_plain (want.MsgClose place) = true
is_plain (want.MsgBody place message) = true
is_plain (want.MsgOpen place message) = true
is_plain (want.LogClose place) = true
is_plain (want.LogBody place rec) = true
is_plain (want.LogOpen place rec) = true
is_plain (want.KpClose place) = true
is_plain (want.KpBody place keypoint) = true
is_plain (want.KpOpen place keypoint) = true
is_plain (want.FileWrite unit rrn value) = true
is_plain (want.Undo rrn before) = true
is_plain (want.Clt line) = true
is_plain want.Restarted = true
is_plain (want.Ended reason) = true
is_plain _ = false

-- The answer is one of an act: it fits it. The first LOGREAD is handed the KEY slots too.
abbrev pub fits : Settings → List Event → Want → Answer → Bool
fits p h w (answer.Done at) = is_plain w
fits p h want.CtlRead (answer.Ctl held known) = true
fits p h want.Look1 (answer.Look1 held signal) = true
fits p h want.Look2 (answer.Look2 signal at) = true
fits p h want.Decide (answer.Decide known at) = true
fits p h (want.MsgRead place) (answer.MsgSlot slot) = true
fits p h (want.LogRead block) (answer.LogBlock bytes) = has_read_block h
fits p h (want.LogRead block) (answer.Anchored bytes keys) = not (has_read_block h)
fits p h (want.LogLook place) (answer.Gate gate) = true
fits p h (want.KpRead place) (answer.Gate gate) = true
fits p h (want.FileRead rrn) (answer.FileSlot slot) = true
fits p h want.Item (answer.Item item) = true
fits p h w (answer.Failed at) = may_fail w
fits p h _ _ = false

abbrev pub Fits : Settings → List Event → Answer → Type 0
Fits p h a = IsTrue (fits p h (next p h) a)

-- the slot or record of a read; of other acts it is never asked
abbrev pub place_of : Want → ℕ
place_of (want.MsgRead place) = place
place_of (want.LogLook place) = place
place_of (want.KpRead place) = place
place_of (want.FileRead rrn) = rrn
place_of _ = 0

-- a gate that is handed is that of a log slot or of a keypoint slot
abbrev pub gate_event : Want → ℕ → Event
gate_event (want.KpRead place) gate = KeyLooked place gate
gate_event w gate = LogLooked (place_of w) gate

-- the event of an act that is made; of one that hands more it is never asked, since that has an answer of its own
abbrev pub made : Want → Event
made want.Reserve = Reserved
made (want.CtlWrite written) = ControlWritten written
made want.Release = Released
made (want.Signal1 signal) = Signalled1 signal
made (want.Signal2 signal) = Signalled2 signal
made (want.MsgClose place) = MessageClosed place
made (want.MsgBody place message) = MessageBodied place message
made (want.MsgOpen place message) = MessageOpened place message
made (want.LogClose place) = LogClosed place
made (want.LogBody place rec) = LogBodied place rec
made (want.LogOpen place rec) = LogOpened place rec
made (want.KpClose place) = KeyClosed place
made (want.KpBody place keypoint) = KeyBodied place keypoint
made (want.KpOpen place keypoint) = KeyOpened place keypoint
made (want.FileWrite unit rrn value) = RecordWritten unit rrn value
made (want.Undo rrn before) = RecordUndone rrn before
made (want.Clt line) = LineIssued line
made want.Restarted = RestartDeclared
made (want.Ended reason) = EndedAs reason
made _ = Ticked

-- The event that an answer is, in a job with this history whose next act is known. DECIDE gives the decision
-- of its cause.
abbrev pub event_by : Settings → List Event → Want → Answer → Event
event_by p h w (answer.Tick at) = Ticked
event_by p h w (answer.Done at) = made w
event_by p h w (answer.Ctl held known) = ControlRead held known
event_by p h w (answer.Look1 held signal) = Looked1 held signal
event_by p h w (answer.Look2 signal at) = Looked2 signal at
event_by p h w (answer.Decide known at) = DecisionMade known at (cause p h known at)
event_by p h w (answer.MsgSlot slot) = MessageRead (place_of w) slot
event_by p h w (answer.LogBlock block) = BlockRead block
event_by p h w (answer.Anchored block keys) = FirstBlockRead block keys
event_by p h w (answer.Gate gate) = gate_event w gate
event_by p h w (answer.FileSlot slot) = RecordRead (place_of w) slot
event_by p h w (answer.Item item) = Given item
event_by p h w (answer.Exit said at) = Exited said at
event_by p h w answer.Abend = Abended
event_by p h w (answer.Reply go at) = Replied go at
event_by p h w (answer.Cebt command at) = Commanded command at
event_by p h w (answer.Failed at) = ActFailed w at

abbrev pub event : Settings → List Event → Answer → Event
event p h a = event_by p h (next p h) a
