-- The next act of a site, and what kind of act it is.
use Rattle.std.specs.Prelude.{ℕ, ◌+◌, Bool, true, false, ◌||◌, nat_lt, is_some, if◌then◌else◌, List, length, Option, Some, None}
use Rattle.xrf_base.specs.declared.site.Site.{Site}
use Rattle.xrf_history.specs.declared.want.Want.{Want}
use Rattle.xrf_history.specs.declared.want.Want.TheVariants as want
use Rattle.xrf_history.specs.Events.{Event}
use Rattle.xrf_history.specs.Looking.{record_seen}
use Rattle.xrf_history.specs.Deciding.{cause}
use Rattle.xrf_history.specs.Next.{next}
use Rattle.xrf_history.specs.Answers.{may_fail as wanted_may_fail}
use Rattle.xrf_trace.specs.declared.entry.Entry.{Entry}
use Rattle.xrf_trace.specs.declared.entry.Act.{Act}
use Rattle.xrf_trace.specs.declared.entry.Act.TheVariants as act
use Rattle.xrf_trace.specs.Scenario.{Scen, settings, work}
use Rattle.xrf_trace.specs.Words.{now, items_taken}
use Rattle.xrf_trace.specs.Jobs.{hist, known_of, tried}

-- the next item of a site, where its work list has more items than it has taken
abbrev pub next_item : Scen → List Entry → Site → Option Act
next_item s t x = if nat_lt (items_taken t x) (length (work s x)) then Some (act.Item (items_taken t x + 1)) else None

-- the act that a job's want is; a DECIDE has the decision of its cause
abbrev pub act_of : Scen → List Entry → Site → List Event → Want → Option Act
act_of s t x h want.Nothing = None
act_of s t x h (want.Exit told) = None
act_of s t x h want.Reserve = Some act.Reserve
act_of s t x h want.CtlRead = Some act.CtlRead
act_of s t x h (want.CtlWrite written) = Some (act.CtlWrite written)
act_of s t x h want.Release = Some act.Release
act_of s t x h (want.Signal1 signal) = Some (act.Signal1 signal)
act_of s t x h (want.Signal2 signal) = Some (act.Signal2 signal)
act_of s t x h want.Look1 = Some act.Look1
act_of s t x h want.Look2 = Some act.Look2
act_of s t x h want.Decide = Some (act.Decide (cause (settings s x) h (known_of t (record_seen h)) (now t)))
act_of s t x h (want.MsgRead k) = Some (act.MsgRead k)
act_of s t x h (want.MsgClose k) = Some (act.MsgClose k)
act_of s t x h (want.MsgBody k message) = Some (act.MsgBody k message)
act_of s t x h (want.MsgOpen k message) = Some (act.MsgOpen k message)
act_of s t x h (want.LogRead b) = Some (act.LogRead b)
act_of s t x h (want.LogLook p) = Some (act.LogLook p)
act_of s t x h (want.LogClose p) = Some (act.LogClose p)
act_of s t x h (want.LogBody p rec) = Some (act.LogBody p rec)
act_of s t x h (want.LogOpen p rec) = Some (act.LogOpen p rec)
act_of s t x h (want.KpRead k) = Some (act.KpRead k)
act_of s t x h (want.KpClose k) = Some (act.KpClose k)
act_of s t x h (want.KpBody k keypoint) = Some (act.KpBody k keypoint)
act_of s t x h (want.KpOpen k keypoint) = Some (act.KpOpen k keypoint)
act_of s t x h (want.FileRead k) = Some (act.FileRead k)
act_of s t x h (want.FileWrite unit k value) = Some (act.FileWrite unit k value)
act_of s t x h (want.Undo k before) = Some (act.Undo k before)
act_of s t x h want.Item = next_item s t x
act_of s t x h (want.Clt k) = Some (act.Clt k)
act_of s t x h want.Restarted = Some act.Restarted
act_of s t x h (want.Ended reason) = Some (act.Ended reason)

-- the next act of a site: that of its job, and none where it would be an item and the work list is used up
abbrev pub act_by : Scen → List Entry → Site → Option (List Event) → Option Act
act_by s t x None = None
act_by s t x (Some h) = act_of s t x h (next (settings s x) h)

abbrev pub next_act : Scen → List Entry → Site → Option Act
next_act s t x = act_by s t x (hist s t x)

-- A write that may be torn, and how many bytes it has: 1 for CLOSE and OPEN, 63 for BODY, 32 for the file.
abbrev pub torn_size : Act → Option ℕ
torn_size (act.MsgClose k) = Some 1
torn_size (act.MsgBody k message) = Some 63
torn_size (act.MsgOpen k message) = Some 1
torn_size (act.LogClose p) = Some 1
torn_size (act.LogBody p rec) = Some 63
torn_size (act.LogOpen p rec) = Some 1
torn_size (act.KpClose k) = Some 1
torn_size (act.KpBody k keypoint) = Some 63
torn_size (act.KpOpen k keypoint) = Some 1
torn_size (act.FileWrite unit k value) = Some 32
torn_size (act.Undo k before) = Some 32
torn_size _ = None

-- an act that writes a data set: those, a control record, and a signal
abbrev pub is_signal : Act → Bool
is_signal (act.Signal1 signal) = true
is_signal (act.Signal2 signal) = true
is_signal _ = false

abbrev pub is_control_write : Act → Bool
is_control_write (act.CtlWrite written) = true
is_control_write _ = false

abbrev pub is_write : Act → Bool
is_write a = is_control_write a || is_signal a || is_some (torn_size a)

-- the acts that may fail
abbrev pub may_fail : Act → Bool
may_fail a = wanted_may_fail (tried a)

-- among them the reads
abbrev pub is_failing_read : Act → Bool
is_failing_read (act.MsgRead k) = true
is_failing_read (act.LogRead b) = true
is_failing_read (act.LogLook p) = true
is_failing_read (act.KpRead k) = true
is_failing_read (act.FileRead k) = true
is_failing_read _ = false

-- an entry that is an act of its job: no choice that reaches the job, and no stop without an act
abbrev pub is_act : Act → Bool
is_act act.StartActive = false
is_act act.StartStandby = false
is_act act.Abend = false
is_act (act.Reply go) = false
is_act (act.Cebt command reply) = false
is_act (act.Exit said) = false
is_act act.NoAct = false
is_act act.Tick = false
is_act (act.Confirm n) = false
is_act _ = true
