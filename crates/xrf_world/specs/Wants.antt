-- What is wanted of a site, and what kind of act that is.
use Rattle.std.specs.Prelude.{ℕ, Bool, true, false, nat_lt, is_some, if◌then◌else◌, List, length, Option, Some, None}
use Rattle.xrf_base.specs.declared.site.Site.{Site}
use Rattle.xrf_cavm.specs.declared.decisions.Decided.{Decided}
use Rattle.xrf_setup.specs.declared.choice.Landing.{Landing}
use Rattle.xrf_setup.specs.declared.choice.Landing.TheVariants as landing
use Rattle.xrf_history.specs.declared.want.Want.{Want}
use Rattle.xrf_history.specs.declared.want.Want.TheVariants as want
use Rattle.xrf_history.specs.Events.{Event}
use Rattle.xrf_history.specs.Answers.{may_fail}
use Rattle.xrf_history.specs.Next.{next}
use Rattle.xrf_trace.specs.declared.entry.Act.{Act}
use Rattle.xrf_trace.specs.declared.entry.Act.TheVariants as act
use Rattle.xrf_trace.specs.declared.entry.Entry.{Entry}
use Rattle.xrf_trace.specs.declared.entry.Refused.{Refused}
use Rattle.xrf_trace.specs.declared.entry.Refused.TheVariants.{NotEnabled}
use Rattle.xrf_trace.specs.Acts as acts
use Rattle.xrf_trace.specs.Scenario.{Scen, settings, work}
use Rattle.xrf_trace.specs.Words.{items_taken}
use Rattle.xrf_trace.specs.Jobs.{hist}
use Rattle.xrf_trace.specs.Refusals.{unless, torn_refusal}

-- What is wanted of a site: what its job wants, and nothing where no job is there. An item is wanted only while the work
-- list has more items than were taken.
abbrev pub while_left : Want → (is_left : Bool) → Want
while_left want.Item is_left = if is_left then want.Item else want.Nothing
while_left w is_left = w

abbrev pub is_item_left : Scen → List Entry → Site → Bool
is_item_left s t x = nat_lt (items_taken t x) (length (work s x))

abbrev pub wanted_by : Scen → List Entry → Site → Option (List Event) → Want
wanted_by s t x None = want.Nothing
wanted_by s t x (Some h) = while_left (next (settings s x) h) (is_item_left s t x)

abbrev pub wanted : Scen → List Entry → Site → Want
wanted s t x = wanted_by s t x (hist s t x)

-- it is an act, which may be made while the reserve is free or where it is no RESERVE
abbrev pub may_make : (is_free : Bool) → Want → Bool
may_make is_free want.Nothing = false
may_make is_free (want.Exit told) = false
may_make is_free want.Reserve = is_free
may_make is_free _ = true

-- the read of a block of the log
abbrev pub reads_block : Want → Bool
reads_block (want.LogRead b) = true
reads_block _ = false

-- The act that a want is. An ITEM takes the item of this number, and a DECIDE has the decision that the job has made.
abbrev pub decide_act : Option Decided → Act
decide_act (Some decision) = act.Decide decision
decide_act None = act.NoAct

abbrev pub act_of_want : (number : ℕ) → Option Decided → Want → Act
act_of_want number decided want.Nothing = act.NoAct
act_of_want number decided (want.Exit told) = act.NoAct
act_of_want number decided want.Reserve = act.Reserve
act_of_want number decided want.CtlRead = act.CtlRead
act_of_want number decided (want.CtlWrite written) = act.CtlWrite written
act_of_want number decided want.Release = act.Release
act_of_want number decided (want.Signal1 signal) = act.Signal1 signal
act_of_want number decided (want.Signal2 signal) = act.Signal2 signal
act_of_want number decided want.Look1 = act.Look1
act_of_want number decided want.Look2 = act.Look2
act_of_want number decided want.Decide = decide_act decided
act_of_want number decided (want.MsgRead k) = act.MsgRead k
act_of_want number decided (want.MsgClose k) = act.MsgClose k
act_of_want number decided (want.MsgBody k message) = act.MsgBody k message
act_of_want number decided (want.MsgOpen k message) = act.MsgOpen k message
act_of_want number decided (want.LogRead b) = act.LogRead b
act_of_want number decided (want.LogLook p) = act.LogLook p
act_of_want number decided (want.LogClose p) = act.LogClose p
act_of_want number decided (want.LogBody p rec) = act.LogBody p rec
act_of_want number decided (want.LogOpen p rec) = act.LogOpen p rec
act_of_want number decided (want.KpRead k) = act.KpRead k
act_of_want number decided (want.KpClose k) = act.KpClose k
act_of_want number decided (want.KpBody k keypoint) = act.KpBody k keypoint
act_of_want number decided (want.KpOpen k keypoint) = act.KpOpen k keypoint
act_of_want number decided (want.FileRead k) = act.FileRead k
act_of_want number decided (want.FileWrite unit k value) = act.FileWrite unit k value
act_of_want number decided (want.Undo k before) = act.Undo k before
act_of_want number decided want.Item = act.Item number
act_of_want number decided (want.Clt k) = act.Clt k
act_of_want number decided want.Restarted = act.Restarted
act_of_want number decided (want.Ended reason) = act.Ended reason

-- whether that act is a signal, how many bytes it has where it is a write that may be torn, and whether it is a write of a
-- data set
abbrev pub is_signal : Want → Bool
is_signal w = acts.is_signal (act_of_want 0 None w)

abbrev pub torn_size : Want → Option ℕ
torn_size w = acts.torn_size (act_of_want 0 None w)

abbrev pub is_write : Want → Bool
is_write w = acts.is_write (act_of_want 0 None w)

-- the refusals of a STOP and of a FAIL, by what is wanted
abbrev pub stop_refusal : Landing → (has_job : Bool) → Want → Option Refused
stop_refusal landing.Nothing has_job w = unless has_job NotEnabled
stop_refusal landing.All has_job w = unless (is_write w) NotEnabled
stop_refusal (landing.Torn bytes) has_job w = torn_refusal bytes (torn_size w)

abbrev pub fail_refusal : Landing → Want → Option Refused
fail_refusal landing.Nothing w = unless (may_fail w) NotEnabled
fail_refusal landing.All w = unless (is_some (torn_size w)) NotEnabled
fail_refusal (landing.Torn bytes) w = torn_refusal bytes (torn_size w)
