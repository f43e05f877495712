-- The texts of acts.
use Rattle.std.specs.Prelude.{ℕ, ◌-◌, Bool, true, false, List, [], ◌++◌, codes, slice_index_or}
use Rattle.std.specs.Fmt.{decimal}
use Rattle.xrf_base.specs.declared.site.Site.{Site}
use Rattle.xrf_base.specs.declared.site.Site.TheVariants as site
use Rattle.xrf_cebt.specs.Command.{command_text}
use Rattle.xrf_cebt.specs.Reply.{reply_text}
use Rattle.xrf_clt.specs.Table.{texts_for}
use Rattle.xrf_ctl.specs.Signal.{SignalRecord}
use Rattle.xrf_grammar.specs.Spelling.{answer_word}
use Rattle.xrf_setup.specs.Scenario.{Scen}
use Rattle.xrf_setup.specs.Settings.{applid_of}
use Rattle.xrf_trace.specs.declared.entry.Act.{Act}
use Rattle.xrf_trace.specs.declared.entry.Act.TheVariants as act
use Rattle.xrf_trace.specs.declared.entry.Who.{Who}
use Rattle.xrf_trace.specs.declared.entry.Who.TheVariants as who
use Rattle.xrf_report.specs.Words.{blank}
use Rattle.xrf_report.specs.Records.{control_text}
use Rattle.xrf_report.specs.Messages.{message_text}
use Rattle.xrf_report.specs.Logged.{unit_text, log_text, keypoint_text}
use Rattle.xrf_report.specs.Decisions.{decided_text, ending_text}

-- what the operator replies
abbrev pub go_word : Bool → List ℕ
go_word true = codes "GO"
go_word false = codes "IGNORE"

-- counter and cursor
abbrev pub signal_text : SignalRecord → List ℕ
signal_text signal = decimal signal.counter ++ blank (decimal signal.cursor)

-- the line of the command list that an alternate issues: of those of its site's applid the one of a number from 1
abbrev pub clt_at : Scen → Site → ℕ → List ℕ
clt_at s x number = slice_index_or (texts_for (applid_of s.settings x) s.clt) (number - 1) []

abbrev pub clt_text : Scen → Who → ℕ → List ℕ
clt_text s who.A number = clt_at s site.A number
clt_text s who.B number = clt_at s site.B number
clt_text s who.Env number = []

-- Slots, blocks and log records are numbered from 0, file records, items and lines of the command list from 1.
abbrev pub act_text : Scen → Who → Act → List ℕ
act_text s x act.Tick = codes "TICK"
act_text s x act.StartActive = codes "START ACTIVE"
act_text s x act.StartStandby = codes "START STANDBY"
act_text s x act.Abend = codes "ABEND"
act_text s x (act.Confirm inc) = codes "CONFIRM " ++ decimal inc
act_text s x (act.Reply go) = codes "REPLY " ++ go_word go
act_text s x (act.Cebt command reply) = codes "CEBT " ++ command_text command ++ codes " = " ++ reply_text reply
act_text s x (act.Exit answer) = codes "EXIT " ++ answer_word answer
act_text s x act.Reserve = codes "RESERVE"
act_text s x act.CtlRead = codes "CTLREAD"
act_text s x (act.CtlWrite control) = codes "CTLWRITE " ++ control_text s.settings.format control
act_text s x act.Release = codes "RELEASE"
act_text s x (act.Signal1 signal) = codes "SIGNAL1 " ++ signal_text signal
act_text s x (act.Signal2 signal) = codes "SIGNAL2 " ++ signal_text signal
act_text s x act.Look1 = codes "LOOK1"
act_text s x act.Look2 = codes "LOOK2"
act_text s x (act.Decide decided) = codes "DECIDE " ++ decided_text decided
act_text s x (act.MsgRead slot) = codes "MSGREAD " ++ decimal slot
act_text s x (act.MsgClose slot) = codes "MSGCLOSE " ++ decimal slot
act_text s x (act.MsgBody slot message) = codes "MSGBODY " ++ decimal slot ++ blank (message_text message)
act_text s x (act.MsgOpen slot message) = codes "MSGOPEN " ++ decimal slot ++ blank (message_text message)
act_text s x (act.LogRead block) = codes "LOGREAD " ++ decimal block
act_text s x (act.LogLook place) = codes "LOGLOOK " ++ decimal place
act_text s x (act.LogClose place) = codes "LOGCLOSE " ++ decimal place
act_text s x (act.LogBody place rec) = codes "LOGBODY " ++ decimal place ++ blank (log_text rec)
act_text s x (act.LogOpen place rec) = codes "LOGOPEN " ++ decimal place ++ blank (log_text rec)
act_text s x (act.KpRead slot) = codes "KPREAD " ++ decimal slot
act_text s x (act.KpClose slot) = codes "KPCLOSE " ++ decimal slot
act_text s x (act.KpBody slot keypoint) = codes "KPBODY " ++ decimal slot ++ blank (keypoint_text keypoint)
act_text s x (act.KpOpen slot keypoint) = codes "KPOPEN " ++ decimal slot ++ blank (keypoint_text keypoint)
act_text s x (act.FileRead number) = codes "FILEREAD " ++ decimal number
act_text s x (act.FileWrite unit number value) = codes "FILEWRITE " ++ unit_text unit ++ blank (decimal number) ++ blank value
act_text s x (act.Undo number before) = codes "UNDO " ++ decimal number
act_text s x (act.Item number) = codes "ITEM " ++ decimal number
act_text s x (act.Clt number) = codes "CLT " ++ decimal number ++ blank (clt_text s x number)
act_text s x act.Restarted = codes "RESTARTED"
act_text s x (act.Ended reason) = codes "ENDED " ++ ending_text reason
act_text s x act.NoAct = []
