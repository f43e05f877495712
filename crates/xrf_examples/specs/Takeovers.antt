-- What the worked runs begin with.
use Rattle.std.specs.Prelude.{true, List, [], ◌∷◌, ◌++◌, replicate, codes, Some, None}
use Rattle.xrf_base.specs.declared.site.Site.TheVariants as site
use Rattle.xrf_base.specs.Values.{slot_of}
use Rattle.xrf_ctl.specs.declared.parts.OwnerState.TheVariants as state
use Rattle.xrf_ctl.specs.declared.parts.Cause.TheVariants as cause
use Rattle.xrf_ctl.specs.Control.{of_parts}
use Rattle.xrf_ctl.specs.Signal.{of_numbers}
use Rattle.xrf_cavm.specs.declared.decisions.Decision.TheVariants as decision
use Rattle.xrf_cavm.specs.declared.decisions.Waiting.TheVariants as waiting
use Rattle.xrf_cavm.specs.declared.decisions.Acting.TheVariants as acting
use Rattle.xrf_cavm.specs.declared.decisions.Decided.TheVariants as decided
use Rattle.xrf_cebt.specs.declared.commands.Cebt.TheVariants as cebt
use Rattle.xrf_cebt.specs.declared.replies.CebtReply.TheVariants as reply
use Rattle.xrf_exit.specs.declared.ExitAnswer.TheVariants as exit
use Rattle.xrf_msg.specs.declared.messages.Message.TheVariants as message
use Rattle.xrf_logrec.specs.declared.records.LogRec.TheVariants as rec
use Rattle.xrf_setup.specs.declared.choice.Choice.{Choice}
use Rattle.xrf_setup.specs.declared.choice.Choice.TheVariants as choice
use Rattle.xrf_setup.specs.declared.choice.Landing.TheVariants as landing
use Rattle.xrf_trace.specs.declared.entry.Act.TheVariants as act
use Rattle.xrf_trace.specs.declared.entry.Entry.{Entry}
use Rattle.xrf_trace.specs.declared.entry.Land.TheVariants as land
use Rattle.xrf_trace.specs.declared.entry.Who.TheVariants as who
use Rattle.xrf_examples.specs.Making.{entry_of, owner_of, alt_of, taking_of, unit_of}
use Rattle.xrf_examples.specs.Beginnings.{restarted, to_restarted, tracking, to_tracking}
use Rattle.xrf_examples.specs.Units.{put}

-- The tracking alternate has made its rounds to tick 3, and the active none; tick 4 has come.
abbrev pub to_unheard : List Choice
to_unheard =
    to_tracking ++ choice.Tick ∷ replicate 6 (choice.Step site.B) ++ choice.Tick ∷ replicate 6 (choice.Step site.B) ++ choice.Tick ∷
    replicate 6 (choice.Step site.B) ++ choice.Tick ∷ []

abbrev pub unheard : List Entry
unheard =
    entry_of 4 who.Env 0 act.Tick land.Full ∷
    entry_of 3 who.B 2 (act.MsgRead 0) land.Full ∷
    entry_of 3 who.B 2 (act.Decide (decided.Alternate decision.Nothing)) land.Full ∷
    entry_of 3 who.B 2 act.Look2 land.Full ∷
    entry_of 3 who.B 2 act.Look1 land.Full ∷
    entry_of 3 who.B 2 (act.Signal2 (of_numbers 2 4 0)) land.Full ∷
    entry_of 3 who.B 2 (act.Signal1 (of_numbers 2 4 0)) land.Full ∷
    entry_of 3 who.Env 0 act.Tick land.Full ∷
    entry_of 2 who.B 2 (act.MsgRead 0) land.Full ∷
    entry_of 2 who.B 2 (act.Decide (decided.Alternate decision.Nothing)) land.Full ∷
    entry_of 2 who.B 2 act.Look2 land.Full ∷
    entry_of 2 who.B 2 act.Look1 land.Full ∷
    entry_of 2 who.B 2 (act.Signal2 (of_numbers 2 3 0)) land.Full ∷
    entry_of 2 who.B 2 (act.Signal1 (of_numbers 2 3 0)) land.Full ∷
    entry_of 2 who.Env 0 act.Tick land.Full ∷
    entry_of 1 who.B 2 (act.MsgRead 0) land.Full ∷
    entry_of 1 who.B 2 (act.Decide (decided.Alternate decision.Nothing)) land.Full ∷
    entry_of 1 who.B 2 act.Look2 land.Full ∷
    entry_of 1 who.B 2 act.Look1 land.Full ∷
    entry_of 1 who.B 2 (act.Signal2 (of_numbers 2 2 0)) land.Full ∷
    entry_of 1 who.B 2 (act.Signal1 (of_numbers 2 2 0)) land.Full ∷
    entry_of 1 who.Env 0 act.Tick land.Full ∷
    tracking

-- The active was paused inside a put; it has seen the taking and is to sign off.
abbrev pub to_paused : List Choice
to_paused =
    to_restarted ++ replicate 3 (choice.Step site.A) ++ choice.StartStandby site.B ∷ replicate 10 (choice.Step site.B) ++ choice.Tick ∷
    replicate 6 (choice.Step site.B) ++ choice.Tick ∷ replicate 6 (choice.Step site.B) ++ choice.Tick ∷ replicate 6 (choice.Step site.B) ++
    choice.Tick ∷ replicate 6 (choice.Step site.B) ++ choice.Tick ∷ replicate 9 (choice.Step site.B) ++ replicate 8 (choice.Step site.A) ++
    choice.Exit site.A exit.Abend ∷ []

abbrev pub paused : List Entry
paused =
    entry_of 5 who.A 1 (act.Exit exit.Abend) land.Full ∷
    entry_of 5 who.A 1 (act.Decide (decided.Owner acting.Seen)) land.Full ∷
    entry_of 5 who.A 1 act.Look2 land.Full ∷
    entry_of 5 who.A 1 act.Look1 land.Full ∷
    entry_of 5 who.A 1 (act.Signal2 (of_numbers 1 2 0)) land.Full ∷
    entry_of 5 who.A 1 (act.Signal1 (of_numbers 1 2 0)) land.Full ∷
    entry_of 5 who.A 1 (act.FileWrite (unit_of 1 1) 1 (codes "NEW")) land.Full ∷
    entry_of 5 who.A 1 (act.LogOpen 0 (rec.Put (unit_of 1 1) 1 (slot_of (Some (codes "OLD"))))) land.Full ∷
    entry_of 5 who.A 1 (act.LogBody 0 (rec.Put (unit_of 1 1) 1 (slot_of (Some (codes "OLD"))))) land.Full ∷
    entry_of 5 who.B 2 act.Release land.Full ∷
    entry_of 5 who.B 2 (act.CtlWrite (of_parts 1 2 (owner_of 1 site.A state.Running) (alt_of 2 site.B) (taking_of 2 cause.Lost))) land.Full ∷
    entry_of 5 who.B 2 act.CtlRead land.Full ∷
    entry_of 5 who.B 2 act.Reserve land.Full ∷
    entry_of 5 who.B 2 (act.Decide (decided.Alternate (decision.Start cause.Lost))) land.Full ∷
    entry_of 5 who.B 2 act.Look2 land.Full ∷
    entry_of 5 who.B 2 act.Look1 land.Full ∷
    entry_of 5 who.B 2 (act.Signal2 (of_numbers 2 6 0)) land.Full ∷
    entry_of 5 who.B 2 (act.Signal1 (of_numbers 2 6 0)) land.Full ∷
    entry_of 5 who.Env 0 act.Tick land.Full ∷
    entry_of 4 who.B 2 (act.MsgRead 0) land.Full ∷
    entry_of 4 who.B 2 (act.Decide (decided.Alternate decision.Nothing)) land.Full ∷
    entry_of 4 who.B 2 act.Look2 land.Full ∷
    entry_of 4 who.B 2 act.Look1 land.Full ∷
    entry_of 4 who.B 2 (act.Signal2 (of_numbers 2 5 0)) land.Full ∷
    entry_of 4 who.B 2 (act.Signal1 (of_numbers 2 5 0)) land.Full ∷
    entry_of 4 who.Env 0 act.Tick land.Full ∷
    entry_of 3 who.B 2 (act.MsgRead 0) land.Full ∷
    entry_of 3 who.B 2 (act.Decide (decided.Alternate decision.Nothing)) land.Full ∷
    entry_of 3 who.B 2 act.Look2 land.Full ∷
    entry_of 3 who.B 2 act.Look1 land.Full ∷
    entry_of 3 who.B 2 (act.Signal2 (of_numbers 2 4 0)) land.Full ∷
    entry_of 3 who.B 2 (act.Signal1 (of_numbers 2 4 0)) land.Full ∷
    entry_of 3 who.Env 0 act.Tick land.Full ∷
    entry_of 2 who.B 2 (act.MsgRead 0) land.Full ∷
    entry_of 2 who.B 2 (act.Decide (decided.Alternate decision.Nothing)) land.Full ∷
    entry_of 2 who.B 2 act.Look2 land.Full ∷
    entry_of 2 who.B 2 act.Look1 land.Full ∷
    entry_of 2 who.B 2 (act.Signal2 (of_numbers 2 3 0)) land.Full ∷
    entry_of 2 who.B 2 (act.Signal1 (of_numbers 2 3 0)) land.Full ∷
    entry_of 2 who.Env 0 act.Tick land.Full ∷
    entry_of 1 who.B 2 (act.MsgRead 0) land.Full ∷
    entry_of 1 who.B 2 (act.Decide (decided.Alternate decision.Nothing)) land.Full ∷
    entry_of 1 who.B 2 act.Look2 land.Full ∷
    entry_of 1 who.B 2 act.Look1 land.Full ∷
    entry_of 1 who.B 2 (act.Signal2 (of_numbers 2 2 0)) land.Full ∷
    entry_of 1 who.B 2 (act.Signal1 (of_numbers 2 2 0)) land.Full ∷
    entry_of 1 who.Env 0 act.Tick land.Full ∷
    entry_of 0 who.B 2 (act.MsgRead 0) land.Full ∷
    entry_of 0 who.B 2 (act.Decide (decided.Alternate decision.Nothing)) land.Full ∷
    entry_of 0 who.B 2 act.Look2 land.Full ∷
    entry_of 0 who.B 2 act.Look1 land.Full ∷
    entry_of 0 who.B 2 (act.Signal2 (of_numbers 2 1 0)) land.Full ∷
    entry_of 0 who.B 2 (act.Signal1 (of_numbers 2 1 0)) land.Full ∷
    entry_of 0 who.B 2 act.Release land.Full ∷
    entry_of 0 who.B 2 (act.CtlWrite (of_parts 1 2 (owner_of 1 site.A state.Running) (alt_of 2 site.B) None)) land.Full ∷
    entry_of 0 who.B 0 act.CtlRead land.Full ∷
    entry_of 0 who.B 0 act.Reserve land.Full ∷
    entry_of 0 who.B 0 act.StartStandby land.Full ∷
    entry_of 0 who.A 1 (act.FileRead 1) land.Full ∷
    entry_of 0 who.A 1 (act.Item 2) land.Full ∷
    entry_of 0 who.A 1 (act.Item 1) land.Full ∷
    restarted

-- The active told terminals and users and stopped; the alternate has gone through.
abbrev pub to_users_through : List Choice
to_users_through =
    choice.StartActive site.A ∷ replicate 11 (choice.Step site.A) ++ choice.StartStandby site.B ∷ replicate 10 (choice.Step site.B) ++ choice.Tick ∷
    replicate 23 (choice.Step site.A) ++ replicate 11 (choice.Step site.B) ++ choice.Stop site.A landing.Nothing ∷ choice.Confirm 1 ∷
    choice.Cebt site.B cebt.PerformTakeover ∷ choice.Tick ∷ replicate 9 (choice.Step site.B) ++ choice.Tick ∷ replicate 9 (choice.Step site.B)

abbrev pub users_through : List Entry
users_through =
    entry_of 3 who.B 2 act.Release land.Full ∷
    entry_of 3 who.B 2 (act.CtlWrite (of_parts 2 2 (owner_of 2 site.B state.Running) None None)) land.Full ∷
    entry_of 3 who.B 2 act.CtlRead land.Full ∷
    entry_of 3 who.B 2 act.Reserve land.Full ∷
    entry_of 3 who.B 2 (act.Decide (decided.Waiting waiting.Through)) land.Full ∷
    entry_of 3 who.B 2 act.Look2 land.Full ∷
    entry_of 3 who.B 2 act.Look1 land.Full ∷
    entry_of 3 who.B 2 (act.Signal2 (of_numbers 2 4 5)) land.Full ∷
    entry_of 3 who.B 2 (act.Signal1 (of_numbers 2 4 5)) land.Full ∷
    entry_of 3 who.Env 0 act.Tick land.Full ∷
    entry_of 2 who.B 2 act.Release land.Full ∷
    entry_of 2 who.B 2 (act.CtlWrite (of_parts 2 2 (owner_of 1 site.A state.Running) (alt_of 2 site.B) (taking_of 2 cause.Command))) land.Full ∷
    entry_of 2 who.B 2 act.CtlRead land.Full ∷
    entry_of 2 who.B 2 act.Reserve land.Full ∷
    entry_of 2 who.B 2 (act.Decide (decided.Alternate (decision.Start cause.Command))) land.Full ∷
    entry_of 2 who.B 2 act.Look2 land.Full ∷
    entry_of 2 who.B 2 act.Look1 land.Full ∷
    entry_of 2 who.B 2 (act.Signal2 (of_numbers 2 3 5)) land.Full ∷
    entry_of 2 who.B 2 (act.Signal1 (of_numbers 2 3 5)) land.Full ∷
    entry_of 2 who.Env 0 act.Tick land.Full ∷
    entry_of 1 who.B 2 (act.Cebt cebt.PerformTakeover reply.TakeoverAccepted) land.Full ∷
    entry_of 1 who.Env 0 (act.Confirm 1) land.Full ∷
    entry_of 1 who.A 1 act.NoAct (land.Stop landing.Nothing) ∷
    entry_of 1 who.B 2 (act.MsgRead 5) land.Full ∷
    entry_of 1 who.B 2 (act.MsgRead 4) land.Full ∷
    entry_of 1 who.B 2 (act.MsgRead 3) land.Full ∷
    entry_of 1 who.B 2 (act.MsgRead 2) land.Full ∷
    entry_of 1 who.B 2 (act.MsgRead 1) land.Full ∷
    entry_of 1 who.B 2 (act.MsgRead 0) land.Full ∷
    entry_of 1 who.B 2 (act.Decide (decided.Alternate decision.Nothing)) land.Full ∷
    entry_of 1 who.B 2 act.Look2 land.Full ∷
    entry_of 1 who.B 2 act.Look1 land.Full ∷
    entry_of 1 who.B 2 (act.Signal2 (of_numbers 2 2 0)) land.Full ∷
    entry_of 1 who.B 2 (act.Signal1 (of_numbers 2 2 0)) land.Full ∷
    entry_of 1 who.A 1 (act.MsgOpen 4 (message.User 2 4 (codes "T2") 2 true None)) land.Full ∷
    entry_of 1 who.A 1 (act.MsgBody 4 (message.User 2 4 (codes "T2") 2 true None)) land.Full ∷
    entry_of 1 who.A 1 (act.MsgRead 4) land.Full ∷
    entry_of 1 who.A 1 (act.Item 3) land.Full ∷
    entry_of 1 who.A 1 (act.MsgOpen 3 (message.User 2 3 (codes "T1") 1 true (Some (codes "ANNA")))) land.Full ∷
    entry_of 1 who.A 1 (act.MsgBody 3 (message.User 2 3 (codes "T1") 1 true (Some (codes "ANNA")))) land.Full ∷
    entry_of 1 who.A 1 (act.MsgRead 3) land.Full ∷
    entry_of 1 who.A 1 (act.Item 2) land.Full ∷
    entry_of 1 who.A 1 (act.MsgOpen 2 (message.User 2 2 (codes "T1") 1 true None)) land.Full ∷
    entry_of 1 who.A 1 (act.MsgBody 2 (message.User 2 2 (codes "T1") 1 true None)) land.Full ∷
    entry_of 1 who.A 1 (act.MsgRead 2) land.Full ∷
    entry_of 1 who.A 1 (act.Item 1) land.Full ∷
    entry_of 1 who.A 1 (act.MsgOpen 1 (message.End 2 1)) land.Full ∷
    entry_of 1 who.A 1 (act.MsgBody 1 (message.End 2 1)) land.Full ∷
    entry_of 1 who.A 1 (act.MsgRead 1) land.Full ∷
    entry_of 1 who.A 1 (act.MsgOpen 0 (message.Begin 2)) land.Full ∷
    entry_of 1 who.A 1 (act.MsgBody 0 (message.Begin 2)) land.Full ∷
    entry_of 1 who.A 1 (act.MsgRead 0) land.Full ∷
    entry_of 1 who.A 1 (act.Decide (decided.Owner (acting.CatchUp 2))) land.Full ∷
    entry_of 1 who.A 1 act.Look2 land.Full ∷
    entry_of 1 who.A 1 act.Look1 land.Full ∷
    entry_of 1 who.A 1 (act.Signal2 (of_numbers 1 2 0)) land.Full ∷
    entry_of 1 who.A 1 (act.Signal1 (of_numbers 1 2 0)) land.Full ∷
    entry_of 1 who.Env 0 act.Tick land.Full ∷
    entry_of 0 who.B 2 (act.MsgRead 0) land.Full ∷
    entry_of 0 who.B 2 (act.Decide (decided.Alternate decision.Nothing)) land.Full ∷
    entry_of 0 who.B 2 act.Look2 land.Full ∷
    entry_of 0 who.B 2 act.Look1 land.Full ∷
    entry_of 0 who.B 2 (act.Signal2 (of_numbers 2 1 0)) land.Full ∷
    entry_of 0 who.B 2 (act.Signal1 (of_numbers 2 1 0)) land.Full ∷
    entry_of 0 who.B 2 act.Release land.Full ∷
    entry_of 0 who.B 2 (act.CtlWrite (of_parts 2 2 (owner_of 1 site.A state.Running) (alt_of 2 site.B) None)) land.Full ∷
    entry_of 0 who.B 0 act.CtlRead land.Full ∷
    entry_of 0 who.B 0 act.Reserve land.Full ∷
    entry_of 0 who.B 0 act.StartStandby land.Full ∷
    entry_of 0 who.A 1 act.Restarted land.Full ∷
    entry_of 0 who.A 1 (act.LogRead 0) land.Full ∷
    entry_of 0 who.A 1 (act.Decide (decided.Owner acting.Nothing)) land.Full ∷
    entry_of 0 who.A 1 act.Look2 land.Full ∷
    entry_of 0 who.A 1 act.Look1 land.Full ∷
    entry_of 0 who.A 1 (act.Signal2 (of_numbers 1 1 0)) land.Full ∷
    entry_of 0 who.A 1 (act.Signal1 (of_numbers 1 1 0)) land.Full ∷
    entry_of 0 who.A 1 act.Release land.Full ∷
    entry_of 0 who.A 1 (act.CtlWrite (of_parts 2 1 (owner_of 1 site.A state.Running) None None)) land.Full ∷
    entry_of 0 who.A 0 act.CtlRead land.Full ∷
    entry_of 0 who.A 0 act.Reserve land.Full ∷
    entry_of 0 who.A 0 act.StartActive land.Full ∷
    []

-- After one more round of the active, at tick 4, the alternate has heard nothing for ADI ticks and has looked at tick 9.
abbrev pub to_lost : List Choice
to_lost =
    to_unheard ++ replicate 5 (choice.Step site.A) ++ replicate 6 (choice.Step site.B) ++ choice.Tick ∷ replicate 6 (choice.Step site.B) ++
    choice.Tick ∷ replicate 6 (choice.Step site.B) ++ choice.Tick ∷ replicate 6 (choice.Step site.B) ++ choice.Tick ∷
    replicate 6 (choice.Step site.B) ++ choice.Tick ∷ replicate 4 (choice.Step site.B)

abbrev pub lost : List Entry
lost =
    entry_of 9 who.B 2 act.Look2 land.Full ∷
    entry_of 9 who.B 2 act.Look1 land.Full ∷
    entry_of 9 who.B 2 (act.Signal2 (of_numbers 2 10 0)) land.Full ∷
    entry_of 9 who.B 2 (act.Signal1 (of_numbers 2 10 0)) land.Full ∷
    entry_of 9 who.Env 0 act.Tick land.Full ∷
    entry_of 8 who.B 2 (act.MsgRead 0) land.Full ∷
    entry_of 8 who.B 2 (act.Decide (decided.Alternate decision.Nothing)) land.Full ∷
    entry_of 8 who.B 2 act.Look2 land.Full ∷
    entry_of 8 who.B 2 act.Look1 land.Full ∷
    entry_of 8 who.B 2 (act.Signal2 (of_numbers 2 9 0)) land.Full ∷
    entry_of 8 who.B 2 (act.Signal1 (of_numbers 2 9 0)) land.Full ∷
    entry_of 8 who.Env 0 act.Tick land.Full ∷
    entry_of 7 who.B 2 (act.MsgRead 0) land.Full ∷
    entry_of 7 who.B 2 (act.Decide (decided.Alternate decision.Nothing)) land.Full ∷
    entry_of 7 who.B 2 act.Look2 land.Full ∷
    entry_of 7 who.B 2 act.Look1 land.Full ∷
    entry_of 7 who.B 2 (act.Signal2 (of_numbers 2 8 0)) land.Full ∷
    entry_of 7 who.B 2 (act.Signal1 (of_numbers 2 8 0)) land.Full ∷
    entry_of 7 who.Env 0 act.Tick land.Full ∷
    entry_of 6 who.B 2 (act.MsgRead 0) land.Full ∷
    entry_of 6 who.B 2 (act.Decide (decided.Alternate decision.Nothing)) land.Full ∷
    entry_of 6 who.B 2 act.Look2 land.Full ∷
    entry_of 6 who.B 2 act.Look1 land.Full ∷
    entry_of 6 who.B 2 (act.Signal2 (of_numbers 2 7 0)) land.Full ∷
    entry_of 6 who.B 2 (act.Signal1 (of_numbers 2 7 0)) land.Full ∷
    entry_of 6 who.Env 0 act.Tick land.Full ∷
    entry_of 5 who.B 2 (act.MsgRead 0) land.Full ∷
    entry_of 5 who.B 2 (act.Decide (decided.Alternate decision.Nothing)) land.Full ∷
    entry_of 5 who.B 2 act.Look2 land.Full ∷
    entry_of 5 who.B 2 act.Look1 land.Full ∷
    entry_of 5 who.B 2 (act.Signal2 (of_numbers 2 6 0)) land.Full ∷
    entry_of 5 who.B 2 (act.Signal1 (of_numbers 2 6 0)) land.Full ∷
    entry_of 5 who.Env 0 act.Tick land.Full ∷
    entry_of 4 who.B 2 (act.MsgRead 0) land.Full ∷
    entry_of 4 who.B 2 (act.Decide (decided.Alternate decision.Nothing)) land.Full ∷
    entry_of 4 who.B 2 act.Look2 land.Full ∷
    entry_of 4 who.B 2 act.Look1 land.Full ∷
    entry_of 4 who.B 2 (act.Signal2 (of_numbers 2 5 0)) land.Full ∷
    entry_of 4 who.B 2 (act.Signal1 (of_numbers 2 5 0)) land.Full ∷
    entry_of 4 who.A 1 (act.Decide (decided.Owner (acting.CatchUp 2))) land.Full ∷
    entry_of 4 who.A 1 act.Look2 land.Full ∷
    entry_of 4 who.A 1 act.Look1 land.Full ∷
    entry_of 4 who.A 1 (act.Signal2 (of_numbers 1 2 0)) land.Full ∷
    entry_of 4 who.A 1 (act.Signal1 (of_numbers 1 2 0)) land.Full ∷
    unheard
