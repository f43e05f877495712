-- What the worked runs begin with.
use Rattle.std.specs.Prelude.{true, List, [], ◌∷◌, ◌++◌, replicate, codes, None}
use Rattle.xrf_base.specs.declared.site.Site.TheVariants as site
use Rattle.xrf_ctl.specs.declared.parts.OwnerState.TheVariants as state
use Rattle.xrf_ctl.specs.declared.parts.Cause.TheVariants as cause
use Rattle.xrf_ctl.specs.Control.{of_parts}
use Rattle.xrf_ctl.specs.Signal.{of_numbers}
use Rattle.xrf_cavm.specs.declared.decisions.Decision.TheVariants as decision
use Rattle.xrf_cavm.specs.declared.decisions.Acting.TheVariants as acting
use Rattle.xrf_cavm.specs.declared.decisions.Decided.TheVariants as decided
use Rattle.xrf_cebt.specs.declared.commands.Cebt.TheVariants as cebt
use Rattle.xrf_cebt.specs.declared.replies.CebtReply.TheVariants as reply
use Rattle.xrf_msg.specs.declared.messages.Message.TheVariants as message
use Rattle.xrf_setup.specs.declared.choice.Choice.{Choice}
use Rattle.xrf_setup.specs.declared.choice.Choice.TheVariants as choice
use Rattle.xrf_trace.specs.declared.entry.Act.TheVariants as act
use Rattle.xrf_trace.specs.declared.entry.Entry.{Entry}
use Rattle.xrf_trace.specs.declared.entry.Land.TheVariants as land
use Rattle.xrf_trace.specs.declared.entry.Who.TheVariants as who
use Rattle.xrf_examples.specs.Making.{entry_of, owner_of, alt_of, taking_of}

-- The active of site A has signed on to an empty pair and is restarted.
abbrev pub to_restarted : List Choice
to_restarted =
    choice.StartActive site.A ∷ replicate 11 (choice.Step site.A)

abbrev pub restarted : List Entry
restarted =
    entry_of 0 who.A 1 act.Restarted land.Full ∷
    entry_of 0 who.A 1 (act.LogRead 0) land.Full ∷
    entry_of 0 who.A 1 (act.Decide (decided.Owner acting.Nothing)) land.Full ∷
    entry_of 0 who.A 1 act.Look2 land.Full ∷
    entry_of 0 who.A 1 act.Look1 land.Full ∷
    entry_of 0 who.A 1 (act.Signal2 (of_numbers 1 1 0)) land.Full ∷
    entry_of 0 who.A 1 (act.Signal1 (of_numbers 1 1 0)) land.Full ∷
    entry_of 0 who.A 1 act.Release land.Full ∷
    entry_of 0 who.A 1 (act.CtlWrite (of_parts 1 1 (owner_of 1 site.A state.Running) None None)) land.Full ∷
    entry_of 0 who.A 0 act.CtlRead land.Full ∷
    entry_of 0 who.A 0 act.Reserve land.Full ∷
    entry_of 0 who.A 0 act.StartActive land.Full ∷
    []

-- Beside the restarted active the alternate of site B has signed on and made its first round.
abbrev pub to_tracking : List Choice
to_tracking =
    to_restarted ++ choice.StartStandby site.B ∷ replicate 10 (choice.Step site.B)

abbrev pub tracking : List Entry
tracking =
    entry_of 0 who.B 2 (act.MsgRead 0) land.Full ∷
    entry_of 0 who.B 2 (act.Decide (decided.Alternate decision.Nothing)) land.Full ∷
    entry_of 0 who.B 2 act.Look2 land.Full ∷
    entry_of 0 who.B 2 act.Look1 land.Full ∷
    entry_of 0 who.B 2 (act.Signal2 (of_numbers 2 1 0)) land.Full ∷
    entry_of 0 who.B 2 (act.Signal1 (of_numbers 2 1 0)) land.Full ∷
    entry_of 0 who.B 2 act.Release land.Full ∷
    entry_of 0 who.B 2 (act.CtlWrite (of_parts 1 2 (owner_of 1 site.A state.Running) (alt_of 2 site.B) None)) land.Full ∷
    entry_of 0 who.B 0 act.CtlRead land.Full ∷
    entry_of 0 who.B 0 act.Reserve land.Full ∷
    entry_of 0 who.B 0 act.StartStandby land.Full ∷
    restarted

-- The active beside the tracking alternate has signed off as ended abnormally.
abbrev pub to_off_abend : List Choice
to_off_abend =
    to_tracking ++ choice.Abend site.A ∷ replicate 4 (choice.Step site.A)

abbrev pub off_abend : List Entry
off_abend =
    entry_of 0 who.A 1 act.Release land.Full ∷
    entry_of 0 who.A 1 (act.CtlWrite (of_parts 1 2 (owner_of 1 site.A state.OffAbend) (alt_of 2 site.B) None)) land.Full ∷
    entry_of 0 who.A 1 act.CtlRead land.Full ∷
    entry_of 0 who.A 1 act.Reserve land.Full ∷
    entry_of 0 who.A 1 act.Abend land.Full ∷
    tracking

-- The tracking alternate was commanded to take over, and has written its taking.
abbrev pub to_commanded : List Choice
to_commanded =
    to_tracking ++ choice.Cebt site.B cebt.PerformTakeover ∷ choice.Tick ∷ replicate 9 (choice.Step site.B)

abbrev pub commanded : List Entry
commanded =
    entry_of 1 who.B 2 act.Release land.Full ∷
    entry_of 1 who.B 2 (act.CtlWrite (of_parts 1 2 (owner_of 1 site.A state.Running) (alt_of 2 site.B) (taking_of 2 cause.Command))) land.Full ∷
    entry_of 1 who.B 2 act.CtlRead land.Full ∷
    entry_of 1 who.B 2 act.Reserve land.Full ∷
    entry_of 1 who.B 2 (act.Decide (decided.Alternate (decision.Start cause.Command))) land.Full ∷
    entry_of 1 who.B 2 act.Look2 land.Full ∷
    entry_of 1 who.B 2 act.Look1 land.Full ∷
    entry_of 1 who.B 2 (act.Signal2 (of_numbers 2 2 0)) land.Full ∷
    entry_of 1 who.B 2 (act.Signal1 (of_numbers 2 2 0)) land.Full ∷
    entry_of 1 who.Env 0 act.Tick land.Full ∷
    entry_of 0 who.B 2 (act.Cebt cebt.PerformTakeover reply.TakeoverAccepted) land.Full ∷
    tracking

-- At the next tick the active has caught the tracking alternate up, without terminals.
abbrev pub to_caught_up : List Choice
to_caught_up =
    to_tracking ++ choice.Tick ∷ replicate 11 (choice.Step site.A)

abbrev pub caught_up : List Entry
caught_up =
    entry_of 1 who.A 1 (act.MsgOpen 1 (message.End 2 1)) land.Full ∷
    entry_of 1 who.A 1 (act.MsgBody 1 (message.End 2 1)) land.Full ∷
    entry_of 1 who.A 1 (act.MsgRead 1) land.Full ∷
    entry_of 1 who.A 1 (act.MsgOpen 0 (message.Begin 2)) land.Full ∷
    entry_of 1 who.A 1 (act.MsgBody 0 (message.Begin 2)) land.Full ∷
    entry_of 1 who.A 1 (act.MsgRead 0) land.Full ∷
    entry_of 1 who.A 1 (act.Decide (decided.Owner (acting.CatchUp 2))) land.Full ∷
    entry_of 1 who.A 1 act.Look2 land.Full ∷
    entry_of 1 who.A 1 act.Look1 land.Full ∷
    entry_of 1 who.A 1 (act.Signal2 (of_numbers 1 2 0)) land.Full ∷
    entry_of 1 who.A 1 (act.Signal1 (of_numbers 1 2 0)) land.Full ∷
    entry_of 1 who.Env 0 act.Tick land.Full ∷
    tracking

-- The active that has caught it up has told it of two terminals, and keeps a third to itself.
abbrev pub to_terminals_told : List Choice
to_terminals_told =
    to_caught_up ++ replicate 10 (choice.Step site.A)

abbrev pub terminals_told : List Entry
terminals_told =
    entry_of 1 who.A 1 (act.Item 4) land.Full ∷
    entry_of 1 who.A 1 (act.Item 3) land.Full ∷
    entry_of 1 who.A 1 (act.MsgOpen 3 (message.Term 2 3 (codes "T2") 2 true)) land.Full ∷
    entry_of 1 who.A 1 (act.MsgBody 3 (message.Term 2 3 (codes "T2") 2 true)) land.Full ∷
    entry_of 1 who.A 1 (act.MsgRead 3) land.Full ∷
    entry_of 1 who.A 1 (act.Item 2) land.Full ∷
    entry_of 1 who.A 1 (act.MsgOpen 2 (message.Term 2 2 (codes "T1") 1 true)) land.Full ∷
    entry_of 1 who.A 1 (act.MsgBody 2 (message.Term 2 2 (codes "T1") 1 true)) land.Full ∷
    entry_of 1 who.A 1 (act.MsgRead 2) land.Full ∷
    entry_of 1 who.A 1 (act.Item 1) land.Full ∷
    caught_up

-- The active that has caught it up goes on to make its rounds to tick 6, and the alternate makes none.
abbrev pub to_missed : List Choice
to_missed =
    to_caught_up ++ choice.Tick ∷ replicate 5 (choice.Step site.A) ++ choice.Tick ∷ replicate 5 (choice.Step site.A) ++ choice.Tick ∷
    replicate 5 (choice.Step site.A) ++ choice.Tick ∷ replicate 5 (choice.Step site.A) ++ choice.Tick ∷ replicate 4 (choice.Step site.A)

abbrev pub missed : List Entry
missed =
    entry_of 6 who.A 1 act.Look2 land.Full ∷
    entry_of 6 who.A 1 act.Look1 land.Full ∷
    entry_of 6 who.A 1 (act.Signal2 (of_numbers 1 7 0)) land.Full ∷
    entry_of 6 who.A 1 (act.Signal1 (of_numbers 1 7 0)) land.Full ∷
    entry_of 6 who.Env 0 act.Tick land.Full ∷
    entry_of 5 who.A 1 (act.Decide (decided.Owner acting.Nothing)) land.Full ∷
    entry_of 5 who.A 1 act.Look2 land.Full ∷
    entry_of 5 who.A 1 act.Look1 land.Full ∷
    entry_of 5 who.A 1 (act.Signal2 (of_numbers 1 6 0)) land.Full ∷
    entry_of 5 who.A 1 (act.Signal1 (of_numbers 1 6 0)) land.Full ∷
    entry_of 5 who.Env 0 act.Tick land.Full ∷
    entry_of 4 who.A 1 (act.Decide (decided.Owner acting.Nothing)) land.Full ∷
    entry_of 4 who.A 1 act.Look2 land.Full ∷
    entry_of 4 who.A 1 act.Look1 land.Full ∷
    entry_of 4 who.A 1 (act.Signal2 (of_numbers 1 5 0)) land.Full ∷
    entry_of 4 who.A 1 (act.Signal1 (of_numbers 1 5 0)) land.Full ∷
    entry_of 4 who.Env 0 act.Tick land.Full ∷
    entry_of 3 who.A 1 (act.Decide (decided.Owner acting.Nothing)) land.Full ∷
    entry_of 3 who.A 1 act.Look2 land.Full ∷
    entry_of 3 who.A 1 act.Look1 land.Full ∷
    entry_of 3 who.A 1 (act.Signal2 (of_numbers 1 4 0)) land.Full ∷
    entry_of 3 who.A 1 (act.Signal1 (of_numbers 1 4 0)) land.Full ∷
    entry_of 3 who.Env 0 act.Tick land.Full ∷
    entry_of 2 who.A 1 (act.Decide (decided.Owner acting.Nothing)) land.Full ∷
    entry_of 2 who.A 1 act.Look2 land.Full ∷
    entry_of 2 who.A 1 act.Look1 land.Full ∷
    entry_of 2 who.A 1 (act.Signal2 (of_numbers 1 3 0)) land.Full ∷
    entry_of 2 who.A 1 (act.Signal1 (of_numbers 1 3 0)) land.Full ∷
    entry_of 2 who.Env 0 act.Tick land.Full ∷
    caught_up
