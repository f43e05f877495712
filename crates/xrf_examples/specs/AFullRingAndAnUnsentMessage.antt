-- The ring fills and is read; a message that a stop cut is not tracked at the takeover.
use Rattle.std.specs.Prelude.{true, false, List, [], ◌∷◌, ◌++◌, replicate, codes, Some, None}
use Rattle.xrf_base.specs.declared.site.Site.TheVariants as site
use Rattle.xrf_base.specs.declared.site.Takeovr.TheVariants as takeovr
use Rattle.xrf_base.specs.declared.items.Item.TheVariants as items
use Rattle.xrf_base.specs.declared.items.ItemAnswer.TheVariants as answer
use Rattle.xrf_terms.specs.declared.rows.How.TheVariants as how
use Rattle.xrf_ctl.specs.declared.parts.Level.TheVariants as level
use Rattle.xrf_ctl.specs.declared.parts.OwnerState.TheVariants as state
use Rattle.xrf_ctl.specs.declared.parts.Cause.TheVariants as cause
use Rattle.xrf_ctl.specs.Control.{of_parts}
use Rattle.xrf_ctl.specs.Signal.{of_numbers}
use Rattle.xrf_cavm.specs.declared.decisions.Decision.TheVariants as decision
use Rattle.xrf_cavm.specs.declared.decisions.Waiting.TheVariants as waiting
use Rattle.xrf_cavm.specs.declared.decisions.Acting.TheVariants as acting
use Rattle.xrf_cavm.specs.declared.decisions.Decided.TheVariants as decided
use Rattle.xrf_cebt.specs.declared.commands.Cebt.TheVariants as cebt
use Rattle.xrf_cebt.specs.declared.replies.CebtReply.TheVariants as reply
use Rattle.xrf_msg.specs.declared.messages.Message.TheVariants as message
use Rattle.xrf_setup.specs.declared.choice.Choice.{Choice}
use Rattle.xrf_setup.specs.declared.choice.Choice.TheVariants as choice
use Rattle.xrf_setup.specs.declared.choice.Landing.TheVariants as landing
use Rattle.xrf_setup.specs.declared.format.Format.TheVariants as format
use Rattle.xrf_setup.specs.Scenario.{Scen}
use Rattle.xrf_trace.specs.declared.entry.Act.TheVariants as act
use Rattle.xrf_trace.specs.declared.entry.Entry.{Entry}
use Rattle.xrf_trace.specs.declared.entry.Land.TheVariants as land
use Rattle.xrf_trace.specs.declared.entry.Who.TheVariants as who
use Rattle.xrf_examples.specs.Making.{Told, entry_of, owner_of, alt_of, taking_of}
use Rattle.xrf_examples.specs.Beginnings.{terminals_told, to_terminals_told}

abbrev pub scenario : Scen
scenario = record {
  settings = record {
    format = format.One;
    applid_a = codes "CICSA";
    applid_b = codes "CICSB";
    takeovr = takeovr.Manual;
    adi = 30;
    pdi = 30;
    log = 64;
    ring = 4;
    file = 16;
    pace = 40;
    ticks = 60;
    images = false;
    level_a = level.One;
    level_b = level.One;
    force = false;
  };
  records = [];
  clt = [];
  work_a =
      items.Logon (codes "T1") 1 ∷ items.Logon (codes "T2") 2 ∷ items.Logon (codes "T3") 3 ∷ items.Logon (codes "T4") 1 ∷ items.Logon (codes "T5") 2 ∷
      [];
  work_b = [];
  plan = [];
}

abbrev pub choices : List Choice
choices =
    to_terminals_told ++ replicate 10 (choice.Step site.B) ++ choice.Tick ∷ replicate 6 (choice.Step site.B) ++ replicate 13 (choice.Step site.A) ++
    choice.Stop site.A landing.Nothing ∷ choice.Confirm 1 ∷ choice.Cebt site.B cebt.PerformTakeover ∷ choice.Tick ∷
    replicate 9 (choice.Step site.B) ++ choice.Tick ∷ replicate 13 (choice.Step site.B)

abbrev pub trace : List Entry
trace =
    entry_of 4 who.B 2 act.Restarted land.Full ∷
    entry_of 4 who.B 2 (act.LogRead 0) land.Full ∷
    entry_of 4 who.B 2 (act.MsgRead 1) land.Full ∷
    entry_of 4 who.B 2 (act.MsgRead 0) land.Full ∷
    entry_of 4 who.B 2 act.Release land.Full ∷
    entry_of 4 who.B 2 (act.CtlWrite (of_parts 1 2 (owner_of 2 site.B state.Running) None None)) land.Full ∷
    entry_of 4 who.B 2 act.CtlRead land.Full ∷
    entry_of 4 who.B 2 act.Reserve land.Full ∷
    entry_of 4 who.B 2 (act.Decide (decided.Waiting waiting.Through)) land.Full ∷
    entry_of 4 who.B 2 act.Look2 land.Full ∷
    entry_of 4 who.B 2 act.Look1 land.Full ∷
    entry_of 4 who.B 2 (act.Signal2 (of_numbers 2 5 4)) land.Full ∷
    entry_of 4 who.B 2 (act.Signal1 (of_numbers 2 5 4)) land.Full ∷
    entry_of 4 who.Env 0 act.Tick land.Full ∷
    entry_of 3 who.B 2 act.Release land.Full ∷
    entry_of 3 who.B 2 (act.CtlWrite (of_parts 1 2 (owner_of 1 site.A state.Running) (alt_of 2 site.B) (taking_of 2 cause.Command))) land.Full ∷
    entry_of 3 who.B 2 act.CtlRead land.Full ∷
    entry_of 3 who.B 2 act.Reserve land.Full ∷
    entry_of 3 who.B 2 (act.Decide (decided.Alternate (decision.Start cause.Command))) land.Full ∷
    entry_of 3 who.B 2 act.Look2 land.Full ∷
    entry_of 3 who.B 2 act.Look1 land.Full ∷
    entry_of 3 who.B 2 (act.Signal2 (of_numbers 2 4 4)) land.Full ∷
    entry_of 3 who.B 2 (act.Signal1 (of_numbers 2 4 4)) land.Full ∷
    entry_of 3 who.Env 0 act.Tick land.Full ∷
    entry_of 2 who.B 2 (act.Cebt cebt.PerformTakeover reply.TakeoverAccepted) land.Full ∷
    entry_of 2 who.Env 0 (act.Confirm 1) land.Full ∷
    entry_of 2 who.A 1 (act.MsgOpen 1 (message.Term 2 5 (codes "T5") 2 true)) (land.Stop landing.Nothing) ∷
    entry_of 2 who.A 1 (act.MsgBody 1 (message.Term 2 5 (codes "T5") 2 true)) land.Full ∷
    entry_of 2 who.A 1 (act.MsgClose 1) land.Full ∷
    entry_of 2 who.A 1 (act.MsgRead 1) land.Full ∷
    entry_of 2 who.A 1 (act.Item 5) land.Full ∷
    entry_of 2 who.A 1 (act.MsgOpen 0 (message.Term 2 4 (codes "T4") 1 true)) land.Full ∷
    entry_of 2 who.A 1 (act.MsgBody 0 (message.Term 2 4 (codes "T4") 1 true)) land.Full ∷
    entry_of 2 who.A 1 (act.MsgClose 0) land.Full ∷
    entry_of 2 who.A 1 (act.MsgRead 0) land.Full ∷
    entry_of 2 who.A 1 (act.Decide (decided.Owner acting.Nothing)) land.Full ∷
    entry_of 2 who.A 1 act.Look2 land.Full ∷
    entry_of 2 who.A 1 act.Look1 land.Full ∷
    entry_of 2 who.A 1 (act.Signal2 (of_numbers 1 3 0)) land.Full ∷
    entry_of 2 who.A 1 (act.Signal1 (of_numbers 1 3 0)) land.Full ∷
    entry_of 2 who.B 2 (act.MsgRead 0) land.Full ∷
    entry_of 2 who.B 2 (act.Decide (decided.Alternate decision.Nothing)) land.Full ∷
    entry_of 2 who.B 2 act.Look2 land.Full ∷
    entry_of 2 who.B 2 act.Look1 land.Full ∷
    entry_of 2 who.B 2 (act.Signal2 (of_numbers 2 3 4)) land.Full ∷
    entry_of 2 who.B 2 (act.Signal1 (of_numbers 2 3 4)) land.Full ∷
    entry_of 2 who.Env 0 act.Tick land.Full ∷
    entry_of 1 who.B 2 (act.MsgRead 0) land.Full ∷
    entry_of 1 who.B 2 (act.MsgRead 3) land.Full ∷
    entry_of 1 who.B 2 (act.MsgRead 2) land.Full ∷
    entry_of 1 who.B 2 (act.MsgRead 1) land.Full ∷
    entry_of 1 who.B 2 (act.MsgRead 0) land.Full ∷
    entry_of 1 who.B 2 (act.Decide (decided.Alternate decision.Nothing)) land.Full ∷
    entry_of 1 who.B 2 act.Look2 land.Full ∷
    entry_of 1 who.B 2 act.Look1 land.Full ∷
    entry_of 1 who.B 2 (act.Signal2 (of_numbers 2 2 0)) land.Full ∷
    entry_of 1 who.B 2 (act.Signal1 (of_numbers 2 2 0)) land.Full ∷
    terminals_told

abbrev pub told : Told
told = record {
  answers_a = replicate 5 (Some answer.Done);
  answers_b = [];
  tick = 4;
  held = of_parts 1 2 (owner_of 2 site.B state.Running) None None;
  records = 0;
  done = 0;
  undone = 0;
  file = replicate 16 (Some None);
  table_a = [];
  table_b =
      record { term = codes "T1"; class = 1; how = how.Switched; user = None } ∷
      record { term = codes "T2"; class = 2; how = how.Acquired; user = None } ∷
      record { term = codes "T4"; class = 1; how = how.Switched; user = None } ∷ [];
}
