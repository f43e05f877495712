-- A plan of starts and an ABEND runs to a takeover, with the terminals at the new site.
use Rattle.std.specs.Prelude.{true, false, List, [], ◌∷◌, ◌++◌, replicate, codes, Some, None}
use Rattle.xrf_base.specs.declared.site.Site.TheVariants as site
use Rattle.xrf_base.specs.declared.site.Takeovr.TheVariants as takeovr
use Rattle.xrf_base.specs.declared.items.Item.TheVariants as items
use Rattle.xrf_base.specs.declared.items.ItemAnswer.TheVariants as answer
use Rattle.xrf_terms.specs.declared.rows.How.TheVariants as how
use Rattle.xrf_ctl.specs.declared.parts.Level.TheVariants as level
use Rattle.xrf_ctl.specs.declared.parts.OwnerState.TheVariants as state
use Rattle.xrf_ctl.specs.declared.parts.Cause.TheVariants as cause
use Rattle.xrf_ctl.specs.Control.{of_parts}
use Rattle.xrf_ctl.specs.Signal.{of_numbers}
use Rattle.xrf_cavm.specs.declared.decisions.Decision.TheVariants as decision
use Rattle.xrf_cavm.specs.declared.decisions.Waiting.TheVariants as waiting
use Rattle.xrf_cavm.specs.declared.decisions.Acting.TheVariants as acting
use Rattle.xrf_cavm.specs.declared.decisions.Decided.TheVariants as decided
use Rattle.xrf_msg.specs.declared.messages.Message.TheVariants as message
use Rattle.xrf_history.specs.declared.want.EndWhy.TheVariants as end
use Rattle.xrf_setup.specs.declared.choice.Choice.{Choice}
use Rattle.xrf_setup.specs.declared.choice.Choice.TheVariants as choice
use Rattle.xrf_setup.specs.declared.format.Format.TheVariants as format
use Rattle.xrf_setup.specs.Scenario.{Scen}
use Rattle.xrf_trace.specs.declared.entry.Act.TheVariants as act
use Rattle.xrf_trace.specs.declared.entry.Entry.{Entry}
use Rattle.xrf_trace.specs.declared.entry.Land.TheVariants as land
use Rattle.xrf_trace.specs.declared.entry.Who.TheVariants as who
use Rattle.xrf_examples.specs.Making.{Told, entry_of, owner_of, alt_of, taking_of}
use Rattle.xrf_examples.specs.Beginnings.{restarted, to_restarted}

abbrev pub scenario : Scen
scenario = record {
  settings = record {
    format = format.One;
    applid_a = codes "CICSA";
    applid_b = codes "CICSB";
    takeovr = takeovr.Auto;
    adi = 30;
    pdi = 30;
    log = 64;
    ring = 16;
    file = 16;
    pace = 40;
    ticks = 10;
    images = false;
    level_a = level.One;
    level_b = level.One;
    force = false;
  };
  records = [];
  clt = [];
  work_a = items.Logon (codes "T1") 1 ∷ items.Logon (codes "T2") 2 ∷ items.Logon (codes "T3") 3 ∷ [];
  work_b = [];
  plan = (0, choice.StartActive site.A) ∷ (1, choice.StartStandby site.B) ∷ (3, choice.Abend site.A) ∷ [];
}

abbrev pub choices : List Choice
choices =
    to_restarted ++ replicate 3 (choice.Step site.A) ++ choice.Tick ∷ choice.Step site.A ∷ choice.StartStandby site.B ∷ choice.Step site.A ∷
    choice.Step site.B ∷ choice.Step site.A ∷ choice.Step site.B ∷ choice.Step site.A ∷ choice.Step site.B ∷ choice.Step site.A ∷
    replicate 7 (choice.Step site.B) ++ choice.Tick ∷ choice.Step site.A ∷ choice.Step site.B ∷ choice.Step site.A ∷ choice.Step site.B ∷
    choice.Step site.A ∷ choice.Step site.B ∷ choice.Step site.A ∷ choice.Step site.B ∷ choice.Step site.A ∷ choice.Step site.B ∷ choice.Step site.A ∷
    choice.Step site.B ∷ replicate 11 (choice.Step site.A) ++ choice.Tick ∷ choice.Step site.A ∷ choice.Step site.B ∷ choice.Abend site.A ∷
    choice.Step site.A ∷ choice.Step site.B ∷ choice.Step site.A ∷ choice.Step site.B ∷ choice.Step site.A ∷ choice.Step site.B ∷ choice.Step site.A ∷
    choice.Step site.B ∷ choice.Step site.A ∷ choice.Step site.B ∷ choice.Step site.A ∷ choice.Step site.B ∷ choice.Step site.A ∷ choice.Step site.B ∷
    choice.Step site.A ∷ choice.Step site.B ∷ choice.Step site.A ∷ choice.Step site.B ∷ choice.Tick ∷ replicate 9 (choice.Step site.B) ++
    choice.Tick ∷ replicate 12 (choice.Step site.B) ++ choice.Tick ∷ replicate 5 (choice.Step site.B) ++ choice.Tick ∷
    replicate 5 (choice.Step site.B) ++ choice.Tick ∷ replicate 5 (choice.Step site.B) ++ choice.Tick ∷ replicate 5 (choice.Step site.B) ++
    choice.Tick ∷ replicate 5 (choice.Step site.B)

abbrev pub trace : List Entry
trace =
    entry_of 10 who.B 2 (act.Decide (decided.Owner acting.Nothing)) land.Full ∷
    entry_of 10 who.B 2 act.Look2 land.Full ∷
    entry_of 10 who.B 2 act.Look1 land.Full ∷
    entry_of 10 who.B 2 (act.Signal2 (of_numbers 2 10 0)) land.Full ∷
    entry_of 10 who.B 2 (act.Signal1 (of_numbers 2 10 0)) land.Full ∷
    entry_of 10 who.Env 0 act.Tick land.Full ∷
    entry_of 9 who.B 2 (act.Decide (decided.Owner acting.Nothing)) land.Full ∷
    entry_of 9 who.B 2 act.Look2 land.Full ∷
    entry_of 9 who.B 2 act.Look1 land.Full ∷
    entry_of 9 who.B 2 (act.Signal2 (of_numbers 2 9 0)) land.Full ∷
    entry_of 9 who.B 2 (act.Signal1 (of_numbers 2 9 0)) land.Full ∷
    entry_of 9 who.Env 0 act.Tick land.Full ∷
    entry_of 8 who.B 2 (act.Decide (decided.Owner acting.Nothing)) land.Full ∷
    entry_of 8 who.B 2 act.Look2 land.Full ∷
    entry_of 8 who.B 2 act.Look1 land.Full ∷
    entry_of 8 who.B 2 (act.Signal2 (of_numbers 2 8 0)) land.Full ∷
    entry_of 8 who.B 2 (act.Signal1 (of_numbers 2 8 0)) land.Full ∷
    entry_of 8 who.Env 0 act.Tick land.Full ∷
    entry_of 7 who.B 2 (act.Decide (decided.Owner acting.Nothing)) land.Full ∷
    entry_of 7 who.B 2 act.Look2 land.Full ∷
    entry_of 7 who.B 2 act.Look1 land.Full ∷
    entry_of 7 who.B 2 (act.Signal2 (of_numbers 2 7 0)) land.Full ∷
    entry_of 7 who.B 2 (act.Signal1 (of_numbers 2 7 0)) land.Full ∷
    entry_of 7 who.Env 0 act.Tick land.Full ∷
    entry_of 6 who.B 2 (act.Decide (decided.Owner acting.Nothing)) land.Full ∷
    entry_of 6 who.B 2 act.Look2 land.Full ∷
    entry_of 6 who.B 2 act.Look1 land.Full ∷
    entry_of 6 who.B 2 (act.Signal2 (of_numbers 2 6 0)) land.Full ∷
    entry_of 6 who.B 2 (act.Signal1 (of_numbers 2 6 0)) land.Full ∷
    entry_of 6 who.Env 0 act.Tick land.Full ∷
    entry_of 5 who.B 2 act.Restarted land.Full ∷
    entry_of 5 who.B 2 (act.LogRead 0) land.Full ∷
    entry_of 5 who.B 2 (act.MsgRead 4) land.Full ∷
    entry_of 5 who.B 2 act.Release land.Full ∷
    entry_of 5 who.B 2 (act.CtlWrite (of_parts 1 2 (owner_of 2 site.B state.Running) None None)) land.Full ∷
    entry_of 5 who.B 2 act.CtlRead land.Full ∷
    entry_of 5 who.B 2 act.Reserve land.Full ∷
    entry_of 5 who.B 2 (act.Decide (decided.Waiting waiting.Through)) land.Full ∷
    entry_of 5 who.B 2 act.Look2 land.Full ∷
    entry_of 5 who.B 2 act.Look1 land.Full ∷
    entry_of 5 who.B 2 (act.Signal2 (of_numbers 2 5 4)) land.Full ∷
    entry_of 5 who.B 2 (act.Signal1 (of_numbers 2 5 4)) land.Full ∷
    entry_of 5 who.Env 0 act.Tick land.Full ∷
    entry_of 4 who.B 2 act.Release land.Full ∷
    entry_of 4 who.B 2 (act.CtlWrite (of_parts 1 2 (owner_of 1 site.A state.OffAbend) (alt_of 2 site.B) (taking_of 2 cause.Abend))) land.Full ∷
    entry_of 4 who.B 2 act.CtlRead land.Full ∷
    entry_of 4 who.B 2 act.Reserve land.Full ∷
    entry_of 4 who.B 2 (act.Decide (decided.Alternate (decision.Start cause.Abend))) land.Full ∷
    entry_of 4 who.B 2 act.Look2 land.Full ∷
    entry_of 4 who.B 2 act.Look1 land.Full ∷
    entry_of 4 who.B 2 (act.Signal2 (of_numbers 2 4 4)) land.Full ∷
    entry_of 4 who.B 2 (act.Signal1 (of_numbers 2 4 4)) land.Full ∷
    entry_of 4 who.Env 0 act.Tick land.Full ∷
    entry_of 3 who.B 2 (act.MsgRead 4) land.Full ∷
    entry_of 3 who.A 1 (act.Ended end.SignedOff) land.Full ∷
    entry_of 3 who.B 2 (act.MsgRead 3) land.Full ∷
    entry_of 3 who.A 1 act.Release land.Full ∷
    entry_of 3 who.B 2 (act.MsgRead 2) land.Full ∷
    entry_of 3 who.A 1 (act.CtlWrite (of_parts 1 2 (owner_of 1 site.A state.OffAbend) (alt_of 2 site.B) None)) land.Full ∷
    entry_of 3 who.B 2 (act.MsgRead 1) land.Full ∷
    entry_of 3 who.A 1 act.CtlRead land.Full ∷
    entry_of 3 who.B 2 (act.MsgRead 0) land.Full ∷
    entry_of 3 who.A 1 act.Reserve land.Full ∷
    entry_of 3 who.B 2 (act.Decide (decided.Alternate decision.Nothing)) land.Full ∷
    entry_of 3 who.A 1 (act.Decide (decided.Owner acting.Nothing)) land.Full ∷
    entry_of 3 who.B 2 act.Look2 land.Full ∷
    entry_of 3 who.A 1 act.Look2 land.Full ∷
    entry_of 3 who.B 2 act.Look1 land.Full ∷
    entry_of 3 who.A 1 act.Look1 land.Full ∷
    entry_of 3 who.B 2 (act.Signal2 (of_numbers 2 3 0)) land.Full ∷
    entry_of 3 who.A 1 (act.Signal2 (of_numbers 1 4 0)) land.Full ∷
    entry_of 3 who.A 1 act.Abend land.Full ∷
    entry_of 3 who.B 2 (act.Signal1 (of_numbers 2 3 0)) land.Full ∷
    entry_of 3 who.A 1 (act.Signal1 (of_numbers 1 4 0)) land.Full ∷
    entry_of 3 who.Env 0 act.Tick land.Full ∷
    entry_of 2 who.A 1 (act.MsgOpen 3 (message.End 2 3)) land.Full ∷
    entry_of 2 who.A 1 (act.MsgBody 3 (message.End 2 3)) land.Full ∷
    entry_of 2 who.A 1 (act.MsgRead 3) land.Full ∷
    entry_of 2 who.A 1 (act.MsgOpen 2 (message.Term 2 2 (codes "T2") 2 true)) land.Full ∷
    entry_of 2 who.A 1 (act.MsgBody 2 (message.Term 2 2 (codes "T2") 2 true)) land.Full ∷
    entry_of 2 who.A 1 (act.MsgRead 2) land.Full ∷
    entry_of 2 who.A 1 (act.MsgOpen 1 (message.Term 2 1 (codes "T1") 1 true)) land.Full ∷
    entry_of 2 who.A 1 (act.MsgBody 1 (message.Term 2 1 (codes "T1") 1 true)) land.Full ∷
    entry_of 2 who.A 1 (act.MsgRead 1) land.Full ∷
    entry_of 2 who.A 1 (act.MsgOpen 0 (message.Begin 2)) land.Full ∷
    entry_of 2 who.A 1 (act.MsgBody 0 (message.Begin 2)) land.Full ∷
    entry_of 2 who.B 2 (act.MsgRead 0) land.Full ∷
    entry_of 2 who.A 1 (act.MsgRead 0) land.Full ∷
    entry_of 2 who.B 2 (act.Decide (decided.Alternate decision.Nothing)) land.Full ∷
    entry_of 2 who.A 1 (act.Decide (decided.Owner (acting.CatchUp 2))) land.Full ∷
    entry_of 2 who.B 2 act.Look2 land.Full ∷
    entry_of 2 who.A 1 act.Look2 land.Full ∷
    entry_of 2 who.B 2 act.Look1 land.Full ∷
    entry_of 2 who.A 1 act.Look1 land.Full ∷
    entry_of 2 who.B 2 (act.Signal2 (of_numbers 2 2 0)) land.Full ∷
    entry_of 2 who.A 1 (act.Signal2 (of_numbers 1 3 0)) land.Full ∷
    entry_of 2 who.B 2 (act.Signal1 (of_numbers 2 2 0)) land.Full ∷
    entry_of 2 who.A 1 (act.Signal1 (of_numbers 1 3 0)) land.Full ∷
    entry_of 2 who.Env 0 act.Tick land.Full ∷
    entry_of 1 who.B 2 (act.MsgRead 0) land.Full ∷
    entry_of 1 who.B 2 (act.Decide (decided.Alternate decision.Nothing)) land.Full ∷
    entry_of 1 who.B 2 act.Look2 land.Full ∷
    entry_of 1 who.B 2 act.Look1 land.Full ∷
    entry_of 1 who.B 2 (act.Signal2 (of_numbers 2 1 0)) land.Full ∷
    entry_of 1 who.B 2 (act.Signal1 (of_numbers 2 1 0)) land.Full ∷
    entry_of 1 who.B 2 act.Release land.Full ∷
    entry_of 1 who.A 1 (act.Decide (decided.Owner acting.Nothing)) land.Full ∷
    entry_of 1 who.B 2 (act.CtlWrite (of_parts 1 2 (owner_of 1 site.A state.Running) (alt_of 2 site.B) None)) land.Full ∷
    entry_of 1 who.A 1 act.Look2 land.Full ∷
    entry_of 1 who.B 0 act.CtlRead land.Full ∷
    entry_of 1 who.A 1 act.Look1 land.Full ∷
    entry_of 1 who.B 0 act.Reserve land.Full ∷
    entry_of 1 who.A 1 (act.Signal2 (of_numbers 1 2 0)) land.Full ∷
    entry_of 1 who.B 0 act.StartStandby land.Full ∷
    entry_of 1 who.A 1 (act.Signal1 (of_numbers 1 2 0)) land.Full ∷
    entry_of 1 who.Env 0 act.Tick land.Full ∷
    entry_of 0 who.A 1 (act.Item 3) land.Full ∷
    entry_of 0 who.A 1 (act.Item 2) land.Full ∷
    entry_of 0 who.A 1 (act.Item 1) land.Full ∷
    restarted

abbrev pub told : Told
told = record {
  answers_a = replicate 3 (Some answer.Done);
  answers_b = [];
  tick = 10;
  held = of_parts 1 2 (owner_of 2 site.B state.Running) None None;
  records = 0;
  done = 0;
  undone = 0;
  file = replicate 16 (Some None);
  table_a = [];
  table_b =
      record { term = codes "T1"; class = 1; how = how.Switched; user = None } ∷
      record { term = codes "T2"; class = 2; how = how.Acquired; user = None } ∷ [];
}
