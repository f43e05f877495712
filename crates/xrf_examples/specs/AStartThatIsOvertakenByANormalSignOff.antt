-- An alternate that decided to start finds that the owner signed off normally, and abandons its start.
use Rattle.std.specs.Prelude.{false, List, [], ◌∷◌, ◌++◌, replicate, codes, Some, None}
use Rattle.xrf_base.specs.declared.site.Site.TheVariants as site
use Rattle.xrf_base.specs.declared.site.Takeovr.TheVariants as takeovr
use Rattle.xrf_base.specs.declared.items.Item.TheVariants as items
use Rattle.xrf_base.specs.declared.items.ItemAnswer.TheVariants as answer
use Rattle.xrf_ctl.specs.declared.parts.Level.TheVariants as level
use Rattle.xrf_ctl.specs.declared.parts.OwnerState.TheVariants as state
use Rattle.xrf_ctl.specs.declared.parts.Cause.TheVariants as cause
use Rattle.xrf_ctl.specs.Control.{of_parts}
use Rattle.xrf_ctl.specs.Signal.{of_numbers}
use Rattle.xrf_cavm.specs.declared.decisions.Decision.TheVariants as decision
use Rattle.xrf_cavm.specs.declared.decisions.Acting.TheVariants as acting
use Rattle.xrf_cavm.specs.declared.decisions.Decided.TheVariants as decided
use Rattle.xrf_msg.specs.declared.messages.Message.TheVariants as message
use Rattle.xrf_history.specs.declared.want.EndWhy.TheVariants as end
use Rattle.xrf_setup.specs.declared.choice.Choice.{Choice}
use Rattle.xrf_setup.specs.declared.choice.Choice.TheVariants as choice
use Rattle.xrf_setup.specs.declared.format.Format.TheVariants as format
use Rattle.xrf_setup.specs.Scenario.{Scen}
use Rattle.xrf_trace.specs.declared.entry.Act.TheVariants as act
use Rattle.xrf_trace.specs.declared.entry.Entry.{Entry}
use Rattle.xrf_trace.specs.declared.entry.Land.TheVariants as land
use Rattle.xrf_trace.specs.declared.entry.Who.TheVariants as who
use Rattle.xrf_examples.specs.Making.{Told, entry_of, owner_of, alt_of}
use Rattle.xrf_examples.specs.Takeovers.{unheard, to_unheard}

abbrev pub scenario : Scen
scenario = record {
  settings = record {
    format = format.One;
    applid_a = codes "CICSA";
    applid_b = codes "CICSB";
    takeovr = takeovr.Auto;
    adi = 5;
    pdi = 30;
    log = 64;
    ring = 16;
    file = 16;
    pace = 40;
    ticks = 60;
    images = false;
    level_a = level.One;
    level_b = level.One;
    force = false;
  };
  records = [];
  clt = [];
  work_a = items.Shutdown ∷ [];
  work_b = [];
  plan = [];
}

abbrev pub choices : List Choice
choices =
    to_unheard ++ replicate 6 (choice.Step site.B) ++ choice.Tick ∷ replicate 5 (choice.Step site.B) ++ replicate 17 (choice.Step site.A) ++
    replicate 5 (choice.Step site.B)

abbrev pub trace : List Entry
trace =
    entry_of 5 who.B 2 (act.Ended end.Abandoned) land.Full ∷
    entry_of 5 who.B 2 act.Release land.Full ∷
    entry_of 5 who.B 2 (act.CtlWrite (of_parts 1 2 (owner_of 1 site.A state.OffNormal) None None)) land.Full ∷
    entry_of 5 who.B 2 act.CtlRead land.Full ∷
    entry_of 5 who.B 2 act.Reserve land.Full ∷
    entry_of 5 who.A 1 (act.Ended end.SignedOff) land.Full ∷
    entry_of 5 who.A 1 act.Release land.Full ∷
    entry_of 5 who.A 1 (act.CtlWrite (of_parts 1 2 (owner_of 1 site.A state.OffNormal) (alt_of 2 site.B) None)) land.Full ∷
    entry_of 5 who.A 1 act.CtlRead land.Full ∷
    entry_of 5 who.A 1 act.Reserve land.Full ∷
    entry_of 5 who.A 1 (act.Item 1) land.Full ∷
    entry_of 5 who.A 1 (act.MsgOpen 1 (message.End 2 1)) land.Full ∷
    entry_of 5 who.A 1 (act.MsgBody 1 (message.End 2 1)) land.Full ∷
    entry_of 5 who.A 1 (act.MsgRead 1) land.Full ∷
    entry_of 5 who.A 1 (act.MsgOpen 0 (message.Begin 2)) land.Full ∷
    entry_of 5 who.A 1 (act.MsgBody 0 (message.Begin 2)) land.Full ∷
    entry_of 5 who.A 1 (act.MsgRead 0) land.Full ∷
    entry_of 5 who.A 1 (act.Decide (decided.Owner (acting.CatchUp 2))) land.Full ∷
    entry_of 5 who.A 1 act.Look2 land.Full ∷
    entry_of 5 who.A 1 act.Look1 land.Full ∷
    entry_of 5 who.A 1 (act.Signal2 (of_numbers 1 2 0)) land.Full ∷
    entry_of 5 who.A 1 (act.Signal1 (of_numbers 1 2 0)) land.Full ∷
    entry_of 5 who.B 2 (act.Decide (decided.Alternate (decision.Start cause.Lost))) land.Full ∷
    entry_of 5 who.B 2 act.Look2 land.Full ∷
    entry_of 5 who.B 2 act.Look1 land.Full ∷
    entry_of 5 who.B 2 (act.Signal2 (of_numbers 2 6 0)) land.Full ∷
    entry_of 5 who.B 2 (act.Signal1 (of_numbers 2 6 0)) land.Full ∷
    entry_of 5 who.Env 0 act.Tick land.Full ∷
    entry_of 4 who.B 2 (act.MsgRead 0) land.Full ∷
    entry_of 4 who.B 2 (act.Decide (decided.Alternate decision.Nothing)) land.Full ∷
    entry_of 4 who.B 2 act.Look2 land.Full ∷
    entry_of 4 who.B 2 act.Look1 land.Full ∷
    entry_of 4 who.B 2 (act.Signal2 (of_numbers 2 5 0)) land.Full ∷
    entry_of 4 who.B 2 (act.Signal1 (of_numbers 2 5 0)) land.Full ∷
    unheard

abbrev pub told : Told
told = record {
  answers_a = Some answer.Done ∷ [];
  answers_b = [];
  tick = 5;
  held = of_parts 1 2 (owner_of 1 site.A state.OffNormal) None None;
  records = 0;
  done = 0;
  undone = 0;
  file = replicate 16 (Some None);
  table_a = [];
  table_b = [];
}
