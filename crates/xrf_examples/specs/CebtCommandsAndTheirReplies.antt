-- INQUIRE and SET tell mode and surveillance, and PERFORM SHUTDOWN makes the alternate leave.
use Rattle.std.specs.Prelude.{true, false, List, [], ◌∷◌, ◌++◌, replicate, codes, Some, None}
use Rattle.xrf_base.specs.declared.site.Site.TheVariants as site
use Rattle.xrf_base.specs.declared.site.Takeovr.TheVariants as takeovr
use Rattle.xrf_ctl.specs.declared.parts.Level.TheVariants as level
use Rattle.xrf_ctl.specs.declared.parts.OwnerState.TheVariants as state
use Rattle.xrf_ctl.specs.Control.{of_parts}
use Rattle.xrf_ctl.specs.Signal.{of_numbers}
use Rattle.xrf_cavm.specs.declared.decisions.Why.TheVariants as why
use Rattle.xrf_cavm.specs.declared.decisions.Decision.TheVariants as decision
use Rattle.xrf_cavm.specs.declared.decisions.Decided.TheVariants as decided
use Rattle.xrf_cebt.specs.declared.commands.Cebt.TheVariants as cebt
use Rattle.xrf_cebt.specs.declared.replies.CebtReply.TheVariants as reply
use Rattle.xrf_history.specs.declared.want.EndWhy.TheVariants as end
use Rattle.xrf_setup.specs.declared.choice.Choice.{Choice}
use Rattle.xrf_setup.specs.declared.choice.Choice.TheVariants as choice
use Rattle.xrf_setup.specs.declared.format.Format.TheVariants as format
use Rattle.xrf_setup.specs.Scenario.{Scen}
use Rattle.xrf_trace.specs.declared.entry.Act.TheVariants as act
use Rattle.xrf_trace.specs.declared.entry.Entry.{Entry}
use Rattle.xrf_trace.specs.declared.entry.Land.TheVariants as land
use Rattle.xrf_trace.specs.declared.entry.Who.TheVariants as who
use Rattle.xrf_examples.specs.Making.{Told, entry_of, owner_of}
use Rattle.xrf_examples.specs.Beginnings.{tracking, to_tracking}

abbrev pub scenario : Scen
scenario = record {
  settings = record {
    format = format.One;
    applid_a = codes "CICSA";
    applid_b = codes "CICSB";
    takeovr = takeovr.Manual;
    adi = 30;
    pdi = 30;
    log = 64;
    ring = 16;
    file = 16;
    pace = 40;
    ticks = 60;
    images = false;
    level_a = level.One;
    level_b = level.One;
    force = false;
  };
  records = [];
  clt = [];
  work_a = [];
  work_b = [];
  plan = [];
}

abbrev pub choices : List Choice
choices =
    to_tracking ++ choice.Cebt site.B cebt.InquireTakeover ∷ choice.Cebt site.B (cebt.SetTakeover takeovr.Auto) ∷
    choice.Cebt site.B cebt.InquireSurveillance ∷ choice.Cebt site.B cebt.PerformShutdown ∷ choice.Tick ∷ replicate 10 (choice.Step site.B)

abbrev pub trace : List Entry
trace =
    entry_of 1 who.B 2 (act.Ended end.Shutdown) land.Full ∷
    entry_of 1 who.B 2 act.Release land.Full ∷
    entry_of 1 who.B 2 (act.CtlWrite (of_parts 1 2 (owner_of 1 site.A state.Running) None None)) land.Full ∷
    entry_of 1 who.B 2 act.CtlRead land.Full ∷
    entry_of 1 who.B 2 act.Reserve land.Full ∷
    entry_of 1 who.B 2 (act.Decide (decided.Alternate (decision.Leave why.Shutdown))) land.Full ∷
    entry_of 1 who.B 2 act.Look2 land.Full ∷
    entry_of 1 who.B 2 act.Look1 land.Full ∷
    entry_of 1 who.B 2 (act.Signal2 (of_numbers 2 2 0)) land.Full ∷
    entry_of 1 who.B 2 (act.Signal1 (of_numbers 2 2 0)) land.Full ∷
    entry_of 1 who.Env 0 act.Tick land.Full ∷
    entry_of 0 who.B 2 (act.Cebt cebt.PerformShutdown reply.ShutdownAccepted) land.Full ∷
    entry_of 0 who.B 2 (act.Cebt cebt.InquireSurveillance (reply.Surveillance true)) land.Full ∷
    entry_of 0 who.B 2 (act.Cebt (cebt.SetTakeover takeovr.Auto) (reply.TakeoverMode takeovr.Auto)) land.Full ∷
    entry_of 0 who.B 2 (act.Cebt cebt.InquireTakeover (reply.TakeoverMode takeovr.Manual)) land.Full ∷
    tracking

abbrev pub told : Told
told = record {
  answers_a = [];
  answers_b = [];
  tick = 1;
  held = of_parts 1 2 (owner_of 1 site.A state.Running) None None;
  records = 0;
  done = 0;
  undone = 0;
  file = replicate 16 (Some None);
  table_a = [];
  table_b = [];
}
