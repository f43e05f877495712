-- A takeover by a job of level 2 gives the record format 2; a job of level 1 that starts then ends, since it cannot read it.
use Rattle.std.specs.Prelude.{false, List, [], ◌∷◌, ◌++◌, replicate, codes, Some, None}
use Rattle.xrf_base.specs.declared.site.Site.TheVariants as site
use Rattle.xrf_base.specs.declared.site.Takeovr.TheVariants as takeovr
use Rattle.xrf_ctl.specs.declared.parts.Level.TheVariants as level
use Rattle.xrf_ctl.specs.declared.parts.OwnerState.TheVariants as state
use Rattle.xrf_ctl.specs.declared.parts.Cause.TheVariants as cause
use Rattle.xrf_ctl.specs.Control.{of_parts}
use Rattle.xrf_ctl.specs.Signal.{of_numbers}
use Rattle.xrf_cavm.specs.declared.decisions.Decision.TheVariants as decision
use Rattle.xrf_cavm.specs.declared.decisions.Waiting.TheVariants as waiting
use Rattle.xrf_cavm.specs.declared.decisions.Decided.TheVariants as decided
use Rattle.xrf_cebt.specs.declared.commands.Cebt.TheVariants as cebt
use Rattle.xrf_cebt.specs.declared.replies.CebtReply.TheVariants as reply
use Rattle.xrf_history.specs.declared.want.EndWhy.TheVariants as end
use Rattle.xrf_setup.specs.declared.choice.Choice.{Choice}
use Rattle.xrf_setup.specs.declared.choice.Choice.TheVariants as choice
use Rattle.xrf_setup.specs.declared.format.Format.TheVariants as format
use Rattle.xrf_setup.specs.Scenario.{Scen}
use Rattle.xrf_trace.specs.declared.entry.Act.TheVariants as act
use Rattle.xrf_trace.specs.declared.entry.Entry.{Entry}
use Rattle.xrf_trace.specs.declared.entry.Land.TheVariants as land
use Rattle.xrf_trace.specs.declared.entry.Who.TheVariants as who
use Rattle.xrf_examples.specs.Making.{Told, entry_of, owner_of, alt_of, taking_of}
use Rattle.xrf_examples.specs.Beginnings.{off_abend, to_off_abend}

abbrev pub scenario : Scen
scenario = record {
  settings = record {
    format = format.Two;
    applid_a = codes "CICSA";
    applid_b = codes "CICSB";
    takeovr = takeovr.Manual;
    adi = 30;
    pdi = 30;
    log = 64;
    ring = 16;
    file = 16;
    pace = 40;
    ticks = 60;
    images = false;
    level_a = level.One;
    level_b = level.Two;
    force = false;
  };
  records = [];
  clt = [];
  work_a = [];
  work_b = [];
  plan = [];
}

abbrev pub choices : List Choice
choices =
    to_off_abend ++ choice.Step site.A ∷ choice.Cebt site.B cebt.PerformTakeover ∷ choice.Tick ∷ replicate 9 (choice.Step site.B) ++ choice.Tick ∷
    replicate 12 (choice.Step site.B) ++ choice.StartStandby site.A ∷ replicate 4 (choice.Step site.A)

abbrev pub trace : List Entry
trace =
    entry_of 2 who.A 0 (act.Ended end.Format) land.Full ∷
    entry_of 2 who.A 0 act.Release land.Full ∷
    entry_of 2 who.A 0 act.CtlRead land.Full ∷
    entry_of 2 who.A 0 act.Reserve land.Full ∷
    entry_of 2 who.A 0 act.StartStandby land.Full ∷
    entry_of 2 who.B 2 act.Restarted land.Full ∷
    entry_of 2 who.B 2 (act.LogRead 0) land.Full ∷
    entry_of 2 who.B 2 (act.MsgRead 0) land.Full ∷
    entry_of 2 who.B 2 act.Release land.Full ∷
    entry_of 2 who.B 2 (act.CtlWrite (of_parts 2 2 (owner_of 2 site.B state.Running) None None)) land.Full ∷
    entry_of 2 who.B 2 act.CtlRead land.Full ∷
    entry_of 2 who.B 2 act.Reserve land.Full ∷
    entry_of 2 who.B 2 (act.Decide (decided.Waiting waiting.Through)) land.Full ∷
    entry_of 2 who.B 2 act.Look2 land.Full ∷
    entry_of 2 who.B 2 act.Look1 land.Full ∷
    entry_of 2 who.B 2 (act.Signal2 (of_numbers 2 3 0)) land.Full ∷
    entry_of 2 who.B 2 (act.Signal1 (of_numbers 2 3 0)) land.Full ∷
    entry_of 2 who.Env 0 act.Tick land.Full ∷
    entry_of 1 who.B 2 act.Release land.Full ∷
    entry_of 1 who.B 2 (act.CtlWrite (of_parts 1 2 (owner_of 1 site.A state.OffAbend) (alt_of 2 site.B) (taking_of 2 cause.Command))) land.Full ∷
    entry_of 1 who.B 2 act.CtlRead land.Full ∷
    entry_of 1 who.B 2 act.Reserve land.Full ∷
    entry_of 1 who.B 2 (act.Decide (decided.Alternate (decision.Start cause.Command))) land.Full ∷
    entry_of 1 who.B 2 act.Look2 land.Full ∷
    entry_of 1 who.B 2 act.Look1 land.Full ∷
    entry_of 1 who.B 2 (act.Signal2 (of_numbers 2 2 0)) land.Full ∷
    entry_of 1 who.B 2 (act.Signal1 (of_numbers 2 2 0)) land.Full ∷
    entry_of 1 who.Env 0 act.Tick land.Full ∷
    entry_of 0 who.B 2 (act.Cebt cebt.PerformTakeover reply.TakeoverAccepted) land.Full ∷
    entry_of 0 who.A 1 (act.Ended end.SignedOff) land.Full ∷
    off_abend

abbrev pub told : Told
told = record {
  answers_a = [];
  answers_b = [];
  tick = 2;
  held = of_parts 2 2 (owner_of 2 site.B state.Running) None None;
  records = 0;
  done = 0;
  undone = 0;
  file = replicate 16 (Some None);
  table_a = [];
  table_b = [];
}
