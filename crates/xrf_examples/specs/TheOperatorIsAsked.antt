-- Under MANUAL the operator is asked: IGNORE waits for the next loss, GO starts the takeover.
use Rattle.std.specs.Prelude.{true, false, List, [], ◌∷◌, ◌++◌, replicate, codes, Some, None}
use Rattle.xrf_base.specs.declared.site.Site.TheVariants as site
use Rattle.xrf_base.specs.declared.site.Takeovr.TheVariants as takeovr
use Rattle.xrf_ctl.specs.declared.parts.Level.TheVariants as level
use Rattle.xrf_ctl.specs.declared.parts.OwnerState.TheVariants as state
use Rattle.xrf_ctl.specs.declared.parts.Cause.TheVariants as cause
use Rattle.xrf_ctl.specs.Control.{of_parts}
use Rattle.xrf_ctl.specs.Signal.{of_numbers}
use Rattle.xrf_cavm.specs.declared.decisions.Decision.TheVariants as decision
use Rattle.xrf_cavm.specs.declared.decisions.Decided.TheVariants as decided
use Rattle.xrf_setup.specs.declared.choice.Choice.{Choice}
use Rattle.xrf_setup.specs.declared.choice.Choice.TheVariants as choice
use Rattle.xrf_setup.specs.declared.format.Format.TheVariants as format
use Rattle.xrf_setup.specs.Scenario.{Scen}
use Rattle.xrf_trace.specs.declared.entry.Act.TheVariants as act
use Rattle.xrf_trace.specs.declared.entry.Entry.{Entry}
use Rattle.xrf_trace.specs.declared.entry.Land.TheVariants as land
use Rattle.xrf_trace.specs.declared.entry.Who.TheVariants as who
use Rattle.xrf_examples.specs.Making.{Told, entry_of, owner_of, alt_of, taking_of}
use Rattle.xrf_examples.specs.Takeovers.{unheard, to_unheard}

abbrev pub scenario : Scen
scenario = record {
  settings = record {
    format = format.One;
    applid_a = codes "CICSA";
    applid_b = codes "CICSB";
    takeovr = takeovr.Manual;
    adi = 5;
    pdi = 30;
    log = 64;
    ring = 16;
    file = 16;
    pace = 40;
    ticks = 60;
    images = false;
    level_a = level.One;
    level_b = level.One;
    force = false;
  };
  records = [];
  clt = [];
  work_a = [];
  work_b = [];
  plan = [];
}

abbrev pub choices : List Choice
choices =
    to_unheard ++ replicate 6 (choice.Step site.B) ++ choice.Tick ∷ replicate 6 (choice.Step site.B) ++ choice.Reply site.B false ∷ choice.Tick ∷
    replicate 6 (choice.Step site.B) ++ choice.Tick ∷ replicate 6 (choice.Step site.B) ++ choice.Tick ∷ replicate 6 (choice.Step site.B) ++
    choice.Tick ∷ replicate 6 (choice.Step site.B) ++ choice.Tick ∷ replicate 6 (choice.Step site.B) ++ choice.Reply site.B true ∷ choice.Tick ∷
    replicate 9 (choice.Step site.B)

abbrev pub trace : List Entry
trace =
    entry_of 11 who.B 2 act.Release land.Full ∷
    entry_of 11 who.B 2 (act.CtlWrite (of_parts 1 2 (owner_of 1 site.A state.Running) (alt_of 2 site.B) (taking_of 2 cause.Lost))) land.Full ∷
    entry_of 11 who.B 2 act.CtlRead land.Full ∷
    entry_of 11 who.B 2 act.Reserve land.Full ∷
    entry_of 11 who.B 2 (act.Decide (decided.Alternate (decision.Start cause.Lost))) land.Full ∷
    entry_of 11 who.B 2 act.Look2 land.Full ∷
    entry_of 11 who.B 2 act.Look1 land.Full ∷
    entry_of 11 who.B 2 (act.Signal2 (of_numbers 2 12 0)) land.Full ∷
    entry_of 11 who.B 2 (act.Signal1 (of_numbers 2 12 0)) land.Full ∷
    entry_of 11 who.Env 0 act.Tick land.Full ∷
    entry_of 10 who.B 2 (act.Reply true) land.Full ∷
    entry_of 10 who.B 2 (act.MsgRead 0) land.Full ∷
    entry_of 10 who.B 2 (act.Decide (decided.Alternate decision.Ask)) land.Full ∷
    entry_of 10 who.B 2 act.Look2 land.Full ∷
    entry_of 10 who.B 2 act.Look1 land.Full ∷
    entry_of 10 who.B 2 (act.Signal2 (of_numbers 2 11 0)) land.Full ∷
    entry_of 10 who.B 2 (act.Signal1 (of_numbers 2 11 0)) land.Full ∷
    entry_of 10 who.Env 0 act.Tick land.Full ∷
    entry_of 9 who.B 2 (act.MsgRead 0) land.Full ∷
    entry_of 9 who.B 2 (act.Decide (decided.Alternate decision.Nothing)) land.Full ∷
    entry_of 9 who.B 2 act.Look2 land.Full ∷
    entry_of 9 who.B 2 act.Look1 land.Full ∷
    entry_of 9 who.B 2 (act.Signal2 (of_numbers 2 10 0)) land.Full ∷
    entry_of 9 who.B 2 (act.Signal1 (of_numbers 2 10 0)) land.Full ∷
    entry_of 9 who.Env 0 act.Tick land.Full ∷
    entry_of 8 who.B 2 (act.MsgRead 0) land.Full ∷
    entry_of 8 who.B 2 (act.Decide (decided.Alternate decision.Nothing)) land.Full ∷
    entry_of 8 who.B 2 act.Look2 land.Full ∷
    entry_of 8 who.B 2 act.Look1 land.Full ∷
    entry_of 8 who.B 2 (act.Signal2 (of_numbers 2 9 0)) land.Full ∷
    entry_of 8 who.B 2 (act.Signal1 (of_numbers 2 9 0)) land.Full ∷
    entry_of 8 who.Env 0 act.Tick land.Full ∷
    entry_of 7 who.B 2 (act.MsgRead 0) land.Full ∷
    entry_of 7 who.B 2 (act.Decide (decided.Alternate decision.Nothing)) land.Full ∷
    entry_of 7 who.B 2 act.Look2 land.Full ∷
    entry_of 7 who.B 2 act.Look1 land.Full ∷
    entry_of 7 who.B 2 (act.Signal2 (of_numbers 2 8 0)) land.Full ∷
    entry_of 7 who.B 2 (act.Signal1 (of_numbers 2 8 0)) land.Full ∷
    entry_of 7 who.Env 0 act.Tick land.Full ∷
    entry_of 6 who.B 2 (act.MsgRead 0) land.Full ∷
    entry_of 6 who.B 2 (act.Decide (decided.Alternate decision.Nothing)) land.Full ∷
    entry_of 6 who.B 2 act.Look2 land.Full ∷
    entry_of 6 who.B 2 act.Look1 land.Full ∷
    entry_of 6 who.B 2 (act.Signal2 (of_numbers 2 7 0)) land.Full ∷
    entry_of 6 who.B 2 (act.Signal1 (of_numbers 2 7 0)) land.Full ∷
    entry_of 6 who.Env 0 act.Tick land.Full ∷
    entry_of 5 who.B 2 (act.Reply false) land.Full ∷
    entry_of 5 who.B 2 (act.MsgRead 0) land.Full ∷
    entry_of 5 who.B 2 (act.Decide (decided.Alternate decision.Ask)) land.Full ∷
    entry_of 5 who.B 2 act.Look2 land.Full ∷
    entry_of 5 who.B 2 act.Look1 land.Full ∷
    entry_of 5 who.B 2 (act.Signal2 (of_numbers 2 6 0)) land.Full ∷
    entry_of 5 who.B 2 (act.Signal1 (of_numbers 2 6 0)) land.Full ∷
    entry_of 5 who.Env 0 act.Tick land.Full ∷
    entry_of 4 who.B 2 (act.MsgRead 0) land.Full ∷
    entry_of 4 who.B 2 (act.Decide (decided.Alternate decision.Nothing)) land.Full ∷
    entry_of 4 who.B 2 act.Look2 land.Full ∷
    entry_of 4 who.B 2 act.Look1 land.Full ∷
    entry_of 4 who.B 2 (act.Signal2 (of_numbers 2 5 0)) land.Full ∷
    entry_of 4 who.B 2 (act.Signal1 (of_numbers 2 5 0)) land.Full ∷
    unheard

abbrev pub told : Told
told = record {
  answers_a = [];
  answers_b = [];
  tick = 11;
  held = of_parts 1 2 (owner_of 1 site.A state.Running) (alt_of 2 site.B) (taking_of 2 cause.Lost);
  records = 0;
  done = 0;
  undone = 0;
  file = replicate 16 (Some None);
  table_a = [];
  table_b = [];
}
