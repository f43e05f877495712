-- The loss is decided at the tick at which ADI has passed and not before; the taking then waits for a proof.
use Rattle.std.specs.Prelude.{false, List, [], ◌∷◌, ◌++◌, replicate, codes, Some, None}
use Rattle.xrf_base.specs.declared.site.Site.TheVariants as site
use Rattle.xrf_base.specs.declared.site.Takeovr.TheVariants as takeovr
use Rattle.xrf_ctl.specs.declared.parts.Level.TheVariants as level
use Rattle.xrf_ctl.specs.declared.parts.OwnerState.TheVariants as state
use Rattle.xrf_ctl.specs.declared.parts.Cause.TheVariants as cause
use Rattle.xrf_ctl.specs.Control.{of_parts}
use Rattle.xrf_ctl.specs.Signal.{of_numbers}
use Rattle.xrf_cavm.specs.declared.decisions.Decision.TheVariants as decision
use Rattle.xrf_cavm.specs.declared.decisions.Waiting.TheVariants as waiting
use Rattle.xrf_cavm.specs.declared.decisions.Decided.TheVariants as decided
use Rattle.xrf_setup.specs.declared.choice.Choice.{Choice}
use Rattle.xrf_setup.specs.declared.choice.Choice.TheVariants as choice
use Rattle.xrf_setup.specs.declared.format.Format.TheVariants as format
use Rattle.xrf_setup.specs.Scenario.{Scen}
use Rattle.xrf_trace.specs.declared.entry.Act.TheVariants as act
use Rattle.xrf_trace.specs.declared.entry.Entry.{Entry}
use Rattle.xrf_trace.specs.declared.entry.Land.TheVariants as land
use Rattle.xrf_trace.specs.declared.entry.Who.TheVariants as who
use Rattle.xrf_examples.specs.Making.{Told, entry_of, owner_of, alt_of, taking_of}
use Rattle.xrf_examples.specs.Takeovers.{lost, to_lost}

abbrev pub scenario : Scen
scenario = record {
  settings = record {
    format = format.One;
    applid_a = codes "CICSA";
    applid_b = codes "CICSB";
    takeovr = takeovr.Auto;
    adi = 5;
    pdi = 30;
    log = 64;
    ring = 16;
    file = 16;
    pace = 40;
    ticks = 60;
    images = false;
    level_a = level.One;
    level_b = level.One;
    force = false;
  };
  records = [];
  clt = [];
  work_a = [];
  work_b = [];
  plan = [];
}

abbrev pub choices : List Choice
choices =
    to_lost ++ replicate 5 (choice.Step site.B) ++ choice.Tick ∷ replicate 6 (choice.Step site.B) ++ choice.Tick ∷ replicate 6 (choice.Step site.B) ++
    choice.Tick ∷ replicate 6 (choice.Step site.B) ++ choice.Tick ∷ replicate 6 (choice.Step site.B) ++ choice.Tick ∷ replicate 6 (choice.Step site.B)

abbrev pub trace : List Entry
trace =
    entry_of 14 who.B 2 (act.MsgRead 0) land.Full ∷
    entry_of 14 who.B 2 (act.Decide (decided.Waiting waiting.Wait)) land.Full ∷
    entry_of 14 who.B 2 act.Look2 land.Full ∷
    entry_of 14 who.B 2 act.Look1 land.Full ∷
    entry_of 14 who.B 2 (act.Signal2 (of_numbers 2 15 0)) land.Full ∷
    entry_of 14 who.B 2 (act.Signal1 (of_numbers 2 15 0)) land.Full ∷
    entry_of 14 who.Env 0 act.Tick land.Full ∷
    entry_of 13 who.B 2 (act.MsgRead 0) land.Full ∷
    entry_of 13 who.B 2 (act.Decide (decided.Waiting waiting.Wait)) land.Full ∷
    entry_of 13 who.B 2 act.Look2 land.Full ∷
    entry_of 13 who.B 2 act.Look1 land.Full ∷
    entry_of 13 who.B 2 (act.Signal2 (of_numbers 2 14 0)) land.Full ∷
    entry_of 13 who.B 2 (act.Signal1 (of_numbers 2 14 0)) land.Full ∷
    entry_of 13 who.Env 0 act.Tick land.Full ∷
    entry_of 12 who.B 2 (act.MsgRead 0) land.Full ∷
    entry_of 12 who.B 2 (act.Decide (decided.Waiting waiting.Wait)) land.Full ∷
    entry_of 12 who.B 2 act.Look2 land.Full ∷
    entry_of 12 who.B 2 act.Look1 land.Full ∷
    entry_of 12 who.B 2 (act.Signal2 (of_numbers 2 13 0)) land.Full ∷
    entry_of 12 who.B 2 (act.Signal1 (of_numbers 2 13 0)) land.Full ∷
    entry_of 12 who.Env 0 act.Tick land.Full ∷
    entry_of 11 who.B 2 (act.MsgRead 0) land.Full ∷
    entry_of 11 who.B 2 (act.Decide (decided.Waiting waiting.Wait)) land.Full ∷
    entry_of 11 who.B 2 act.Look2 land.Full ∷
    entry_of 11 who.B 2 act.Look1 land.Full ∷
    entry_of 11 who.B 2 (act.Signal2 (of_numbers 2 12 0)) land.Full ∷
    entry_of 11 who.B 2 (act.Signal1 (of_numbers 2 12 0)) land.Full ∷
    entry_of 11 who.Env 0 act.Tick land.Full ∷
    entry_of 10 who.B 2 (act.MsgRead 0) land.Full ∷
    entry_of 10 who.B 2 (act.Decide (decided.Waiting waiting.Wait)) land.Full ∷
    entry_of 10 who.B 2 act.Look2 land.Full ∷
    entry_of 10 who.B 2 act.Look1 land.Full ∷
    entry_of 10 who.B 2 (act.Signal2 (of_numbers 2 11 0)) land.Full ∷
    entry_of 10 who.B 2 (act.Signal1 (of_numbers 2 11 0)) land.Full ∷
    entry_of 10 who.Env 0 act.Tick land.Full ∷
    entry_of 9 who.B 2 act.Release land.Full ∷
    entry_of 9 who.B 2 (act.CtlWrite (of_parts 1 2 (owner_of 1 site.A state.Running) (alt_of 2 site.B) (taking_of 2 cause.Lost))) land.Full ∷
    entry_of 9 who.B 2 act.CtlRead land.Full ∷
    entry_of 9 who.B 2 act.Reserve land.Full ∷
    entry_of 9 who.B 2 (act.Decide (decided.Alternate (decision.Start cause.Lost))) land.Full ∷
    lost

abbrev pub told : Told
told = record {
  answers_a = [];
  answers_b = [];
  tick = 14;
  held = of_parts 1 2 (owner_of 1 site.A state.Running) (alt_of 2 site.B) (taking_of 2 cause.Lost);
  records = 0;
  done = 0;
  undone = 0;
  file = replicate 16 (Some None);
  table_a = [];
  table_b = [];
}
