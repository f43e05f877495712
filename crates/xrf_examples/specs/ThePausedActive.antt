-- The paused active sees the taking and signs off; the new active undoes its unit.
use Rattle.std.specs.Prelude.{false, List, [], ◌∷◌, ◌++◌, replicate, codes, Some, None}
use Rattle.xrf_base.specs.declared.site.Site.TheVariants as site
use Rattle.xrf_base.specs.declared.site.Takeovr.TheVariants as takeovr
use Rattle.xrf_base.specs.declared.items.Item.TheVariants as items
use Rattle.xrf_base.specs.declared.items.ItemAnswer.TheVariants as answer
use Rattle.xrf_base.specs.Values.{slot_of}
use Rattle.xrf_ctl.specs.declared.parts.Level.TheVariants as level
use Rattle.xrf_ctl.specs.declared.parts.OwnerState.TheVariants as state
use Rattle.xrf_ctl.specs.declared.parts.Cause.TheVariants as cause
use Rattle.xrf_ctl.specs.Control.{of_parts}
use Rattle.xrf_ctl.specs.Signal.{of_numbers}
use Rattle.xrf_cavm.specs.declared.decisions.Waiting.TheVariants as waiting
use Rattle.xrf_cavm.specs.declared.decisions.Decided.TheVariants as decided
use Rattle.xrf_logrec.specs.declared.records.LogRec.TheVariants as rec
use Rattle.xrf_history.specs.declared.want.EndWhy.TheVariants as end
use Rattle.xrf_setup.specs.declared.choice.Choice.{Choice}
use Rattle.xrf_setup.specs.declared.choice.Choice.TheVariants as choice
use Rattle.xrf_setup.specs.declared.format.Format.TheVariants as format
use Rattle.xrf_setup.specs.Scenario.{Scen}
use Rattle.xrf_trace.specs.declared.entry.Act.TheVariants as act
use Rattle.xrf_trace.specs.declared.entry.Entry.{Entry}
use Rattle.xrf_trace.specs.declared.entry.Land.TheVariants as land
use Rattle.xrf_trace.specs.declared.entry.Who.TheVariants as who
use Rattle.xrf_examples.specs.Making.{Told, entry_of, owner_of, alt_of, taking_of, unit_of}
use Rattle.xrf_examples.specs.Takeovers.{paused, to_paused}

abbrev pub scenario : Scen
scenario = record {
  settings = record {
    format = format.One;
    applid_a = codes "CICSA";
    applid_b = codes "CICSB";
    takeovr = takeovr.Auto;
    adi = 5;
    pdi = 30;
    log = 64;
    ring = 16;
    file = 4;
    pace = 40;
    ticks = 60;
    images = false;
    level_a = level.One;
    level_b = level.One;
    force = false;
  };
  records = (1, codes "OLD") ∷ [];
  clt = [];
  work_a = items.Begin (codes "U1") ∷ items.Put (codes "U1") 1 (codes "NEW") ∷ [];
  work_b = [];
  plan = [];
}

abbrev pub choices : List Choice
choices =
    to_paused ++ replicate 5 (choice.Step site.A) ++ choice.Tick ∷ replicate 15 (choice.Step site.B)

abbrev pub trace : List Entry
trace =
    entry_of 6 who.B 2 act.Restarted land.Full ∷
    entry_of 6 who.B 2 (act.LogOpen 1 (rec.Backout (unit_of 1 1))) land.Full ∷
    entry_of 6 who.B 2 (act.LogBody 1 (rec.Backout (unit_of 1 1))) land.Full ∷
    entry_of 6 who.B 2 (act.Undo 1 (slot_of (Some (codes "OLD")))) land.Full ∷
    entry_of 6 who.B 2 (act.LogRead 0) land.Full ∷
    entry_of 6 who.B 2 (act.MsgRead 0) land.Full ∷
    entry_of 6 who.B 2 act.Release land.Full ∷
    entry_of 6 who.B 2 (act.CtlWrite (of_parts 1 2 (owner_of 2 site.B state.Running) None None)) land.Full ∷
    entry_of 6 who.B 2 act.CtlRead land.Full ∷
    entry_of 6 who.B 2 act.Reserve land.Full ∷
    entry_of 6 who.B 2 (act.Decide (decided.Waiting waiting.Through)) land.Full ∷
    entry_of 6 who.B 2 act.Look2 land.Full ∷
    entry_of 6 who.B 2 act.Look1 land.Full ∷
    entry_of 6 who.B 2 (act.Signal2 (of_numbers 2 7 0)) land.Full ∷
    entry_of 6 who.B 2 (act.Signal1 (of_numbers 2 7 0)) land.Full ∷
    entry_of 6 who.Env 0 act.Tick land.Full ∷
    entry_of 5 who.A 1 (act.Ended end.SignedOff) land.Full ∷
    entry_of 5 who.A 1 act.Release land.Full ∷
    entry_of 5 who.A 1 (act.CtlWrite (of_parts 1 2 (owner_of 1 site.A state.OffAbend) (alt_of 2 site.B) (taking_of 2 cause.Lost))) land.Full ∷
    entry_of 5 who.A 1 act.CtlRead land.Full ∷
    entry_of 5 who.A 1 act.Reserve land.Full ∷
    paused

abbrev pub told : Told
told = record {
  answers_a = Some answer.Done ∷ Some answer.Done ∷ [];
  answers_b = [];
  tick = 6;
  held = of_parts 1 2 (owner_of 2 site.B state.Running) None None;
  records = 2;
  done = 0;
  undone = 0;
  file = Some (Some (codes "OLD")) ∷ replicate 3 (Some None);
  table_a = [];
  table_b = [];
}
