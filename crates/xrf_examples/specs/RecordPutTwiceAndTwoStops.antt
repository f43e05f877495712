-- A record put twice, a stop in the second write and a stop in the undoing of the first: the second restart gives the first value back.
use Rattle.std.specs.Prelude.{false, List, [], ◌∷◌, ◌++◌, replicate, codes, Some, None}
use Rattle.xrf_base.specs.declared.site.Site.TheVariants as site
use Rattle.xrf_base.specs.declared.site.Takeovr.TheVariants as takeovr
use Rattle.xrf_base.specs.declared.items.Item.TheVariants as items
use Rattle.xrf_base.specs.declared.items.ItemAnswer.TheVariants as answer
use Rattle.xrf_base.specs.Values.{slot_of}
use Rattle.xrf_ctl.specs.declared.parts.Level.TheVariants as level
use Rattle.xrf_ctl.specs.declared.parts.OwnerState.TheVariants as state
use Rattle.xrf_ctl.specs.Control.{of_parts}
use Rattle.xrf_ctl.specs.Signal.{of_numbers}
use Rattle.xrf_cavm.specs.declared.decisions.Acting.TheVariants as acting
use Rattle.xrf_cavm.specs.declared.decisions.Decided.TheVariants as decided
use Rattle.xrf_logrec.specs.declared.records.LogRec.TheVariants as rec
use Rattle.xrf_setup.specs.declared.choice.Choice.{Choice}
use Rattle.xrf_setup.specs.declared.choice.Choice.TheVariants as choice
use Rattle.xrf_setup.specs.declared.choice.Landing.TheVariants as landing
use Rattle.xrf_setup.specs.declared.format.Format.TheVariants as format
use Rattle.xrf_setup.specs.Scenario.{Scen}
use Rattle.xrf_trace.specs.declared.entry.Act.TheVariants as act
use Rattle.xrf_trace.specs.declared.entry.Entry.{Entry}
use Rattle.xrf_trace.specs.declared.entry.Land.TheVariants as land
use Rattle.xrf_trace.specs.declared.entry.Who.TheVariants as who
use Rattle.xrf_examples.specs.Making.{Told, entry_of, owner_of, unit_of}
use Rattle.xrf_examples.specs.Beginnings.{restarted, to_restarted}

abbrev pub scenario : Scen
scenario = record {
  settings = record {
    format = format.One;
    applid_a = codes "CICSA";
    applid_b = codes "CICSB";
    takeovr = takeovr.Manual;
    adi = 30;
    pdi = 30;
    log = 64;
    ring = 16;
    file = 4;
    pace = 40;
    ticks = 60;
    images = false;
    level_a = level.One;
    level_b = level.One;
    force = false;
  };
  records = (1, codes "V0") ∷ [];
  clt = [];
  work_a = items.Begin (codes "U1") ∷ items.Put (codes "U1") 1 (codes "V1") ∷ items.Put (codes "U1") 1 (codes "V2") ∷ [];
  work_b = [];
  plan = [];
}

abbrev pub choices : List Choice
choices =
    to_restarted ++ replicate 11 (choice.Step site.A) ++ choice.Stop site.A landing.Nothing ∷ choice.Confirm 1 ∷ choice.StartActive site.A ∷
    replicate 11 (choice.Step site.A) ++ choice.Stop site.A (landing.Torn (replicate 32 0)) ∷ choice.Confirm 2 ∷ choice.StartActive site.A ∷
    replicate 15 (choice.Step site.A)

abbrev pub trace : List Entry
trace =
    entry_of 0 who.A 3 act.Restarted land.Full ∷
    entry_of 0 who.A 3 (act.LogOpen 2 (rec.Backout (unit_of 1 1))) land.Full ∷
    entry_of 0 who.A 3 (act.LogBody 2 (rec.Backout (unit_of 1 1))) land.Full ∷
    entry_of 0 who.A 3 (act.Undo 1 (slot_of (Some (codes "V0")))) land.Full ∷
    entry_of 0 who.A 3 (act.Undo 1 (slot_of (Some (codes "V1")))) land.Full ∷
    entry_of 0 who.A 3 (act.LogRead 0) land.Full ∷
    entry_of 0 who.A 3 (act.Decide (decided.Owner acting.Nothing)) land.Full ∷
    entry_of 0 who.A 3 act.Look2 land.Full ∷
    entry_of 0 who.A 3 act.Look1 land.Full ∷
    entry_of 0 who.A 3 (act.Signal2 (of_numbers 3 1 0)) land.Full ∷
    entry_of 0 who.A 3 (act.Signal1 (of_numbers 3 1 0)) land.Full ∷
    entry_of 0 who.A 3 act.Release land.Full ∷
    entry_of 0 who.A 3 (act.CtlWrite (of_parts 1 3 (owner_of 3 site.A state.Running) None None)) land.Full ∷
    entry_of 0 who.A 0 act.CtlRead land.Full ∷
    entry_of 0 who.A 0 act.Reserve land.Full ∷
    entry_of 0 who.A 0 act.StartActive land.Full ∷
    entry_of 0 who.Env 0 (act.Confirm 2) land.Full ∷
    entry_of 0 who.A 2 (act.Undo 1 (slot_of (Some (codes "V0")))) (land.Stop (landing.Torn (replicate 32 0))) ∷
    entry_of 0 who.A 2 (act.Undo 1 (slot_of (Some (codes "V1")))) land.Full ∷
    entry_of 0 who.A 2 (act.LogRead 0) land.Full ∷
    entry_of 0 who.A 2 (act.Decide (decided.Owner acting.Nothing)) land.Full ∷
    entry_of 0 who.A 2 act.Look2 land.Full ∷
    entry_of 0 who.A 2 act.Look1 land.Full ∷
    entry_of 0 who.A 2 (act.Signal2 (of_numbers 2 1 0)) land.Full ∷
    entry_of 0 who.A 2 (act.Signal1 (of_numbers 2 1 0)) land.Full ∷
    entry_of 0 who.A 2 act.Release land.Full ∷
    entry_of 0 who.A 2 (act.CtlWrite (of_parts 1 2 (owner_of 2 site.A state.Running) None None)) land.Full ∷
    entry_of 0 who.A 0 act.CtlRead land.Full ∷
    entry_of 0 who.A 0 act.Reserve land.Full ∷
    entry_of 0 who.A 0 act.StartActive land.Full ∷
    entry_of 0 who.Env 0 (act.Confirm 1) land.Full ∷
    entry_of 0 who.A 1 act.NoAct (land.Stop landing.Nothing) ∷
    entry_of 0 who.A 1 (act.FileWrite (unit_of 1 1) 1 (codes "V2")) land.Full ∷
    entry_of 0 who.A 1 (act.LogOpen 1 (rec.Put (unit_of 1 1) 1 (slot_of (Some (codes "V1"))))) land.Full ∷
    entry_of 0 who.A 1 (act.LogBody 1 (rec.Put (unit_of 1 1) 1 (slot_of (Some (codes "V1"))))) land.Full ∷
    entry_of 0 who.A 1 (act.FileRead 1) land.Full ∷
    entry_of 0 who.A 1 (act.Item 3) land.Full ∷
    entry_of 0 who.A 1 (act.FileWrite (unit_of 1 1) 1 (codes "V1")) land.Full ∷
    entry_of 0 who.A 1 (act.LogOpen 0 (rec.Put (unit_of 1 1) 1 (slot_of (Some (codes "V0"))))) land.Full ∷
    entry_of 0 who.A 1 (act.LogBody 0 (rec.Put (unit_of 1 1) 1 (slot_of (Some (codes "V0"))))) land.Full ∷
    entry_of 0 who.A 1 (act.FileRead 1) land.Full ∷
    entry_of 0 who.A 1 (act.Item 2) land.Full ∷
    entry_of 0 who.A 1 (act.Item 1) land.Full ∷
    restarted

abbrev pub told : Told
told = record {
  answers_a = replicate 3 (Some answer.Done);
  answers_b = [];
  tick = 0;
  held = of_parts 1 3 (owner_of 3 site.A state.Running) None None;
  records = 3;
  done = 0;
  undone = 0;
  file = Some (Some (codes "V0")) ∷ replicate 3 (Some None);
  table_a = [];
  table_b = [];
}
