-- An owner whose log write fails signs off as ended abnormally; that write opened the slot, so the next active finds the unit committed.
use Rattle.std.specs.Prelude.{false, List, [], ◌∷◌, ◌++◌, replicate, codes, Some, None}
use Rattle.xrf_base.specs.declared.site.Site.TheVariants as site
use Rattle.xrf_base.specs.declared.site.Takeovr.TheVariants as takeovr
use Rattle.xrf_base.specs.declared.items.Item.TheVariants as items
use Rattle.xrf_base.specs.declared.items.ItemAnswer.TheVariants as answer
use Rattle.xrf_ctl.specs.declared.parts.Level.TheVariants as level
use Rattle.xrf_ctl.specs.declared.parts.OwnerState.TheVariants as state
use Rattle.xrf_ctl.specs.Control.{of_parts}
use Rattle.xrf_ctl.specs.Signal.{of_numbers}
use Rattle.xrf_cavm.specs.declared.decisions.Acting.TheVariants as acting
use Rattle.xrf_cavm.specs.declared.decisions.Decided.TheVariants as decided
use Rattle.xrf_logrec.specs.declared.records.LogRec.TheVariants as rec
use Rattle.xrf_history.specs.declared.want.EndWhy.TheVariants as end
use Rattle.xrf_setup.specs.declared.choice.Choice.{Choice}
use Rattle.xrf_setup.specs.declared.choice.Choice.TheVariants as choice
use Rattle.xrf_setup.specs.declared.choice.Landing.TheVariants as landing
use Rattle.xrf_setup.specs.declared.format.Format.TheVariants as format
use Rattle.xrf_setup.specs.Scenario.{Scen}
use Rattle.xrf_trace.specs.declared.entry.Act.TheVariants as act
use Rattle.xrf_trace.specs.declared.entry.Entry.{Entry}
use Rattle.xrf_trace.specs.declared.entry.Land.TheVariants as land
use Rattle.xrf_trace.specs.declared.entry.Who.TheVariants as who
use Rattle.xrf_examples.specs.Making.{Told, entry_of, owner_of, unit_of}
use Rattle.xrf_examples.specs.Units.{committing, to_committing}

abbrev pub scenario : Scen
scenario = record {
  settings = record {
    format = format.One;
    applid_a = codes "CICSA";
    applid_b = codes "CICSB";
    takeovr = takeovr.Manual;
    adi = 30;
    pdi = 30;
    log = 64;
    ring = 16;
    file = 4;
    pace = 40;
    ticks = 60;
    images = false;
    level_a = level.One;
    level_b = level.One;
    force = false;
  };
  records = (1, codes "OLD") ∷ [];
  clt = [];
  work_a =
      items.Begin (codes "U1") ∷ items.Put (codes "U1") 1 (codes "NEW") ∷ items.Put (codes "U1") 3 (codes "SECOND") ∷ items.Commit (codes "U1") ∷ [];
  work_b = [];
  plan = [];
}

abbrev pub choices : List Choice
choices =
    to_committing ++ choice.Fail site.A (landing.Torn (193 ∷ [])) ∷ replicate 5 (choice.Step site.A) ++ choice.StartActive site.A ∷
    replicate 11 (choice.Step site.A)

abbrev pub trace : List Entry
trace =
    entry_of 0 who.A 2 act.Restarted land.Full ∷
    entry_of 0 who.A 2 (act.LogRead 0) land.Full ∷
    entry_of 0 who.A 2 (act.Decide (decided.Owner acting.Nothing)) land.Full ∷
    entry_of 0 who.A 2 act.Look2 land.Full ∷
    entry_of 0 who.A 2 act.Look1 land.Full ∷
    entry_of 0 who.A 2 (act.Signal2 (of_numbers 2 1 0)) land.Full ∷
    entry_of 0 who.A 2 (act.Signal1 (of_numbers 2 1 0)) land.Full ∷
    entry_of 0 who.A 2 act.Release land.Full ∷
    entry_of 0 who.A 2 (act.CtlWrite (of_parts 1 2 (owner_of 2 site.A state.Running) None None)) land.Full ∷
    entry_of 0 who.A 0 act.CtlRead land.Full ∷
    entry_of 0 who.A 0 act.Reserve land.Full ∷
    entry_of 0 who.A 0 act.StartActive land.Full ∷
    entry_of 0 who.A 1 (act.Ended end.SignedOff) land.Full ∷
    entry_of 0 who.A 1 act.Release land.Full ∷
    entry_of 0 who.A 1 (act.CtlWrite (of_parts 1 1 (owner_of 1 site.A state.OffAbend) None None)) land.Full ∷
    entry_of 0 who.A 1 act.CtlRead land.Full ∷
    entry_of 0 who.A 1 act.Reserve land.Full ∷
    entry_of 0 who.A 1 (act.LogOpen 2 (rec.Commit (unit_of 1 1))) (land.Fail (landing.Torn (193 ∷ []))) ∷
    committing

abbrev pub told : Told
told = record {
  answers_a = replicate 3 (Some answer.Done) ++ None ∷ [];
  answers_b = [];
  tick = 0;
  held = of_parts 1 2 (owner_of 2 site.A state.Running) None None;
  records = 3;
  done = 1;
  undone = 0;
  file = Some (Some (codes "NEW")) ∷ Some None ∷ Some (Some (codes "SECOND")) ∷ Some None ∷ [];
  table_a = [];
  table_b = [];
}
