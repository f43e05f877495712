-- A granting write that a stop loses leaves its number to the next sign-on; one that a stop lands keeps it, and it is confirmed.
use Rattle.std.specs.Prelude.{false, List, [], ◌∷◌, replicate, codes, Some, None}
use Rattle.xrf_base.specs.declared.site.Site.TheVariants as site
use Rattle.xrf_base.specs.declared.site.Takeovr.TheVariants as takeovr
use Rattle.xrf_ctl.specs.declared.parts.Level.TheVariants as level
use Rattle.xrf_ctl.specs.declared.parts.OwnerState.TheVariants as state
use Rattle.xrf_ctl.specs.Control.{of_parts}
use Rattle.xrf_setup.specs.declared.choice.Choice.{Choice}
use Rattle.xrf_setup.specs.declared.choice.Choice.TheVariants as choice
use Rattle.xrf_setup.specs.declared.choice.Landing.TheVariants as landing
use Rattle.xrf_setup.specs.declared.format.Format.TheVariants as format
use Rattle.xrf_setup.specs.Scenario.{Scen}
use Rattle.xrf_trace.specs.declared.entry.Act.TheVariants as act
use Rattle.xrf_trace.specs.declared.entry.Entry.{Entry}
use Rattle.xrf_trace.specs.declared.entry.Land.TheVariants as land
use Rattle.xrf_trace.specs.declared.entry.Who.TheVariants as who
use Rattle.xrf_examples.specs.Making.{Told, entry_of, owner_of}

abbrev pub scenario : Scen
scenario = record {
  settings = record {
    format = format.One;
    applid_a = codes "CICSA";
    applid_b = codes "CICSB";
    takeovr = takeovr.Manual;
    adi = 30;
    pdi = 30;
    log = 64;
    ring = 16;
    file = 16;
    pace = 40;
    ticks = 60;
    images = false;
    level_a = level.One;
    level_b = level.One;
    force = false;
  };
  records = [];
  clt = [];
  work_a = [];
  work_b = [];
  plan = [];
}

abbrev pub choices : List Choice
choices =
    choice.StartActive site.A ∷ choice.Step site.A ∷ choice.Step site.A ∷ choice.Stop site.A landing.Nothing ∷ choice.StartActive site.A ∷
    choice.Step site.A ∷ choice.Step site.A ∷ choice.Stop site.A landing.All ∷ choice.Confirm 1 ∷ []

abbrev pub trace : List Entry
trace =
    entry_of 0 who.Env 0 (act.Confirm 1) land.Full ∷
    entry_of 0 who.A 1 (act.CtlWrite (of_parts 1 1 (owner_of 1 site.A state.Running) None None)) (land.Stop landing.All) ∷
    entry_of 0 who.A 0 act.CtlRead land.Full ∷
    entry_of 0 who.A 0 act.Reserve land.Full ∷
    entry_of 0 who.A 0 act.StartActive land.Full ∷
    entry_of 0 who.A 1 (act.CtlWrite (of_parts 1 1 (owner_of 1 site.A state.Running) None None)) (land.Stop landing.Nothing) ∷
    entry_of 0 who.A 0 act.CtlRead land.Full ∷
    entry_of 0 who.A 0 act.Reserve land.Full ∷
    entry_of 0 who.A 0 act.StartActive land.Full ∷
    []

abbrev pub told : Told
told = record {
  answers_a = [];
  answers_b = [];
  tick = 0;
  held = of_parts 1 1 (owner_of 1 site.A state.Running) None None;
  records = 0;
  done = 0;
  undone = 0;
  file = replicate 16 (Some None);
  table_a = [];
  table_b = [];
}
