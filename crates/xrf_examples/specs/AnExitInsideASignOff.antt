-- EXIT DROP that comes inside a sign-off changes nothing: the sign-off is written and the alternate stays.
use Rattle.std.specs.Prelude.{false, List, [], ◌∷◌, ◌++◌, replicate, codes, Some, None}
use Rattle.xrf_base.specs.declared.site.Site.TheVariants as site
use Rattle.xrf_base.specs.declared.site.Takeovr.TheVariants as takeovr
use Rattle.xrf_ctl.specs.declared.parts.Level.TheVariants as level
use Rattle.xrf_ctl.specs.declared.parts.OwnerState.TheVariants as state
use Rattle.xrf_ctl.specs.Control.{of_parts}
use Rattle.xrf_cavm.specs.declared.decisions.Acting.TheVariants as acting
use Rattle.xrf_cavm.specs.declared.decisions.Decided.TheVariants as decided
use Rattle.xrf_exit.specs.declared.ExitAnswer.TheVariants as exit
use Rattle.xrf_history.specs.declared.want.EndWhy.TheVariants as end
use Rattle.xrf_setup.specs.declared.choice.Choice.{Choice}
use Rattle.xrf_setup.specs.declared.choice.Choice.TheVariants as choice
use Rattle.xrf_setup.specs.declared.format.Format.TheVariants as format
use Rattle.xrf_setup.specs.Scenario.{Scen}
use Rattle.xrf_trace.specs.declared.entry.Act.TheVariants as act
use Rattle.xrf_trace.specs.declared.entry.Entry.{Entry}
use Rattle.xrf_trace.specs.declared.entry.Land.TheVariants as land
use Rattle.xrf_trace.specs.declared.entry.Who.TheVariants as who
use Rattle.xrf_examples.specs.Making.{Told, entry_of, owner_of, alt_of}
use Rattle.xrf_examples.specs.Beginnings.{missed, to_missed}

abbrev pub scenario : Scen
scenario = record {
  settings = record {
    format = format.One;
    applid_a = codes "CICSA";
    applid_b = codes "CICSB";
    takeovr = takeovr.Manual;
    adi = 30;
    pdi = 5;
    log = 64;
    ring = 16;
    file = 16;
    pace = 40;
    ticks = 60;
    images = false;
    level_a = level.One;
    level_b = level.One;
    force = false;
  };
  records = [];
  clt = [];
  work_a = [];
  work_b = [];
  plan = [];
}

abbrev pub choices : List Choice
choices =
    to_missed ++ choice.Abend site.A ∷ replicate 3 (choice.Step site.A) ++ choice.Exit site.A exit.Drop ∷ replicate 3 (choice.Step site.A)

abbrev pub trace : List Entry
trace =
    entry_of 6 who.A 1 (act.Ended end.SignedOff) land.Full ∷
    entry_of 6 who.A 1 act.Release land.Full ∷
    entry_of 6 who.A 1 (act.CtlWrite (of_parts 1 2 (owner_of 1 site.A state.OffAbend) (alt_of 2 site.B) None)) land.Full ∷
    entry_of 6 who.A 1 (act.Exit exit.Drop) land.Full ∷
    entry_of 6 who.A 1 act.CtlRead land.Full ∷
    entry_of 6 who.A 1 act.Reserve land.Full ∷
    entry_of 6 who.A 1 (act.Decide (decided.Owner acting.Lost)) land.Full ∷
    entry_of 6 who.A 1 act.Abend land.Full ∷
    missed

abbrev pub told : Told
told = record {
  answers_a = [];
  answers_b = [];
  tick = 6;
  held = of_parts 1 2 (owner_of 1 site.A state.OffAbend) (alt_of 2 site.B) None;
  records = 0;
  done = 0;
  undone = 0;
  file = replicate 16 (Some None);
  table_a = [];
  table_b = [];
}
