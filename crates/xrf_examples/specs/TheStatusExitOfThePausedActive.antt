-- An active that was paused ends its last act, sees the taking at its next round, and its status exit answers ABEND.
use Rattle.std.specs.Prelude.{false, List, [], ◌∷◌, replicate, codes, Some, None}
use Rattle.xrf_base.specs.declared.site.Site.TheVariants as site
use Rattle.xrf_base.specs.declared.site.Takeovr.TheVariants as takeovr
use Rattle.xrf_base.specs.declared.items.Item.TheVariants as items
use Rattle.xrf_base.specs.declared.items.ItemAnswer.TheVariants as answer
use Rattle.xrf_ctl.specs.declared.parts.Level.TheVariants as level
use Rattle.xrf_ctl.specs.declared.parts.OwnerState.TheVariants as state
use Rattle.xrf_ctl.specs.declared.parts.Cause.TheVariants as cause
use Rattle.xrf_ctl.specs.Control.{of_parts}
use Rattle.xrf_setup.specs.declared.choice.Choice.{Choice}
use Rattle.xrf_setup.specs.declared.format.Format.TheVariants as format
use Rattle.xrf_setup.specs.Scenario.{Scen}
use Rattle.xrf_trace.specs.declared.entry.Entry.{Entry}
use Rattle.xrf_examples.specs.Making.{Told, owner_of, alt_of, taking_of}
use Rattle.xrf_examples.specs.Takeovers.{paused, to_paused}

abbrev pub scenario : Scen
scenario = record {
  settings = record {
    format = format.One;
    applid_a = codes "CICSA";
    applid_b = codes "CICSB";
    takeovr = takeovr.Auto;
    adi = 5;
    pdi = 30;
    log = 64;
    ring = 16;
    file = 4;
    pace = 40;
    ticks = 60;
    images = false;
    level_a = level.One;
    level_b = level.One;
    force = false;
  };
  records = (1, codes "OLD") ∷ [];
  clt = [];
  work_a = items.Begin (codes "U1") ∷ items.Put (codes "U1") 1 (codes "NEW") ∷ [];
  work_b = [];
  plan = [];
}

abbrev pub choices : List Choice
choices =
    to_paused

abbrev pub trace : List Entry
trace =
    paused

abbrev pub told : Told
told = record {
  answers_a = Some answer.Done ∷ Some answer.Done ∷ [];
  answers_b = [];
  tick = 5;
  held = of_parts 1 2 (owner_of 1 site.A state.Running) (alt_of 2 site.B) (taking_of 2 cause.Lost);
  records = 1;
  done = 0;
  undone = 1;
  file = Some (Some (codes "NEW")) ∷ replicate 3 (Some None);
  table_a = [];
  table_b = [];
}
