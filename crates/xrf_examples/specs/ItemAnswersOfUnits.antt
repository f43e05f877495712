-- Two units meet at a record: the second is locked out until the first rolls back, and then finds the record empty.
use Rattle.std.specs.Prelude.{false, List, [], ◌∷◌, ◌++◌, replicate, codes, Some, None}
use Rattle.xrf_base.specs.declared.site.Site.TheVariants as site
use Rattle.xrf_base.specs.declared.site.Takeovr.TheVariants as takeovr
use Rattle.xrf_base.specs.declared.items.Item.TheVariants as items
use Rattle.xrf_base.specs.declared.items.ItemAnswer.TheVariants as answer
use Rattle.xrf_ctl.specs.declared.parts.Level.TheVariants as level
use Rattle.xrf_ctl.specs.declared.parts.OwnerState.TheVariants as state
use Rattle.xrf_ctl.specs.Control.{of_parts}
use Rattle.xrf_setup.specs.declared.choice.Choice.{Choice}
use Rattle.xrf_setup.specs.declared.format.Format.TheVariants as format
use Rattle.xrf_setup.specs.Scenario.{Scen}
use Rattle.xrf_trace.specs.declared.entry.Entry.{Entry}
use Rattle.xrf_examples.specs.Making.{Told, owner_of}
use Rattle.xrf_examples.specs.Units.{answered, to_answered}

abbrev pub scenario : Scen
scenario = record {
  settings = record {
    format = format.One;
    applid_a = codes "CICSA";
    applid_b = codes "CICSB";
    takeovr = takeovr.Manual;
    adi = 30;
    pdi = 30;
    log = 64;
    ring = 16;
    file = 4;
    pace = 40;
    ticks = 60;
    images = false;
    level_a = level.One;
    level_b = level.One;
    force = false;
  };
  records = [];
  clt = [];
  work_a =
      items.Begin (codes "U1") ∷ items.Begin (codes "U2") ∷ items.Put (codes "U1") 1 (codes "X") ∷ items.Put (codes "U2") 1 (codes "Y") ∷
      items.Get (codes "U2") 1 ∷ items.Put (codes "U2") 9 (codes "Q") ∷ items.Roll (codes "U1") ∷ items.Get (codes "U2") 1 ∷
      items.Begin (codes "U2") ∷ items.Commit (codes "U2") ∷ items.Commit (codes "U1") ∷ [];
  work_b = [];
  plan = [];
}

abbrev pub choices : List Choice
choices =
    to_answered

abbrev pub trace : List Entry
trace =
    answered

abbrev pub told : Told
told = record {
  answers_a =
      replicate 3 (Some answer.Done) ++ Some answer.Locked ∷ Some answer.Locked ∷ Some answer.BadRrn ∷ Some answer.Done ∷ Some answer.Empty ∷
      Some answer.NameUsed ∷ Some answer.Done ∷ Some answer.NotOpen ∷ [];
  answers_b = [];
  tick = 0;
  held = of_parts 1 1 (owner_of 1 site.A state.Running) None None;
  records = 2;
  done = 0;
  undone = 0;
  file = replicate 4 (Some None);
  table_a = [];
  table_b = [];
}
