-- Under NOFORCE the terminals go to the new active with their users.
use Rattle.std.specs.Prelude.{false, List, [], ◌∷◌, ◌++◌, replicate, codes, Some, None}
use Rattle.xrf_base.specs.declared.site.Site.TheVariants as site
use Rattle.xrf_base.specs.declared.site.Takeovr.TheVariants as takeovr
use Rattle.xrf_base.specs.declared.items.Item.TheVariants as items
use Rattle.xrf_base.specs.declared.items.ItemAnswer.TheVariants as answer
use Rattle.xrf_terms.specs.declared.rows.How.TheVariants as how
use Rattle.xrf_ctl.specs.declared.parts.Level.TheVariants as level
use Rattle.xrf_ctl.specs.declared.parts.OwnerState.TheVariants as state
use Rattle.xrf_ctl.specs.Control.{of_parts}
use Rattle.xrf_setup.specs.declared.choice.Choice.{Choice}
use Rattle.xrf_setup.specs.declared.choice.Choice.TheVariants as choice
use Rattle.xrf_setup.specs.declared.format.Format.TheVariants as format
use Rattle.xrf_setup.specs.Scenario.{Scen}
use Rattle.xrf_trace.specs.declared.entry.Act.TheVariants as act
use Rattle.xrf_trace.specs.declared.entry.Entry.{Entry}
use Rattle.xrf_trace.specs.declared.entry.Land.TheVariants as land
use Rattle.xrf_trace.specs.declared.entry.Who.TheVariants as who
use Rattle.xrf_examples.specs.Making.{Told, entry_of, owner_of}
use Rattle.xrf_examples.specs.Takeovers.{users_through, to_users_through}

abbrev pub scenario : Scen
scenario = record {
  settings = record {
    format = format.Two;
    applid_a = codes "CICSA";
    applid_b = codes "CICSB";
    takeovr = takeovr.Manual;
    adi = 30;
    pdi = 30;
    log = 64;
    ring = 16;
    file = 16;
    pace = 40;
    ticks = 60;
    images = false;
    level_a = level.Two;
    level_b = level.Two;
    force = false;
  };
  records = [];
  clt = [];
  work_a = items.Logon (codes "T1") 1 ∷ items.Signon (codes "T1") (codes "ANNA") ∷ items.Logon (codes "T2") 2 ∷ [];
  work_b = [];
  plan = [];
}

abbrev pub choices : List Choice
choices =
    to_users_through ++ replicate 3 (choice.Step site.B)

abbrev pub trace : List Entry
trace =
    entry_of 3 who.B 2 act.Restarted land.Full ∷
    entry_of 3 who.B 2 (act.LogRead 0) land.Full ∷
    entry_of 3 who.B 2 (act.MsgRead 5) land.Full ∷
    users_through

abbrev pub told : Told
told = record {
  answers_a = replicate 3 (Some answer.Done);
  answers_b = [];
  tick = 3;
  held = of_parts 2 2 (owner_of 2 site.B state.Running) None None;
  records = 0;
  done = 0;
  undone = 0;
  file = replicate 16 (Some None);
  table_a = [];
  table_b =
      record { term = codes "T1"; class = 1; how = how.Switched; user = Some (codes "ANNA") } ∷
      record { term = codes "T2"; class = 2; how = how.Acquired; user = None } ∷ [];
}
