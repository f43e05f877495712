-- A log of 64 slots that is used up answers LOGFULL to a PUT and still takes the COMMIT.
use Rattle.std.specs.Prelude.{false, List, [], ◌∷◌, ◌++◌, replicate, codes, Some, None}
use Rattle.xrf_base.specs.declared.site.Site.TheVariants as site
use Rattle.xrf_base.specs.declared.site.Takeovr.TheVariants as takeovr
use Rattle.xrf_base.specs.declared.items.Item.TheVariants as items
use Rattle.xrf_base.specs.declared.items.ItemAnswer.TheVariants as answer
use Rattle.xrf_base.specs.Values.{slot_of}
use Rattle.xrf_ctl.specs.declared.parts.Level.TheVariants as level
use Rattle.xrf_ctl.specs.declared.parts.OwnerState.TheVariants as state
use Rattle.xrf_ctl.specs.Control.{of_parts}
use Rattle.xrf_logrec.specs.declared.records.LogRec.TheVariants as rec
use Rattle.xrf_setup.specs.declared.choice.Choice.{Choice}
use Rattle.xrf_setup.specs.declared.choice.Choice.TheVariants as choice
use Rattle.xrf_setup.specs.declared.format.Format.TheVariants as format
use Rattle.xrf_setup.specs.Scenario.{Scen}
use Rattle.xrf_trace.specs.declared.entry.Act.TheVariants as act
use Rattle.xrf_trace.specs.declared.entry.Entry.{Entry}
use Rattle.xrf_trace.specs.declared.entry.Land.TheVariants as land
use Rattle.xrf_trace.specs.declared.entry.Who.TheVariants as who
use Rattle.xrf_examples.specs.Making.{Told, entry_of, owner_of, unit_of}
use Rattle.xrf_examples.specs.Beginnings.{restarted, to_restarted}

abbrev pub scenario : Scen
scenario = record {
  settings = record {
    format = format.One;
    applid_a = codes "CICSA";
    applid_b = codes "CICSB";
    takeovr = takeovr.Manual;
    adi = 30;
    pdi = 30;
    log = 64;
    ring = 16;
    file = 16;
    pace = 40;
    ticks = 60;
    images = false;
    level_a = level.One;
    level_b = level.One;
    force = false;
  };
  records = [];
  clt = [];
  work_a = items.Begin (codes "U1") ∷ replicate 64 (items.Put (codes "U1") 1 (codes "V")) ++ items.Commit (codes "U1") ∷ [];
  work_b = [];
  plan = [];
}

abbrev pub choices : List Choice
choices =
    to_restarted ++ replicate 320 (choice.Step site.A)

abbrev pub trace : List Entry
trace =
    entry_of 0 who.A 1 (act.LogOpen 63 (rec.Commit (unit_of 1 1))) land.Full ∷
    entry_of 0 who.A 1 (act.LogBody 63 (rec.Commit (unit_of 1 1))) land.Full ∷
    entry_of 0 who.A 1 (act.Item 66) land.Full ∷
    entry_of 0 who.A 1 (act.Item 65) land.Full ∷
    entry_of 0 who.A 1 (act.FileWrite (unit_of 1 1) 1 (codes "V")) land.Full ∷
    entry_of 0 who.A 1 (act.LogOpen 62 (rec.Put (unit_of 1 1) 1 (slot_of (Some (codes "V"))))) land.Full ∷
    entry_of 0 who.A 1 (act.LogBody 62 (rec.Put (unit_of 1 1) 1 (slot_of (Some (codes "V"))))) land.Full ∷
    entry_of 0 who.A 1 (act.FileRead 1) land.Full ∷
    entry_of 0 who.A 1 (act.Item 64) land.Full ∷
    entry_of 0 who.A 1 (act.FileWrite (unit_of 1 1) 1 (codes "V")) land.Full ∷
    entry_of 0 who.A 1 (act.LogOpen 61 (rec.Put (unit_of 1 1) 1 (slot_of (Some (codes "V"))))) land.Full ∷
    entry_of 0 who.A 1 (act.LogBody 61 (rec.Put (unit_of 1 1) 1 (slot_of (Some (codes "V"))))) land.Full ∷
    entry_of 0 who.A 1 (act.FileRead 1) land.Full ∷
    entry_of 0 who.A 1 (act.Item 63) land.Full ∷
    entry_of 0 who.A 1 (act.FileWrite (unit_of 1 1) 1 (codes "V")) land.Full ∷
    entry_of 0 who.A 1 (act.LogOpen 60 (rec.Put (unit_of 1 1) 1 (slot_of (Some (codes "V"))))) land.Full ∷
    entry_of 0 who.A 1 (act.LogBody 60 (rec.Put (unit_of 1 1) 1 (slot_of (Some (codes "V"))))) land.Full ∷
    entry_of 0 who.A 1 (act.FileRead 1) land.Full ∷
    entry_of 0 who.A 1 (act.Item 62) land.Full ∷
    entry_of 0 who.A 1 (act.FileWrite (unit_of 1 1) 1 (codes "V")) land.Full ∷
    entry_of 0 who.A 1 (act.LogOpen 59 (rec.Put (unit_of 1 1) 1 (slot_of (Some (codes "V"))))) land.Full ∷
    entry_of 0 who.A 1 (act.LogBody 59 (rec.Put (unit_of 1 1) 1 (slot_of (Some (codes "V"))))) land.Full ∷
    entry_of 0 who.A 1 (act.FileRead 1) land.Full ∷
    entry_of 0 who.A 1 (act.Item 61) land.Full ∷
    entry_of 0 who.A 1 (act.FileWrite (unit_of 1 1) 1 (codes "V")) land.Full ∷
    entry_of 0 who.A 1 (act.LogOpen 58 (rec.Put (unit_of 1 1) 1 (slot_of (Some (codes "V"))))) land.Full ∷
    entry_of 0 who.A 1 (act.LogBody 58 (rec.Put (unit_of 1 1) 1 (slot_of (Some (codes "V"))))) land.Full ∷
    entry_of 0 who.A 1 (act.FileRead 1) land.Full ∷
    entry_of 0 who.A 1 (act.Item 60) land.Full ∷
    entry_of 0 who.A 1 (act.FileWrite (unit_of 1 1) 1 (codes "V")) land.Full ∷
    entry_of 0 who.A 1 (act.LogOpen 57 (rec.Put (unit_of 1 1) 1 (slot_of (Some (codes "V"))))) land.Full ∷
    entry_of 0 who.A 1 (act.LogBody 57 (rec.Put (unit_of 1 1) 1 (slot_of (Some (codes "V"))))) land.Full ∷
    entry_of 0 who.A 1 (act.FileRead 1) land.Full ∷
    entry_of 0 who.A 1 (act.Item 59) land.Full ∷
    entry_of 0 who.A 1 (act.FileWrite (unit_of 1 1) 1 (codes "V")) land.Full ∷
    entry_of 0 who.A 1 (act.LogOpen 56 (rec.Put (unit_of 1 1) 1 (slot_of (Some (codes "V"))))) land.Full ∷
    entry_of 0 who.A 1 (act.LogBody 56 (rec.Put (unit_of 1 1) 1 (slot_of (Some (codes "V"))))) land.Full ∷
    entry_of 0 who.A 1 (act.FileRead 1) land.Full ∷
    entry_of 0 who.A 1 (act.Item 58) land.Full ∷
    entry_of 0 who.A 1 (act.FileWrite (unit_of 1 1) 1 (codes "V")) land.Full ∷
    entry_of 0 who.A 1 (act.LogOpen 55 (rec.Put (unit_of 1 1) 1 (slot_of (Some (codes "V"))))) land.Full ∷
    entry_of 0 who.A 1 (act.LogBody 55 (rec.Put (unit_of 1 1) 1 (slot_of (Some (codes "V"))))) land.Full ∷
    entry_of 0 who.A 1 (act.FileRead 1) land.Full ∷
    entry_of 0 who.A 1 (act.Item 57) land.Full ∷
    entry_of 0 who.A 1 (act.FileWrite (unit_of 1 1) 1 (codes "V")) land.Full ∷
    entry_of 0 who.A 1 (act.LogOpen 54 (rec.Put (unit_of 1 1) 1 (slot_of (Some (codes "V"))))) land.Full ∷
    entry_of 0 who.A 1 (act.LogBody 54 (rec.Put (unit_of 1 1) 1 (slot_of (Some (codes "V"))))) land.Full ∷
    entry_of 0 who.A 1 (act.FileRead 1) land.Full ∷
    entry_of 0 who.A 1 (act.Item 56) land.Full ∷
    entry_of 0 who.A 1 (act.FileWrite (unit_of 1 1) 1 (codes "V")) land.Full ∷
    entry_of 0 who.A 1 (act.LogOpen 53 (rec.Put (unit_of 1 1) 1 (slot_of (Some (codes "V"))))) land.Full ∷
    entry_of 0 who.A 1 (act.LogBody 53 (rec.Put (unit_of 1 1) 1 (slot_of (Some (codes "V"))))) land.Full ∷
    entry_of 0 who.A 1 (act.FileRead 1) land.Full ∷
    entry_of 0 who.A 1 (act.Item 55) land.Full ∷
    entry_of 0 who.A 1 (act.FileWrite (unit_of 1 1) 1 (codes "V")) land.Full ∷
    entry_of 0 who.A 1 (act.LogOpen 52 (rec.Put (unit_of 1 1) 1 (slot_of (Some (codes "V"))))) land.Full ∷
    entry_of 0 who.A 1 (act.LogBody 52 (rec.Put (unit_of 1 1) 1 (slot_of (Some (codes "V"))))) land.Full ∷
    entry_of 0 who.A 1 (act.FileRead 1) land.Full ∷
    entry_of 0 who.A 1 (act.Item 54) land.Full ∷
    entry_of 0 who.A 1 (act.FileWrite (unit_of 1 1) 1 (codes "V")) land.Full ∷
    entry_of 0 who.A 1 (act.LogOpen 51 (rec.Put (unit_of 1 1) 1 (slot_of (Some (codes "V"))))) land.Full ∷
    entry_of 0 who.A 1 (act.LogBody 51 (rec.Put (unit_of 1 1) 1 (slot_of (Some (codes "V"))))) land.Full ∷
    entry_of 0 who.A 1 (act.FileRead 1) land.Full ∷
    entry_of 0 who.A 1 (act.Item 53) land.Full ∷
    entry_of 0 who.A 1 (act.FileWrite (unit_of 1 1) 1 (codes "V")) land.Full ∷
    entry_of 0 who.A 1 (act.LogOpen 50 (rec.Put (unit_of 1 1) 1 (slot_of (Some (codes "V"))))) land.Full ∷
    entry_of 0 who.A 1 (act.LogBody 50 (rec.Put (unit_of 1 1) 1 (slot_of (Some (codes "V"))))) land.Full ∷
    entry_of 0 who.A 1 (act.FileRead 1) land.Full ∷
    entry_of 0 who.A 1 (act.Item 52) land.Full ∷
    entry_of 0 who.A 1 (act.FileWrite (unit_of 1 1) 1 (codes "V")) land.Full ∷
    entry_of 0 who.A 1 (act.LogOpen 49 (rec.Put (unit_of 1 1) 1 (slot_of (Some (codes "V"))))) land.Full ∷
    entry_of 0 who.A 1 (act.LogBody 49 (rec.Put (unit_of 1 1) 1 (slot_of (Some (codes "V"))))) land.Full ∷
    entry_of 0 who.A 1 (act.FileRead 1) land.Full ∷
    entry_of 0 who.A 1 (act.Item 51) land.Full ∷
    entry_of 0 who.A 1 (act.FileWrite (unit_of 1 1) 1 (codes "V")) land.Full ∷
    entry_of 0 who.A 1 (act.LogOpen 48 (rec.Put (unit_of 1 1) 1 (slot_of (Some (codes "V"))))) land.Full ∷
    entry_of 0 who.A 1 (act.LogBody 48 (rec.Put (unit_of 1 1) 1 (slot_of (Some (codes "V"))))) land.Full ∷
    entry_of 0 who.A 1 (act.FileRead 1) land.Full ∷
    entry_of 0 who.A 1 (act.Item 50) land.Full ∷
    entry_of 0 who.A 1 (act.FileWrite (unit_of 1 1) 1 (codes "V")) land.Full ∷
    entry_of 0 who.A 1 (act.LogOpen 47 (rec.Put (unit_of 1 1) 1 (slot_of (Some (codes "V"))))) land.Full ∷
    entry_of 0 who.A 1 (act.LogBody 47 (rec.Put (unit_of 1 1) 1 (slot_of (Some (codes "V"))))) land.Full ∷
    entry_of 0 who.A 1 (act.FileRead 1) land.Full ∷
    entry_of 0 who.A 1 (act.Item 49) land.Full ∷
    entry_of 0 who.A 1 (act.FileWrite (unit_of 1 1) 1 (codes "V")) land.Full ∷
    entry_of 0 who.A 1 (act.LogOpen 46 (rec.Put (unit_of 1 1) 1 (slot_of (Some (codes "V"))))) land.Full ∷
    entry_of 0 who.A 1 (act.LogBody 46 (rec.Put (unit_of 1 1) 1 (slot_of (Some (codes "V"))))) land.Full ∷
    entry_of 0 who.A 1 (act.FileRead 1) land.Full ∷
    entry_of 0 who.A 1 (act.Item 48) land.Full ∷
    entry_of 0 who.A 1 (act.FileWrite (unit_of 1 1) 1 (codes "V")) land.Full ∷
    entry_of 0 who.A 1 (act.LogOpen 45 (rec.Put (unit_of 1 1) 1 (slot_of (Some (codes "V"))))) land.Full ∷
    entry_of 0 who.A 1 (act.LogBody 45 (rec.Put (unit_of 1 1) 1 (slot_of (Some (codes "V"))))) land.Full ∷
    entry_of 0 who.A 1 (act.FileRead 1) land.Full ∷
    entry_of 0 who.A 1 (act.Item 47) land.Full ∷
    entry_of 0 who.A 1 (act.FileWrite (unit_of 1 1) 1 (codes "V")) land.Full ∷
    entry_of 0 who.A 1 (act.LogOpen 44 (rec.Put (unit_of 1 1) 1 (slot_of (Some (codes "V"))))) land.Full ∷
    entry_of 0 who.A 1 (act.LogBody 44 (rec.Put (unit_of 1 1) 1 (slot_of (Some (codes "V"))))) land.Full ∷
    entry_of 0 who.A 1 (act.FileRead 1) land.Full ∷
    entry_of 0 who.A 1 (act.Item 46) land.Full ∷
    entry_of 0 who.A 1 (act.FileWrite (unit_of 1 1) 1 (codes "V")) land.Full ∷
    entry_of 0 who.A 1 (act.LogOpen 43 (rec.Put (unit_of 1 1) 1 (slot_of (Some (codes "V"))))) land.Full ∷
    entry_of 0 who.A 1 (act.LogBody 43 (rec.Put (unit_of 1 1) 1 (slot_of (Some (codes "V"))))) land.Full ∷
    entry_of 0 who.A 1 (act.FileRead 1) land.Full ∷
    entry_of 0 who.A 1 (act.Item 45) land.Full ∷
    entry_of 0 who.A 1 (act.FileWrite (unit_of 1 1) 1 (codes "V")) land.Full ∷
    entry_of 0 who.A 1 (act.LogOpen 42 (rec.Put (unit_of 1 1) 1 (slot_of (Some (codes "V"))))) land.Full ∷
    entry_of 0 who.A 1 (act.LogBody 42 (rec.Put (unit_of 1 1) 1 (slot_of (Some (codes "V"))))) land.Full ∷
    entry_of 0 who.A 1 (act.FileRead 1) land.Full ∷
    entry_of 0 who.A 1 (act.Item 44) land.Full ∷
    entry_of 0 who.A 1 (act.FileWrite (unit_of 1 1) 1 (codes "V")) land.Full ∷
    entry_of 0 who.A 1 (act.LogOpen 41 (rec.Put (unit_of 1 1) 1 (slot_of (Some (codes "V"))))) land.Full ∷
    entry_of 0 who.A 1 (act.LogBody 41 (rec.Put (unit_of 1 1) 1 (slot_of (Some (codes "V"))))) land.Full ∷
    entry_of 0 who.A 1 (act.FileRead 1) land.Full ∷
    entry_of 0 who.A 1 (act.Item 43) land.Full ∷
    entry_of 0 who.A 1 (act.FileWrite (unit_of 1 1) 1 (codes "V")) land.Full ∷
    entry_of 0 who.A 1 (act.LogOpen 40 (rec.Put (unit_of 1 1) 1 (slot_of (Some (codes "V"))))) land.Full ∷
    entry_of 0 who.A 1 (act.LogBody 40 (rec.Put (unit_of 1 1) 1 (slot_of (Some (codes "V"))))) land.Full ∷
    entry_of 0 who.A 1 (act.FileRead 1) land.Full ∷
    entry_of 0 who.A 1 (act.Item 42) land.Full ∷
    entry_of 0 who.A 1 (act.FileWrite (unit_of 1 1) 1 (codes "V")) land.Full ∷
    entry_of 0 who.A 1 (act.LogOpen 39 (rec.Put (unit_of 1 1) 1 (slot_of (Some (codes "V"))))) land.Full ∷
    entry_of 0 who.A 1 (act.LogBody 39 (rec.Put (unit_of 1 1) 1 (slot_of (Some (codes "V"))))) land.Full ∷
    entry_of 0 who.A 1 (act.FileRead 1) land.Full ∷
    entry_of 0 who.A 1 (act.Item 41) land.Full ∷
    entry_of 0 who.A 1 (act.FileWrite (unit_of 1 1) 1 (codes "V")) land.Full ∷
    entry_of 0 who.A 1 (act.LogOpen 38 (rec.Put (unit_of 1 1) 1 (slot_of (Some (codes "V"))))) land.Full ∷
    entry_of 0 who.A 1 (act.LogBody 38 (rec.Put (unit_of 1 1) 1 (slot_of (Some (codes "V"))))) land.Full ∷
    entry_of 0 who.A 1 (act.FileRead 1) land.Full ∷
    entry_of 0 who.A 1 (act.Item 40) land.Full ∷
    entry_of 0 who.A 1 (act.FileWrite (unit_of 1 1) 1 (codes "V")) land.Full ∷
    entry_of 0 who.A 1 (act.LogOpen 37 (rec.Put (unit_of 1 1) 1 (slot_of (Some (codes "V"))))) land.Full ∷
    entry_of 0 who.A 1 (act.LogBody 37 (rec.Put (unit_of 1 1) 1 (slot_of (Some (codes "V"))))) land.Full ∷
    entry_of 0 who.A 1 (act.FileRead 1) land.Full ∷
    entry_of 0 who.A 1 (act.Item 39) land.Full ∷
    entry_of 0 who.A 1 (act.FileWrite (unit_of 1 1) 1 (codes "V")) land.Full ∷
    entry_of 0 who.A 1 (act.LogOpen 36 (rec.Put (unit_of 1 1) 1 (slot_of (Some (codes "V"))))) land.Full ∷
    entry_of 0 who.A 1 (act.LogBody 36 (rec.Put (unit_of 1 1) 1 (slot_of (Some (codes "V"))))) land.Full ∷
    entry_of 0 who.A 1 (act.FileRead 1) land.Full ∷
    entry_of 0 who.A 1 (act.Item 38) land.Full ∷
    entry_of 0 who.A 1 (act.FileWrite (unit_of 1 1) 1 (codes "V")) land.Full ∷
    entry_of 0 who.A 1 (act.LogOpen 35 (rec.Put (unit_of 1 1) 1 (slot_of (Some (codes "V"))))) land.Full ∷
    entry_of 0 who.A 1 (act.LogBody 35 (rec.Put (unit_of 1 1) 1 (slot_of (Some (codes "V"))))) land.Full ∷
    entry_of 0 who.A 1 (act.FileRead 1) land.Full ∷
    entry_of 0 who.A 1 (act.Item 37) land.Full ∷
    entry_of 0 who.A 1 (act.FileWrite (unit_of 1 1) 1 (codes "V")) land.Full ∷
    entry_of 0 who.A 1 (act.LogOpen 34 (rec.Put (unit_of 1 1) 1 (slot_of (Some (codes "V"))))) land.Full ∷
    entry_of 0 who.A 1 (act.LogBody 34 (rec.Put (unit_of 1 1) 1 (slot_of (Some (codes "V"))))) land.Full ∷
    entry_of 0 who.A 1 (act.FileRead 1) land.Full ∷
    entry_of 0 who.A 1 (act.Item 36) land.Full ∷
    entry_of 0 who.A 1 (act.FileWrite (unit_of 1 1) 1 (codes "V")) land.Full ∷
    entry_of 0 who.A 1 (act.LogOpen 33 (rec.Put (unit_of 1 1) 1 (slot_of (Some (codes "V"))))) land.Full ∷
    entry_of 0 who.A 1 (act.LogBody 33 (rec.Put (unit_of 1 1) 1 (slot_of (Some (codes "V"))))) land.Full ∷
    entry_of 0 who.A 1 (act.FileRead 1) land.Full ∷
    entry_of 0 who.A 1 (act.Item 35) land.Full ∷
    entry_of 0 who.A 1 (act.FileWrite (unit_of 1 1) 1 (codes "V")) land.Full ∷
    entry_of 0 who.A 1 (act.LogOpen 32 (rec.Put (unit_of 1 1) 1 (slot_of (Some (codes "V"))))) land.Full ∷
    entry_of 0 who.A 1 (act.LogBody 32 (rec.Put (unit_of 1 1) 1 (slot_of (Some (codes "V"))))) land.Full ∷
    entry_of 0 who.A 1 (act.FileRead 1) land.Full ∷
    entry_of 0 who.A 1 (act.Item 34) land.Full ∷
    entry_of 0 who.A 1 (act.FileWrite (unit_of 1 1) 1 (codes "V")) land.Full ∷
    entry_of 0 who.A 1 (act.LogOpen 31 (rec.Put (unit_of 1 1) 1 (slot_of (Some (codes "V"))))) land.Full ∷
    entry_of 0 who.A 1 (act.LogBody 31 (rec.Put (unit_of 1 1) 1 (slot_of (Some (codes "V"))))) land.Full ∷
    entry_of 0 who.A 1 (act.FileRead 1) land.Full ∷
    entry_of 0 who.A 1 (act.Item 33) land.Full ∷
    entry_of 0 who.A 1 (act.FileWrite (unit_of 1 1) 1 (codes "V")) land.Full ∷
    entry_of 0 who.A 1 (act.LogOpen 30 (rec.Put (unit_of 1 1) 1 (slot_of (Some (codes "V"))))) land.Full ∷
    entry_of 0 who.A 1 (act.LogBody 30 (rec.Put (unit_of 1 1) 1 (slot_of (Some (codes "V"))))) land.Full ∷
    entry_of 0 who.A 1 (act.FileRead 1) land.Full ∷
    entry_of 0 who.A 1 (act.Item 32) land.Full ∷
    entry_of 0 who.A 1 (act.FileWrite (unit_of 1 1) 1 (codes "V")) land.Full ∷
    entry_of 0 who.A 1 (act.LogOpen 29 (rec.Put (unit_of 1 1) 1 (slot_of (Some (codes "V"))))) land.Full ∷
    entry_of 0 who.A 1 (act.LogBody 29 (rec.Put (unit_of 1 1) 1 (slot_of (Some (codes "V"))))) land.Full ∷
    entry_of 0 who.A 1 (act.FileRead 1) land.Full ∷
    entry_of 0 who.A 1 (act.Item 31) land.Full ∷
    entry_of 0 who.A 1 (act.FileWrite (unit_of 1 1) 1 (codes "V")) land.Full ∷
    entry_of 0 who.A 1 (act.LogOpen 28 (rec.Put (unit_of 1 1) 1 (slot_of (Some (codes "V"))))) land.Full ∷
    entry_of 0 who.A 1 (act.LogBody 28 (rec.Put (unit_of 1 1) 1 (slot_of (Some (codes "V"))))) land.Full ∷
    entry_of 0 who.A 1 (act.FileRead 1) land.Full ∷
    entry_of 0 who.A 1 (act.Item 30) land.Full ∷
    entry_of 0 who.A 1 (act.FileWrite (unit_of 1 1) 1 (codes "V")) land.Full ∷
    entry_of 0 who.A 1 (act.LogOpen 27 (rec.Put (unit_of 1 1) 1 (slot_of (Some (codes "V"))))) land.Full ∷
    entry_of 0 who.A 1 (act.LogBody 27 (rec.Put (unit_of 1 1) 1 (slot_of (Some (codes "V"))))) land.Full ∷
    entry_of 0 who.A 1 (act.FileRead 1) land.Full ∷
    entry_of 0 who.A 1 (act.Item 29) land.Full ∷
    entry_of 0 who.A 1 (act.FileWrite (unit_of 1 1) 1 (codes "V")) land.Full ∷
    entry_of 0 who.A 1 (act.LogOpen 26 (rec.Put (unit_of 1 1) 1 (slot_of (Some (codes "V"))))) land.Full ∷
    entry_of 0 who.A 1 (act.LogBody 26 (rec.Put (unit_of 1 1) 1 (slot_of (Some (codes "V"))))) land.Full ∷
    entry_of 0 who.A 1 (act.FileRead 1) land.Full ∷
    entry_of 0 who.A 1 (act.Item 28) land.Full ∷
    entry_of 0 who.A 1 (act.FileWrite (unit_of 1 1) 1 (codes "V")) land.Full ∷
    entry_of 0 who.A 1 (act.LogOpen 25 (rec.Put (unit_of 1 1) 1 (slot_of (Some (codes "V"))))) land.Full ∷
    entry_of 0 who.A 1 (act.LogBody 25 (rec.Put (unit_of 1 1) 1 (slot_of (Some (codes "V"))))) land.Full ∷
    entry_of 0 who.A 1 (act.FileRead 1) land.Full ∷
    entry_of 0 who.A 1 (act.Item 27) land.Full ∷
    entry_of 0 who.A 1 (act.FileWrite (unit_of 1 1) 1 (codes "V")) land.Full ∷
    entry_of 0 who.A 1 (act.LogOpen 24 (rec.Put (unit_of 1 1) 1 (slot_of (Some (codes "V"))))) land.Full ∷
    entry_of 0 who.A 1 (act.LogBody 24 (rec.Put (unit_of 1 1) 1 (slot_of (Some (codes "V"))))) land.Full ∷
    entry_of 0 who.A 1 (act.FileRead 1) land.Full ∷
    entry_of 0 who.A 1 (act.Item 26) land.Full ∷
    entry_of 0 who.A 1 (act.FileWrite (unit_of 1 1) 1 (codes "V")) land.Full ∷
    entry_of 0 who.A 1 (act.LogOpen 23 (rec.Put (unit_of 1 1) 1 (slot_of (Some (codes "V"))))) land.Full ∷
    entry_of 0 who.A 1 (act.LogBody 23 (rec.Put (unit_of 1 1) 1 (slot_of (Some (codes "V"))))) land.Full ∷
    entry_of 0 who.A 1 (act.FileRead 1) land.Full ∷
    entry_of 0 who.A 1 (act.Item 25) land.Full ∷
    entry_of 0 who.A 1 (act.FileWrite (unit_of 1 1) 1 (codes "V")) land.Full ∷
    entry_of 0 who.A 1 (act.LogOpen 22 (rec.Put (unit_of 1 1) 1 (slot_of (Some (codes "V"))))) land.Full ∷
    entry_of 0 who.A 1 (act.LogBody 22 (rec.Put (unit_of 1 1) 1 (slot_of (Some (codes "V"))))) land.Full ∷
    entry_of 0 who.A 1 (act.FileRead 1) land.Full ∷
    entry_of 0 who.A 1 (act.Item 24) land.Full ∷
    entry_of 0 who.A 1 (act.FileWrite (unit_of 1 1) 1 (codes "V")) land.Full ∷
    entry_of 0 who.A 1 (act.LogOpen 21 (rec.Put (unit_of 1 1) 1 (slot_of (Some (codes "V"))))) land.Full ∷
    entry_of 0 who.A 1 (act.LogBody 21 (rec.Put (unit_of 1 1) 1 (slot_of (Some (codes "V"))))) land.Full ∷
    entry_of 0 who.A 1 (act.FileRead 1) land.Full ∷
    entry_of 0 who.A 1 (act.Item 23) land.Full ∷
    entry_of 0 who.A 1 (act.FileWrite (unit_of 1 1) 1 (codes "V")) land.Full ∷
    entry_of 0 who.A 1 (act.LogOpen 20 (rec.Put (unit_of 1 1) 1 (slot_of (Some (codes "V"))))) land.Full ∷
    entry_of 0 who.A 1 (act.LogBody 20 (rec.Put (unit_of 1 1) 1 (slot_of (Some (codes "V"))))) land.Full ∷
    entry_of 0 who.A 1 (act.FileRead 1) land.Full ∷
    entry_of 0 who.A 1 (act.Item 22) land.Full ∷
    entry_of 0 who.A 1 (act.FileWrite (unit_of 1 1) 1 (codes "V")) land.Full ∷
    entry_of 0 who.A 1 (act.LogOpen 19 (rec.Put (unit_of 1 1) 1 (slot_of (Some (codes "V"))))) land.Full ∷
    entry_of 0 who.A 1 (act.LogBody 19 (rec.Put (unit_of 1 1) 1 (slot_of (Some (codes "V"))))) land.Full ∷
    entry_of 0 who.A 1 (act.FileRead 1) land.Full ∷
    entry_of 0 who.A 1 (act.Item 21) land.Full ∷
    entry_of 0 who.A 1 (act.FileWrite (unit_of 1 1) 1 (codes "V")) land.Full ∷
    entry_of 0 who.A 1 (act.LogOpen 18 (rec.Put (unit_of 1 1) 1 (slot_of (Some (codes "V"))))) land.Full ∷
    entry_of 0 who.A 1 (act.LogBody 18 (rec.Put (unit_of 1 1) 1 (slot_of (Some (codes "V"))))) land.Full ∷
    entry_of 0 who.A 1 (act.FileRead 1) land.Full ∷
    entry_of 0 who.A 1 (act.Item 20) land.Full ∷
    entry_of 0 who.A 1 (act.FileWrite (unit_of 1 1) 1 (codes "V")) land.Full ∷
    entry_of 0 who.A 1 (act.LogOpen 17 (rec.Put (unit_of 1 1) 1 (slot_of (Some (codes "V"))))) land.Full ∷
    entry_of 0 who.A 1 (act.LogBody 17 (rec.Put (unit_of 1 1) 1 (slot_of (Some (codes "V"))))) land.Full ∷
    entry_of 0 who.A 1 (act.FileRead 1) land.Full ∷
    entry_of 0 who.A 1 (act.Item 19) land.Full ∷
    entry_of 0 who.A 1 (act.FileWrite (unit_of 1 1) 1 (codes "V")) land.Full ∷
    entry_of 0 who.A 1 (act.LogOpen 16 (rec.Put (unit_of 1 1) 1 (slot_of (Some (codes "V"))))) land.Full ∷
    entry_of 0 who.A 1 (act.LogBody 16 (rec.Put (unit_of 1 1) 1 (slot_of (Some (codes "V"))))) land.Full ∷
    entry_of 0 who.A 1 (act.FileRead 1) land.Full ∷
    entry_of 0 who.A 1 (act.Item 18) land.Full ∷
    entry_of 0 who.A 1 (act.FileWrite (unit_of 1 1) 1 (codes "V")) land.Full ∷
    entry_of 0 who.A 1 (act.LogOpen 15 (rec.Put (unit_of 1 1) 1 (slot_of (Some (codes "V"))))) land.Full ∷
    entry_of 0 who.A 1 (act.LogBody 15 (rec.Put (unit_of 1 1) 1 (slot_of (Some (codes "V"))))) land.Full ∷
    entry_of 0 who.A 1 (act.FileRead 1) land.Full ∷
    entry_of 0 who.A 1 (act.Item 17) land.Full ∷
    entry_of 0 who.A 1 (act.FileWrite (unit_of 1 1) 1 (codes "V")) land.Full ∷
    entry_of 0 who.A 1 (act.LogOpen 14 (rec.Put (unit_of 1 1) 1 (slot_of (Some (codes "V"))))) land.Full ∷
    entry_of 0 who.A 1 (act.LogBody 14 (rec.Put (unit_of 1 1) 1 (slot_of (Some (codes "V"))))) land.Full ∷
    entry_of 0 who.A 1 (act.FileRead 1) land.Full ∷
    entry_of 0 who.A 1 (act.Item 16) land.Full ∷
    entry_of 0 who.A 1 (act.FileWrite (unit_of 1 1) 1 (codes "V")) land.Full ∷
    entry_of 0 who.A 1 (act.LogOpen 13 (rec.Put (unit_of 1 1) 1 (slot_of (Some (codes "V"))))) land.Full ∷
    entry_of 0 who.A 1 (act.LogBody 13 (rec.Put (unit_of 1 1) 1 (slot_of (Some (codes "V"))))) land.Full ∷
    entry_of 0 who.A 1 (act.FileRead 1) land.Full ∷
    entry_of 0 who.A 1 (act.Item 15) land.Full ∷
    entry_of 0 who.A 1 (act.FileWrite (unit_of 1 1) 1 (codes "V")) land.Full ∷
    entry_of 0 who.A 1 (act.LogOpen 12 (rec.Put (unit_of 1 1) 1 (slot_of (Some (codes "V"))))) land.Full ∷
    entry_of 0 who.A 1 (act.LogBody 12 (rec.Put (unit_of 1 1) 1 (slot_of (Some (codes "V"))))) land.Full ∷
    entry_of 0 who.A 1 (act.FileRead 1) land.Full ∷
    entry_of 0 who.A 1 (act.Item 14) land.Full ∷
    entry_of 0 who.A 1 (act.FileWrite (unit_of 1 1) 1 (codes "V")) land.Full ∷
    entry_of 0 who.A 1 (act.LogOpen 11 (rec.Put (unit_of 1 1) 1 (slot_of (Some (codes "V"))))) land.Full ∷
    entry_of 0 who.A 1 (act.LogBody 11 (rec.Put (unit_of 1 1) 1 (slot_of (Some (codes "V"))))) land.Full ∷
    entry_of 0 who.A 1 (act.FileRead 1) land.Full ∷
    entry_of 0 who.A 1 (act.Item 13) land.Full ∷
    entry_of 0 who.A 1 (act.FileWrite (unit_of 1 1) 1 (codes "V")) land.Full ∷
    entry_of 0 who.A 1 (act.LogOpen 10 (rec.Put (unit_of 1 1) 1 (slot_of (Some (codes "V"))))) land.Full ∷
    entry_of 0 who.A 1 (act.LogBody 10 (rec.Put (unit_of 1 1) 1 (slot_of (Some (codes "V"))))) land.Full ∷
    entry_of 0 who.A 1 (act.FileRead 1) land.Full ∷
    entry_of 0 who.A 1 (act.Item 12) land.Full ∷
    entry_of 0 who.A 1 (act.FileWrite (unit_of 1 1) 1 (codes "V")) land.Full ∷
    entry_of 0 who.A 1 (act.LogOpen 9 (rec.Put (unit_of 1 1) 1 (slot_of (Some (codes "V"))))) land.Full ∷
    entry_of 0 who.A 1 (act.LogBody 9 (rec.Put (unit_of 1 1) 1 (slot_of (Some (codes "V"))))) land.Full ∷
    entry_of 0 who.A 1 (act.FileRead 1) land.Full ∷
    entry_of 0 who.A 1 (act.Item 11) land.Full ∷
    entry_of 0 who.A 1 (act.FileWrite (unit_of 1 1) 1 (codes "V")) land.Full ∷
    entry_of 0 who.A 1 (act.LogOpen 8 (rec.Put (unit_of 1 1) 1 (slot_of (Some (codes "V"))))) land.Full ∷
    entry_of 0 who.A 1 (act.LogBody 8 (rec.Put (unit_of 1 1) 1 (slot_of (Some (codes "V"))))) land.Full ∷
    entry_of 0 who.A 1 (act.FileRead 1) land.Full ∷
    entry_of 0 who.A 1 (act.Item 10) land.Full ∷
    entry_of 0 who.A 1 (act.FileWrite (unit_of 1 1) 1 (codes "V")) land.Full ∷
    entry_of 0 who.A 1 (act.LogOpen 7 (rec.Put (unit_of 1 1) 1 (slot_of (Some (codes "V"))))) land.Full ∷
    entry_of 0 who.A 1 (act.LogBody 7 (rec.Put (unit_of 1 1) 1 (slot_of (Some (codes "V"))))) land.Full ∷
    entry_of 0 who.A 1 (act.FileRead 1) land.Full ∷
    entry_of 0 who.A 1 (act.Item 9) land.Full ∷
    entry_of 0 who.A 1 (act.FileWrite (unit_of 1 1) 1 (codes "V")) land.Full ∷
    entry_of 0 who.A 1 (act.LogOpen 6 (rec.Put (unit_of 1 1) 1 (slot_of (Some (codes "V"))))) land.Full ∷
    entry_of 0 who.A 1 (act.LogBody 6 (rec.Put (unit_of 1 1) 1 (slot_of (Some (codes "V"))))) land.Full ∷
    entry_of 0 who.A 1 (act.FileRead 1) land.Full ∷
    entry_of 0 who.A 1 (act.Item 8) land.Full ∷
    entry_of 0 who.A 1 (act.FileWrite (unit_of 1 1) 1 (codes "V")) land.Full ∷
    entry_of 0 who.A 1 (act.LogOpen 5 (rec.Put (unit_of 1 1) 1 (slot_of (Some (codes "V"))))) land.Full ∷
    entry_of 0 who.A 1 (act.LogBody 5 (rec.Put (unit_of 1 1) 1 (slot_of (Some (codes "V"))))) land.Full ∷
    entry_of 0 who.A 1 (act.FileRead 1) land.Full ∷
    entry_of 0 who.A 1 (act.Item 7) land.Full ∷
    entry_of 0 who.A 1 (act.FileWrite (unit_of 1 1) 1 (codes "V")) land.Full ∷
    entry_of 0 who.A 1 (act.LogOpen 4 (rec.Put (unit_of 1 1) 1 (slot_of (Some (codes "V"))))) land.Full ∷
    entry_of 0 who.A 1 (act.LogBody 4 (rec.Put (unit_of 1 1) 1 (slot_of (Some (codes "V"))))) land.Full ∷
    entry_of 0 who.A 1 (act.FileRead 1) land.Full ∷
    entry_of 0 who.A 1 (act.Item 6) land.Full ∷
    entry_of 0 who.A 1 (act.FileWrite (unit_of 1 1) 1 (codes "V")) land.Full ∷
    entry_of 0 who.A 1 (act.LogOpen 3 (rec.Put (unit_of 1 1) 1 (slot_of (Some (codes "V"))))) land.Full ∷
    entry_of 0 who.A 1 (act.LogBody 3 (rec.Put (unit_of 1 1) 1 (slot_of (Some (codes "V"))))) land.Full ∷
    entry_of 0 who.A 1 (act.FileRead 1) land.Full ∷
    entry_of 0 who.A 1 (act.Item 5) land.Full ∷
    entry_of 0 who.A 1 (act.FileWrite (unit_of 1 1) 1 (codes "V")) land.Full ∷
    entry_of 0 who.A 1 (act.LogOpen 2 (rec.Put (unit_of 1 1) 1 (slot_of (Some (codes "V"))))) land.Full ∷
    entry_of 0 who.A 1 (act.LogBody 2 (rec.Put (unit_of 1 1) 1 (slot_of (Some (codes "V"))))) land.Full ∷
    entry_of 0 who.A 1 (act.FileRead 1) land.Full ∷
    entry_of 0 who.A 1 (act.Item 4) land.Full ∷
    entry_of 0 who.A 1 (act.FileWrite (unit_of 1 1) 1 (codes "V")) land.Full ∷
    entry_of 0 who.A 1 (act.LogOpen 1 (rec.Put (unit_of 1 1) 1 (slot_of (Some (codes "V"))))) land.Full ∷
    entry_of 0 who.A 1 (act.LogBody 1 (rec.Put (unit_of 1 1) 1 (slot_of (Some (codes "V"))))) land.Full ∷
    entry_of 0 who.A 1 (act.FileRead 1) land.Full ∷
    entry_of 0 who.A 1 (act.Item 3) land.Full ∷
    entry_of 0 who.A 1 (act.FileWrite (unit_of 1 1) 1 (codes "V")) land.Full ∷
    entry_of 0 who.A 1 (act.LogOpen 0 (rec.Put (unit_of 1 1) 1 (slot_of None))) land.Full ∷
    entry_of 0 who.A 1 (act.LogBody 0 (rec.Put (unit_of 1 1) 1 (slot_of None))) land.Full ∷
    entry_of 0 who.A 1 (act.FileRead 1) land.Full ∷
    entry_of 0 who.A 1 (act.Item 2) land.Full ∷
    entry_of 0 who.A 1 (act.Item 1) land.Full ∷
    restarted

abbrev pub told : Told
told = record {
  answers_a = replicate 64 (Some answer.Done) ++ Some answer.LogFull ∷ Some answer.Done ∷ [];
  answers_b = [];
  tick = 0;
  held = of_parts 1 1 (owner_of 1 site.A state.Running) None None;
  records = 64;
  done = 1;
  undone = 0;
  file = Some (Some (codes "V")) ∷ replicate 15 (Some None);
  table_a = [];
  table_b = [];
}
