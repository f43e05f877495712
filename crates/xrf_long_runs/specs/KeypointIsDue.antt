-- The third keypoint is due, and its slot has been read.
use Rattle.std.specs.Prelude.{false, List, [], ◌∷◌, ◌++◌, replicate, codes, Some}
use Rattle.xrf_base.specs.declared.site.Site.TheVariants as site
use Rattle.xrf_base.specs.declared.site.Takeovr.TheVariants as takeovr
use Rattle.xrf_base.specs.declared.items.Item.TheVariants as items
use Rattle.xrf_base.specs.Values.{slot_of}
use Rattle.xrf_ctl.specs.declared.parts.Level.TheVariants as level
use Rattle.xrf_logrec.specs.declared.records.LogRec.TheVariants as rec
use Rattle.xrf_setup.specs.declared.choice.Choice.{Choice}
use Rattle.xrf_setup.specs.declared.choice.Choice.TheVariants as choice
use Rattle.xrf_setup.specs.declared.format.Format.TheVariants as format
use Rattle.xrf_setup.specs.Scenario.{Scen}
use Rattle.xrf_trace.specs.declared.entry.Act.TheVariants as act
use Rattle.xrf_trace.specs.declared.entry.Entry.{Entry}
use Rattle.xrf_trace.specs.declared.entry.Land.TheVariants as land
use Rattle.xrf_trace.specs.declared.entry.Who.TheVariants as who
use Rattle.xrf_examples.specs.Making.{entry_of, unit_of}
use Rattle.xrf_long_runs.specs.LogGoesRound.{log_goes_round, to_log_goes_round}

abbrev pub scenario : Scen
scenario = record {
  settings = record {
    format = format.One;
    applid_a = codes "CICSA";
    applid_b = codes "CICSB";
    takeovr = takeovr.Manual;
    adi = 30;
    pdi = 30;
    log = 64;
    ring = 16;
    file = 4;
    pace = 40;
    ticks = 60;
    images = false;
    level_a = level.One;
    level_b = level.One;
    force = false;
  };
  records = [];
  clt = [];
  work_a =
      items.Begin (codes "U1") ∷ items.Put (codes "U1") 1 (codes "V1") ∷ items.Put (codes "U1") 2 (codes "W1") ∷ items.Commit (codes "U1") ∷
      items.Begin (codes "U1") ∷ items.Put (codes "U1") 1 (codes "V2") ∷ items.Put (codes "U1") 2 (codes "W2") ∷ items.Commit (codes "U1") ∷
      items.Begin (codes "U1") ∷ items.Put (codes "U1") 1 (codes "V3") ∷ items.Put (codes "U1") 2 (codes "W3") ∷ items.Commit (codes "U1") ∷
      items.Begin (codes "U1") ∷ items.Put (codes "U1") 1 (codes "V4") ∷ items.Put (codes "U1") 2 (codes "W4") ∷ items.Commit (codes "U1") ∷
      items.Begin (codes "U1") ∷ items.Put (codes "U1") 1 (codes "V5") ∷ items.Put (codes "U1") 2 (codes "W5") ∷ items.Commit (codes "U1") ∷
      items.Begin (codes "U1") ∷ items.Put (codes "U1") 1 (codes "V6") ∷ items.Put (codes "U1") 2 (codes "W6") ∷ items.Commit (codes "U1") ∷
      items.Begin (codes "U1") ∷ items.Put (codes "U1") 1 (codes "V7") ∷ items.Put (codes "U1") 2 (codes "W7") ∷ items.Commit (codes "U1") ∷
      items.Begin (codes "U1") ∷ items.Put (codes "U1") 1 (codes "V8") ∷ items.Put (codes "U1") 2 (codes "W8") ∷ items.Commit (codes "U1") ∷
      items.Begin (codes "U1") ∷ items.Put (codes "U1") 1 (codes "V9") ∷ items.Put (codes "U1") 2 (codes "W9") ∷ items.Commit (codes "U1") ∷
      items.Begin (codes "U1") ∷ items.Put (codes "U1") 1 (codes "V10") ∷ items.Put (codes "U1") 2 (codes "W10") ∷ items.Commit (codes "U1") ∷
      items.Begin (codes "U1") ∷ items.Put (codes "U1") 1 (codes "V11") ∷ items.Put (codes "U1") 2 (codes "W11") ∷ items.Commit (codes "U1") ∷
      items.Begin (codes "U1") ∷ items.Put (codes "U1") 1 (codes "V12") ∷ items.Put (codes "U1") 2 (codes "W12") ∷ items.Commit (codes "U1") ∷
      items.Begin (codes "U1") ∷ items.Put (codes "U1") 1 (codes "V13") ∷ items.Put (codes "U1") 2 (codes "W13") ∷ items.Commit (codes "U1") ∷
      items.Begin (codes "U1") ∷ items.Put (codes "U1") 1 (codes "V14") ∷ items.Put (codes "U1") 2 (codes "W14") ∷ items.Commit (codes "U1") ∷
      items.Begin (codes "U1") ∷ items.Put (codes "U1") 1 (codes "V15") ∷ items.Put (codes "U1") 2 (codes "W15") ∷ items.Commit (codes "U1") ∷
      items.Begin (codes "U1") ∷ items.Put (codes "U1") 1 (codes "V16") ∷ items.Put (codes "U1") 2 (codes "W16") ∷ items.Commit (codes "U1") ∷
      items.Begin (codes "U1") ∷ items.Put (codes "U1") 1 (codes "V17") ∷ items.Put (codes "U1") 2 (codes "W17") ∷ items.Commit (codes "U1") ∷
      items.Begin (codes "U1") ∷ items.Put (codes "U1") 1 (codes "V18") ∷ items.Put (codes "U1") 2 (codes "W18") ∷ items.Commit (codes "U1") ∷
      items.Begin (codes "U1") ∷ items.Put (codes "U1") 1 (codes "V19") ∷ items.Put (codes "U1") 2 (codes "W19") ∷ items.Commit (codes "U1") ∷
      items.Begin (codes "U1") ∷ items.Put (codes "U1") 1 (codes "V20") ∷ items.Put (codes "U1") 2 (codes "W20") ∷ items.Commit (codes "U1") ∷
      items.Begin (codes "U1") ∷ items.Put (codes "U1") 1 (codes "V21") ∷ items.Put (codes "U1") 2 (codes "W21") ∷ items.Commit (codes "U1") ∷
      items.Begin (codes "U1") ∷ items.Put (codes "U1") 1 (codes "V22") ∷ items.Put (codes "U1") 2 (codes "W22") ∷ items.Commit (codes "U1") ∷
      items.Begin (codes "U1") ∷ items.Put (codes "U1") 1 (codes "V23") ∷ items.Put (codes "U1") 2 (codes "W23") ∷ items.Commit (codes "U1") ∷
      items.Begin (codes "U1") ∷ items.Put (codes "U1") 1 (codes "V24") ∷ items.Put (codes "U1") 2 (codes "W24") ∷ items.Commit (codes "U1") ∷
      items.Begin (codes "U1") ∷ items.Put (codes "U1") 1 (codes "V25") ∷ items.Put (codes "U1") 2 (codes "W25") ∷ items.Commit (codes "U1") ∷
      items.Begin (codes "U1") ∷ items.Put (codes "U1") 1 (codes "V26") ∷ items.Put (codes "U1") 2 (codes "W26") ∷ items.Commit (codes "U1") ∷
      items.Begin (codes "U1") ∷ items.Put (codes "U1") 1 (codes "V27") ∷ items.Put (codes "U1") 2 (codes "W27") ∷ items.Commit (codes "U1") ∷
      items.Begin (codes "U1") ∷ items.Put (codes "U1") 1 (codes "V28") ∷ items.Put (codes "U1") 2 (codes "W28") ∷ items.Commit (codes "U1") ∷
      items.Begin (codes "U1") ∷ items.Put (codes "U1") 1 (codes "V29") ∷ items.Put (codes "U1") 2 (codes "W29") ∷ items.Commit (codes "U1") ∷
      items.Begin (codes "U1") ∷ items.Put (codes "U1") 1 (codes "V30") ∷ items.Put (codes "U1") 2 (codes "W30") ∷ items.Commit (codes "U1") ∷
      items.Begin (codes "U1") ∷ items.Put (codes "U1") 1 (codes "V31") ∷ items.Put (codes "U1") 2 (codes "W31") ∷ items.Commit (codes "U1") ∷
      items.Begin (codes "U1") ∷ items.Put (codes "U1") 1 (codes "V32") ∷ items.Put (codes "U1") 2 (codes "W32") ∷ items.Commit (codes "U1") ∷
      items.Begin (codes "U1") ∷ items.Put (codes "U1") 1 (codes "V33") ∷ items.Put (codes "U1") 2 (codes "W33") ∷ items.Commit (codes "U1") ∷ [];
  work_b = [];
  plan = [];
}

abbrev pub to_keypoint_is_due : List Choice
to_keypoint_is_due =
    to_log_goes_round ++ replicate 177 (choice.Step site.A)

abbrev pub keypoint_is_due : List Entry
keypoint_is_due =
    entry_of 0 who.A 1 (act.KpRead 1) land.Full ∷
    entry_of 0 who.A 1 (act.FileWrite (unit_of 1 31) 2 (codes "W31")) land.Full ∷
    entry_of 0 who.A 1 (act.LogOpen 91 (rec.Put (unit_of 1 31) 2 (slot_of (Some (codes "W30"))))) land.Full ∷
    entry_of 0 who.A 1 (act.LogBody 91 (rec.Put (unit_of 1 31) 2 (slot_of (Some (codes "W30"))))) land.Full ∷
    entry_of 0 who.A 1 (act.LogClose 91) land.Full ∷
    entry_of 0 who.A 1 (act.LogLook 91) land.Full ∷
    entry_of 0 who.A 1 (act.FileRead 2) land.Full ∷
    entry_of 0 who.A 1 (act.Item 123) land.Full ∷
    entry_of 0 who.A 1 (act.FileWrite (unit_of 1 31) 1 (codes "V31")) land.Full ∷
    entry_of 0 who.A 1 (act.LogOpen 90 (rec.Put (unit_of 1 31) 1 (slot_of (Some (codes "V30"))))) land.Full ∷
    entry_of 0 who.A 1 (act.LogBody 90 (rec.Put (unit_of 1 31) 1 (slot_of (Some (codes "V30"))))) land.Full ∷
    entry_of 0 who.A 1 (act.LogClose 90) land.Full ∷
    entry_of 0 who.A 1 (act.LogLook 90) land.Full ∷
    entry_of 0 who.A 1 (act.FileRead 1) land.Full ∷
    entry_of 0 who.A 1 (act.Item 122) land.Full ∷
    entry_of 0 who.A 1 (act.Item 121) land.Full ∷
    entry_of 0 who.A 1 (act.LogOpen 89 (rec.Commit (unit_of 1 30))) land.Full ∷
    entry_of 0 who.A 1 (act.LogBody 89 (rec.Commit (unit_of 1 30))) land.Full ∷
    entry_of 0 who.A 1 (act.LogClose 89) land.Full ∷
    entry_of 0 who.A 1 (act.LogLook 89) land.Full ∷
    entry_of 0 who.A 1 (act.Item 120) land.Full ∷
    entry_of 0 who.A 1 (act.FileWrite (unit_of 1 30) 2 (codes "W30")) land.Full ∷
    entry_of 0 who.A 1 (act.LogOpen 88 (rec.Put (unit_of 1 30) 2 (slot_of (Some (codes "W29"))))) land.Full ∷
    entry_of 0 who.A 1 (act.LogBody 88 (rec.Put (unit_of 1 30) 2 (slot_of (Some (codes "W29"))))) land.Full ∷
    entry_of 0 who.A 1 (act.LogClose 88) land.Full ∷
    entry_of 0 who.A 1 (act.LogLook 88) land.Full ∷
    entry_of 0 who.A 1 (act.FileRead 2) land.Full ∷
    entry_of 0 who.A 1 (act.Item 119) land.Full ∷
    entry_of 0 who.A 1 (act.FileWrite (unit_of 1 30) 1 (codes "V30")) land.Full ∷
    entry_of 0 who.A 1 (act.LogOpen 87 (rec.Put (unit_of 1 30) 1 (slot_of (Some (codes "V29"))))) land.Full ∷
    entry_of 0 who.A 1 (act.LogBody 87 (rec.Put (unit_of 1 30) 1 (slot_of (Some (codes "V29"))))) land.Full ∷
    entry_of 0 who.A 1 (act.LogClose 87) land.Full ∷
    entry_of 0 who.A 1 (act.LogLook 87) land.Full ∷
    entry_of 0 who.A 1 (act.FileRead 1) land.Full ∷
    entry_of 0 who.A 1 (act.Item 118) land.Full ∷
    entry_of 0 who.A 1 (act.Item 117) land.Full ∷
    entry_of 0 who.A 1 (act.LogOpen 86 (rec.Commit (unit_of 1 29))) land.Full ∷
    entry_of 0 who.A 1 (act.LogBody 86 (rec.Commit (unit_of 1 29))) land.Full ∷
    entry_of 0 who.A 1 (act.LogClose 86) land.Full ∷
    entry_of 0 who.A 1 (act.LogLook 86) land.Full ∷
    entry_of 0 who.A 1 (act.Item 116) land.Full ∷
    entry_of 0 who.A 1 (act.FileWrite (unit_of 1 29) 2 (codes "W29")) land.Full ∷
    entry_of 0 who.A 1 (act.LogOpen 85 (rec.Put (unit_of 1 29) 2 (slot_of (Some (codes "W28"))))) land.Full ∷
    entry_of 0 who.A 1 (act.LogBody 85 (rec.Put (unit_of 1 29) 2 (slot_of (Some (codes "W28"))))) land.Full ∷
    entry_of 0 who.A 1 (act.LogClose 85) land.Full ∷
    entry_of 0 who.A 1 (act.LogLook 85) land.Full ∷
    entry_of 0 who.A 1 (act.FileRead 2) land.Full ∷
    entry_of 0 who.A 1 (act.Item 115) land.Full ∷
    entry_of 0 who.A 1 (act.FileWrite (unit_of 1 29) 1 (codes "V29")) land.Full ∷
    entry_of 0 who.A 1 (act.LogOpen 84 (rec.Put (unit_of 1 29) 1 (slot_of (Some (codes "V28"))))) land.Full ∷
    entry_of 0 who.A 1 (act.LogBody 84 (rec.Put (unit_of 1 29) 1 (slot_of (Some (codes "V28"))))) land.Full ∷
    entry_of 0 who.A 1 (act.LogClose 84) land.Full ∷
    entry_of 0 who.A 1 (act.LogLook 84) land.Full ∷
    entry_of 0 who.A 1 (act.FileRead 1) land.Full ∷
    entry_of 0 who.A 1 (act.Item 114) land.Full ∷
    entry_of 0 who.A 1 (act.Item 113) land.Full ∷
    entry_of 0 who.A 1 (act.LogOpen 83 (rec.Commit (unit_of 1 28))) land.Full ∷
    entry_of 0 who.A 1 (act.LogBody 83 (rec.Commit (unit_of 1 28))) land.Full ∷
    entry_of 0 who.A 1 (act.LogClose 83) land.Full ∷
    entry_of 0 who.A 1 (act.LogLook 83) land.Full ∷
    entry_of 0 who.A 1 (act.Item 112) land.Full ∷
    entry_of 0 who.A 1 (act.FileWrite (unit_of 1 28) 2 (codes "W28")) land.Full ∷
    entry_of 0 who.A 1 (act.LogOpen 82 (rec.Put (unit_of 1 28) 2 (slot_of (Some (codes "W27"))))) land.Full ∷
    entry_of 0 who.A 1 (act.LogBody 82 (rec.Put (unit_of 1 28) 2 (slot_of (Some (codes "W27"))))) land.Full ∷
    entry_of 0 who.A 1 (act.LogClose 82) land.Full ∷
    entry_of 0 who.A 1 (act.LogLook 82) land.Full ∷
    entry_of 0 who.A 1 (act.FileRead 2) land.Full ∷
    entry_of 0 who.A 1 (act.Item 111) land.Full ∷
    entry_of 0 who.A 1 (act.FileWrite (unit_of 1 28) 1 (codes "V28")) land.Full ∷
    entry_of 0 who.A 1 (act.LogOpen 81 (rec.Put (unit_of 1 28) 1 (slot_of (Some (codes "V27"))))) land.Full ∷
    entry_of 0 who.A 1 (act.LogBody 81 (rec.Put (unit_of 1 28) 1 (slot_of (Some (codes "V27"))))) land.Full ∷
    entry_of 0 who.A 1 (act.LogClose 81) land.Full ∷
    entry_of 0 who.A 1 (act.LogLook 81) land.Full ∷
    entry_of 0 who.A 1 (act.FileRead 1) land.Full ∷
    entry_of 0 who.A 1 (act.Item 110) land.Full ∷
    entry_of 0 who.A 1 (act.Item 109) land.Full ∷
    entry_of 0 who.A 1 (act.LogOpen 80 (rec.Commit (unit_of 1 27))) land.Full ∷
    entry_of 0 who.A 1 (act.LogBody 80 (rec.Commit (unit_of 1 27))) land.Full ∷
    entry_of 0 who.A 1 (act.LogClose 80) land.Full ∷
    entry_of 0 who.A 1 (act.LogLook 80) land.Full ∷
    entry_of 0 who.A 1 (act.Item 108) land.Full ∷
    entry_of 0 who.A 1 (act.FileWrite (unit_of 1 27) 2 (codes "W27")) land.Full ∷
    entry_of 0 who.A 1 (act.LogOpen 79 (rec.Put (unit_of 1 27) 2 (slot_of (Some (codes "W26"))))) land.Full ∷
    entry_of 0 who.A 1 (act.LogBody 79 (rec.Put (unit_of 1 27) 2 (slot_of (Some (codes "W26"))))) land.Full ∷
    entry_of 0 who.A 1 (act.LogClose 79) land.Full ∷
    entry_of 0 who.A 1 (act.LogLook 79) land.Full ∷
    entry_of 0 who.A 1 (act.FileRead 2) land.Full ∷
    entry_of 0 who.A 1 (act.Item 107) land.Full ∷
    entry_of 0 who.A 1 (act.FileWrite (unit_of 1 27) 1 (codes "V27")) land.Full ∷
    entry_of 0 who.A 1 (act.LogOpen 78 (rec.Put (unit_of 1 27) 1 (slot_of (Some (codes "V26"))))) land.Full ∷
    entry_of 0 who.A 1 (act.LogBody 78 (rec.Put (unit_of 1 27) 1 (slot_of (Some (codes "V26"))))) land.Full ∷
    entry_of 0 who.A 1 (act.LogClose 78) land.Full ∷
    entry_of 0 who.A 1 (act.LogLook 78) land.Full ∷
    entry_of 0 who.A 1 (act.FileRead 1) land.Full ∷
    entry_of 0 who.A 1 (act.Item 106) land.Full ∷
    entry_of 0 who.A 1 (act.Item 105) land.Full ∷
    entry_of 0 who.A 1 (act.LogOpen 77 (rec.Commit (unit_of 1 26))) land.Full ∷
    entry_of 0 who.A 1 (act.LogBody 77 (rec.Commit (unit_of 1 26))) land.Full ∷
    entry_of 0 who.A 1 (act.LogClose 77) land.Full ∷
    entry_of 0 who.A 1 (act.LogLook 77) land.Full ∷
    entry_of 0 who.A 1 (act.Item 104) land.Full ∷
    entry_of 0 who.A 1 (act.FileWrite (unit_of 1 26) 2 (codes "W26")) land.Full ∷
    entry_of 0 who.A 1 (act.LogOpen 76 (rec.Put (unit_of 1 26) 2 (slot_of (Some (codes "W25"))))) land.Full ∷
    entry_of 0 who.A 1 (act.LogBody 76 (rec.Put (unit_of 1 26) 2 (slot_of (Some (codes "W25"))))) land.Full ∷
    entry_of 0 who.A 1 (act.LogClose 76) land.Full ∷
    entry_of 0 who.A 1 (act.LogLook 76) land.Full ∷
    entry_of 0 who.A 1 (act.FileRead 2) land.Full ∷
    entry_of 0 who.A 1 (act.Item 103) land.Full ∷
    entry_of 0 who.A 1 (act.FileWrite (unit_of 1 26) 1 (codes "V26")) land.Full ∷
    entry_of 0 who.A 1 (act.LogOpen 75 (rec.Put (unit_of 1 26) 1 (slot_of (Some (codes "V25"))))) land.Full ∷
    entry_of 0 who.A 1 (act.LogBody 75 (rec.Put (unit_of 1 26) 1 (slot_of (Some (codes "V25"))))) land.Full ∷
    entry_of 0 who.A 1 (act.LogClose 75) land.Full ∷
    entry_of 0 who.A 1 (act.LogLook 75) land.Full ∷
    entry_of 0 who.A 1 (act.FileRead 1) land.Full ∷
    entry_of 0 who.A 1 (act.Item 102) land.Full ∷
    entry_of 0 who.A 1 (act.Item 101) land.Full ∷
    entry_of 0 who.A 1 (act.LogOpen 74 (rec.Commit (unit_of 1 25))) land.Full ∷
    entry_of 0 who.A 1 (act.LogBody 74 (rec.Commit (unit_of 1 25))) land.Full ∷
    entry_of 0 who.A 1 (act.LogClose 74) land.Full ∷
    entry_of 0 who.A 1 (act.LogLook 74) land.Full ∷
    entry_of 0 who.A 1 (act.Item 100) land.Full ∷
    entry_of 0 who.A 1 (act.FileWrite (unit_of 1 25) 2 (codes "W25")) land.Full ∷
    entry_of 0 who.A 1 (act.LogOpen 73 (rec.Put (unit_of 1 25) 2 (slot_of (Some (codes "W24"))))) land.Full ∷
    entry_of 0 who.A 1 (act.LogBody 73 (rec.Put (unit_of 1 25) 2 (slot_of (Some (codes "W24"))))) land.Full ∷
    entry_of 0 who.A 1 (act.LogClose 73) land.Full ∷
    entry_of 0 who.A 1 (act.LogLook 73) land.Full ∷
    entry_of 0 who.A 1 (act.FileRead 2) land.Full ∷
    entry_of 0 who.A 1 (act.Item 99) land.Full ∷
    entry_of 0 who.A 1 (act.FileWrite (unit_of 1 25) 1 (codes "V25")) land.Full ∷
    entry_of 0 who.A 1 (act.LogOpen 72 (rec.Put (unit_of 1 25) 1 (slot_of (Some (codes "V24"))))) land.Full ∷
    entry_of 0 who.A 1 (act.LogBody 72 (rec.Put (unit_of 1 25) 1 (slot_of (Some (codes "V24"))))) land.Full ∷
    entry_of 0 who.A 1 (act.LogClose 72) land.Full ∷
    entry_of 0 who.A 1 (act.LogLook 72) land.Full ∷
    entry_of 0 who.A 1 (act.FileRead 1) land.Full ∷
    entry_of 0 who.A 1 (act.Item 98) land.Full ∷
    entry_of 0 who.A 1 (act.Item 97) land.Full ∷
    entry_of 0 who.A 1 (act.LogOpen 71 (rec.Commit (unit_of 1 24))) land.Full ∷
    entry_of 0 who.A 1 (act.LogBody 71 (rec.Commit (unit_of 1 24))) land.Full ∷
    entry_of 0 who.A 1 (act.LogClose 71) land.Full ∷
    entry_of 0 who.A 1 (act.LogLook 71) land.Full ∷
    entry_of 0 who.A 1 (act.Item 96) land.Full ∷
    entry_of 0 who.A 1 (act.FileWrite (unit_of 1 24) 2 (codes "W24")) land.Full ∷
    entry_of 0 who.A 1 (act.LogOpen 70 (rec.Put (unit_of 1 24) 2 (slot_of (Some (codes "W23"))))) land.Full ∷
    entry_of 0 who.A 1 (act.LogBody 70 (rec.Put (unit_of 1 24) 2 (slot_of (Some (codes "W23"))))) land.Full ∷
    entry_of 0 who.A 1 (act.LogClose 70) land.Full ∷
    entry_of 0 who.A 1 (act.LogLook 70) land.Full ∷
    entry_of 0 who.A 1 (act.FileRead 2) land.Full ∷
    entry_of 0 who.A 1 (act.Item 95) land.Full ∷
    entry_of 0 who.A 1 (act.FileWrite (unit_of 1 24) 1 (codes "V24")) land.Full ∷
    entry_of 0 who.A 1 (act.LogOpen 69 (rec.Put (unit_of 1 24) 1 (slot_of (Some (codes "V23"))))) land.Full ∷
    entry_of 0 who.A 1 (act.LogBody 69 (rec.Put (unit_of 1 24) 1 (slot_of (Some (codes "V23"))))) land.Full ∷
    entry_of 0 who.A 1 (act.LogClose 69) land.Full ∷
    entry_of 0 who.A 1 (act.LogLook 69) land.Full ∷
    entry_of 0 who.A 1 (act.FileRead 1) land.Full ∷
    entry_of 0 who.A 1 (act.Item 94) land.Full ∷
    entry_of 0 who.A 1 (act.Item 93) land.Full ∷
    entry_of 0 who.A 1 (act.LogOpen 68 (rec.Commit (unit_of 1 23))) land.Full ∷
    entry_of 0 who.A 1 (act.LogBody 68 (rec.Commit (unit_of 1 23))) land.Full ∷
    entry_of 0 who.A 1 (act.LogClose 68) land.Full ∷
    entry_of 0 who.A 1 (act.LogLook 68) land.Full ∷
    entry_of 0 who.A 1 (act.Item 92) land.Full ∷
    entry_of 0 who.A 1 (act.FileWrite (unit_of 1 23) 2 (codes "W23")) land.Full ∷
    entry_of 0 who.A 1 (act.LogOpen 67 (rec.Put (unit_of 1 23) 2 (slot_of (Some (codes "W22"))))) land.Full ∷
    entry_of 0 who.A 1 (act.LogBody 67 (rec.Put (unit_of 1 23) 2 (slot_of (Some (codes "W22"))))) land.Full ∷
    entry_of 0 who.A 1 (act.LogClose 67) land.Full ∷
    entry_of 0 who.A 1 (act.LogLook 67) land.Full ∷
    entry_of 0 who.A 1 (act.FileRead 2) land.Full ∷
    entry_of 0 who.A 1 (act.Item 91) land.Full ∷
    entry_of 0 who.A 1 (act.FileWrite (unit_of 1 23) 1 (codes "V23")) land.Full ∷
    entry_of 0 who.A 1 (act.LogOpen 66 (rec.Put (unit_of 1 23) 1 (slot_of (Some (codes "V22"))))) land.Full ∷
    entry_of 0 who.A 1 (act.LogBody 66 (rec.Put (unit_of 1 23) 1 (slot_of (Some (codes "V22"))))) land.Full ∷
    entry_of 0 who.A 1 (act.LogClose 66) land.Full ∷
    entry_of 0 who.A 1 (act.LogLook 66) land.Full ∷
    entry_of 0 who.A 1 (act.FileRead 1) land.Full ∷
    entry_of 0 who.A 1 (act.Item 90) land.Full ∷
    entry_of 0 who.A 1 (act.Item 89) land.Full ∷
    entry_of 0 who.A 1 (act.LogOpen 65 (rec.Commit (unit_of 1 22))) land.Full ∷
    log_goes_round
