-- Units have gone round the log of 64 slots, past two keypoints, up to the body of a commit.
use Rattle.std.specs.Prelude.{false, List, [], ◌∷◌, ◌++◌, replicate, codes, Some, None}
use Rattle.xrf_base.specs.declared.site.Site.TheVariants as site
use Rattle.xrf_base.specs.declared.site.Takeovr.TheVariants as takeovr
use Rattle.xrf_base.specs.declared.items.Item.TheVariants as items
use Rattle.xrf_base.specs.Values.{slot_of}
use Rattle.xrf_ctl.specs.declared.parts.Level.TheVariants as level
use Rattle.xrf_logrec.specs.declared.records.LogRec.TheVariants as rec
use Rattle.xrf_setup.specs.declared.choice.Choice.{Choice}
use Rattle.xrf_setup.specs.declared.choice.Choice.TheVariants as choice
use Rattle.xrf_setup.specs.declared.format.Format.TheVariants as format
use Rattle.xrf_setup.specs.Scenario.{Scen}
use Rattle.xrf_trace.specs.declared.entry.Act.TheVariants as act
use Rattle.xrf_trace.specs.declared.entry.Entry.{Entry}
use Rattle.xrf_trace.specs.declared.entry.Land.TheVariants as land
use Rattle.xrf_trace.specs.declared.entry.Who.TheVariants as who
use Rattle.xrf_examples.specs.Making.{entry_of, unit_of}
use Rattle.xrf_examples.specs.Beginnings.{restarted, to_restarted}

abbrev pub scenario : Scen
scenario = record {
  settings = record {
    format = format.One;
    applid_a = codes "CICSA";
    applid_b = codes "CICSB";
    takeovr = takeovr.Manual;
    adi = 30;
    pdi = 30;
    log = 64;
    ring = 16;
    file = 4;
    pace = 40;
    ticks = 60;
    images = false;
    level_a = level.One;
    level_b = level.One;
    force = false;
  };
  records = [];
  clt = [];
  work_a =
      items.Begin (codes "U1") ∷ items.Put (codes "U1") 1 (codes "V1") ∷ items.Put (codes "U1") 2 (codes "W1") ∷ items.Commit (codes "U1") ∷
      items.Begin (codes "U1") ∷ items.Put (codes "U1") 1 (codes "V2") ∷ items.Put (codes "U1") 2 (codes "W2") ∷ items.Commit (codes "U1") ∷
      items.Begin (codes "U1") ∷ items.Put (codes "U1") 1 (codes "V3") ∷ items.Put (codes "U1") 2 (codes "W3") ∷ items.Commit (codes "U1") ∷
      items.Begin (codes "U1") ∷ items.Put (codes "U1") 1 (codes "V4") ∷ items.Put (codes "U1") 2 (codes "W4") ∷ items.Commit (codes "U1") ∷
      items.Begin (codes "U1") ∷ items.Put (codes "U1") 1 (codes "V5") ∷ items.Put (codes "U1") 2 (codes "W5") ∷ items.Commit (codes "U1") ∷
      items.Begin (codes "U1") ∷ items.Put (codes "U1") 1 (codes "V6") ∷ items.Put (codes "U1") 2 (codes "W6") ∷ items.Commit (codes "U1") ∷
      items.Begin (codes "U1") ∷ items.Put (codes "U1") 1 (codes "V7") ∷ items.Put (codes "U1") 2 (codes "W7") ∷ items.Commit (codes "U1") ∷
      items.Begin (codes "U1") ∷ items.Put (codes "U1") 1 (codes "V8") ∷ items.Put (codes "U1") 2 (codes "W8") ∷ items.Commit (codes "U1") ∷
      items.Begin (codes "U1") ∷ items.Put (codes "U1") 1 (codes "V9") ∷ items.Put (codes "U1") 2 (codes "W9") ∷ items.Commit (codes "U1") ∷
      items.Begin (codes "U1") ∷ items.Put (codes "U1") 1 (codes "V10") ∷ items.Put (codes "U1") 2 (codes "W10") ∷ items.Commit (codes "U1") ∷
      items.Begin (codes "U1") ∷ items.Put (codes "U1") 1 (codes "V11") ∷ items.Put (codes "U1") 2 (codes "W11") ∷ items.Commit (codes "U1") ∷
      items.Begin (codes "U1") ∷ items.Put (codes "U1") 1 (codes "V12") ∷ items.Put (codes "U1") 2 (codes "W12") ∷ items.Commit (codes "U1") ∷
      items.Begin (codes "U1") ∷ items.Put (codes "U1") 1 (codes "V13") ∷ items.Put (codes "U1") 2 (codes "W13") ∷ items.Commit (codes "U1") ∷
      items.Begin (codes "U1") ∷ items.Put (codes "U1") 1 (codes "V14") ∷ items.Put (codes "U1") 2 (codes "W14") ∷ items.Commit (codes "U1") ∷
      items.Begin (codes "U1") ∷ items.Put (codes "U1") 1 (codes "V15") ∷ items.Put (codes "U1") 2 (codes "W15") ∷ items.Commit (codes "U1") ∷
      items.Begin (codes "U1") ∷ items.Put (codes "U1") 1 (codes "V16") ∷ items.Put (codes "U1") 2 (codes "W16") ∷ items.Commit (codes "U1") ∷
      items.Begin (codes "U1") ∷ items.Put (codes "U1") 1 (codes "V17") ∷ items.Put (codes "U1") 2 (codes "W17") ∷ items.Commit (codes "U1") ∷
      items.Begin (codes "U1") ∷ items.Put (codes "U1") 1 (codes "V18") ∷ items.Put (codes "U1") 2 (codes "W18") ∷ items.Commit (codes "U1") ∷
      items.Begin (codes "U1") ∷ items.Put (codes "U1") 1 (codes "V19") ∷ items.Put (codes "U1") 2 (codes "W19") ∷ items.Commit (codes "U1") ∷
      items.Begin (codes "U1") ∷ items.Put (codes "U1") 1 (codes "V20") ∷ items.Put (codes "U1") 2 (codes "W20") ∷ items.Commit (codes "U1") ∷
      items.Begin (codes "U1") ∷ items.Put (codes "U1") 1 (codes "V21") ∷ items.Put (codes "U1") 2 (codes "W21") ∷ items.Commit (codes "U1") ∷
      items.Begin (codes "U1") ∷ items.Put (codes "U1") 1 (codes "V22") ∷ items.Put (codes "U1") 2 (codes "W22") ∷ items.Commit (codes "U1") ∷ [];
  work_b = [];
  plan = [];
}

abbrev pub to_log_goes_round : List Choice
to_log_goes_round =
    to_restarted ++ replicate 317 (choice.Step site.A)

abbrev pub log_goes_round : List Entry
log_goes_round =
    entry_of 0 who.A 1 (act.LogBody 65 (rec.Commit (unit_of 1 22))) land.Full ∷
    entry_of 0 who.A 1 (act.LogClose 65) land.Full ∷
    entry_of 0 who.A 1 (act.LogLook 65) land.Full ∷
    entry_of 0 who.A 1 (act.Item 88) land.Full ∷
    entry_of 0 who.A 1 (act.FileWrite (unit_of 1 22) 2 (codes "W22")) land.Full ∷
    entry_of 0 who.A 1 (act.LogOpen 64 (rec.Put (unit_of 1 22) 2 (slot_of (Some (codes "W21"))))) land.Full ∷
    entry_of 0 who.A 1 (act.LogBody 64 (rec.Put (unit_of 1 22) 2 (slot_of (Some (codes "W21"))))) land.Full ∷
    entry_of 0 who.A 1 (act.LogClose 64) land.Full ∷
    entry_of 0 who.A 1 (act.LogLook 64) land.Full ∷
    entry_of 0 who.A 1 (act.FileRead 2) land.Full ∷
    entry_of 0 who.A 1 (act.Item 87) land.Full ∷
    entry_of 0 who.A 1 (act.FileWrite (unit_of 1 22) 1 (codes "V22")) land.Full ∷
    entry_of 0 who.A 1 (act.LogOpen 63 (rec.Put (unit_of 1 22) 1 (slot_of (Some (codes "V21"))))) land.Full ∷
    entry_of 0 who.A 1 (act.LogBody 63 (rec.Put (unit_of 1 22) 1 (slot_of (Some (codes "V21"))))) land.Full ∷
    entry_of 0 who.A 1 (act.FileRead 1) land.Full ∷
    entry_of 0 who.A 1 (act.Item 86) land.Full ∷
    entry_of 0 who.A 1 (act.Item 85) land.Full ∷
    entry_of 0 who.A 1 (act.LogOpen 62 (rec.Commit (unit_of 1 21))) land.Full ∷
    entry_of 0 who.A 1 (act.LogBody 62 (rec.Commit (unit_of 1 21))) land.Full ∷
    entry_of 0 who.A 1 (act.Item 84) land.Full ∷
    entry_of 0 who.A 1 (act.KpOpen 0 (record { number = 2; start = 60 })) land.Full ∷
    entry_of 0 who.A 1 (act.KpBody 0 (record { number = 2; start = 60 })) land.Full ∷
    entry_of 0 who.A 1 (act.KpRead 0) land.Full ∷
    entry_of 0 who.A 1 (act.FileWrite (unit_of 1 21) 2 (codes "W21")) land.Full ∷
    entry_of 0 who.A 1 (act.LogOpen 61 (rec.Put (unit_of 1 21) 2 (slot_of (Some (codes "W20"))))) land.Full ∷
    entry_of 0 who.A 1 (act.LogBody 61 (rec.Put (unit_of 1 21) 2 (slot_of (Some (codes "W20"))))) land.Full ∷
    entry_of 0 who.A 1 (act.FileRead 2) land.Full ∷
    entry_of 0 who.A 1 (act.Item 83) land.Full ∷
    entry_of 0 who.A 1 (act.FileWrite (unit_of 1 21) 1 (codes "V21")) land.Full ∷
    entry_of 0 who.A 1 (act.LogOpen 60 (rec.Put (unit_of 1 21) 1 (slot_of (Some (codes "V20"))))) land.Full ∷
    entry_of 0 who.A 1 (act.LogBody 60 (rec.Put (unit_of 1 21) 1 (slot_of (Some (codes "V20"))))) land.Full ∷
    entry_of 0 who.A 1 (act.FileRead 1) land.Full ∷
    entry_of 0 who.A 1 (act.Item 82) land.Full ∷
    entry_of 0 who.A 1 (act.Item 81) land.Full ∷
    entry_of 0 who.A 1 (act.LogOpen 59 (rec.Commit (unit_of 1 20))) land.Full ∷
    entry_of 0 who.A 1 (act.LogBody 59 (rec.Commit (unit_of 1 20))) land.Full ∷
    entry_of 0 who.A 1 (act.Item 80) land.Full ∷
    entry_of 0 who.A 1 (act.FileWrite (unit_of 1 20) 2 (codes "W20")) land.Full ∷
    entry_of 0 who.A 1 (act.LogOpen 58 (rec.Put (unit_of 1 20) 2 (slot_of (Some (codes "W19"))))) land.Full ∷
    entry_of 0 who.A 1 (act.LogBody 58 (rec.Put (unit_of 1 20) 2 (slot_of (Some (codes "W19"))))) land.Full ∷
    entry_of 0 who.A 1 (act.FileRead 2) land.Full ∷
    entry_of 0 who.A 1 (act.Item 79) land.Full ∷
    entry_of 0 who.A 1 (act.FileWrite (unit_of 1 20) 1 (codes "V20")) land.Full ∷
    entry_of 0 who.A 1 (act.LogOpen 57 (rec.Put (unit_of 1 20) 1 (slot_of (Some (codes "V19"))))) land.Full ∷
    entry_of 0 who.A 1 (act.LogBody 57 (rec.Put (unit_of 1 20) 1 (slot_of (Some (codes "V19"))))) land.Full ∷
    entry_of 0 who.A 1 (act.FileRead 1) land.Full ∷
    entry_of 0 who.A 1 (act.Item 78) land.Full ∷
    entry_of 0 who.A 1 (act.Item 77) land.Full ∷
    entry_of 0 who.A 1 (act.LogOpen 56 (rec.Commit (unit_of 1 19))) land.Full ∷
    entry_of 0 who.A 1 (act.LogBody 56 (rec.Commit (unit_of 1 19))) land.Full ∷
    entry_of 0 who.A 1 (act.Item 76) land.Full ∷
    entry_of 0 who.A 1 (act.FileWrite (unit_of 1 19) 2 (codes "W19")) land.Full ∷
    entry_of 0 who.A 1 (act.LogOpen 55 (rec.Put (unit_of 1 19) 2 (slot_of (Some (codes "W18"))))) land.Full ∷
    entry_of 0 who.A 1 (act.LogBody 55 (rec.Put (unit_of 1 19) 2 (slot_of (Some (codes "W18"))))) land.Full ∷
    entry_of 0 who.A 1 (act.FileRead 2) land.Full ∷
    entry_of 0 who.A 1 (act.Item 75) land.Full ∷
    entry_of 0 who.A 1 (act.FileWrite (unit_of 1 19) 1 (codes "V19")) land.Full ∷
    entry_of 0 who.A 1 (act.LogOpen 54 (rec.Put (unit_of 1 19) 1 (slot_of (Some (codes "V18"))))) land.Full ∷
    entry_of 0 who.A 1 (act.LogBody 54 (rec.Put (unit_of 1 19) 1 (slot_of (Some (codes "V18"))))) land.Full ∷
    entry_of 0 who.A 1 (act.FileRead 1) land.Full ∷
    entry_of 0 who.A 1 (act.Item 74) land.Full ∷
    entry_of 0 who.A 1 (act.Item 73) land.Full ∷
    entry_of 0 who.A 1 (act.LogOpen 53 (rec.Commit (unit_of 1 18))) land.Full ∷
    entry_of 0 who.A 1 (act.LogBody 53 (rec.Commit (unit_of 1 18))) land.Full ∷
    entry_of 0 who.A 1 (act.Item 72) land.Full ∷
    entry_of 0 who.A 1 (act.FileWrite (unit_of 1 18) 2 (codes "W18")) land.Full ∷
    entry_of 0 who.A 1 (act.LogOpen 52 (rec.Put (unit_of 1 18) 2 (slot_of (Some (codes "W17"))))) land.Full ∷
    entry_of 0 who.A 1 (act.LogBody 52 (rec.Put (unit_of 1 18) 2 (slot_of (Some (codes "W17"))))) land.Full ∷
    entry_of 0 who.A 1 (act.FileRead 2) land.Full ∷
    entry_of 0 who.A 1 (act.Item 71) land.Full ∷
    entry_of 0 who.A 1 (act.FileWrite (unit_of 1 18) 1 (codes "V18")) land.Full ∷
    entry_of 0 who.A 1 (act.LogOpen 51 (rec.Put (unit_of 1 18) 1 (slot_of (Some (codes "V17"))))) land.Full ∷
    entry_of 0 who.A 1 (act.LogBody 51 (rec.Put (unit_of 1 18) 1 (slot_of (Some (codes "V17"))))) land.Full ∷
    entry_of 0 who.A 1 (act.FileRead 1) land.Full ∷
    entry_of 0 who.A 1 (act.Item 70) land.Full ∷
    entry_of 0 who.A 1 (act.Item 69) land.Full ∷
    entry_of 0 who.A 1 (act.LogOpen 50 (rec.Commit (unit_of 1 17))) land.Full ∷
    entry_of 0 who.A 1 (act.LogBody 50 (rec.Commit (unit_of 1 17))) land.Full ∷
    entry_of 0 who.A 1 (act.Item 68) land.Full ∷
    entry_of 0 who.A 1 (act.FileWrite (unit_of 1 17) 2 (codes "W17")) land.Full ∷
    entry_of 0 who.A 1 (act.LogOpen 49 (rec.Put (unit_of 1 17) 2 (slot_of (Some (codes "W16"))))) land.Full ∷
    entry_of 0 who.A 1 (act.LogBody 49 (rec.Put (unit_of 1 17) 2 (slot_of (Some (codes "W16"))))) land.Full ∷
    entry_of 0 who.A 1 (act.FileRead 2) land.Full ∷
    entry_of 0 who.A 1 (act.Item 67) land.Full ∷
    entry_of 0 who.A 1 (act.FileWrite (unit_of 1 17) 1 (codes "V17")) land.Full ∷
    entry_of 0 who.A 1 (act.LogOpen 48 (rec.Put (unit_of 1 17) 1 (slot_of (Some (codes "V16"))))) land.Full ∷
    entry_of 0 who.A 1 (act.LogBody 48 (rec.Put (unit_of 1 17) 1 (slot_of (Some (codes "V16"))))) land.Full ∷
    entry_of 0 who.A 1 (act.FileRead 1) land.Full ∷
    entry_of 0 who.A 1 (act.Item 66) land.Full ∷
    entry_of 0 who.A 1 (act.Item 65) land.Full ∷
    entry_of 0 who.A 1 (act.LogOpen 47 (rec.Commit (unit_of 1 16))) land.Full ∷
    entry_of 0 who.A 1 (act.LogBody 47 (rec.Commit (unit_of 1 16))) land.Full ∷
    entry_of 0 who.A 1 (act.Item 64) land.Full ∷
    entry_of 0 who.A 1 (act.FileWrite (unit_of 1 16) 2 (codes "W16")) land.Full ∷
    entry_of 0 who.A 1 (act.LogOpen 46 (rec.Put (unit_of 1 16) 2 (slot_of (Some (codes "W15"))))) land.Full ∷
    entry_of 0 who.A 1 (act.LogBody 46 (rec.Put (unit_of 1 16) 2 (slot_of (Some (codes "W15"))))) land.Full ∷
    entry_of 0 who.A 1 (act.FileRead 2) land.Full ∷
    entry_of 0 who.A 1 (act.Item 63) land.Full ∷
    entry_of 0 who.A 1 (act.FileWrite (unit_of 1 16) 1 (codes "V16")) land.Full ∷
    entry_of 0 who.A 1 (act.LogOpen 45 (rec.Put (unit_of 1 16) 1 (slot_of (Some (codes "V15"))))) land.Full ∷
    entry_of 0 who.A 1 (act.LogBody 45 (rec.Put (unit_of 1 16) 1 (slot_of (Some (codes "V15"))))) land.Full ∷
    entry_of 0 who.A 1 (act.FileRead 1) land.Full ∷
    entry_of 0 who.A 1 (act.Item 62) land.Full ∷
    entry_of 0 who.A 1 (act.Item 61) land.Full ∷
    entry_of 0 who.A 1 (act.LogOpen 44 (rec.Commit (unit_of 1 15))) land.Full ∷
    entry_of 0 who.A 1 (act.LogBody 44 (rec.Commit (unit_of 1 15))) land.Full ∷
    entry_of 0 who.A 1 (act.Item 60) land.Full ∷
    entry_of 0 who.A 1 (act.FileWrite (unit_of 1 15) 2 (codes "W15")) land.Full ∷
    entry_of 0 who.A 1 (act.LogOpen 43 (rec.Put (unit_of 1 15) 2 (slot_of (Some (codes "W14"))))) land.Full ∷
    entry_of 0 who.A 1 (act.LogBody 43 (rec.Put (unit_of 1 15) 2 (slot_of (Some (codes "W14"))))) land.Full ∷
    entry_of 0 who.A 1 (act.FileRead 2) land.Full ∷
    entry_of 0 who.A 1 (act.Item 59) land.Full ∷
    entry_of 0 who.A 1 (act.FileWrite (unit_of 1 15) 1 (codes "V15")) land.Full ∷
    entry_of 0 who.A 1 (act.LogOpen 42 (rec.Put (unit_of 1 15) 1 (slot_of (Some (codes "V14"))))) land.Full ∷
    entry_of 0 who.A 1 (act.LogBody 42 (rec.Put (unit_of 1 15) 1 (slot_of (Some (codes "V14"))))) land.Full ∷
    entry_of 0 who.A 1 (act.FileRead 1) land.Full ∷
    entry_of 0 who.A 1 (act.Item 58) land.Full ∷
    entry_of 0 who.A 1 (act.Item 57) land.Full ∷
    entry_of 0 who.A 1 (act.LogOpen 41 (rec.Commit (unit_of 1 14))) land.Full ∷
    entry_of 0 who.A 1 (act.LogBody 41 (rec.Commit (unit_of 1 14))) land.Full ∷
    entry_of 0 who.A 1 (act.Item 56) land.Full ∷
    entry_of 0 who.A 1 (act.FileWrite (unit_of 1 14) 2 (codes "W14")) land.Full ∷
    entry_of 0 who.A 1 (act.LogOpen 40 (rec.Put (unit_of 1 14) 2 (slot_of (Some (codes "W13"))))) land.Full ∷
    entry_of 0 who.A 1 (act.LogBody 40 (rec.Put (unit_of 1 14) 2 (slot_of (Some (codes "W13"))))) land.Full ∷
    entry_of 0 who.A 1 (act.FileRead 2) land.Full ∷
    entry_of 0 who.A 1 (act.Item 55) land.Full ∷
    entry_of 0 who.A 1 (act.FileWrite (unit_of 1 14) 1 (codes "V14")) land.Full ∷
    entry_of 0 who.A 1 (act.LogOpen 39 (rec.Put (unit_of 1 14) 1 (slot_of (Some (codes "V13"))))) land.Full ∷
    entry_of 0 who.A 1 (act.LogBody 39 (rec.Put (unit_of 1 14) 1 (slot_of (Some (codes "V13"))))) land.Full ∷
    entry_of 0 who.A 1 (act.FileRead 1) land.Full ∷
    entry_of 0 who.A 1 (act.Item 54) land.Full ∷
    entry_of 0 who.A 1 (act.Item 53) land.Full ∷
    entry_of 0 who.A 1 (act.LogOpen 38 (rec.Commit (unit_of 1 13))) land.Full ∷
    entry_of 0 who.A 1 (act.LogBody 38 (rec.Commit (unit_of 1 13))) land.Full ∷
    entry_of 0 who.A 1 (act.Item 52) land.Full ∷
    entry_of 0 who.A 1 (act.FileWrite (unit_of 1 13) 2 (codes "W13")) land.Full ∷
    entry_of 0 who.A 1 (act.LogOpen 37 (rec.Put (unit_of 1 13) 2 (slot_of (Some (codes "W12"))))) land.Full ∷
    entry_of 0 who.A 1 (act.LogBody 37 (rec.Put (unit_of 1 13) 2 (slot_of (Some (codes "W12"))))) land.Full ∷
    entry_of 0 who.A 1 (act.FileRead 2) land.Full ∷
    entry_of 0 who.A 1 (act.Item 51) land.Full ∷
    entry_of 0 who.A 1 (act.FileWrite (unit_of 1 13) 1 (codes "V13")) land.Full ∷
    entry_of 0 who.A 1 (act.LogOpen 36 (rec.Put (unit_of 1 13) 1 (slot_of (Some (codes "V12"))))) land.Full ∷
    entry_of 0 who.A 1 (act.LogBody 36 (rec.Put (unit_of 1 13) 1 (slot_of (Some (codes "V12"))))) land.Full ∷
    entry_of 0 who.A 1 (act.FileRead 1) land.Full ∷
    entry_of 0 who.A 1 (act.Item 50) land.Full ∷
    entry_of 0 who.A 1 (act.Item 49) land.Full ∷
    entry_of 0 who.A 1 (act.LogOpen 35 (rec.Commit (unit_of 1 12))) land.Full ∷
    entry_of 0 who.A 1 (act.LogBody 35 (rec.Commit (unit_of 1 12))) land.Full ∷
    entry_of 0 who.A 1 (act.Item 48) land.Full ∷
    entry_of 0 who.A 1 (act.FileWrite (unit_of 1 12) 2 (codes "W12")) land.Full ∷
    entry_of 0 who.A 1 (act.LogOpen 34 (rec.Put (unit_of 1 12) 2 (slot_of (Some (codes "W11"))))) land.Full ∷
    entry_of 0 who.A 1 (act.LogBody 34 (rec.Put (unit_of 1 12) 2 (slot_of (Some (codes "W11"))))) land.Full ∷
    entry_of 0 who.A 1 (act.FileRead 2) land.Full ∷
    entry_of 0 who.A 1 (act.Item 47) land.Full ∷
    entry_of 0 who.A 1 (act.FileWrite (unit_of 1 12) 1 (codes "V12")) land.Full ∷
    entry_of 0 who.A 1 (act.LogOpen 33 (rec.Put (unit_of 1 12) 1 (slot_of (Some (codes "V11"))))) land.Full ∷
    entry_of 0 who.A 1 (act.LogBody 33 (rec.Put (unit_of 1 12) 1 (slot_of (Some (codes "V11"))))) land.Full ∷
    entry_of 0 who.A 1 (act.FileRead 1) land.Full ∷
    entry_of 0 who.A 1 (act.Item 46) land.Full ∷
    entry_of 0 who.A 1 (act.Item 45) land.Full ∷
    entry_of 0 who.A 1 (act.LogOpen 32 (rec.Commit (unit_of 1 11))) land.Full ∷
    entry_of 0 who.A 1 (act.LogBody 32 (rec.Commit (unit_of 1 11))) land.Full ∷
    entry_of 0 who.A 1 (act.Item 44) land.Full ∷
    entry_of 0 who.A 1 (act.KpOpen 1 (record { number = 1; start = 30 })) land.Full ∷
    entry_of 0 who.A 1 (act.KpBody 1 (record { number = 1; start = 30 })) land.Full ∷
    entry_of 0 who.A 1 (act.KpRead 1) land.Full ∷
    entry_of 0 who.A 1 (act.FileWrite (unit_of 1 11) 2 (codes "W11")) land.Full ∷
    entry_of 0 who.A 1 (act.LogOpen 31 (rec.Put (unit_of 1 11) 2 (slot_of (Some (codes "W10"))))) land.Full ∷
    entry_of 0 who.A 1 (act.LogBody 31 (rec.Put (unit_of 1 11) 2 (slot_of (Some (codes "W10"))))) land.Full ∷
    entry_of 0 who.A 1 (act.FileRead 2) land.Full ∷
    entry_of 0 who.A 1 (act.Item 43) land.Full ∷
    entry_of 0 who.A 1 (act.FileWrite (unit_of 1 11) 1 (codes "V11")) land.Full ∷
    entry_of 0 who.A 1 (act.LogOpen 30 (rec.Put (unit_of 1 11) 1 (slot_of (Some (codes "V10"))))) land.Full ∷
    entry_of 0 who.A 1 (act.LogBody 30 (rec.Put (unit_of 1 11) 1 (slot_of (Some (codes "V10"))))) land.Full ∷
    entry_of 0 who.A 1 (act.FileRead 1) land.Full ∷
    entry_of 0 who.A 1 (act.Item 42) land.Full ∷
    entry_of 0 who.A 1 (act.Item 41) land.Full ∷
    entry_of 0 who.A 1 (act.LogOpen 29 (rec.Commit (unit_of 1 10))) land.Full ∷
    entry_of 0 who.A 1 (act.LogBody 29 (rec.Commit (unit_of 1 10))) land.Full ∷
    entry_of 0 who.A 1 (act.Item 40) land.Full ∷
    entry_of 0 who.A 1 (act.FileWrite (unit_of 1 10) 2 (codes "W10")) land.Full ∷
    entry_of 0 who.A 1 (act.LogOpen 28 (rec.Put (unit_of 1 10) 2 (slot_of (Some (codes "W9"))))) land.Full ∷
    entry_of 0 who.A 1 (act.LogBody 28 (rec.Put (unit_of 1 10) 2 (slot_of (Some (codes "W9"))))) land.Full ∷
    entry_of 0 who.A 1 (act.FileRead 2) land.Full ∷
    entry_of 0 who.A 1 (act.Item 39) land.Full ∷
    entry_of 0 who.A 1 (act.FileWrite (unit_of 1 10) 1 (codes "V10")) land.Full ∷
    entry_of 0 who.A 1 (act.LogOpen 27 (rec.Put (unit_of 1 10) 1 (slot_of (Some (codes "V9"))))) land.Full ∷
    entry_of 0 who.A 1 (act.LogBody 27 (rec.Put (unit_of 1 10) 1 (slot_of (Some (codes "V9"))))) land.Full ∷
    entry_of 0 who.A 1 (act.FileRead 1) land.Full ∷
    entry_of 0 who.A 1 (act.Item 38) land.Full ∷
    entry_of 0 who.A 1 (act.Item 37) land.Full ∷
    entry_of 0 who.A 1 (act.LogOpen 26 (rec.Commit (unit_of 1 9))) land.Full ∷
    entry_of 0 who.A 1 (act.LogBody 26 (rec.Commit (unit_of 1 9))) land.Full ∷
    entry_of 0 who.A 1 (act.Item 36) land.Full ∷
    entry_of 0 who.A 1 (act.FileWrite (unit_of 1 9) 2 (codes "W9")) land.Full ∷
    entry_of 0 who.A 1 (act.LogOpen 25 (rec.Put (unit_of 1 9) 2 (slot_of (Some (codes "W8"))))) land.Full ∷
    entry_of 0 who.A 1 (act.LogBody 25 (rec.Put (unit_of 1 9) 2 (slot_of (Some (codes "W8"))))) land.Full ∷
    entry_of 0 who.A 1 (act.FileRead 2) land.Full ∷
    entry_of 0 who.A 1 (act.Item 35) land.Full ∷
    entry_of 0 who.A 1 (act.FileWrite (unit_of 1 9) 1 (codes "V9")) land.Full ∷
    entry_of 0 who.A 1 (act.LogOpen 24 (rec.Put (unit_of 1 9) 1 (slot_of (Some (codes "V8"))))) land.Full ∷
    entry_of 0 who.A 1 (act.LogBody 24 (rec.Put (unit_of 1 9) 1 (slot_of (Some (codes "V8"))))) land.Full ∷
    entry_of 0 who.A 1 (act.FileRead 1) land.Full ∷
    entry_of 0 who.A 1 (act.Item 34) land.Full ∷
    entry_of 0 who.A 1 (act.Item 33) land.Full ∷
    entry_of 0 who.A 1 (act.LogOpen 23 (rec.Commit (unit_of 1 8))) land.Full ∷
    entry_of 0 who.A 1 (act.LogBody 23 (rec.Commit (unit_of 1 8))) land.Full ∷
    entry_of 0 who.A 1 (act.Item 32) land.Full ∷
    entry_of 0 who.A 1 (act.FileWrite (unit_of 1 8) 2 (codes "W8")) land.Full ∷
    entry_of 0 who.A 1 (act.LogOpen 22 (rec.Put (unit_of 1 8) 2 (slot_of (Some (codes "W7"))))) land.Full ∷
    entry_of 0 who.A 1 (act.LogBody 22 (rec.Put (unit_of 1 8) 2 (slot_of (Some (codes "W7"))))) land.Full ∷
    entry_of 0 who.A 1 (act.FileRead 2) land.Full ∷
    entry_of 0 who.A 1 (act.Item 31) land.Full ∷
    entry_of 0 who.A 1 (act.FileWrite (unit_of 1 8) 1 (codes "V8")) land.Full ∷
    entry_of 0 who.A 1 (act.LogOpen 21 (rec.Put (unit_of 1 8) 1 (slot_of (Some (codes "V7"))))) land.Full ∷
    entry_of 0 who.A 1 (act.LogBody 21 (rec.Put (unit_of 1 8) 1 (slot_of (Some (codes "V7"))))) land.Full ∷
    entry_of 0 who.A 1 (act.FileRead 1) land.Full ∷
    entry_of 0 who.A 1 (act.Item 30) land.Full ∷
    entry_of 0 who.A 1 (act.Item 29) land.Full ∷
    entry_of 0 who.A 1 (act.LogOpen 20 (rec.Commit (unit_of 1 7))) land.Full ∷
    entry_of 0 who.A 1 (act.LogBody 20 (rec.Commit (unit_of 1 7))) land.Full ∷
    entry_of 0 who.A 1 (act.Item 28) land.Full ∷
    entry_of 0 who.A 1 (act.FileWrite (unit_of 1 7) 2 (codes "W7")) land.Full ∷
    entry_of 0 who.A 1 (act.LogOpen 19 (rec.Put (unit_of 1 7) 2 (slot_of (Some (codes "W6"))))) land.Full ∷
    entry_of 0 who.A 1 (act.LogBody 19 (rec.Put (unit_of 1 7) 2 (slot_of (Some (codes "W6"))))) land.Full ∷
    entry_of 0 who.A 1 (act.FileRead 2) land.Full ∷
    entry_of 0 who.A 1 (act.Item 27) land.Full ∷
    entry_of 0 who.A 1 (act.FileWrite (unit_of 1 7) 1 (codes "V7")) land.Full ∷
    entry_of 0 who.A 1 (act.LogOpen 18 (rec.Put (unit_of 1 7) 1 (slot_of (Some (codes "V6"))))) land.Full ∷
    entry_of 0 who.A 1 (act.LogBody 18 (rec.Put (unit_of 1 7) 1 (slot_of (Some (codes "V6"))))) land.Full ∷
    entry_of 0 who.A 1 (act.FileRead 1) land.Full ∷
    entry_of 0 who.A 1 (act.Item 26) land.Full ∷
    entry_of 0 who.A 1 (act.Item 25) land.Full ∷
    entry_of 0 who.A 1 (act.LogOpen 17 (rec.Commit (unit_of 1 6))) land.Full ∷
    entry_of 0 who.A 1 (act.LogBody 17 (rec.Commit (unit_of 1 6))) land.Full ∷
    entry_of 0 who.A 1 (act.Item 24) land.Full ∷
    entry_of 0 who.A 1 (act.FileWrite (unit_of 1 6) 2 (codes "W6")) land.Full ∷
    entry_of 0 who.A 1 (act.LogOpen 16 (rec.Put (unit_of 1 6) 2 (slot_of (Some (codes "W5"))))) land.Full ∷
    entry_of 0 who.A 1 (act.LogBody 16 (rec.Put (unit_of 1 6) 2 (slot_of (Some (codes "W5"))))) land.Full ∷
    entry_of 0 who.A 1 (act.FileRead 2) land.Full ∷
    entry_of 0 who.A 1 (act.Item 23) land.Full ∷
    entry_of 0 who.A 1 (act.FileWrite (unit_of 1 6) 1 (codes "V6")) land.Full ∷
    entry_of 0 who.A 1 (act.LogOpen 15 (rec.Put (unit_of 1 6) 1 (slot_of (Some (codes "V5"))))) land.Full ∷
    entry_of 0 who.A 1 (act.LogBody 15 (rec.Put (unit_of 1 6) 1 (slot_of (Some (codes "V5"))))) land.Full ∷
    entry_of 0 who.A 1 (act.FileRead 1) land.Full ∷
    entry_of 0 who.A 1 (act.Item 22) land.Full ∷
    entry_of 0 who.A 1 (act.Item 21) land.Full ∷
    entry_of 0 who.A 1 (act.LogOpen 14 (rec.Commit (unit_of 1 5))) land.Full ∷
    entry_of 0 who.A 1 (act.LogBody 14 (rec.Commit (unit_of 1 5))) land.Full ∷
    entry_of 0 who.A 1 (act.Item 20) land.Full ∷
    entry_of 0 who.A 1 (act.FileWrite (unit_of 1 5) 2 (codes "W5")) land.Full ∷
    entry_of 0 who.A 1 (act.LogOpen 13 (rec.Put (unit_of 1 5) 2 (slot_of (Some (codes "W4"))))) land.Full ∷
    entry_of 0 who.A 1 (act.LogBody 13 (rec.Put (unit_of 1 5) 2 (slot_of (Some (codes "W4"))))) land.Full ∷
    entry_of 0 who.A 1 (act.FileRead 2) land.Full ∷
    entry_of 0 who.A 1 (act.Item 19) land.Full ∷
    entry_of 0 who.A 1 (act.FileWrite (unit_of 1 5) 1 (codes "V5")) land.Full ∷
    entry_of 0 who.A 1 (act.LogOpen 12 (rec.Put (unit_of 1 5) 1 (slot_of (Some (codes "V4"))))) land.Full ∷
    entry_of 0 who.A 1 (act.LogBody 12 (rec.Put (unit_of 1 5) 1 (slot_of (Some (codes "V4"))))) land.Full ∷
    entry_of 0 who.A 1 (act.FileRead 1) land.Full ∷
    entry_of 0 who.A 1 (act.Item 18) land.Full ∷
    entry_of 0 who.A 1 (act.Item 17) land.Full ∷
    entry_of 0 who.A 1 (act.LogOpen 11 (rec.Commit (unit_of 1 4))) land.Full ∷
    entry_of 0 who.A 1 (act.LogBody 11 (rec.Commit (unit_of 1 4))) land.Full ∷
    entry_of 0 who.A 1 (act.Item 16) land.Full ∷
    entry_of 0 who.A 1 (act.FileWrite (unit_of 1 4) 2 (codes "W4")) land.Full ∷
    entry_of 0 who.A 1 (act.LogOpen 10 (rec.Put (unit_of 1 4) 2 (slot_of (Some (codes "W3"))))) land.Full ∷
    entry_of 0 who.A 1 (act.LogBody 10 (rec.Put (unit_of 1 4) 2 (slot_of (Some (codes "W3"))))) land.Full ∷
    entry_of 0 who.A 1 (act.FileRead 2) land.Full ∷
    entry_of 0 who.A 1 (act.Item 15) land.Full ∷
    entry_of 0 who.A 1 (act.FileWrite (unit_of 1 4) 1 (codes "V4")) land.Full ∷
    entry_of 0 who.A 1 (act.LogOpen 9 (rec.Put (unit_of 1 4) 1 (slot_of (Some (codes "V3"))))) land.Full ∷
    entry_of 0 who.A 1 (act.LogBody 9 (rec.Put (unit_of 1 4) 1 (slot_of (Some (codes "V3"))))) land.Full ∷
    entry_of 0 who.A 1 (act.FileRead 1) land.Full ∷
    entry_of 0 who.A 1 (act.Item 14) land.Full ∷
    entry_of 0 who.A 1 (act.Item 13) land.Full ∷
    entry_of 0 who.A 1 (act.LogOpen 8 (rec.Commit (unit_of 1 3))) land.Full ∷
    entry_of 0 who.A 1 (act.LogBody 8 (rec.Commit (unit_of 1 3))) land.Full ∷
    entry_of 0 who.A 1 (act.Item 12) land.Full ∷
    entry_of 0 who.A 1 (act.FileWrite (unit_of 1 3) 2 (codes "W3")) land.Full ∷
    entry_of 0 who.A 1 (act.LogOpen 7 (rec.Put (unit_of 1 3) 2 (slot_of (Some (codes "W2"))))) land.Full ∷
    entry_of 0 who.A 1 (act.LogBody 7 (rec.Put (unit_of 1 3) 2 (slot_of (Some (codes "W2"))))) land.Full ∷
    entry_of 0 who.A 1 (act.FileRead 2) land.Full ∷
    entry_of 0 who.A 1 (act.Item 11) land.Full ∷
    entry_of 0 who.A 1 (act.FileWrite (unit_of 1 3) 1 (codes "V3")) land.Full ∷
    entry_of 0 who.A 1 (act.LogOpen 6 (rec.Put (unit_of 1 3) 1 (slot_of (Some (codes "V2"))))) land.Full ∷
    entry_of 0 who.A 1 (act.LogBody 6 (rec.Put (unit_of 1 3) 1 (slot_of (Some (codes "V2"))))) land.Full ∷
    entry_of 0 who.A 1 (act.FileRead 1) land.Full ∷
    entry_of 0 who.A 1 (act.Item 10) land.Full ∷
    entry_of 0 who.A 1 (act.Item 9) land.Full ∷
    entry_of 0 who.A 1 (act.LogOpen 5 (rec.Commit (unit_of 1 2))) land.Full ∷
    entry_of 0 who.A 1 (act.LogBody 5 (rec.Commit (unit_of 1 2))) land.Full ∷
    entry_of 0 who.A 1 (act.Item 8) land.Full ∷
    entry_of 0 who.A 1 (act.FileWrite (unit_of 1 2) 2 (codes "W2")) land.Full ∷
    entry_of 0 who.A 1 (act.LogOpen 4 (rec.Put (unit_of 1 2) 2 (slot_of (Some (codes "W1"))))) land.Full ∷
    entry_of 0 who.A 1 (act.LogBody 4 (rec.Put (unit_of 1 2) 2 (slot_of (Some (codes "W1"))))) land.Full ∷
    entry_of 0 who.A 1 (act.FileRead 2) land.Full ∷
    entry_of 0 who.A 1 (act.Item 7) land.Full ∷
    entry_of 0 who.A 1 (act.FileWrite (unit_of 1 2) 1 (codes "V2")) land.Full ∷
    entry_of 0 who.A 1 (act.LogOpen 3 (rec.Put (unit_of 1 2) 1 (slot_of (Some (codes "V1"))))) land.Full ∷
    entry_of 0 who.A 1 (act.LogBody 3 (rec.Put (unit_of 1 2) 1 (slot_of (Some (codes "V1"))))) land.Full ∷
    entry_of 0 who.A 1 (act.FileRead 1) land.Full ∷
    entry_of 0 who.A 1 (act.Item 6) land.Full ∷
    entry_of 0 who.A 1 (act.Item 5) land.Full ∷
    entry_of 0 who.A 1 (act.LogOpen 2 (rec.Commit (unit_of 1 1))) land.Full ∷
    entry_of 0 who.A 1 (act.LogBody 2 (rec.Commit (unit_of 1 1))) land.Full ∷
    entry_of 0 who.A 1 (act.Item 4) land.Full ∷
    entry_of 0 who.A 1 (act.FileWrite (unit_of 1 1) 2 (codes "W1")) land.Full ∷
    entry_of 0 who.A 1 (act.LogOpen 1 (rec.Put (unit_of 1 1) 2 (slot_of None))) land.Full ∷
    entry_of 0 who.A 1 (act.LogBody 1 (rec.Put (unit_of 1 1) 2 (slot_of None))) land.Full ∷
    entry_of 0 who.A 1 (act.FileRead 2) land.Full ∷
    entry_of 0 who.A 1 (act.Item 3) land.Full ∷
    entry_of 0 who.A 1 (act.FileWrite (unit_of 1 1) 1 (codes "V1")) land.Full ∷
    entry_of 0 who.A 1 (act.LogOpen 0 (rec.Put (unit_of 1 1) 1 (slot_of None))) land.Full ∷
    entry_of 0 who.A 1 (act.LogBody 0 (rec.Put (unit_of 1 1) 1 (slot_of None))) land.Full ∷
    entry_of 0 who.A 1 (act.FileRead 1) land.Full ∷
    entry_of 0 who.A 1 (act.Item 2) land.Full ∷
    entry_of 0 who.A 1 (act.Item 1) land.Full ∷
    restarted
