-- The active stops in the middle of a unit: the alternate misses it for ADI, goes through once that is confirmed, and undoes the unit.
use Rattle.std.specs.Prelude.{false, List, [], ◌∷◌, ◌++◌, replicate, codes, Some, None}
use Rattle.xrf_base.specs.declared.site.Site.TheVariants as site
use Rattle.xrf_base.specs.declared.site.Takeovr.TheVariants as takeovr
use Rattle.xrf_base.specs.declared.items.Item.TheVariants as items
use Rattle.xrf_base.specs.declared.items.ItemAnswer.TheVariants as answer
use Rattle.xrf_base.specs.Values.{slot_of}
use Rattle.xrf_terms.specs.declared.rows.How.TheVariants as how
use Rattle.xrf_ctl.specs.declared.parts.Level.TheVariants as level
use Rattle.xrf_ctl.specs.declared.parts.OwnerState.TheVariants as state
use Rattle.xrf_ctl.specs.declared.parts.Cause.TheVariants as cause
use Rattle.xrf_ctl.specs.Control.{of_parts}
use Rattle.xrf_ctl.specs.Signal.{of_numbers}
use Rattle.xrf_cavm.specs.declared.decisions.Decision.TheVariants as decision
use Rattle.xrf_cavm.specs.declared.decisions.Waiting.TheVariants as waiting
use Rattle.xrf_cavm.specs.declared.decisions.Decided.TheVariants as decided
use Rattle.xrf_logrec.specs.declared.records.LogRec.TheVariants as rec
use Rattle.xrf_setup.specs.declared.choice.Choice.{Choice}
use Rattle.xrf_setup.specs.declared.choice.Choice.TheVariants as choice
use Rattle.xrf_setup.specs.declared.choice.Landing.TheVariants as landing
use Rattle.xrf_setup.specs.declared.format.Format.TheVariants as format
use Rattle.xrf_setup.specs.Scenario.{Scen}
use Rattle.xrf_trace.specs.declared.entry.Act.TheVariants as act
use Rattle.xrf_trace.specs.declared.entry.Entry.{Entry}
use Rattle.xrf_trace.specs.declared.entry.Land.TheVariants as land
use Rattle.xrf_trace.specs.declared.entry.Who.TheVariants as who
use Rattle.xrf_examples.specs.Making.{Told, entry_of, owner_of, alt_of, taking_of, unit_of}
use Rattle.xrf_examples.specs.Beginnings.{terminals_told, to_terminals_told}

abbrev pub scenario : Scen
scenario = record {
  settings = record {
    format = format.One;
    applid_a = codes "CICSA";
    applid_b = codes "CICSB";
    takeovr = takeovr.Auto;
    adi = 30;
    pdi = 30;
    log = 64;
    ring = 16;
    file = 16;
    pace = 40;
    ticks = 60;
    images = false;
    level_a = level.One;
    level_b = level.One;
    force = false;
  };
  records = (1, codes "BALANCE-100") ∷ [];
  clt =
      record { applid = codes "CICSB"; text = codes "CANCEL CICSA" } ∷
      record { applid = codes "CICSB"; text = codes "WTO CICSA IS BEING TAKEN OVER" } ∷ [];
  work_a =
      items.Logon (codes "T1") 1 ∷ items.Logon (codes "T2") 2 ∷ items.Logon (codes "T3") 3 ∷ items.Begin (codes "U1") ∷
      items.Put (codes "U1") 1 (codes "BALANCE-150") ∷ items.Commit (codes "U1") ∷ items.Begin (codes "U2") ∷
      items.Put (codes "U2") 1 (codes "BALANCE-900") ∷ [];
  work_b = [];
  plan = [];
}

abbrev pub choices : List Choice
choices =
    to_terminals_told ++ replicate 14 (choice.Step site.A) ++ replicate 10 (choice.Step site.B) ++ choice.Stop site.A landing.Nothing ∷ choice.Tick ∷
    replicate 6 (choice.Step site.B) ++ choice.Tick ∷ replicate 6 (choice.Step site.B) ++ choice.Tick ∷ replicate 6 (choice.Step site.B) ++
    choice.Tick ∷ replicate 6 (choice.Step site.B) ++ choice.Tick ∷ replicate 6 (choice.Step site.B) ++ choice.Tick ∷
    replicate 6 (choice.Step site.B) ++ choice.Tick ∷ replicate 6 (choice.Step site.B) ++ choice.Tick ∷ replicate 6 (choice.Step site.B) ++
    choice.Tick ∷ replicate 6 (choice.Step site.B) ++ choice.Tick ∷ replicate 6 (choice.Step site.B) ++ choice.Tick ∷
    replicate 6 (choice.Step site.B) ++ choice.Tick ∷ replicate 6 (choice.Step site.B) ++ choice.Tick ∷ replicate 6 (choice.Step site.B) ++
    choice.Tick ∷ replicate 6 (choice.Step site.B) ++ choice.Tick ∷ replicate 6 (choice.Step site.B) ++ choice.Tick ∷
    replicate 6 (choice.Step site.B) ++ choice.Tick ∷ replicate 6 (choice.Step site.B) ++ choice.Tick ∷ replicate 6 (choice.Step site.B) ++
    choice.Tick ∷ replicate 6 (choice.Step site.B) ++ choice.Tick ∷ replicate 6 (choice.Step site.B) ++ choice.Tick ∷
    replicate 6 (choice.Step site.B) ++ choice.Tick ∷ replicate 6 (choice.Step site.B) ++ choice.Tick ∷ replicate 6 (choice.Step site.B) ++
    choice.Tick ∷ replicate 6 (choice.Step site.B) ++ choice.Tick ∷ replicate 6 (choice.Step site.B) ++ choice.Tick ∷
    replicate 6 (choice.Step site.B) ++ choice.Tick ∷ replicate 6 (choice.Step site.B) ++ choice.Tick ∷ replicate 6 (choice.Step site.B) ++
    choice.Tick ∷ replicate 6 (choice.Step site.B) ++ choice.Tick ∷ replicate 11 (choice.Step site.B) ++ choice.Confirm 1 ∷ choice.Tick ∷
    replicate 15 (choice.Step site.B)

abbrev pub trace : List Entry
trace =
    entry_of 32 who.B 2 act.Restarted land.Full ∷
    entry_of 32 who.B 2 (act.LogOpen 3 (rec.Backout (unit_of 1 2))) land.Full ∷
    entry_of 32 who.B 2 (act.LogBody 3 (rec.Backout (unit_of 1 2))) land.Full ∷
    entry_of 32 who.B 2 (act.Undo 1 (slot_of (Some (codes "BALANCE-150")))) land.Full ∷
    entry_of 32 who.B 2 (act.LogRead 0) land.Full ∷
    entry_of 32 who.B 2 (act.MsgRead 4) land.Full ∷
    entry_of 32 who.B 2 act.Release land.Full ∷
    entry_of 32 who.B 2 (act.CtlWrite (of_parts 1 2 (owner_of 2 site.B state.Running) None None)) land.Full ∷
    entry_of 32 who.B 2 act.CtlRead land.Full ∷
    entry_of 32 who.B 2 act.Reserve land.Full ∷
    entry_of 32 who.B 2 (act.Decide (decided.Waiting waiting.Through)) land.Full ∷
    entry_of 32 who.B 2 act.Look2 land.Full ∷
    entry_of 32 who.B 2 act.Look1 land.Full ∷
    entry_of 32 who.B 2 (act.Signal2 (of_numbers 2 33 4)) land.Full ∷
    entry_of 32 who.B 2 (act.Signal1 (of_numbers 2 33 4)) land.Full ∷
    entry_of 32 who.Env 0 act.Tick land.Full ∷
    entry_of 31 who.Env 0 (act.Confirm 1) land.Full ∷
    entry_of 31 who.B 2 (act.Clt 2) land.Full ∷
    entry_of 31 who.B 2 (act.Clt 1) land.Full ∷
    entry_of 31 who.B 2 act.Release land.Full ∷
    entry_of 31 who.B 2 (act.CtlWrite (of_parts 1 2 (owner_of 1 site.A state.Running) (alt_of 2 site.B) (taking_of 2 cause.Lost))) land.Full ∷
    entry_of 31 who.B 2 act.CtlRead land.Full ∷
    entry_of 31 who.B 2 act.Reserve land.Full ∷
    entry_of 31 who.B 2 (act.Decide (decided.Alternate (decision.Start cause.Lost))) land.Full ∷
    entry_of 31 who.B 2 act.Look2 land.Full ∷
    entry_of 31 who.B 2 act.Look1 land.Full ∷
    entry_of 31 who.B 2 (act.Signal2 (of_numbers 2 32 4)) land.Full ∷
    entry_of 31 who.B 2 (act.Signal1 (of_numbers 2 32 4)) land.Full ∷
    entry_of 31 who.Env 0 act.Tick land.Full ∷
    entry_of 30 who.B 2 (act.MsgRead 4) land.Full ∷
    entry_of 30 who.B 2 (act.Decide (decided.Alternate decision.Nothing)) land.Full ∷
    entry_of 30 who.B 2 act.Look2 land.Full ∷
    entry_of 30 who.B 2 act.Look1 land.Full ∷
    entry_of 30 who.B 2 (act.Signal2 (of_numbers 2 31 4)) land.Full ∷
    entry_of 30 who.B 2 (act.Signal1 (of_numbers 2 31 4)) land.Full ∷
    entry_of 30 who.Env 0 act.Tick land.Full ∷
    entry_of 29 who.B 2 (act.MsgRead 4) land.Full ∷
    entry_of 29 who.B 2 (act.Decide (decided.Alternate decision.Nothing)) land.Full ∷
    entry_of 29 who.B 2 act.Look2 land.Full ∷
    entry_of 29 who.B 2 act.Look1 land.Full ∷
    entry_of 29 who.B 2 (act.Signal2 (of_numbers 2 30 4)) land.Full ∷
    entry_of 29 who.B 2 (act.Signal1 (of_numbers 2 30 4)) land.Full ∷
    entry_of 29 who.Env 0 act.Tick land.Full ∷
    entry_of 28 who.B 2 (act.MsgRead 4) land.Full ∷
    entry_of 28 who.B 2 (act.Decide (decided.Alternate decision.Nothing)) land.Full ∷
    entry_of 28 who.B 2 act.Look2 land.Full ∷
    entry_of 28 who.B 2 act.Look1 land.Full ∷
    entry_of 28 who.B 2 (act.Signal2 (of_numbers 2 29 4)) land.Full ∷
    entry_of 28 who.B 2 (act.Signal1 (of_numbers 2 29 4)) land.Full ∷
    entry_of 28 who.Env 0 act.Tick land.Full ∷
    entry_of 27 who.B 2 (act.MsgRead 4) land.Full ∷
    entry_of 27 who.B 2 (act.Decide (decided.Alternate decision.Nothing)) land.Full ∷
    entry_of 27 who.B 2 act.Look2 land.Full ∷
    entry_of 27 who.B 2 act.Look1 land.Full ∷
    entry_of 27 who.B 2 (act.Signal2 (of_numbers 2 28 4)) land.Full ∷
    entry_of 27 who.B 2 (act.Signal1 (of_numbers 2 28 4)) land.Full ∷
    entry_of 27 who.Env 0 act.Tick land.Full ∷
    entry_of 26 who.B 2 (act.MsgRead 4) land.Full ∷
    entry_of 26 who.B 2 (act.Decide (decided.Alternate decision.Nothing)) land.Full ∷
    entry_of 26 who.B 2 act.Look2 land.Full ∷
    entry_of 26 who.B 2 act.Look1 land.Full ∷
    entry_of 26 who.B 2 (act.Signal2 (of_numbers 2 27 4)) land.Full ∷
    entry_of 26 who.B 2 (act.Signal1 (of_numbers 2 27 4)) land.Full ∷
    entry_of 26 who.Env 0 act.Tick land.Full ∷
    entry_of 25 who.B 2 (act.MsgRead 4) land.Full ∷
    entry_of 25 who.B 2 (act.Decide (decided.Alternate decision.Nothing)) land.Full ∷
    entry_of 25 who.B 2 act.Look2 land.Full ∷
    entry_of 25 who.B 2 act.Look1 land.Full ∷
    entry_of 25 who.B 2 (act.Signal2 (of_numbers 2 26 4)) land.Full ∷
    entry_of 25 who.B 2 (act.Signal1 (of_numbers 2 26 4)) land.Full ∷
    entry_of 25 who.Env 0 act.Tick land.Full ∷
    entry_of 24 who.B 2 (act.MsgRead 4) land.Full ∷
    entry_of 24 who.B 2 (act.Decide (decided.Alternate decision.Nothing)) land.Full ∷
    entry_of 24 who.B 2 act.Look2 land.Full ∷
    entry_of 24 who.B 2 act.Look1 land.Full ∷
    entry_of 24 who.B 2 (act.Signal2 (of_numbers 2 25 4)) land.Full ∷
    entry_of 24 who.B 2 (act.Signal1 (of_numbers 2 25 4)) land.Full ∷
    entry_of 24 who.Env 0 act.Tick land.Full ∷
    entry_of 23 who.B 2 (act.MsgRead 4) land.Full ∷
    entry_of 23 who.B 2 (act.Decide (decided.Alternate decision.Nothing)) land.Full ∷
    entry_of 23 who.B 2 act.Look2 land.Full ∷
    entry_of 23 who.B 2 act.Look1 land.Full ∷
    entry_of 23 who.B 2 (act.Signal2 (of_numbers 2 24 4)) land.Full ∷
    entry_of 23 who.B 2 (act.Signal1 (of_numbers 2 24 4)) land.Full ∷
    entry_of 23 who.Env 0 act.Tick land.Full ∷
    entry_of 22 who.B 2 (act.MsgRead 4) land.Full ∷
    entry_of 22 who.B 2 (act.Decide (decided.Alternate decision.Nothing)) land.Full ∷
    entry_of 22 who.B 2 act.Look2 land.Full ∷
    entry_of 22 who.B 2 act.Look1 land.Full ∷
    entry_of 22 who.B 2 (act.Signal2 (of_numbers 2 23 4)) land.Full ∷
    entry_of 22 who.B 2 (act.Signal1 (of_numbers 2 23 4)) land.Full ∷
    entry_of 22 who.Env 0 act.Tick land.Full ∷
    entry_of 21 who.B 2 (act.MsgRead 4) land.Full ∷
    entry_of 21 who.B 2 (act.Decide (decided.Alternate decision.Nothing)) land.Full ∷
    entry_of 21 who.B 2 act.Look2 land.Full ∷
    entry_of 21 who.B 2 act.Look1 land.Full ∷
    entry_of 21 who.B 2 (act.Signal2 (of_numbers 2 22 4)) land.Full ∷
    entry_of 21 who.B 2 (act.Signal1 (of_numbers 2 22 4)) land.Full ∷
    entry_of 21 who.Env 0 act.Tick land.Full ∷
    entry_of 20 who.B 2 (act.MsgRead 4) land.Full ∷
    entry_of 20 who.B 2 (act.Decide (decided.Alternate decision.Nothing)) land.Full ∷
    entry_of 20 who.B 2 act.Look2 land.Full ∷
    entry_of 20 who.B 2 act.Look1 land.Full ∷
    entry_of 20 who.B 2 (act.Signal2 (of_numbers 2 21 4)) land.Full ∷
    entry_of 20 who.B 2 (act.Signal1 (of_numbers 2 21 4)) land.Full ∷
    entry_of 20 who.Env 0 act.Tick land.Full ∷
    entry_of 19 who.B 2 (act.MsgRead 4) land.Full ∷
    entry_of 19 who.B 2 (act.Decide (decided.Alternate decision.Nothing)) land.Full ∷
    entry_of 19 who.B 2 act.Look2 land.Full ∷
    entry_of 19 who.B 2 act.Look1 land.Full ∷
    entry_of 19 who.B 2 (act.Signal2 (of_numbers 2 20 4)) land.Full ∷
    entry_of 19 who.B 2 (act.Signal1 (of_numbers 2 20 4)) land.Full ∷
    entry_of 19 who.Env 0 act.Tick land.Full ∷
    entry_of 18 who.B 2 (act.MsgRead 4) land.Full ∷
    entry_of 18 who.B 2 (act.Decide (decided.Alternate decision.Nothing)) land.Full ∷
    entry_of 18 who.B 2 act.Look2 land.Full ∷
    entry_of 18 who.B 2 act.Look1 land.Full ∷
    entry_of 18 who.B 2 (act.Signal2 (of_numbers 2 19 4)) land.Full ∷
    entry_of 18 who.B 2 (act.Signal1 (of_numbers 2 19 4)) land.Full ∷
    entry_of 18 who.Env 0 act.Tick land.Full ∷
    entry_of 17 who.B 2 (act.MsgRead 4) land.Full ∷
    entry_of 17 who.B 2 (act.Decide (decided.Alternate decision.Nothing)) land.Full ∷
    entry_of 17 who.B 2 act.Look2 land.Full ∷
    entry_of 17 who.B 2 act.Look1 land.Full ∷
    entry_of 17 who.B 2 (act.Signal2 (of_numbers 2 18 4)) land.Full ∷
    entry_of 17 who.B 2 (act.Signal1 (of_numbers 2 18 4)) land.Full ∷
    entry_of 17 who.Env 0 act.Tick land.Full ∷
    entry_of 16 who.B 2 (act.MsgRead 4) land.Full ∷
    entry_of 16 who.B 2 (act.Decide (decided.Alternate decision.Nothing)) land.Full ∷
    entry_of 16 who.B 2 act.Look2 land.Full ∷
    entry_of 16 who.B 2 act.Look1 land.Full ∷
    entry_of 16 who.B 2 (act.Signal2 (of_numbers 2 17 4)) land.Full ∷
    entry_of 16 who.B 2 (act.Signal1 (of_numbers 2 17 4)) land.Full ∷
    entry_of 16 who.Env 0 act.Tick land.Full ∷
    entry_of 15 who.B 2 (act.MsgRead 4) land.Full ∷
    entry_of 15 who.B 2 (act.Decide (decided.Alternate decision.Nothing)) land.Full ∷
    entry_of 15 who.B 2 act.Look2 land.Full ∷
    entry_of 15 who.B 2 act.Look1 land.Full ∷
    entry_of 15 who.B 2 (act.Signal2 (of_numbers 2 16 4)) land.Full ∷
    entry_of 15 who.B 2 (act.Signal1 (of_numbers 2 16 4)) land.Full ∷
    entry_of 15 who.Env 0 act.Tick land.Full ∷
    entry_of 14 who.B 2 (act.MsgRead 4) land.Full ∷
    entry_of 14 who.B 2 (act.Decide (decided.Alternate decision.Nothing)) land.Full ∷
    entry_of 14 who.B 2 act.Look2 land.Full ∷
    entry_of 14 who.B 2 act.Look1 land.Full ∷
    entry_of 14 who.B 2 (act.Signal2 (of_numbers 2 15 4)) land.Full ∷
    entry_of 14 who.B 2 (act.Signal1 (of_numbers 2 15 4)) land.Full ∷
    entry_of 14 who.Env 0 act.Tick land.Full ∷
    entry_of 13 who.B 2 (act.MsgRead 4) land.Full ∷
    entry_of 13 who.B 2 (act.Decide (decided.Alternate decision.Nothing)) land.Full ∷
    entry_of 13 who.B 2 act.Look2 land.Full ∷
    entry_of 13 who.B 2 act.Look1 land.Full ∷
    entry_of 13 who.B 2 (act.Signal2 (of_numbers 2 14 4)) land.Full ∷
    entry_of 13 who.B 2 (act.Signal1 (of_numbers 2 14 4)) land.Full ∷
    entry_of 13 who.Env 0 act.Tick land.Full ∷
    entry_of 12 who.B 2 (act.MsgRead 4) land.Full ∷
    entry_of 12 who.B 2 (act.Decide (decided.Alternate decision.Nothing)) land.Full ∷
    entry_of 12 who.B 2 act.Look2 land.Full ∷
    entry_of 12 who.B 2 act.Look1 land.Full ∷
    entry_of 12 who.B 2 (act.Signal2 (of_numbers 2 13 4)) land.Full ∷
    entry_of 12 who.B 2 (act.Signal1 (of_numbers 2 13 4)) land.Full ∷
    entry_of 12 who.Env 0 act.Tick land.Full ∷
    entry_of 11 who.B 2 (act.MsgRead 4) land.Full ∷
    entry_of 11 who.B 2 (act.Decide (decided.Alternate decision.Nothing)) land.Full ∷
    entry_of 11 who.B 2 act.Look2 land.Full ∷
    entry_of 11 who.B 2 act.Look1 land.Full ∷
    entry_of 11 who.B 2 (act.Signal2 (of_numbers 2 12 4)) land.Full ∷
    entry_of 11 who.B 2 (act.Signal1 (of_numbers 2 12 4)) land.Full ∷
    entry_of 11 who.Env 0 act.Tick land.Full ∷
    entry_of 10 who.B 2 (act.MsgRead 4) land.Full ∷
    entry_of 10 who.B 2 (act.Decide (decided.Alternate decision.Nothing)) land.Full ∷
    entry_of 10 who.B 2 act.Look2 land.Full ∷
    entry_of 10 who.B 2 act.Look1 land.Full ∷
    entry_of 10 who.B 2 (act.Signal2 (of_numbers 2 11 4)) land.Full ∷
    entry_of 10 who.B 2 (act.Signal1 (of_numbers 2 11 4)) land.Full ∷
    entry_of 10 who.Env 0 act.Tick land.Full ∷
    entry_of 9 who.B 2 (act.MsgRead 4) land.Full ∷
    entry_of 9 who.B 2 (act.Decide (decided.Alternate decision.Nothing)) land.Full ∷
    entry_of 9 who.B 2 act.Look2 land.Full ∷
    entry_of 9 who.B 2 act.Look1 land.Full ∷
    entry_of 9 who.B 2 (act.Signal2 (of_numbers 2 10 4)) land.Full ∷
    entry_of 9 who.B 2 (act.Signal1 (of_numbers 2 10 4)) land.Full ∷
    entry_of 9 who.Env 0 act.Tick land.Full ∷
    entry_of 8 who.B 2 (act.MsgRead 4) land.Full ∷
    entry_of 8 who.B 2 (act.Decide (decided.Alternate decision.Nothing)) land.Full ∷
    entry_of 8 who.B 2 act.Look2 land.Full ∷
    entry_of 8 who.B 2 act.Look1 land.Full ∷
    entry_of 8 who.B 2 (act.Signal2 (of_numbers 2 9 4)) land.Full ∷
    entry_of 8 who.B 2 (act.Signal1 (of_numbers 2 9 4)) land.Full ∷
    entry_of 8 who.Env 0 act.Tick land.Full ∷
    entry_of 7 who.B 2 (act.MsgRead 4) land.Full ∷
    entry_of 7 who.B 2 (act.Decide (decided.Alternate decision.Nothing)) land.Full ∷
    entry_of 7 who.B 2 act.Look2 land.Full ∷
    entry_of 7 who.B 2 act.Look1 land.Full ∷
    entry_of 7 who.B 2 (act.Signal2 (of_numbers 2 8 4)) land.Full ∷
    entry_of 7 who.B 2 (act.Signal1 (of_numbers 2 8 4)) land.Full ∷
    entry_of 7 who.Env 0 act.Tick land.Full ∷
    entry_of 6 who.B 2 (act.MsgRead 4) land.Full ∷
    entry_of 6 who.B 2 (act.Decide (decided.Alternate decision.Nothing)) land.Full ∷
    entry_of 6 who.B 2 act.Look2 land.Full ∷
    entry_of 6 who.B 2 act.Look1 land.Full ∷
    entry_of 6 who.B 2 (act.Signal2 (of_numbers 2 7 4)) land.Full ∷
    entry_of 6 who.B 2 (act.Signal1 (of_numbers 2 7 4)) land.Full ∷
    entry_of 6 who.Env 0 act.Tick land.Full ∷
    entry_of 5 who.B 2 (act.MsgRead 4) land.Full ∷
    entry_of 5 who.B 2 (act.Decide (decided.Alternate decision.Nothing)) land.Full ∷
    entry_of 5 who.B 2 act.Look2 land.Full ∷
    entry_of 5 who.B 2 act.Look1 land.Full ∷
    entry_of 5 who.B 2 (act.Signal2 (of_numbers 2 6 4)) land.Full ∷
    entry_of 5 who.B 2 (act.Signal1 (of_numbers 2 6 4)) land.Full ∷
    entry_of 5 who.Env 0 act.Tick land.Full ∷
    entry_of 4 who.B 2 (act.MsgRead 4) land.Full ∷
    entry_of 4 who.B 2 (act.Decide (decided.Alternate decision.Nothing)) land.Full ∷
    entry_of 4 who.B 2 act.Look2 land.Full ∷
    entry_of 4 who.B 2 act.Look1 land.Full ∷
    entry_of 4 who.B 2 (act.Signal2 (of_numbers 2 5 4)) land.Full ∷
    entry_of 4 who.B 2 (act.Signal1 (of_numbers 2 5 4)) land.Full ∷
    entry_of 4 who.Env 0 act.Tick land.Full ∷
    entry_of 3 who.B 2 (act.MsgRead 4) land.Full ∷
    entry_of 3 who.B 2 (act.Decide (decided.Alternate decision.Nothing)) land.Full ∷
    entry_of 3 who.B 2 act.Look2 land.Full ∷
    entry_of 3 who.B 2 act.Look1 land.Full ∷
    entry_of 3 who.B 2 (act.Signal2 (of_numbers 2 4 4)) land.Full ∷
    entry_of 3 who.B 2 (act.Signal1 (of_numbers 2 4 4)) land.Full ∷
    entry_of 3 who.Env 0 act.Tick land.Full ∷
    entry_of 2 who.B 2 (act.MsgRead 4) land.Full ∷
    entry_of 2 who.B 2 (act.Decide (decided.Alternate decision.Nothing)) land.Full ∷
    entry_of 2 who.B 2 act.Look2 land.Full ∷
    entry_of 2 who.B 2 act.Look1 land.Full ∷
    entry_of 2 who.B 2 (act.Signal2 (of_numbers 2 3 4)) land.Full ∷
    entry_of 2 who.B 2 (act.Signal1 (of_numbers 2 3 4)) land.Full ∷
    entry_of 2 who.Env 0 act.Tick land.Full ∷
    entry_of 1 who.A 1 act.NoAct (land.Stop landing.Nothing) ∷
    entry_of 1 who.B 2 (act.MsgRead 4) land.Full ∷
    entry_of 1 who.B 2 (act.MsgRead 3) land.Full ∷
    entry_of 1 who.B 2 (act.MsgRead 2) land.Full ∷
    entry_of 1 who.B 2 (act.MsgRead 1) land.Full ∷
    entry_of 1 who.B 2 (act.MsgRead 0) land.Full ∷
    entry_of 1 who.B 2 (act.Decide (decided.Alternate decision.Nothing)) land.Full ∷
    entry_of 1 who.B 2 act.Look2 land.Full ∷
    entry_of 1 who.B 2 act.Look1 land.Full ∷
    entry_of 1 who.B 2 (act.Signal2 (of_numbers 2 2 0)) land.Full ∷
    entry_of 1 who.B 2 (act.Signal1 (of_numbers 2 2 0)) land.Full ∷
    entry_of 1 who.A 1 (act.FileWrite (unit_of 1 2) 1 (codes "BALANCE-900")) land.Full ∷
    entry_of 1 who.A 1 (act.LogOpen 2 (rec.Put (unit_of 1 2) 1 (slot_of (Some (codes "BALANCE-150"))))) land.Full ∷
    entry_of 1 who.A 1 (act.LogBody 2 (rec.Put (unit_of 1 2) 1 (slot_of (Some (codes "BALANCE-150"))))) land.Full ∷
    entry_of 1 who.A 1 (act.FileRead 1) land.Full ∷
    entry_of 1 who.A 1 (act.Item 8) land.Full ∷
    entry_of 1 who.A 1 (act.Item 7) land.Full ∷
    entry_of 1 who.A 1 (act.LogOpen 1 (rec.Commit (unit_of 1 1))) land.Full ∷
    entry_of 1 who.A 1 (act.LogBody 1 (rec.Commit (unit_of 1 1))) land.Full ∷
    entry_of 1 who.A 1 (act.Item 6) land.Full ∷
    entry_of 1 who.A 1 (act.FileWrite (unit_of 1 1) 1 (codes "BALANCE-150")) land.Full ∷
    entry_of 1 who.A 1 (act.LogOpen 0 (rec.Put (unit_of 1 1) 1 (slot_of (Some (codes "BALANCE-100"))))) land.Full ∷
    entry_of 1 who.A 1 (act.LogBody 0 (rec.Put (unit_of 1 1) 1 (slot_of (Some (codes "BALANCE-100"))))) land.Full ∷
    entry_of 1 who.A 1 (act.FileRead 1) land.Full ∷
    entry_of 1 who.A 1 (act.Item 5) land.Full ∷
    terminals_told

abbrev pub told : Told
told = record {
  answers_a = replicate 8 (Some answer.Done);
  answers_b = [];
  tick = 32;
  held = of_parts 1 2 (owner_of 2 site.B state.Running) None None;
  records = 4;
  done = 1;
  undone = 0;
  file = Some (Some (codes "BALANCE-150")) ∷ replicate 15 (Some None);
  table_a = [];
  table_b =
      record { term = codes "T1"; class = 1; how = how.Switched; user = None } ∷
      record { term = codes "T2"; class = 2; how = how.Acquired; user = None } ∷ [];
}
