use Rattle.std.proofs.Common.{◌&&◌, sym, subst}
use Rattle.xrf_trace.specs.declared.entry.Act.{Act}
use Rattle.xrf_trace.specs.Devices as trace
use Rattle.xrf_trace.specs.Landing.{lands}
use Rattle.xrf_trace.specs.Words.{is_of}
use Rattle.xrf_devices.specs.Places.{sector1_place, sector2_place}
use Rattle.xrf_devices.specs.Standing.{FileIs, SectorsAre, SlotsAre}
use Rattle.xrf_devices.proofs.FirstLaws.{key-finds}
use Rattle.xrf_devices.proofs.data_sets.DataSets.land.Goals as goal

pub land_key-requires-clause-finds : goal.land_key-requires-clause-finds
land_key-requires-clause-finds c =
    key-finds c.args.self.now.key (trace.key_slot c.requires.0) c.args.entry.now.act c.requires.1.key_size c.requires.1.key c.requires.2.key

pub returns-in-CtlWrite : goal.returns-in-CtlWrite
returns-in-CtlWrite c t stands =
    let old = c.args.self.now in
    let s = c.args.scenario.now in
    let e = c.args.entry.now in
    let is = sym c.in-CtlWrite.is in
    record {
      ctl_size = c.land_control.ensures.size;
      signals_size = stands.signals_size;
      messages_size = stands.messages_size;
      log_size = stands.log_size;
      file_size = stands.file_size;
      key_size = stands.key_size;
      control = c.land_control.ensures.control (trace.control t) stands.control;
      sector1 = subst (λ (a : Act). SectorsAre sector1_place c.land_control.new.ctl (λ x. trace.sector1_after a (is_of e.who x && lands e.land) (trace.sector1 t x)))
          is (c.land_control.ensures.sectors (trace.sector1 t) stands.sector1);
      sector2 = subst (λ (a : Act). SectorsAre sector2_place old.signals (λ x. trace.sector2_after a (is_of e.who x && lands e.land) (trace.sector2 t x)))
          is stands.sector2;
      messages = subst (λ (a : Act). SlotsAre old.messages (λ i. trace.message_slot_after a e.land i (trace.message_slot t i))) is stands.messages;
      log = subst (λ (a : Act). SlotsAre old.log (λ i. trace.log_slot_after s.settings.log a e.land i (trace.log_slot s t i))) is stands.log;
      key = subst (λ (a : Act). SlotsAre old.key (λ i. trace.key_slot_after a e.land i (trace.key_slot t i))) is stands.key;
      file = subst (λ (a : Act). FileIs s.settings.file old.file (λ i. trace.image_after a e.land i (trace.image s t i))) is stands.file;
    }
