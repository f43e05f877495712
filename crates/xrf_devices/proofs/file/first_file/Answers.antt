use Rattle.std.proofs.Common.{◌*◌, length, ap, ◌∙◌}
use Rattle.std.proofs.lemmas.List.{length-replicate}
use Rattle.xrf_devices.proofs.FileLaws.{none-yet, one-more}
use Rattle.xrf_devices.proofs.file.first_file.Goals as goal

pub loop-done-init : goal.loop-done-init
loop-done-init c = record {
  file = none-yet c.args.records c.args.first.now c.in_ok-file.file c.in_ok-file.ensures;
  size = ap length c.in_ok-file.ensures ∙ length-replicate (32 * c.args.records) 0;
}

pub loop-done-preserved : goal.loop-done-preserved
loop-done-preserved c = record {
  file = one-more c.args.records c.args.first.now c.loop-done.done c.index-first-first.result c.write_record.new.file c.to_slot.result
      c.loop-done-test.true c.index-first-first.is
      c.to_slot.ensures.slot (c.write_record.ensures.file _ c.loop-done.invariant.file);
  size = c.write_record.ensures.size;
}
