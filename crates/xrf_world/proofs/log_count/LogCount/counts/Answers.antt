-- No more units are in flight than there are records.
use Rattle.std.proofs.Common.{length, ap, arith}
use Rattle.xrf_log.proofs.FlightLaws.{length-flight}
use Rattle.xrf_world.proofs.log_count.LogCount.counts.Goals as goal

pub count_within-requires : goal.count_within-requires
count_within-requires c =
    let is = c.requires.1 in
    omega (arith, is.records, ap length is.flight, length-flight c.requires.0, ap length c.deref.ensures.value)
