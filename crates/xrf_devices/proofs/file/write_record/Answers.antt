use Rattle.std.proofs.Common.{arith}
use Rattle.xrf_devices.proofs.FileLaws.{record-written}
use Rattle.xrf_devices.proofs.file.write_record.Goals as goal

pub returns-then-k-records-clause-file : goal.returns-then-k-records-clause-file
returns-then-k-records-clause-file c image are =
    record-written c.args.records c.args.k c.args.file.now c.land.new.self c.args.bytes.now image c.requires.size (omega arith)
    c.if-k-ge1.true c.if-k-records.true c.land.ensures are
