use Rattle.std.proofs.Common.{arith}
use Rattle.xrf_devices.proofs.SectorLaws.{sectors-kept}
use Rattle.xrf_devices.proofs.control.write_control.Goals as goal

pub returns-clause-sectors : goal.returns-clause-sectors
returns-clause-sectors c signal are = sectors-kept c.args.ctl.now c.land.new.self c.write.result signal c.requires.size (omega arith) c.land.ensures are
