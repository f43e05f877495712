use Rattle.std.proofs.Common.{None}
use Rattle.xrf_devices.proofs.SectorLaws.{zero-sectors1}
use Rattle.xrf_devices.proofs.control.first_ctl.Goals as goal

pub returns-clause-sectors : goal.returns-clause-sectors
returns-clause-sectors c = c.write_control.ensures.sectors (λ x. None) (zero-sectors1 c.in_ok-ctl.ctl c.in_ok-ctl.ensures)
