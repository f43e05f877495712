use Rattle.std.proofs.Common.{subst, sym}
use Rattle.xrf_devices.specs.Standing.{SectorIs}
use Rattle.xrf_devices.proofs.SectorLaws.{sector-read}
use Rattle.xrf_devices.proofs.signals.read_sector.Goals as goal

pub returns : goal.returns
returns c signal is = sector-read c.read.new.into c.read-2.result signal c.read-2.ensures (subst (λ b. SectorIs b signal) (sym c.read.ensures) is)
