use Rattle.xrf_trace.specs.Devices.{sector2}
use Rattle.xrf_devices.proofs.data_sets.DataSets.signal2.Goals as goal

pub returns : goal.returns
returns c s t stands = c.read_signal2.ensures (sector2 t) stands.sector2
