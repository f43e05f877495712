use Rattle.xrf_trace.specs.Devices.{sector1}
use Rattle.xrf_devices.proofs.data_sets.DataSets.signal1.Goals as goal

pub returns : goal.returns
returns c s t stands = c.read_signal1.ensures (sector1 t) stands.sector1
