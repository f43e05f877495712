-- Images of the sizes of a scenario are as long as data sets that stand for a trace of it.
use Rattle.std.proofs.Common.{◌∙◌, sym, ap, ◌+◌, ◌*◌, ℕ, List}
use Rattle.xrf_devices.specs.Standing.{StandsFor}
use Rattle.xrf_devices.specs.declared.data_sets.DataSets.{DataSets}
use Rattle.xrf_setup.specs.Scenario.{limits}
use Rattle.xrf_trace.specs.declared.entry.Entry.{Entry}
use Rattle.xrf_trace.specs.Scenario.{Scen}
use Rattle.xrf_world.specs.declared.images.ImageBytes.{ImageBytes}
use Rattle.xrf_world.specs.Images.{HaveSizes, AreAsLong}

pub as-long : (images : ImageBytes) (d : DataSets) (s : Scen) (t : List Entry) → StandsFor d s t → HaveSizes images (limits s) → AreAsLong images d
as-long images d s t stands sizes = record {
  ctl = sizes.ctl ∙ sym stands.ctl_size;
  signals = stands.signals_size;
  msg = sizes.msg ∙ ap (λ (n : ℕ). 128 + 64 * n) (sym stands.messages_size);
  log = sizes.log ∙ ap (λ (n : ℕ). 64 * n) (sym stands.log_size);
  file = sizes.file ∙ sym stands.file_size;
  key = sizes.key ∙ ap (λ (n : ℕ). 64 * n) (sym stands.key_size);
}
