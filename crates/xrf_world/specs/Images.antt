-- The images of the data sets: their bytes, and how many there are.
use Rattle.std.specs.Prelude.{◌≡◌, ◌+◌, ◌*◌, ◌++◌, List, length, replicate}
use Rattle.std.specs.List.{flat_map}
use Rattle.xrf_base.specs.declared.limits.Limits.{Limits}
use Rattle.xrf_devices.specs.Standing.{StandsFor}
use Rattle.xrf_devices.specs.declared.data_sets.DataSets.{DataSets}
use Rattle.xrf_gated.specs.Slots.{bytes_of}
use Rattle.xrf_trace.specs.declared.entry.Entry.{Entry}
use Rattle.xrf_trace.specs.Scenario.{Scen}
use Rattle.xrf_world.specs.declared.images.ImageBytes.{ImageBytes}

-- as many bytes as data sets of these sizes have
pub record HaveSizes (images : ImageBytes) (limits : Limits) : Type 0 where
  pub ctl : length images.ctl.items ≡ 384
  pub msg : length images.msg.items ≡ 128 + 64 * limits.ring
  pub log : length images.log.items ≡ 64 * limits.log
  pub file : length images.file.items ≡ 32 * limits.file
  pub key : length images.key.items ≡ 128

-- so many bytes, and all are zero
pub record AreZero (images : ImageBytes) (limits : Limits) : Type 0 where
  pub ctl : images.ctl.items ≡ replicate 384 0
  pub msg : images.msg.items ≡ replicate (128 + 64 * limits.ring) 0
  pub log : images.log.items ≡ replicate (64 * limits.log) 0
  pub file : images.file.items ≡ replicate (32 * limits.file) 0
  pub key : images.key.items ≡ replicate 128 0

-- as many bytes as these data sets have
pub record AreAsLong (images : ImageBytes) (d : DataSets) : Type 0 where
  pub ctl : length images.ctl.items ≡ length d.ctl
  pub signals : length d.signals ≡ 128
  pub msg : length images.msg.items ≡ 128 + 64 * length d.messages
  pub log : length images.log.items ≡ 64 * length d.log
  pub file : length images.file.items ≡ length d.file
  pub key : length images.key.items ≡ 64 * length d.key

-- the bytes of these data sets
pub record AreBytesOf (images : ImageBytes) (d : DataSets) : Type 0 where
  pub ctl : images.ctl.items ≡ d.ctl
  pub msg : images.msg.items ≡ d.signals ++ flat_map bytes_of d.messages
  pub log : images.log.items ≡ flat_map bytes_of d.log
  pub file : images.file.items ≡ d.file
  pub key : images.key.items ≡ flat_map bytes_of d.key

-- the bytes of data sets that stand for a trace of a scenario
abbrev pub AreImagesOf : ImageBytes → Scen → List Entry → Type 0
AreImagesOf images s t = (d : DataSets) × StandsFor d s t × AreBytesOf images d
