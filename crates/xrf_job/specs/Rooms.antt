-- The memory of a job, and the sizes that it was made for.
use Rattle.std.specs.Prelude.{◌≡◌}
use Rattle.xrf_base.specs.declared.limits.Limits.{Limits}
use Rattle.xrf_base.specs.Ranges.{AreLimits}
use Rattle.xrf_job.specs.declared.rooms.Rooms.{Rooms}

-- rooms were made for these limits
pub record AreFor (rooms : Rooms) (limits : Limits) : Type 0 where
  pub sizes : AreLimits limits
  pub units : rooms.units.slots ≡ limits.log
  pub records : rooms.units.records ≡ limits.file
  pub scan : rooms.scan.slots ≡ limits.log
