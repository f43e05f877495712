-- The ranges of the settings that size a pair's data sets.
use Rattle.std.specs.Prelude.{◌≡◌, ◌≤◌, ◌%◌}
use Rattle.xrf_base.specs.declared.limits.Limits.{Limits}

-- LOG is 64 to 1,024 and a multiple of 64, RING is 2 to 64, FILE is 1 to 256
pub record AreLimits (limits : Limits) : Type 0 where
  pub log_least : 64 ≤ limits.log
  pub log_most : limits.log ≤ 1024
  pub log_blocks : limits.log % 64 ≡ 0
  pub ring_least : 2 ≤ limits.ring
  pub ring_most : limits.ring ≤ 64
  pub file_least : 1 ≤ limits.file
  pub file_most : limits.file ≤ 256
