-- A record seen field by field, as the private readers of bytes see it. No public contract speaks of it.
use Rattle.std.specs.Prelude.{◌≡◌, List, ℕ}
use Rattle.xrf_ctl.specs.Control.{ControlRecord, IsFormat}
use Rattle.xrf_ctl.specs.Places.{zeros, part, number_at}
use Rattle.xrf_ctl.specs.Layout.{eye}
use Rattle.xrf_ctl.specs.Faults.{last_at, HasOwner, HasAlt, HasTaking}

-- the bytes hold this record, field by field
pub record HasParts (bytes : List ℕ) (r : ControlRecord) : Type 0 where
  pub eye : part bytes 0 4 ≡ eye
  pub is_format : IsFormat r.format
  pub format : number_at bytes 4 2 ≡ r.format
  pub last : last_at bytes ≡ r.last
  pub owner : HasOwner bytes r.owner
  pub alt : HasAlt bytes r.owner r.alt
  pub taking : HasTaking bytes r.alt r.taking
  pub reserved : (part bytes 6 2 ≡ zeros 2) × (part bytes 36 220 ≡ zeros 220)
