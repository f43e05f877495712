-- Torn bytes.
use Rattle.std.specs.Prelude.{ℕ, ◌&&◌, nat_le, if◌then◌else◌, List, length, Option, Some, None}
use Rattle.xrf_setup.specs.declared.ranges.TheConstants.{TORN_MOST}

-- 1 to 63 bytes
abbrev pub torn_of : List ℕ → Option (List ℕ)
torn_of bytes = if nat_le 1 (length bytes) && nat_le (length bytes) TORN_MOST then Some bytes else None
