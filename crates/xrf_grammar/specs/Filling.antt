-- The bytes that pairs of digits fill in, one after the other.
use Rattle.std.specs.Prelude.{ℕ, ◌+◌, nat_le, List, [], ◌∷◌, slice_set, take, if◌then◌else◌}
use Rattle.xrf_setup.specs.declared.ranges.TheConstants.{TORN_MOST}
use Rattle.xrf_grammar.specs.Hex.{byte_of}
use Rattle.xrf_grammar.specs.declared.hex.Filling.{Filling}

-- one byte more, as long as there is room
abbrev pub one_more : Filling → ℕ → Filling
one_more filling byte = if nat_le TORN_MOST filling.count then filling else record { bytes = slice_set filling.bytes filling.count byte; count = filling.count + 1 }

-- the bytes so far, and behind them those that pairs of digits spell
abbrev pub filled : Filling → List ℕ → Filling
filled filling [] = filling
filled filling (high ∷ []) = filling
filled filling (high ∷ low ∷ more) = filled (one_more filling (byte_of high low)) more

-- the bytes so far
abbrev pub front_of : Filling → List ℕ
front_of filling = if nat_le TORN_MOST filling.count then filling.bytes else take filling.count filling.bytes
