-- Bytes that are zero.
use Rattle.std.specs.Prelude.{ℕ, Bool, ◌==◌, List}
use Rattle.std.specs.List.{list_all}

abbrev pub is_zero : ℕ → Bool
is_zero b = b == 0

abbrev pub are_zeros : List ℕ → Bool
are_zeros bytes = list_all is_zero bytes
