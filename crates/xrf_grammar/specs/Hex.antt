-- Bytes in hex.
use Rattle.std.specs.Prelude.{ℕ, Bool, ◌+◌, ◌*◌, ◌-◌, ◌%◌, ◌==◌, ◌&&◌, nat_le, List, [], ◌∷◌, length, Option, Some, None, if◌then◌else◌}
use Rattle.std.specs.Char.{is_ascii_hexdigit}
use Rattle.std.specs.List.{list_all}
use Rattle.xrf_setup.specs.declared.ranges.TheConstants.{TORN_MOST}

abbrev pub is_hex_digit : ℕ → Bool
is_hex_digit b = is_ascii_hexdigit b

-- an even number of hex digits, of either case, for 1 to 63 bytes
abbrev pub is_hex : List ℕ → Bool
is_hex text = nat_le 1 (length text) && nat_le (length text) (2 * TORN_MOST) && length text % 2 == 0 && list_all is_hex_digit text

-- the number that a digit stands for
abbrev pub digit_value : ℕ → ℕ
digit_value b = if nat_le 97 b then b - 87 else if nat_le 65 b then b - 55 else b - 48

-- the byte that two digits spell
abbrev pub byte_of : ℕ → ℕ → ℕ
byte_of high low = 16 * digit_value high + digit_value low

-- the bytes that pairs of digits spell
abbrev pub bytes_of_hex : List ℕ → List ℕ
bytes_of_hex [] = []
bytes_of_hex (high ∷ []) = []
bytes_of_hex (high ∷ low ∷ more) = byte_of high low ∷ bytes_of_hex more

-- the bytes that a text spells
abbrev pub torn_of_hex : List ℕ → Option (List ℕ)
torn_of_hex text = if is_hex text then Some (bytes_of_hex text) else None
