-- Names: applids, units, terminals, users and commands.
use Rattle.std.specs.Prelude.{ℕ, Bool, ◌==◌, ◌&&◌, ◌||◌, nat_eq, nat_le, List, length, IsTrue, Option, Some, None, if◌then◌else◌}
use Rattle.std.specs.List.{list_all}
use Rattle.std.specs.Cmp.Lexicographic.{pointwise}
use Rattle.xrf_base.specs.Padding.{padded, unpadded}

-- A to Z (bytes 65 to 90), 0 to 9 (48 to 57), @ (64), # (35) or $ (36)
abbrev pub is_name_byte : ℕ → Bool
is_name_byte b = (nat_le 65 b && nat_le b 90) || (nat_le 48 b && nat_le b 57) || b == 64 || b == 35 || b == 36

-- 1 to 8 such bytes
abbrev pub is_name : List ℕ → Bool
is_name text = nat_le 1 (length text) && nat_le (length text) 8 && list_all is_name_byte text

abbrev pub IsName : List ℕ → Type 0
IsName text = IsTrue (is_name text)

-- the name that a text spells, which is the text itself
abbrev pub name_of : List ℕ → Option (List ℕ)
name_of text = if is_name text then Some text else None

-- The name that a field of 8 bytes spells: the name, and blanks up to 8.
abbrev pub padded_name : List ℕ → Option (List ℕ)
padded_name field = if is_name (unpadded field) && pointwise nat_eq (padded 8 (unpadded field)) field then Some (unpadded field) else None
