-- Numbers in texts: decimal digits without a leading zero, except 0 itself, and at most 65535.
use Rattle.std.specs.Prelude.{ℕ, Bool, ◌+◌, ◌*◌, ◌-◌, ◌==◌, ◌&&◌, ◌||◌, not, nat_le, List, [], ◌∷◌, length, slice_index, Option, Some, None, if◌then◌else◌}
use Rattle.std.specs.Char.{is_ascii_digit}
use Rattle.std.specs.List.{list_all}

-- the number that digits write behind those of another
abbrev pub value_behind : ℕ → List ℕ → ℕ
value_behind n [] = n
value_behind n (digit ∷ digits) = value_behind (10 * n + (digit - 48)) digits

-- the same where all are digits
abbrev pub digits_behind : ℕ → List ℕ → Option ℕ
digits_behind n text = if list_all is_ascii_digit text then Some (value_behind n text) else None

abbrev pub is_number : List ℕ → Bool
is_number text = nat_le 1 (length text) && nat_le (length text) 5 && list_all is_ascii_digit text
    && (not (slice_index text 0 == 48) || length text == 1) && nat_le (value_behind 0 text) 65535

-- the number that a text spells
abbrev pub number_of : List ℕ → Option ℕ
number_of text = if is_number text then Some (value_behind 0 text) else None
