-- Values of file records, and the file slot in which a record lies.
use Rattle.std.specs.Prelude.{◌≡◌, ℕ, Bool, ◌&&◌, nat_eq, nat_le, drop, List, ◌∷◌, ◌++◌, length, replicate, IsTrue, Option, Some, None, IfSome, if◌then◌else◌}
use Rattle.std.specs.Option.{option_map, option_and_then}
use Rattle.std.specs.List.{list_all}
use Rattle.std.specs.Cmp.Lexicographic.{pointwise}
use Rattle.xrf_base.specs.Padding.{padded, unpadded}

-- from `!` to `~`
abbrev pub is_value_byte : ℕ → Bool
is_value_byte b = nat_le 33 b && nat_le b 126

-- 1 to 24 such bytes
abbrev pub is_value : List ℕ → Bool
is_value text = nat_le 1 (length text) && nat_le (length text) 24 && list_all is_value_byte text

abbrev pub IsValue : List ℕ → Type 0
IsValue text = IsTrue (is_value text)

-- the value that a text spells, which is the text itself
abbrev pub value_of : List ℕ → Option (List ℕ)
value_of text = if is_value text then Some text else None

-- The value that a field of 24 bytes spells: the value, and blanks up to 24.
abbrev pub padded_value : List ℕ → Option (List ℕ)
padded_value field = if is_value (unpadded field) && pointwise nat_eq (padded 24 (unpadded field)) field then Some (unpadded field) else None

-- The 32 bytes of a file slot. An empty slot is all zero. A record has 1, seven zero bytes, and its
-- value padded with blanks to 24 bytes.
abbrev pub slot_of : Option (List ℕ) → List ℕ
slot_of None = replicate 32 0
slot_of (Some value) = 1 ∷ replicate 7 0 ++ padded 24 value

-- the bytes are the slot of no record, or of a record with this value
abbrev pub SlotIs : List ℕ → Option (List ℕ) → Type 0
SlotIs bytes record_or_none = IfSome record_or_none IsValue × (bytes ≡ slot_of record_or_none)

-- the value of the record of which the bytes are the slot; nothing where they are the slot of none
abbrev pub record_reading : List ℕ → Option (List ℕ)
record_reading bytes = option_and_then (λ value. if pointwise nat_eq (slot_of (Some value)) bytes then Some value else None) (value_of (unpadded (drop 8 bytes)))

-- what the bytes are the slot of, a record or an empty slot; nothing where they are no slot
abbrev pub slot_reading : List ℕ → Option (Option (List ℕ))
slot_reading bytes = if pointwise nat_eq bytes (slot_of None) then Some None else option_map Some (record_reading bytes)
