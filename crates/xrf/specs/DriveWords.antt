-- The words `drive SEED N`.
use Rattle.std.specs.Prelude.{ℕ, Bool, ◌==◌, ◌&&◌, ◌||◌, not, nat_le, nat_eq, List, [], ◌∷◌, length, slice_index, codes, String, string_bytes, Option, Some, None, if◌then◌else◌}
use Rattle.std.specs.Char.{is_ascii_digit}
use Rattle.std.specs.Cmp.Lexicographic.{pointwise}
use Rattle.std.specs.Global.{Global}
use Rattle.std.specs.List.{list_all}
use Rattle.xrf_grammar.specs.Numbers.{value_behind}
use Rattle.xrf_setup.specs.declared.ranges.TheConstants.{CHOICES_MOST}
use Rattle.xrf.specs.declared.drive_words.Asked.{Asked}

-- decimal digits, without a leading zero except 0 itself
abbrev pub is_decimal : List ℕ → Bool
is_decimal text = nat_le 1 (length text) && list_all is_ascii_digit text && (not (slice_index text 0 == 48) || length text == 1)

-- the number that a text spells, at most a limit
abbrev pub number_to : ℕ → List ℕ → Option ℕ
number_to most text = if is_decimal text && nat_le (value_behind 0 text) most then Some (value_behind 0 text) else None

-- a seed and a number of turns, where both are there
abbrev pub asked_of : Option ℕ → Option ℕ → Option Asked
asked_of (Some seed) (Some turns) = Some (record { seed = seed; turns = turns })
asked_of _ _ = None

-- exactly `drive`, a seed of 64 bits, and at most 8,192 turns
abbrev pub drive_asked : List (String Global) → Option Asked
drive_asked (word ∷ seed ∷ turns ∷ []) =
    if pointwise nat_eq (string_bytes word) (codes "drive")
    then asked_of (number_to 18446744073709551615 (string_bytes seed)) (number_to CHOICES_MOST (string_bytes turns))
    else None
drive_asked _ = None
