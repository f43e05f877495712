-- Bytes and numbers at a place of a record.
use Rattle.std.specs.Prelude.{ℕ, ◌+◌, List, ◌++◌, replicate, take, drop, length}
use Rattle.byteorder.specs.Endian.{big_number}

abbrev pub zeros : ℕ → List ℕ
zeros n = replicate n 0

-- the n bytes from a place on, and the number in them
abbrev pub part : List ℕ → ℕ → ℕ → List ℕ
part bytes place n = take n (drop place bytes)

abbrev pub number_at : List ℕ → ℕ → ℕ → ℕ
number_at bytes place n = big_number n (drop place bytes)

-- the bytes with a text at a place, and the rest as before
abbrev pub laid_at : List ℕ → ℕ → List ℕ → List ℕ
laid_at bytes place text = take place bytes ++ text ++ drop (place + length text) bytes
