-- Numbers in records: unsigned, the highest byte first.
use Rattle.std.specs.Prelude.{◌≡◌, ℕ, ◌<◌, List, length, slice_index}
use Rattle.byteorder.specs.Endian.{big_number, big_bytes}

-- a list of bytes
abbrev pub AreBytes : List ℕ → Type 0
AreBytes bytes = (i : ℕ) → slice_index bytes i < 256

-- two byte lists of one length that spell the same number are equal
abbrev pub OneSpelling : Type 0
OneSpelling = (a b : List ℕ) → AreBytes a → AreBytes b → length a ≡ length b
    → big_number (length a) a ≡ big_number (length b) b → a ≡ b

-- the bytes of the number that a byte list spells are that list
abbrev pub SpelledAgain : Type 0
SpelledAgain = (a : List ℕ) → AreBytes a → big_bytes (length a) (big_number (length a) a) ≡ a
