-- Reading a part of a list of bytes, and landing bytes in it.
use Rattle.std.specs.Prelude.{ℕ, ◌+◌, List, ◌++◌, length, take, drop}

-- `len` bytes from `at` on
abbrev pub part : List ℕ → ℕ → ℕ → List ℕ
part bytes at len = take len (drop at bytes)

-- the bytes `from` at `at`, and every other byte as it was
abbrev pub landed : List ℕ → ℕ → List ℕ → List ℕ
landed bytes at from = take at bytes ++ from ++ drop (at + length from) bytes
