-- Ranges of numbers.
use Rattle.std.specs.Prelude.{◌≤◌, ℕ}

-- from the least to the most, both among them
abbrev pub IsIn : ℕ → ℕ → ℕ → Type 0
IsIn least most n = (least ≤ n) × (n ≤ most)
