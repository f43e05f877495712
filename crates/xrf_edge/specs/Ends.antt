-- an end, and what a whole read and a whole write do to the bytes that it tells
use Rattle.std.specs.Prelude.{◌≡◌, ◌-◌, ℕ, List, [], length, take, Option, Some, IfSome}
use Rattle.std.specs.Io.KnownBytes.{Appends, Consumes}

-- a source or a sink: its bytes where it tells them, left in a source or held in a sink; and how often it has failed
pub record End : Type 0 where
  pub bytes : Option (List ℕ)
  pub faults : ℕ

-- the bytes are all that was left, and none is left
abbrev pub ReadToEnd : Option (List ℕ) → Option (List ℕ) → List ℕ → Type 0
ReadToEnd old new bytes = IfSome old (λ xs. (bytes ≡ xs) × (new ≡ Some []))

-- a front part of what was left was taken
abbrev pub TakesPrefix : Option (List ℕ) → Option (List ℕ) → Type 0
TakesPrefix old new = (bytes : List ℕ) × Consumes old new bytes

-- how many bytes came
abbrev pub came : Option (List ℕ) → Option (List ℕ) → ℕ
came (Some old) (Some new) = length old - length new
came _ _ = 0

-- a front part of the text was appended
abbrev pub AppendsPrefix : Option (List ℕ) → Option (List ℕ) → List ℕ → Type 0
AppendsPrefix old new text = (n : ℕ) × Appends old new (take n text)
