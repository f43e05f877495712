-- counts of faults, and which calls of an end in memory fail
use Rattle.std.specs.Prelude.{◌≡◌, ◌<◌, ◌+◌, ◌⊎◌, ℕ, List, min, Contains}

-- the last value of a count of faults
abbrev pub last_count : ℕ
last_count = 18446744073709551615

-- the count rose, or it stands at its last value
abbrev pub HasRisen : ℕ → ℕ → Type 0
HasRisen before now = (before < now) ⊎ (now ≡ last_count)

-- the count after one more fault
abbrev pub next_count : ℕ → ℕ
next_count n = min (n + 1) last_count

-- the number of the last call that is counted
abbrev pub last_call : ℕ
last_call = 4294967295

-- which calls fail, by their numbers from 1; how many calls were counted; how many faults
pub record Schedule : Type 0 where
  pub fails : List ℕ
  pub calls : ℕ
  pub faults : ℕ

-- the next call is counted, and its number is among those that fail
abbrev pub NextFails : Schedule → Type 0
NextFails p = (p.calls < last_call) × Contains p.fails (p.calls + 1)

-- after one more call
abbrev pub after_call : Schedule → Schedule
after_call p = record p { calls = min (p.calls + 1) last_call }

-- after one more fault
abbrev pub after_fault : Schedule → Schedule
after_fault p = record p { faults = next_count p.faults }
