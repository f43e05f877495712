-- the ends in memory
use Rattle.std.specs.Prelude.{◌≡◌, ◌≢◌, ◌⊎◌, ◌-◌, ◌++◌, ℕ, List, [], length, drop, min}
use Rattle.xrf_edge.specs.Faults.{Schedule, NextFails, after_call}

-- the schedule before the first call
abbrev pub new_schedule : List ℕ → Schedule
new_schedule fails = record { fails = fails; calls = 0; faults = 0 }

-- a source: the bytes left, the most that one call gives, and which calls fail
pub record Supply : Type 0 where
  pub left : List ℕ
  pub piece : ℕ
  pub schedule : Schedule

abbrev pub new_supply : List ℕ → ℕ → List ℕ → Supply
new_supply bytes piece fails = record { left = bytes; piece = piece; schedule = new_schedule fails }

-- how many bytes a call takes into a slice of this length
abbrev pub supply_count : Supply → ℕ → ℕ
supply_count s len = min s.piece (min len (length s.left))

-- after a call that took n bytes
abbrev pub after_read : Supply → ℕ → Supply
after_read s n = record s { left = drop n s.left; schedule = after_call s.schedule }

-- a sink: the bytes held, the most that it can hold, the most that one call takes, and which calls fail
pub record Store : Type 0 where
  pub held : List ℕ
  pub room : ℕ
  pub piece : ℕ
  pub schedule : Schedule

abbrev pub new_store : ℕ → ℕ → List ℕ → Store
new_store room piece fails = record { held = []; room = room; piece = piece; schedule = new_schedule fails }

-- a call fails where the schedule says so, or where bytes come to a full sink
abbrev pub WriteFails : Store → List ℕ → Type 0
WriteFails s from = NextFails s.schedule ⊎ ((length s.held ≡ s.room) × (from ≢ []))

-- how many bytes a call takes of a slice of this length
abbrev pub store_count : Store → ℕ → ℕ
store_count s len = min s.piece (min len (s.room - length s.held))

-- after a call that appended these bytes
abbrev pub after_write : Store → List ℕ → Store
after_write s bytes = record s { held = s.held ++ bytes; schedule = after_call s.schedule }
