-- File is the book: at each RESTARTED the file is the book, and no unit is in flight.
use Rattle.std.specs.Prelude.{◌≡◌, ℕ, ◌≤◌, Bool, true, false, List, [], map}
use Rattle.std.specs.List.{range_with_len}
use Rattle.xrf_base.specs.Values.{slot_of}
use Rattle.xrf_log.specs.Flight.{flight}
use Rattle.xrf_trace.specs.declared.entry.Entry.{Entry}
use Rattle.xrf_trace.specs.declared.entry.Act.{Act}
use Rattle.xrf_trace.specs.declared.entry.Act.TheVariants as act
use Rattle.xrf_trace.specs.Scenario.{Scen}
use Rattle.xrf_trace.specs.Devices.{image}
use Rattle.xrf_trace.specs.Log.{log}
use Rattle.xrf_trace.specs.Book.{book}
use Rattle.xrf_trace.specs.Each.{Each, Where}

abbrev pub is_restart : Act → Bool
is_restart act.Restarted = true
is_restart _ = false

-- the record numbers, 1 to FILE
abbrev pub numbers : Scen → List ℕ
numbers s = range_with_len 1 s.settings.file

-- the slot of each record of the file is the slot of the book
abbrev pub IsBook : Scen → List Entry → Type 0
IsBook s t = map (image s t) (numbers s) ≡ map (λ k. slot_of (book s t k)) (numbers s)

-- the same, said of a record
abbrev pub IsBookAt : Scen → List Entry → Type 0
IsBookAt s t = (k : ℕ) → 1 ≤ k → k ≤ s.settings.file → image s t k ≡ slot_of (book s t k)

abbrev pub RestartsAtBook : Scen → List Entry → Entry → Type 0
RestartsAtBook s t e = Where (is_restart e.act) (IsBook s t × (flight (log t) ≡ []))

abbrev pub FileIsBook : Scen → List Entry → Type 0
FileIsBook s t = Each (RestartsAtBook s) t
