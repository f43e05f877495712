-- Book at rest: wherever no unit is in flight the file is the book.
use Rattle.std.specs.Prelude.{List, [], ◌∷◌}
use Rattle.xrf_base.specs.declared.items.UnitId.{UnitId}
use Rattle.xrf_log.specs.Flight.{flight}
use Rattle.xrf_trace.specs.declared.entry.Entry.{Entry}
use Rattle.xrf_trace.specs.Scenario.{Scen}
use Rattle.xrf_trace.specs.Log.{log}
use Rattle.xrf_trace.specs.FileIsBook.{IsBook}
use Rattle.xrf_trace.specs.Each.{After}

-- a fact where no unit is in flight
abbrev pub AtRest : (flight : List UnitId) → Type 0 → Type 0
AtRest [] fact = fact
AtRest (_ ∷ _) fact = Unit {0}

abbrev pub BookAtRest : Scen → List Entry → Type 0
BookAtRest s t = After (λ t. AtRest (flight (log t)) (IsBook s t)) t
