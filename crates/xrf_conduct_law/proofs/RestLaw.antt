-- In every run the file is the book wherever no unit is in flight.
use Rattle.std.proofs.Common.{◌≡◌, ◌≤◌, List, [], ◌∷◌, length, refl, arith}
use Rattle.xrf_base.specs.declared.items.UnitId.{UnitId}
use Rattle.xrf_log.specs.Flight.{flight}
use Rattle.xrf_setup.specs.declared.ranges.TheConstants.{CHOICES_MOST}
use Rattle.xrf_trace.specs.declared.entry.Entry.{Entry}
use Rattle.xrf_trace.specs.Scenario.{Scen, IsScen}
use Rattle.xrf_trace.specs.Log.{log}
use Rattle.xrf_trace.specs.Runs.{IsRun}
use Rattle.xrf_trace.specs.Each.{Each, After}
use Rattle.xrf_trace.specs.FileIsBook.{IsBook}
use Rattle.xrf_trace.proofs.BookLaws.{as_one}
use Rattle.xrf_log_law.proofs.LogLaw.{data-sets-stand}
use Rattle.xrf_trace.specs.BookAtRest.{AtRest, BookAtRest}

-- a fact that holds where no unit is in flight
rest-by : (units : List UnitId) (fact : Type 0) → (units ≡ [] → fact) → AtRest units fact
rest-by [] fact holds = holds refl
rest-by (_ ∷ _) fact holds = tt

-- **the file is the book at rest, in every run**
pub book-at-rest : (s : Scen) (t : List Entry) → IsScen s → IsRun s t → length t ≤ CHOICES_MOST → BookAtRest s t
book-at-rest s [] scen is few = tt
book-at-rest s (e ∷ t) scen is few = (
  book-at-rest s t scen is.0 (omega arith),
  rest-by (flight (log (e ∷ t))) (IsBook s (e ∷ t)) (λ none. as_one s (e ∷ t) ((data-sets-stand s (e ∷ t) scen is few).book none)),
)
