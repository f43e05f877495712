-- The law of the owner: what is proved of every run of a scenario in its ranges.
use Rattle.std.specs.Prelude.{List, length, ◌≤◌}
use Rattle.xrf_setup.specs.declared.ranges.TheConstants.{CHOICES_MOST}
use Rattle.xrf_trace.specs.declared.entry.Entry.{Entry}
use Rattle.xrf_trace.specs.Runs.{IsRun}
use Rattle.xrf_trace.specs.Scenario.{IsScen, Scen}
use Rattle.xrf_trace.specs.Each.{AtSite, Each}
use Rattle.xrf_trace.specs.ItemsSeeBook.{TakesRestarted}

-- a fact of every run
abbrev pub OfRuns : (Scen → List Entry → Type 0) → Type 0
OfRuns fact = (s : Scen) (t : List Entry) → IsScen s → IsRun s t → length t ≤ CHOICES_MOST → fact s t

-- an item is taken only once its job is restarted
abbrev pub ItemsWait : Scen → List Entry → Type 0
ItemsWait s t = Each (λ t e. AtSite s t e.who (λ x h. TakesRestarted h e.act)) t
