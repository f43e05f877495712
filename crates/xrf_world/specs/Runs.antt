-- What a choice does to a World.
use Rattle.std.specs.Prelude.{◌≡◌, List, ◌∷◌, Result, Ok, Err}
use Rattle.xrf_setup.specs.declared.choice.Choice.{Choice}
use Rattle.xrf_trace.specs.declared.entry.Entry.{Entry}
use Rattle.xrf_trace.specs.declared.entry.Refused.{Refused}
use Rattle.xrf_trace.specs.Runs.{outcome}
use Rattle.xrf_trace.specs.Scenario.{Scen}

-- a scenario and what has happened in it
pub record Run : Type 0 where
  pub scenario : Scen
  pub trace : List Entry

-- the entry is added, or the choice is refused and nothing changes
abbrev pub Made : Run → Result Entry Refused → Result (Unit {0}) Refused → Run → Type 0
Made old (Ok e) result new = (result ≡ Ok tt) × (new ≡ record { scenario = old.scenario; trace = e ∷ old.trace })
Made old (Err reason) result new = (result ≡ Err reason) × (new ≡ old)

abbrev pub Applied : Run → Choice → Result (Unit {0}) Refused → Run → Type 0
Applied old c result new = Made old (outcome old.scenario old.trace c) result new
