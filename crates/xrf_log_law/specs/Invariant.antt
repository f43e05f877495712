-- The invariant of the law of the log, with what is known of the owner: all that is known of the trace of a run.
use Rattle.std.specs.Prelude.{List, length, ◌≤◌}
use Rattle.xrf_trace.specs.declared.entry.Entry.{Entry}
use Rattle.xrf_trace.specs.Scenario.{Scen}
use Rattle.xrf_trace.proofs.ScenarioLaws.{IsInRanges}
use Rattle.xrf_owner_law.specs.Known.{IsKnown, WritesAreKnown}
use Rattle.xrf_log_law.specs.Jobs.{Stands}
use Rattle.xrf_log_law.specs.Ranges.{InRanges}
use Rattle.xrf_log_law.specs.Serving.{SitesServe}
use Rattle.xrf_log_law.specs.Conditions.{ScansFit, KeysAreSmall}

pub record Invariant (s : Scen) (t : List Entry) : Type 0 where
  pub scen : IsInRanges s
  pub few : length t ≤ 8192
  pub known : IsKnown s t
  pub writes : WritesAreKnown s t
  pub stands : Stands s t
  pub serves : SitesServe s t
  pub ranges : InRanges s t
  pub scans : ScansFit s t
  pub keys : KeysAreSmall t
