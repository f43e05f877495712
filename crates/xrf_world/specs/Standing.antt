-- How a pair stands for a trace, and what a World is.
use Rattle.std.specs.Prelude.{◌≡◌, ◌≤◌, ◌<◌, List, length, reverse, vec_capacity}
use Rattle.xrf_base.specs.declared.site.Site.{Site}
use Rattle.xrf_base.specs.declared.site.Site.TheVariants as site
use Rattle.xrf_devices.specs.Standing.{StandsFor}
use Rattle.xrf_setup.specs.declared.ranges.TheConstants.{CHOICES_MOST}
use Rattle.xrf_trace.specs.declared.entry.Entry.{Entry}
use Rattle.xrf_trace.specs.Runs.{IsRun}
use Rattle.xrf_trace.specs.Scenario.{IsScen, Scen}
use Rattle.xrf_world.specs.declared.middle.Middle.{Middle}
use Rattle.xrf_world.specs.declared.pair.Pair.{Pair}
use Rattle.xrf_world.specs.declared.place.Place.{Place}
use Rattle.xrf_world.specs.Counts.{CountsAre}
use Rattle.xrf_world.specs.Places.{PlaceIs}
use Rattle.xrf_world.specs.Runs.{Run}

-- what both sites share: the data sets and what is counted are those of the trace, which the journal is, oldest first; the
-- journal has its memory
pub record MiddleIs (middle : Middle) (t : List Entry) : Type 0 where
  pub data_sets : StandsFor middle.data_sets middle.scenario t
  pub counts : CountsAre middle.counts middle.scenario t
  pub journal : reverse middle.journal.items ≡ t
  pub room : vec_capacity middle.journal ≡ CHOICES_MOST

-- it, and what is kept of one site
pub record StandsAt (m : Middle) (p : Place) (t : List Entry) (x : Site) : Type 0 where
  pub middle : MiddleIs m t
  pub place : PlaceIs p m.scenario t x

-- it, and what is kept of both sites
pub record Stands (pair : Pair) (t : List Entry) : Type 0 where
  pub middle : MiddleIs pair.middle t
  pub a : PlaceIs pair.a pair.middle.scenario t site.A
  pub b : PlaceIs pair.b pair.middle.scenario t site.B

-- a run of a scenario, which one choice more may be added to
pub record Goes (s : Scen) (t : List Entry) : Type 0 where
  pub scen : IsScen s
  pub run : IsRun s t
  pub few : length t < CHOICES_MOST

-- the run that a pair has in its journal
abbrev pub run_of : Pair → Run
run_of pair = record { scenario = pair.middle.scenario; trace = reverse pair.middle.journal.items }

-- a World: its pair stands for the trace in its journal, which is that of a run
pub record IsWorld (pair : Pair) : Type 0 where
  pub scen : IsScen pair.middle.scenario
  pub run : IsRun pair.middle.scenario (reverse pair.middle.journal.items)
  pub few : length pair.middle.journal.items ≤ CHOICES_MOST
  pub stands : Stands pair (reverse pair.middle.journal.items)
