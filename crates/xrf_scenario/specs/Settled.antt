-- The scenario of what is said.
use Rattle.std.specs.Prelude.{◌+◌, ◌==◌, ℕ, false, codes, if◌then◌else◌, List, [], ◌∷◌, Option, Some, None, unwrap_or}
use Rattle.xrf_base.specs.declared.site.Takeovr.TheVariants.{Manual}
use Rattle.xrf_ctl.specs.declared.parts.Level.{Level}
use Rattle.xrf_ctl.specs.declared.parts.Level.TheVariants as level
use Rattle.xrf_grammar.specs.declared.quantity.Quantity.TheVariants.{Adi, Pdi, Log, Ring, File, Pace, Ticks}
use Rattle.xrf_setup.specs.Scenario.{Scen}
use Rattle.xrf_setup.specs.declared.format.Format.{Format}
use Rattle.xrf_setup.specs.declared.format.Format.TheVariants.{One, Two}
use Rattle.xrf_setup.specs.declared.settings.Settings.{Settings}
use Rattle.xrf_scenario.specs.SoFar.{SoFar, quantity_or_default}
use Rattle.xrf_scenario.specs.declared.given.Given.{Given}

-- Both levels are 1 under XRF 1, and else 2 where no line gives them.
abbrev pub level_named : ℕ → Level
level_named number = if number == 1 then level.One else level.Two

abbrev pub level_of : Format → Option ℕ → Level
level_of One given = level.One
level_of Two given = level_named (unwrap_or given 2)

-- the settings at what is given, or at their defaults
abbrev pub settled : Format → Given → Settings
settled format given = record {
  format = format;
  applid_a = unwrap_or given.applid_a (codes "CICSA");
  applid_b = unwrap_or given.applid_b (codes "CICSB");
  takeovr = unwrap_or given.takeovr Manual;
  adi = quantity_or_default given Adi;
  pdi = quantity_or_default given Pdi;
  log = quantity_or_default given Log;
  ring = quantity_or_default given Ring;
  file = quantity_or_default given File;
  pace = quantity_or_default given Pace;
  ticks = quantity_or_default given Ticks;
  images = unwrap_or given.images false;
  level_a = level_of format given.level_a;
  level_b = level_of format given.level_b;
  force = unwrap_or given.force false;
}

-- the records of some places by number, from the number of the first place on
abbrev pub by_number : ℕ → List (Option (List ℕ)) → List (ℕ × List ℕ)
by_number number [] = []
by_number number (None ∷ places) = by_number (number + 1) places
by_number number (Some value ∷ places) = (number, value) ∷ by_number (number + 1) places

-- the scenario of what is said
abbrev pub scenario_of : SoFar → Scen
scenario_of so = record { settings = settled so.format so.given; records = by_number 1 so.records; clt = so.clt; work_a = so.work_a; work_b = so.work_b; plan = so.plan }
