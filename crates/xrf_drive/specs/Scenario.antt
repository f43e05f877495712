-- The scenario of the generated run: short intervals, a long log, and 100 units of work for each site.
use Rattle.std.specs.Prelude.{ℕ, zero, suc, ◌+◌, ◌*◌, ◌%◌, List, [], ◌∷◌, ◌++◌, Some, codes}
use Rattle.std.specs.Fmt.{decimal}
use Rattle.xrf_base.specs.declared.items.Item.{Item}
use Rattle.xrf_base.specs.declared.items.Item.TheVariants.{Begin, Put, Commit}
use Rattle.xrf_base.specs.declared.site.Site.{Site}
use Rattle.xrf_base.specs.declared.site.Site.TheVariants.{A, B}
use Rattle.xrf_base.specs.declared.site.Takeovr.TheVariants.{Auto}
use Rattle.xrf_grammar.specs.Spelling.{site_word}
use Rattle.xrf_grammar.specs.declared.quantity.Quantity.TheVariants.{Adi, Pdi, Log}
use Rattle.xrf_setup.specs.Scenario.{Scen}
use Rattle.xrf_setup.specs.declared.format.Format.TheVariants.{One}
use Rattle.xrf_setup.specs.declared.settings.Settings.{Settings}
use Rattle.xrf_scenario.specs.Settled.{settled}
use Rattle.xrf_scenario.specs.SoFar.{nothing_given, with_quantity}
use Rattle.xrf_drive.specs.declared.scenario.TheConstants.{UNITS}

-- TAKEOVR AUTO, ADI 5, PDI 5 and LOG 1024, and the defaults else
abbrev pub settings : Settings
settings = settled One (with_quantity (with_quantity (with_quantity (record nothing_given { takeovr = Some Auto }) Adi 5) Pdi 5) Log 1024)

-- the value that a unit of a site puts: a letter, the number of the unit, and the site
abbrev pub value : List ℕ → Site → ℕ → List ℕ
value letter x g = letter ++ decimal g ++ site_word x

-- the name of each unit
abbrev pub unit_name : List ℕ
unit_name = codes "U1"

-- the unit of a number of a site
abbrev pub unit : Site → ℕ → List Item
unit x g =
    Begin unit_name ∷ Put unit_name (1 + g % 16) (value (codes "V") x g) ∷ Put unit_name (1 + (7 * g + 3) % 16) (value (codes "W") x g)
    ∷ Commit unit_name ∷ []

-- the units of a site, in order, from number 0 on: so many
unfoldable pub units : Site → ℕ → List Item
units x zero = []
units x (suc g) = units x g ++ unit x g

-- the scenario: these settings, no first records, no command list and no plan, and 100 units for each site
abbrev pub generated : Scen
generated = record { settings = settings; records = []; clt = []; work_a = units A UNITS; work_b = units B UNITS; plan = [] }
