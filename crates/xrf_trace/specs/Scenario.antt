-- Words on the scenario of a trace.
use Rattle.std.specs.Prelude.{ℕ, ◌-◌, ◌==◌, if◌then◌else◌, List, [], ◌∷◌, length, slice_get, Option, Some, None}
use Rattle.xrf_base.specs.declared.items.Item.{Item}
use Rattle.xrf_base.specs.declared.site.Site.{Site}
use Rattle.xrf_base.specs.declared.site.Site.TheVariants.{A, B}
use Rattle.xrf_clt.specs.Table.{texts_for}
use Rattle.xrf_setup.specs.Settings.{applid_of, level_at}
pub use Rattle.xrf_setup.specs.Scenario.{Scen, IsScen, work, limits}
use Rattle.xrf_history.specs.declared.settings.Settings.{Settings}

-- of two values, that of a site
abbrev pub of_site : {X : Type 0} → Site → X → X → X
of_site A a b = a
of_site B a b = b

abbrev pub other : Site → Site
other A = B
other B = A

-- the item of a number from 1
abbrev pub item_at : Scen → Site → ℕ → Option Item
item_at s x number = slice_get (work s x) (number - 1)

-- the settings that a job is started with
abbrev pub settings : Scen → Site → Settings
settings s x = record {
  site = x;
  limits = limits s;
  takeovr = s.settings.takeovr;
  adi = s.settings.adi;
  pdi = s.settings.pdi;
  clt_lines = length (texts_for (applid_of s.settings x) s.clt);
  level = level_at s.settings x;
  force = s.settings.force;
}

-- the value of a record of the scenario
abbrev pub value_in : List (ℕ × List ℕ) → ℕ → Option (List ℕ)
value_in [] k = None
value_in (r ∷ records) k = if r.0 == k then Some r.1 else value_in records k

abbrev pub first_value : Scen → ℕ → Option (List ℕ)
first_value s k = value_in s.records k
