-- What a scenario is: settings, first records, the command list, the work of both sites, and the plan.
use Rattle.std.specs.Prelude.{◌≡◌, ◌≤◌, ◌+◌, ℕ, true, List, [], ◌∷◌, length}
use Rattle.std.specs.List.{AllByRecursion}
use Rattle.xrf_base.specs.Values.{IsValue}
use Rattle.xrf_base.specs.declared.items.Item.{Item}
use Rattle.xrf_base.specs.declared.limits.Limits.{Limits}
use Rattle.xrf_base.specs.declared.site.Site.{Site}
use Rattle.xrf_base.specs.declared.site.Site.TheVariants.{A, B}
use Rattle.xrf_clt.specs.Kept.{Kept}
use Rattle.xrf_setup.specs.Choices.{HasLine, is_planned}
use Rattle.xrf_setup.specs.Commands.{IsKept}
use Rattle.xrf_setup.specs.Items.{IsItemOf}
use Rattle.xrf_setup.specs.Ranges.{IsIn}
use Rattle.xrf_setup.specs.Settings.{AreSettings}
use Rattle.xrf_setup.specs.declared.choice.Choice.{Choice}
use Rattle.xrf_setup.specs.declared.settings.Settings.{Settings}
use Rattle.xrf_setup.specs.declared.ranges.TheConstants.{FILE_LEAST, TICKS_MOST, CLT_MOST, ITEMS_MOST, PLAN_MOST}

pub record Scen : Type 0 where
  pub settings : Settings
  -- numbers and values, by number
  pub records : List (ℕ × List ℕ)
  pub clt : List Kept
  pub work_a : List Item
  pub work_b : List Item
  -- ticks and choices
  pub plan : List (ℕ × Choice)

abbrev pub work : Scen → Site → List Item
work s A = s.work_a
work s B = s.work_b

-- the sizes of the data sets
abbrev pub limits : Scen → Limits
limits s = record { log = s.settings.log; ring = s.settings.ring; file = s.settings.file }

-- records by number, each number once, from one number to another
abbrev pub AreRecords : ℕ → ℕ → List (ℕ × List ℕ) → Type 0
AreRecords least most [] = Unit {0}
AreRecords least most (r ∷ rs) = IsIn least most r.0 × IsValue r.1 × AreRecords (r.0 + 1) most rs

-- planned choices whose ticks do not fall
abbrev pub ArePlanned : ℕ → List (ℕ × Choice) → Type 0
ArePlanned least [] = Unit {0}
ArePlanned least (p ∷ ps) = IsIn least TICKS_MOST p.0 × (is_planned p.1 ≡ true) × HasLine p.1 × ArePlanned p.0 ps

-- Settings within their ranges; record numbers at most FILE; the command list, the work and the plan
-- within theirs, and no more of them than there may be.
pub record IsScen (s : Scen) : Type 0 where
  pub settings : AreSettings s.settings
  pub records : AreRecords FILE_LEAST s.settings.file s.records
  pub clt : AllByRecursion IsKept s.clt
  pub clt_few : length s.clt ≤ CLT_MOST
  pub work_a : AllByRecursion (IsItemOf s.settings.format) s.work_a
  pub work_a_few : length s.work_a ≤ ITEMS_MOST
  pub work_b : AllByRecursion (IsItemOf s.settings.format) s.work_b
  pub work_b_few : length s.work_b ≤ ITEMS_MOST
  pub plan : ArePlanned 0 s.plan
  pub plan_few : length s.plan ≤ PLAN_MOST
